-- The pieces of which code is made name only what is there, where their parts do.
use Rattle.std.proofs.Common.{◌≡◌, ℕ, suc, ◌<◌, ◌≤◌, Bool, true, false, List, [], ◌∷◌, ◌++◌, Option, Some, None, refl, ap, ◌∙◌, arith}
use Rattle.std.specs.Prelude.{◌&&◌, ◌^◌, nat_lt}
use Rattle.std.proofs.lemmas.Bool.{and_from, and_parts, lt-ltb, ltb-true}
use Rattle.clc_lexer.specs.declared.marks.Mark.{Mark}
use Rattle.q_lane.specs.declared.kinds.Scalar.{Scalar}
use Rattle.q_lane.specs.declared.kinds.Scalar.TheVariants.{Char, Uchar, Short, Ushort, Int, Uint}
use Rattle.q_lane.specs.declared.operations.BinOp.{BinOp}
use Rattle.q_lane.specs.declared.operations.BinOp.TheVariants.{Mul, Xor, Min, Equal}
use Rattle.q_lane.specs.declared.operations.UnOp.TheVariants.{Not, Neg, Narrow}
use Rattle.q_functions.specs.NumberFunctions.{bytes_of}
use Rattle.q_functions.specs.declared.functions.WorkFunction.{WorkFunction}
use Rattle.clc_types.specs.TypeArithmetic.{operator_of, works_in}
use Rattle.clc_types.specs.declared.typed.Ty.{Ty}
use Rattle.clc_types.specs.declared.typed.Ty.TheVariants as ty
use Rattle.clc_types.specs.declared.typed.Var.{Var}
use Rattle.clc_types.specs.declared.typed.Var.TheVariants as var
use Rattle.item_meaning.specs.Operators.{scalar_of, operator_in}
use Rattle.item_meaning.specs.NodeMeanings.{mark_of_step, Function, OfWork, OfNumbers}
use Rattle.item_meaning.specs.StatementMeanings.{var_at, type_of}
use Rattle.item_ir.specs.Valid.{Around, in_scope, in_loop, at_edge, Known, with_known, are_known}
use Rattle.item_ir.specs.declared.form.Val.{Val}
use Rattle.item_ir.specs.declared.form.Def.TheVariants as d
use Rattle.item_ir.specs.declared.form.Stmt.{Stmt}
use Rattle.item_ir.specs.declared.form.Stmt.TheVariants.{Let, Set, Store, SetElement, Clear, If, Loop, Scope, Leave}
use Rattle.ir_build.specs.declared.operators.Way.{Way}
use Rattle.ir_build.specs.declared.operators.Way.TheVariants.{Direct, Swapped, NotOf, NotSwapped, Nought}
use Rattle.ir_build.specs.declared.places.Target.{Target}
use Rattle.ir_build.specs.declared.places.Target.TheVariants.{Into, Cell, Behind, Nowhere}
use Rattle.ir_build.specs.declared.scopes.Back.{Back}
use Rattle.ir_build.specs.Code.{v, Code, PlaceCode, ArgsCode, Stmts, one, with_code, truth_code, not_code, zero_test, way_of, way_code, prefix_code, moved_code, move_of, combined_code, converted_code, into, behind, cell, get_code, put_stmts, put_code, read_code, assign_code, compound_code, assigned_code, valued_at, stepped_code, step_code, into_code, truth_choice, choice_code, truth_of_operand, and_code, or_code, conditional_code, operator_code, no_args, more_args, work_code, function_code, pass_code, scope_code, nothing, effect, both, cleared_code, init_code, if_code, loop_code, do_code, given_code, back_code}
use Rattle.clc_inline.specs.Named.{all_below}
use Rattle.ir_build.proofs.ByMarks.{prefix_by, assigned_by, operator_by}
use Rattle.ir_build.proofs.Known.{Low, known_in, known_append, Bounds, Fine, fine_nil, fine_append, fine_only, Good, is_place, GoodPlace, GoodArgs, FineStmts, place_more, good_none, good_one, good_with, good_after_place, fine_both, fine_if, fine_loop, fine_scope, known_more, low_more}

bytes_small : (s : Scalar) → nat_lt (bytes_of s) (2 ^ 32) ≡ true
bytes_small Char = refl
bytes_small Uchar = refl
bytes_small Short = refl
bytes_small Ushort = refl
bytes_small Int = refl
bytes_small Uint = refl

module _ (on : Bounds) where
  -- code that takes a known value, and code of a part, wherever it stands
  abbrev Takes : (ℕ → ℕ → Code) → Type 0
  Takes f = (r : Around) (known : Known) (x k : ℕ) → Low k known → known x ≡ true → Good on r known k (f x k)

  abbrev pub Makes : (ℕ → Code) → Type 0
  Makes f = (r : Around) (known : Known) (k : ℕ) → Low k known → Good on r known k (f k)

  abbrev pub Finds : (ℕ → PlaceCode) → Type 0
  Finds f = (r : Around) (known : Known) (k : ℕ) → Low k known → GoodPlace on r known k (f k)

  abbrev pub Lists : (ℕ → ArgsCode) → Type 0
  Lists f = (r : Around) (known : Known) (k : ℕ) → Low k known → GoodArgs on r known k (f k)

  abbrev pub Does : Around → (ℕ → Stmts) → Type 0
  Does r f = (known : Known) (k : ℕ) → Low k known → FineStmts on r known k (f k)

  -- ---- numbers

  pub good_const : (r : Around) (known : Known) (x k : ℕ) → Low k known → nat_lt x (2 ^ 32) ≡ true → Good on r known k (one k (d.Const x))
  good_const r known x k low h = good_one on r known k (d.Const x) low (λ q. h)

  good_truth : Takes truth_code
  good_truth r known x k low e =
      good_with on r known k (one k (d.Const 1)) (λ y l. one l (d.Bin (Min false) (v x) (v y))) (good_const r known 1 k low refl)
      (λ w lw kw ew. good_one on r w (suc k) (d.Bin (Min false) (v x) (v k)) lw (λ q. and_from (w x) (w k) (kw x e) ew))

  good_not : Takes not_code
  good_not r known x k low e =
      good_with on r known k (one k (d.Const 1)) (λ y l. one l (d.Bin Xor (v x) (v y))) (good_const r known 1 k low refl)
      (λ w lw kw ew. good_one on r w (suc k) (d.Bin Xor (v x) (v k)) lw (λ q. and_from (w x) (w k) (kw x e) ew))

  good_zero : Takes zero_test
  good_zero r known x k low e =
      good_with on r known k (one k (d.Const 0)) (λ y l. one l (d.Bin Equal (v x) (v y))) (good_const r known 0 k low refl)
      (λ w lw kw ew. good_one on r w (suc k) (d.Bin Equal (v x) (v k)) lw (λ q. and_from (w x) (w k) (kw x e) ew))

  good_binary : (op : BinOp) (r : Around) (known : Known) (x y k : ℕ) → Low k known → known x ≡ true → known y ≡ true → Good on r known k (one k (d.Bin op (v x) (v y)))
  good_binary op r known x y k low e g = good_one on r known k (d.Bin op (v x) (v y)) low (λ q. and_from (known x) (known y) e g)

  good_way : (a : Way) (r : Around) (known : Known) (x y k : ℕ) → Low k known → known x ≡ true → known y ≡ true → Good on r known k (way_code a x y k)
  good_way (Direct op) r known x y k low e g = good_binary op r known x y k low e g
  good_way (Swapped op) r known x y k low e g = good_binary op r known y x k low g e
  good_way (NotOf op) r known x y k low e g =
      good_with on r known k (one k (d.Bin op (v x) (v y))) not_code (good_binary op r known x y k low e g) (λ w lw kw ew. good_not r w k (suc k) lw ew)
  good_way (NotSwapped op) r known x y k low e g =
      good_with on r known k (one k (d.Bin op (v y) (v x))) not_code (good_binary op r known y x k low g e) (λ w lw kw ew. good_not r w k (suc k) lw ew)
  good_way Nought r known x y k low e g = good_const r known 0 k low refl

  pub good_prefix : (o : Mark) → Takes (prefix_code o)
  good_prefix o r known x k low e =
      prefix_by (Good on r known k) o x k (good_one on r known k (d.One Neg (v x)) low (λ q. e)) (good_one on r known k (d.One Not (v x)) low (λ q. e)) (good_zero r known x k low e) (good_none on r known x k low e)

  pub good_moved : (op : BinOp) (s : Scalar) (r : Around) (known : Known) (x y k : ℕ) → Low k known → known x ≡ true → known y ≡ true → Good on r known k (moved_code op (bytes_of s) x y k)
  good_moved op s r known x y k low e g =
      good_with on r known k (one k (d.Const (bytes_of s))) (λ z l. with_code (one l (d.Bin Mul (v z) (v y))) (λ u m. one m (d.Bin op (v x) (v u)))) (good_const r known (bytes_of s) k low (bytes_small s))
      (λ w lw kw ew. good_with on r w (suc k) (one (suc k) (d.Bin Mul (v k) (v y))) (λ u m. one m (d.Bin op (v x) (v u))) (good_binary Mul r w k y (suc k) lw ew (kw y g))
      (λ z lz kz ez. good_binary op r z x (suc k) (suc (suc k)) lz (kz x (kw x e)) ez))

  pub good_combined : (a : Ty) (o : Mark) (c : Ty) (r : Around) (known : Known) (x y k : ℕ) → Low k known → known x ≡ true → known y ≡ true → Good on r known k (combined_code a o c x y k)
  good_combined (ty.Value s) o (ty.Value t) r known x y k low e g = good_way (way_of (works_in (operator_of o) s t) o) r known x y k low e g
  good_combined (ty.Pointer s c) o (ty.Value t) r known x y k low e g = good_moved (move_of o) s r known x y k low e g
  good_combined (ty.Value t) o (ty.Pointer s c) r known x y k low e g = good_moved (move_of o) s r known y x k low g e
  good_combined (ty.Pointer s c) o (ty.Pointer t a) r known x y k low e g = good_none on r known x k low e
  good_combined (ty.Pointer s c) o ty.Void r known x y k low e g = good_none on r known x k low e
  good_combined (ty.Value s) o ty.Void r known x y k low e g = good_none on r known x k low e
  good_combined ty.Void o (ty.Value t) r known x y k low e g = good_none on r known x k low e
  good_combined ty.Void o (ty.Pointer t a) r known x y k low e g = good_none on r known x k low e
  good_combined ty.Void o ty.Void r known x y k low e g = good_none on r known x k low e

  pub good_converted : (t : Ty) → Takes (converted_code t)
  good_converted (ty.Value s) r known x k low e = good_one on r known k (d.One (Narrow s) (v x)) low (λ q. e)
  good_converted (ty.Pointer s c) r known x k low e = good_none on r known x k low e
  good_converted ty.Void r known x k low e = good_none on r known x k low e

  -- ---- places

  variable_there : (u : ℕ) → nat_lt u on.n ≡ true → nat_lt u on.vals ≡ true
  variable_there u h =
      let p = ltb-true u on.n h in
      let q = on.all in
      lt-ltb u on.vals (omega (arith, p, q))

  array_there : (u : ℕ) → nat_lt u on.n ≡ true → nat_lt u on.arrays ≡ true
  array_there u h =
      let p = ltb-true u on.n h in
      let q = on.cells in
      lt-ltb u on.arrays (omega (arith, p, q))

  good_get : (t : Ty) (to : Target) (r : Around) (known : Known) (k : ℕ) → Low k known → is_place on known to ≡ true → Good on r known k (get_code t to k)
  good_get t (Into u) r known k low h = good_one on r known k (d.Get u) low (λ q. variable_there u h)
  good_get t (Cell a i) r known k low h =
      let p = and_parts (nat_lt a on.n) (known i.0) h in
      good_one on r known k (d.Element a i) low (λ q. and_from (nat_lt a on.arrays) (known i.0) (array_there a p.0) p.1)
  good_get t (Behind p) r known k low h = good_one on r known k (d.Load (scalar_of t) p) low (λ q. h)
  good_get t Nowhere r known k low h = good_const r known 0 k low refl

  fine_put : (t : Ty) (to : Target) (r : Around) (known : Known) (x k : ℕ) → Low k known → known x ≡ true → is_place on known to ≡ true → Fine on r known k (put_stmts t to x) k
  fine_put t (Into u) r known x k low e h =
      fine_only on r known k k (Set u (v x)) (omega arith) low refl (λ q. and_from (nat_lt u on.vals) (known x) (variable_there u h) e)
  fine_put t (Cell a i) r known x k low e h =
      let p = and_parts (nat_lt a on.n) (known i.0) h in
      fine_only on r known k k (SetElement a i (v x)) (omega arith) low refl (λ q. and_from (nat_lt a on.arrays) (known i.0 && known x) (array_there a p.0) (and_from (known i.0) (known x) p.1 e))
  fine_put t (Behind p) r known x k low e h = fine_only on r known k k (Store (scalar_of t) p (v x)) (omega arith) low refl (λ q. and_from (known p.0) (known x) h e)
  fine_put t Nowhere r known x k low e h = fine_nil on r known k k (omega arith) low

  pub fine_stored : (r : Around) (known : Known) (u x k : ℕ) → nat_lt u on.n ≡ true → Low k known → known x ≡ true → Fine on r known k (Set u (v x) ∷ []) k
  fine_stored r known u x k h low e = fine_put ty.Void (Into u) r known x k low e h

  pub good_put : (t : Ty) (to : Target) (r : Around) (known : Known) (x k : ℕ) → Low k known → known x ≡ true → is_place on known to ≡ true → Good on r known k (put_code t to x k)
  good_put t to r known x k low e h =
      let c : Code = converted_code t x k in
      let w : Known = known_in known c.stmts in
      let g = good_converted t r known x k low e in
      let p = fine_put t to r w c.val c.next g.0.low g.1 (place_more on known w to g.0.kept h) in
      (fine_append on r known k c.next c.next c.stmts (put_stmts t to c.val) g.0 p, ap (λ (z : Known). z c.val) (known_append known c.stmts (put_stmts t to c.val)) ∙ p.kept c.val g.1)

  pub good_read : (t : Ty) (f : ℕ → PlaceCode) → Finds f → Makes (λ k. read_code t (f k))
  good_read t f h r known k low =
      good_after_place on r known k (f k) (get_code t) (h r known k low) (λ w lw kw ew. good_get t (f k).to r w (f k).next lw ew)

  pub finds_into : (u : ℕ) → nat_lt u on.n ≡ true → Finds (into u)
  finds_into u h r known k low = (fine_nil on r known k k (omega arith) low, h)

  pub finds_behind : (f : ℕ → Code) → Makes f → Finds (λ k. behind (f k))
  finds_behind f h r known k low = h r known k low

  pub finds_cell : (u : ℕ) (f : ℕ → Code) → nat_lt u on.n ≡ true → Makes f → Finds (λ k. cell u (f k))
  finds_cell u f h g r known k low =
      let p = g r known k low in
      (p.0, and_from (nat_lt u on.n) (known_in known (f k).stmts (f k).val) h p.1)

  pub finds_none : Finds (λ k. record { stmts = []; to = Nowhere; next = k })
  finds_none r known k low = (fine_nil on r known k k (omega arith) low, refl)

  -- the element of a pointer
  pub makes_moved : (op : BinOp) (s : Scalar) (f g : ℕ → Code) → Makes f → Makes g → Makes (λ k. with_code (f k) (λ x l. with_code (g l) (λ y m. moved_code op (bytes_of s) x y m)))
  makes_moved op s f g hf hg r known k low =
      good_with on r known k (f k) (λ x l. with_code (g l) (λ y m. moved_code op (bytes_of s) x y m)) (hf r known k low) (λ w lw kw ew.
      good_with on r w (f k).next (g (f k).next) (λ y m. moved_code op (bytes_of s) (f k).val y m) (hg r w (f k).next lw) (λ z lz kz ez.
      good_moved op s r z (f k).val (g (f k).next).val (g (f k).next).next lz (kz (f k).val ew) ez))

  -- ---- assignments

  good_valued : (post : Bool) (r : Around) (known : Known) (x k : ℕ) (c : Code) → known x ≡ true → Good on r known k c → Good on r known k (valued_at post x c)
  good_valued true r known x k c e g = (g.0, g.0.kept x e)
  good_valued false r known x k c e g = g

  good_stepped : (t : Ty) (up : Bool) → Takes (stepped_code t up)
  good_stepped t up r known x k low e =
      good_with on r known k (one k (d.Const 1)) (λ y l. combined_code t (mark_of_step up) (ty.Value Int) x y l) (good_const r known 1 k low refl)
      (λ w lw kw ew. good_combined t (mark_of_step up) (ty.Value Int) r w x k (suc k) lw (kw x e) ew)

  pub good_step : (t : Ty) (up post : Bool) (to : Target) (r : Around) (known : Known) (k : ℕ) → Low k known → is_place on known to ≡ true → Good on r known k (step_code t up post to k)
  good_step t up post to r known k low h =
      let o : Code = get_code t to k in
      let c : Code = stepped_code t up o.val o.next in
      good_with on r known k o (λ x l. valued_at post x (with_code (stepped_code t up x l) (put_code t to))) (good_get t to r known k low h) (λ w lw kw ew.
      good_valued post r w o.val o.next (with_code c (put_code t to)) ew
      (good_with on r w o.next c (put_code t to) (good_stepped t up r w o.val o.next lw ew) (λ z lz kz ez.
      good_put t to r z c.val c.next lz ez (place_more on w z to kz (place_more on known w to kw h)))))

  good_assign : (t : Ty) (f : ℕ → Code) → Makes f → (to : Target) (r : Around) (known : Known) (k : ℕ) → Low k known → is_place on known to ≡ true → Good on r known k (assign_code t f to k)
  good_assign t f g to r known k low h =
      good_with on r known k (f k) (put_code t to) (g r known k low) (λ w lw kw ew. good_put t to r w (f k).val (f k).next lw ew (place_more on known w to kw h))

  good_compound : (t : Ty) (o : Mark) (from : Ty) (f : ℕ → Code) → Makes f → (to : Target) (r : Around) (known : Known) (k : ℕ) → Low k known → is_place on known to ≡ true
      → Good on r known k (compound_code t o from f to k)
  good_compound t o from f g to r known k low h =
      let a : Code = get_code t to k in
      let c : Code = f a.next in
      let s : Code = combined_code t (operator_in o) from a.val c.val c.next in
      good_with on r known k a (λ x l. with_code (f l) (λ y m. with_code (combined_code t (operator_in o) from x y m) (put_code t to))) (good_get t to r known k low h) (λ w lw kw ew.
      good_with on r w a.next c (λ y m. with_code (combined_code t (operator_in o) from a.val y m) (put_code t to)) (g r w a.next lw) (λ z lz kz ez.
      good_with on r z c.next s (put_code t to) (good_combined t (operator_in o) from r z a.val c.val c.next lz (kz a.val ew) ez) (λ q lq kq eq.
      good_put t to r q s.val s.next lq eq (place_more on z q to kq (place_more on w z to kz (place_more on known w to kw h))))))

  pub good_assigned : (t : Ty) (o : Mark) (from : Ty) (f : ℕ → Code) → Makes f → (to : Target) (r : Around) (known : Known) (k : ℕ) → Low k known → is_place on known to ≡ true
      → Good on r known k (assigned_code t o from f to k)
  good_assigned t o from f g to r known k low h =
      assigned_by (Good on r known k) t o from f to k (good_assign t f g to r known k low h) (good_compound t o from f g to r known k low h)

  -- ---- choices

  fine_lower : (r : Around) (known : Known) (k l m : ℕ) (a : List Stmt) → k ≤ l → Fine on r known l a m → Fine on r known k a m
  fine_lower r known k l m a le f =
      let p = f.up in
      record { up = omega (arith, p, le); valid = f.valid; low = f.low; kept = f.kept }

  -- what stands in a variable u that is below the numbers from k on
  own_there : (u k m : ℕ) → u < k → k ≤ m → m ≤ on.vals → nat_lt u on.vals ≡ true
  own_there u k m lt le h = lt-ltb u on.vals (omega (arith, lt, le, h))

  fine_own : (r : Around) (known : Known) (u x k : ℕ) → Low k known → u < k → known x ≡ true → Fine on r known k (Set u (v x) ∷ []) k
  fine_own r known u x k low lt e =
      fine_only on r known k k (Set u (v x)) (omega arith) low refl (λ q. and_from (nat_lt u on.vals) (known x) (own_there u k k lt (omega arith) q) e)

  pub fine_into : (u : ℕ) (r : Around) (known : Known) (k : ℕ) (c : Code) → u < k → Good on r known k c → FineStmts on r known k (into_code u c)
  fine_into u r known k c lt g =
      let p = g.0.up in
      fine_append on r known k c.next c.next c.stmts (Set u (v c.val) ∷ []) g.0 (fine_own r (known_in known c.stmts) u c.val c.next g.0.low (omega (arith, lt, p)) g.1)

  good_held : (r : Around) (known : Known) (u k : ℕ) → Low k known → u < k → Good on r known k (one k (d.Get u))
  good_held r known u k low lt = good_one on r known k (d.Get u) low (λ q. own_there u k (suc k) lt (omega arith) q)

  good_choice : (r : Around) (known : Known) (x u l m : ℕ) (a c : List Stmt) → Low u known → known x ≡ true → Fine on r known (suc u) a l → Fine on r known l c m
      → Good on r known u (choice_code x u a c m)
  good_choice r known x u l m a c low e f g =
      let p = f.up in
      let q = g.up in
      let h = good_held r known u m (low_more u m known (omega (arith, p, q)) low) (omega (arith, p, q)) in
      (fine_append on r known u m (suc m) (If (v x) a c ∷ []) (Let (v m) (d.Get u) ∷ []) (fine_if on r known u l m (v x) a c low e (fine_lower r known u (suc u) l a (omega arith) f) g) h.0, h.1)

  good_truth_choice : (r : Around) (known : Known) (x u l m : ℕ) (a c : List Stmt) → Low u known → known x ≡ true → Fine on r known (suc u) a l → Fine on r known l c m
      → Good on r known u (truth_choice x u a c m)
  good_truth_choice r known x u l m a c low e f g =
      let p = f.up in
      let q = g.up in
      let more = low_more u (suc u) known (omega arith) low in
      let h = good_held r known u m (low_more u m known (omega (arith, p, q)) low) (omega (arith, p, q)) in
      let s : Fine on r known u (Set u (v x) ∷ []) (suc u) = fine_lower r known u (suc u) (suc u) (Set u (v x) ∷ []) (omega arith) (fine_own r known u x (suc u) more (omega arith) e) in (
        fine_append on r known u (suc u) (suc m) (Set u (v x) ∷ []) (If (v x) a c ∷ Let (v m) (d.Get u) ∷ []) s
            (fine_append on r known (suc u) m (suc m) (If (v x) a c ∷ []) (Let (v m) (d.Get u) ∷ []) (fine_if on r known (suc u) l m (v x) a c more e f g) h.0),
        h.1,
      )

  fine_truth : (r : Around) (known : Known) (u : ℕ) (f : ℕ → Code) → Makes f → Low (suc u) known → FineStmts on r known (suc u) (truth_of_operand u f)
  fine_truth r known u f g low =
      let c : Code = f (suc u) in
      fine_into u r known (suc u) (with_code c truth_code) (omega arith) (good_with on r known (suc u) c truth_code (g r known (suc u) low) (λ w lw kw ew. good_truth r w c.val c.next lw ew))

  good_and : (f : ℕ → Code) → Makes f → Takes (λ x k. and_code x k f)
  good_and f g r known x k low e =
      good_with on r known k (truth_code x k) (λ y u. truth_choice y u (truth_of_operand u f).stmts [] (truth_of_operand u f).next) (good_truth r known x k low e) (λ w lw kw ew.
      let u : ℕ = suc (suc k) in
      let s : Stmts = truth_of_operand u f in
      let p = fine_truth r w u f g (low_more u (suc u) w (omega arith) lw) in
      let q = p.up in
      good_truth_choice r w (suc k) u s.next s.next s.stmts [] lw ew p (fine_nil on r w s.next s.next (omega arith) (low_more u s.next w (omega (arith, q)) lw)))

  good_or : (f : ℕ → Code) → Makes f → Takes (λ x k. or_code x k f)
  good_or f g r known x k low e =
      good_with on r known k (truth_code x k) (λ y u. truth_choice y u [] (truth_of_operand u f).stmts (truth_of_operand u f).next) (good_truth r known x k low e) (λ w lw kw ew.
      let u : ℕ = suc (suc k) in
      let s : Stmts = truth_of_operand u f in
      let more = low_more u (suc u) w (omega arith) lw in
      good_truth_choice r w (suc k) u (suc u) s.next [] s.stmts lw ew (fine_nil on r w (suc u) (suc u) (omega arith) more) (fine_truth r w u f g more))

  pub good_operator : (a : Ty) (o : Mark) (c : Ty) (f : ℕ → Code) → Makes f → Takes (λ x k. operator_code a o c x k f)
  good_operator a o c f g r known x k low e =
      operator_by (Good on r known k) a o c x k f (good_and f g r known x k low e) (good_or f g r known x k low e) (g r known k low)
      (good_with on r known k (f k) (λ y l. combined_code a o c x y l) (g r known k low) (λ w lw kw ew. good_combined a o c r w x (f k).val (f k).next lw (kw x e) ew))

  pub makes_conditional : (f g h : ℕ → Code) → Makes f → Makes g → Makes h → Makes (λ k. conditional_code (f k) g h)
  makes_conditional f g h hf hg hh r known k low =
      let c : Code = f k in
      good_with on r known k c (λ x u. let a = into_code u (g (suc u)) in let e = into_code u (h a.next) in choice_code x u a.stmts e.stmts e.next) (hf r known k low) (λ w lw kw ew.
      let u : ℕ = c.next in
      let more = low_more u (suc u) w (omega arith) lw in
      let a : Stmts = into_code u (g (suc u)) in
      let p = fine_into u r w (suc u) (g (suc u)) (omega arith) (hg r w (suc u) more) in
      let q = p.up in
      let e : Stmts = into_code u (h a.next) in
      good_choice r w c.val u a.next e.next a.stmts e.stmts lw ew p
      (fine_into u r w a.next (h a.next) (omega (arith, q)) (hh r w a.next (low_more u a.next w (omega (arith, q)) lw))))

  -- ---- functions and scopes

  pub lists_none : Lists no_args
  lists_none r known k low = (fine_nil on r known k k (omega arith) low, refl)

  pub lists_more : (f : ℕ → Code) (g : ℕ → ArgsCode) → Makes f → Lists g → Lists (λ k. more_args (f k) g)
  lists_more f g hf hg r known k low =
      let a : Code = f k in
      let p = hf r known k low in
      let w : Known = known_in known a.stmts in
      let q = hg r w a.next p.0.low in
      let z : Known = known_in w (g a.next).stmts in (
        fine_append on r known k a.next (g a.next).next a.stmts (g a.next).stmts p.0 q.0,
        ap (λ (y : Known). are_known y (v a.val ∷ (g a.next).vals)) (known_append known a.stmts (g a.next).stmts) ∙ and_from (z a.val) (are_known z (g a.next).vals) (q.0.kept a.val p.1) q.1,
      )

  good_work : (which : WorkFunction) (r : Around) (known : Known) (xs : List Val) (k : ℕ) → Low k known → are_known known xs ≡ true → Good on r known k (work_code which xs k)
  good_work which r known [] k low h =
      good_with on r known k (one k (d.Const 0)) (λ x l. one l (d.Work which (v x))) (good_const r known 0 k low refl) (λ w lw kw ew. good_one on r w (suc k) (d.Work which (v k)) lw (λ q. ew))
  good_work which r known (x ∷ xs) k low h = good_one on r known k (d.Work which x) low (λ q. (and_parts (known x.0) (are_known known xs) h).0)

  pub good_function : (a : Function) (s : Scalar) (r : Around) (known : Known) (xs : List Val) (k : ℕ) → Low k known → are_known known xs ≡ true → Good on r known k (function_code a s xs k)
  good_function (OfWork which) s r known xs k low h = good_work which r known xs k low h
  good_function (OfNumbers which) s r known xs k low h = good_one on r known k (d.Built which s xs) low (λ q. h)

  fine_pass : (vars : List Var) (ps : List ℕ) (xs : List Val) (r : Around) (known : Known) (k : ℕ) → all_below on.n ps ≡ true → are_known known xs ≡ true → Low k known
      → FineStmts on r known k (pass_code vars ps xs k)
  fine_pass vars [] xs r known k h g low = fine_nil on r known k k (omega arith) low
  fine_pass vars (p ∷ ps) [] r known k h g low = fine_nil on r known k k (omega arith) low
  fine_pass vars (p ∷ ps) (x ∷ xs) r known k h g low =
      let t : Ty = type_of (var_at vars p) in
      let c : Code = put_code t (Into p) x.0 k in
      let a = and_parts (nat_lt p on.n) (all_below on.n ps) h in
      let e = and_parts (known x.0) (are_known known xs) g in
      let f = good_put t (Into p) r known x.0 k low e.0 a.0 in
      let w : Known = known_in known c.stmts in
      fine_append on r known k c.next (pass_code vars ps xs c.next).next c.stmts (pass_code vars ps xs c.next).stmts f.0
      (fine_pass vars ps xs r w c.next a.1 (known_more known w f.0.kept xs e.1) f.0.low)

  pub good_scope : (vars : List Var) (ps : List ℕ) (result : Option Scalar) (body : Back → ℕ → Stmts) → all_below on.n ps ≡ true
      → ((u : ℕ) (known : Known) (k : ℕ) → u < k → Low k known → FineStmts on in_scope known k (body (record { result = result; var = u }) k))
      → (r : Around) (known : Known) (xs : List Val) (k : ℕ) → Low k known → are_known known xs ≡ true → Good on r known k (scope_code vars ps result body xs k)
  good_scope vars ps result body h g r known xs k low e =
      let p : Stmts = pass_code vars ps xs k in
      let w : Known = known_in known p.stmts in
      let f = fine_pass vars ps xs r known k h e low in
      let m : ℕ = p.next in
      let u : ℕ = suc m in
      let z : Known = with_known m w in
      let zero' = good_const r w 0 m f.low refl in
      let more = low_more u (suc u) z (omega arith) zero'.0.low in
      let a : Stmts = body (record { result = result; var = u }) (suc u) in
      let inner = g u z (suc u) (omega arith) more in
      let q = inner.up in
      let last = good_held r z u a.next (low_more (suc u) a.next z q more) (omega (arith, q)) in
      let set : Fine on r z u (Set u (v m) ∷ []) (suc u) = fine_lower r z u (suc u) (suc u) (Set u (v m) ∷ []) (omega arith) (fine_own r z u m (suc u) more (omega arith) zero'.1) in
      let tail : List Stmt = Scope a.stmts ∷ Let (v a.next) (d.Get u) ∷ [] in
      let rest : Fine on r z (suc u) tail (suc a.next) = fine_append on r z (suc u) a.next (suc a.next) (Scope a.stmts ∷ []) (Let (v a.next) (d.Get u) ∷ []) (fine_scope on r z (suc u) a.next a.stmts more inner) last.0 in
      let whole : List Stmt = Let (v m) (d.Const 0) ∷ Set u (v m) ∷ tail in
      let t : Fine on r w m whole (suc a.next) = fine_append on r w m u (suc a.next) (Let (v m) (d.Const 0) ∷ []) (Set u (v m) ∷ tail) zero'.0 (fine_append on r z u (suc u) (suc a.next) (Set u (v m) ∷ []) tail set rest) in
      (fine_append on r known k m (suc a.next) p.stmts whole f t, ap (λ (y : Known). y a.next) (known_append known p.stmts whole) ∙ last.1)

  -- ---- statements

  pub does_nothing : (r : Around) → Does r nothing
  does_nothing r known k low = fine_nil on r known k k (omega arith) low

  pub does_effect : (r : Around) (f : ℕ → Code) → Makes f → Does r (λ k. effect (f k))
  does_effect r f g known k low = (g r known k low).0

  pub does_both : (r : Around) (f g : ℕ → Stmts) → Does r f → Does r g → Does r (λ k. both (f k) g)
  does_both r f g hf hg known k low = fine_both on r known k (f k) g (hf known k low) (λ w lw kw. hg w (f k).next lw)

  pub does_clear : (r : Around) (a : Var) (u : ℕ) → nat_lt u on.n ≡ true → Does r (cleared_code a u)
  does_clear r (var.Value s) u h known k low =
      let p = good_const r known 0 k low refl in
      fine_append on r known k (suc k) (suc k) (Let (v k) (d.Const 0) ∷ []) (Set u (v k) ∷ []) p.0 (fine_put (ty.Void) (Into u) r (with_known k known) k (suc k) p.0.low p.1 h)
  does_clear r (var.Pointer e c) u h known k low =
      let p = good_const r known 0 k low refl in
      fine_append on r known k (suc k) (suc k) (Let (v k) (d.Const 0) ∷ []) (Set u (v k) ∷ []) p.0 (fine_put (ty.Void) (Into u) r (with_known k known) k (suc k) p.0.low p.1 h)
  does_clear r (var.Array e l) u h known k low = fine_only on r known k k (Clear u) (omega arith) low refl (λ q. array_there u h)

  pub does_init : (r : Around) (t : Ty) (u : ℕ) (f : ℕ → Code) → nat_lt u on.n ≡ true → Makes f → Does r (init_code t u (Some f))
  does_init r t u f h g known k low =
      (good_with on r known k (f k) (put_code t (Into u)) (g r known k low) (λ w lw kw ew. good_put t (Into u) r w (f k).val (f k).next lw ew h)).0

  fine_leave : (r : Around) (known : Known) (k : ℕ) → r.scope ≡ true → Low k known → Fine on r known k (Leave ∷ []) k
  fine_leave r known k h low = fine_only on r known k k Leave (omega arith) low refl (λ q. h)

  fine_given : (r : Around) (known : Known) (result : Option Scalar) (u x k : ℕ) → u < k → Low k known → known x ≡ true → FineStmts on r known k (given_code result u x k)
  fine_given r known None u x k lt low e = fine_nil on r known k k (omega arith) low
  fine_given r known (Some s) u x k lt low e =
      let c : Code = converted_code (ty.Value s) x k in
      let p = good_converted (ty.Value s) r known x k low e in
      let q = p.0.up in
      fine_append on r known k c.next c.next c.stmts (Set u (v c.val) ∷ []) p.0 (fine_own r (known_in known c.stmts) u c.val c.next p.0.low (omega (arith, q, lt)) p.1)

  pub does_back : (r : Around) (back : Back) (f : ℕ → Code) → r.scope ≡ true → Makes f → (known : Known) (k : ℕ) → back.var < k → Low k known → FineStmts on r known k (back_code back (f k))
  does_back r back f h g known k lt low =
      let c : Code = f k in
      let p = g r known k low in
      let q = p.0.up in
      let w : Known = known_in known c.stmts in
      let a : Stmts = given_code back.result back.var c.val c.next in
      let s = fine_given r w back.result back.var c.val c.next (omega (arith, q, lt)) p.0.low p.1 in
      fine_append on r known k c.next a.next c.stmts (a.stmts ++ Leave ∷ []) p.0 (fine_append on r w c.next a.next a.next a.stmts (Leave ∷ []) s (fine_leave r (known_in w a.stmts) a.next h s.low))

  pub does_leave : (r : Around) → r.scope ≡ true → Does r (λ k. record { stmts = Leave ∷ []; next = k })
  does_leave r h known k low = fine_leave r known k h low

  -- statements that leave where the variable u is known to be below their numbers
  abbrev pub DoesFrom : Around → ℕ → (ℕ → Stmts) → Type 0
  DoesFrom r u f = (known : Known) (k : ℕ) → u < k → Low k known → FineStmts on r known k (f k)

  pub does_if : (r : Around) (u : ℕ) (f : ℕ → Code) (g h : ℕ → Stmts) → Makes f → DoesFrom r u g → DoesFrom r u h → DoesFrom r u (λ k. if_code (f k) g h)
  does_if r u f g h hf hg hh known k lt low =
      let c : Code = f k in
      let p = hf r known k low in
      let w : Known = known_in known c.stmts in
      let up = p.0.up in
      let a = hg w c.next (omega (arith, lt, up)) p.0.low in
      let q = a.up in
      let e = hh w (g c.next).next (omega (arith, lt, up, q)) (low_more c.next (g c.next).next w q p.0.low) in
      fine_append on r known k c.next (h (g c.next).next).next c.stmts (If (v c.val) (g c.next).stmts (h (g c.next).next).stmts ∷ []) p.0
      (fine_if on r w c.next (g c.next).next (h (g c.next).next).next (v c.val) (g c.next).stmts (h (g c.next).next).stmts p.0.low p.1 a e)

  pub does_loop : (r : Around) (u : ℕ) (f : ℕ → Code) (g h : ℕ → Stmts) → Makes f → DoesFrom (in_loop r) u g → Does at_edge h → DoesFrom r u (λ k. loop_code (f k) g h)
  does_loop r u f g h hf hg hh known k lt low =
      let c : Code = f k in
      let p = hf at_edge known k low in
      let w : Known = known_in known c.stmts in
      let up = p.0.up in
      let a = hg w c.next (omega (arith, lt, up)) p.0.low in
      let q = a.up in
      let m : ℕ = (g c.next).next in
      let e = hh w m (low_more c.next m w q p.0.low) in
      fine_loop on r known k c.next m (h m).next (v c.val) c.stmts (g c.next).stmts (h m).stmts low p.0 p.1 a e

  pub does_do : (r : Around) (u : ℕ) (g : ℕ → Stmts) (f : ℕ → Code) → DoesFrom (in_loop r) u g → Makes f → DoesFrom r u (do_code g f)
  does_do r u g f hg hf known k lt low =
      let one' = good_const r known 1 k low refl in
      let z : Known = with_known k known in
      let s : ℕ = suc k in
      let h : ℕ = suc s in
      let more = low_more s h z (omega arith) one'.0.low in
      let set : Fine on r z s (Set s (v k) ∷ []) h = fine_lower r z s h h (Set s (v k) ∷ []) (omega arith) (fine_own r z s k h more (omega arith) one'.1) in
      let test = good_held at_edge z s h more (omega arith) in
      let w : Known = with_known h z in
      let a : Stmts = g (suc h) in
      let p = hg w (suc h) (omega (arith, lt)) test.0.low in
      let q = p.up in
      let c : Code = f a.next in
      let e = fine_into s at_edge w a.next c (omega (arith, q)) (hf at_edge w a.next (low_more (suc h) a.next w q test.0.low)) in
      let turns : List Stmt = Loop (Let (v h) (d.Get s) ∷ []) (v h) a.stmts (into_code s c).stmts ∷ [] in
      let t : Fine on r z h turns c.next = fine_loop on r z h (suc h) a.next c.next (v h) (Let (v h) (d.Get s) ∷ []) a.stmts (into_code s c).stmts more test.0 test.1 p e in
      fine_append on r known k s c.next (Let (v k) (d.Const 1) ∷ []) (Set s (v k) ∷ turns) one'.0 (fine_append on r z s h c.next (Set s (v k) ∷ []) turns set t)
