-- The code of each form of expression does what the form does, where the code of its parts does what they do.
use Rattle.std.proofs.Common.{◌≡◌, ℕ, zero, suc, ◌<◌, ◌≤◌, ◌≢◌, Bool, true, false, List, [], ◌∷◌, ◌++◌, length, refl, sym, ap, ◌∙◌, subst, arith}
use Rattle.std.specs.Prelude.{not, ◌==◌}
use Rattle.clc_lexer.specs.declared.marks.Mark.{Mark}
use Rattle.q_lane.specs.declared.kinds.Scalar.{Scalar}
use Rattle.q_lane.specs.Numbers.{flag}
use Rattle.clc_types.specs.declared.typed.Ty.{Ty}
use Rattle.clc_types.specs.declared.typed.Ty.TheVariants as ty
use Rattle.item_meaning.specs.declared.values.Value.{Value}
use Rattle.item_meaning.specs.declared.values.Value.TheVariants.{Num, Null, At}
use Rattle.item_meaning.specs.ItemState.{State, Run, Goes, Bounds, Spent, then_do, by_truth}
use Rattle.item_meaning.specs.Operators.{forward, truth, combined, operator_in}
use Rattle.item_meaning.specs.declared.values.Place.{Place}
use Rattle.item_meaning.specs.declared.values.Place.TheVariants.{Cell, Behind}
use Rattle.item_meaning.specs.Places.{read, write}
use Rattle.item_meaning.specs.NodeMeanings.{Part, mark_of_step, stepped, first_if}
use Rattle.item_ir.specs.IrMeaning.{State as Item, Run as Ran, Ends, Next, and_then, at_zero, with_val, with_var, run_all}
use Rattle.item_ir.specs.declared.form.Def.TheVariants as df
use Rattle.item_ir.specs.declared.form.Stmt.{Stmt}
use Rattle.item_ir.specs.declared.form.Stmt.TheVariants.{Let, Set, If}
use Rattle.ir_build.specs.Code.{v, Code, joined, with_code, truth_code, combined_code, moved_code, PlaceCode, get_code, put_code, read_code, after_place, behind, cell, assign_code, compound_code, stepped_code, step_code, valued_at, into_var, and_code, or_code, conditional_code}
use Rattle.build_law.specs.Keeps.{Ground, Laid, Same, Related, Kept, Follows}
use Rattle.build_law.proofs.Lists.{run-If}
use Rattle.build_law.proofs.Steps.{with_at-same, with_at-other, bind, weaker, run-append, with_val-related, same_along, own_related, Kept-refl, Kept-trans, Kept-val, Kept-var}
use Rattle.build_law.proofs.Ups.{Target}
use Rattle.build_law.proofs.Values.{Valued, IsBuilt, join_built, join_one, still, truth_built, combined_built, forward_built, not_zero}
use Rattle.build_law.proofs.Targets.{SamePlace, Placed, place_kept, get_built, put_built}

-- a value stands in variable r
pub record Held (g : Ground) (r : ℕ) (old : Item) (x : Value) (s : State) (n : Item) : Type 0 where
  pub same : Same g.base x (n.vars r)
  pub kept : Kept g r old n

module _ (g : Ground) (lay : Laid g) where
  -- code that finds a place
  abbrev pub IsPlaced : ℕ → Run Place → PlaceCode → ℕ → Item → Type 0
  IsPlaced d r c k n = Follows g d (λ _. Next) r (Placed g k c n) (run_all g.world c.stmts n)

  -- an expression's code, wherever it stands
  abbrev pub Builds : ℕ → Part Value → (ℕ → Code) → Type 0
  Builds d value f = (l : ℕ) → length g.vars ≤ l → (t : State) (o : Item) → Related g d t o → IsBuilt g d (value t) (f l) l o

  pub place_then : (d e : ℕ) (r : Run Place) (go : Place → State → Run Value) (p : PlaceCode) (f : Target → ℕ → Code) (k : ℕ) (n : Item) → IsPlaced d r p k n
      → ((q : Place) (t : State) (o : Item) → Related g d t o → SamePlace g q p.to p.next o → k ≤ p.next → IsBuilt g e (go q t) (f p.to p.next) p.next o) → IsBuilt g e (then_do r go) (after_place p f) k n
  place_then d e r go p f k n h i =
      let c = f p.to p.next in
      bind g d e (λ _. Next) r go p.stmts c.stmts n (Placed g k p n) (Valued g k (after_place p f) n) h
      (λ q t o ht w. weaker g e e (λ _. Next) (go q t) (run_all g.world c.stmts o) (Valued g p.next c o) (Valued g k (after_place p f) n) (omega arith)
      (λ y u a z. record { same = z.same; kept = Kept-trans g k p.next n o a w.up w.kept z.kept; own = z.own; up = let x = w.up in let y = z.up in omega (arith, x, y) })
      (i q t o ht w.same w.up))

  pub read_built : (d : ℕ) (t : Ty) (r : Run Place) (p : PlaceCode) (k : ℕ) (n : Item) → IsPlaced d r p k n → IsBuilt g d (then_do r (read t)) (read_code t p) k n
  read_built d t r p k n h = place_then d d r (read t) p (get_code t) k n h (λ q u o hu w le. get_built g lay d t q p.to p.next u o hu w)

  pub behind_built : (d at : ℕ) (r : Run Value) (c : Code) (k : ℕ) (n : Item) → IsBuilt g d r c k n → IsPlaced d (then_do r (λ q u. Goes (Behind at q) u)) (behind c) k n
  behind_built d at (Goes x t) c k n f = (f.0, f.1, f.2, record { same = (c.val, refl, f.3.same, f.3.own); kept = f.3.kept; up = f.3.up })
  behind_built d at (Bounds p) c k n f = tt
  behind_built d at Spent c k n f = tt

  pub cell_built : (d at u : ℕ) (r : Run Value) (c : Code) (k : ℕ) (n : Item) → IsBuilt g d r c k n
      → IsPlaced d (then_do r (λ i t. Goes (Cell at u i) t)) (cell u c) k n
  cell_built d at u (Goes x t) c k n f = (f.0, f.1, f.2, record { same = (c.val, refl, f.3.same, f.3.own); kept = f.3.kept; up = f.3.up })
  cell_built d at u (Bounds p) c k n f = tt
  cell_built d at u Spent c k n f = tt

  regroup : {A B : Type 0} (r : Run Value) (f : Value → State → Run A) (h : A → State → Run B) → then_do (then_do r f) h ≡ then_do r (λ x t. then_do (f x t) h)
  regroup (Goes x t) f h = refl
  regroup (Bounds p) f h = refl
  regroup Spent f h = refl

  -- a pointer to an element, from a base and an index
  pub index_built : (d at size : ℕ) (base index : Part Value) (a : Code) (f : ℕ → Code) (k : ℕ) (s : State) (n : Item) → length g.vars ≤ k → IsBuilt g d (base s) a k n → Builds d index f
      → IsPlaced d (then_do (base s) (λ p u. then_do (index u) (λ x w. Goes (Behind at (forward size p x)) w))) (behind (with_code a (λ x l. with_code (f l) (λ y o. moved_code Rattle.q_lane.specs.declared.operations.BinOp.TheVariants.Add size x y o)))) k n
  index_built d at size base index a f k s n lo h i =
      let c = f a.next in
      let go = λ (p : Value) (u : State). then_do (index u) (λ x w. Goes (forward size p x) w) in
      let code = joined a (joined c (moved_code Rattle.q_lane.specs.declared.operations.BinOp.TheVariants.Add size a.val c.val c.next)) in
      let pointer : IsBuilt g d (then_do (base s) go) code k n =
      join_built g d d (base s) go a (joined c (moved_code Rattle.q_lane.specs.declared.operations.BinOp.TheVariants.Add size a.val c.val c.next)) k n h
      (λ p t o ht w. join_built g d d (index t) (λ x w. Goes (forward size p x) w) c (moved_code Rattle.q_lane.specs.declared.operations.BinOp.TheVariants.Add size a.val c.val c.next) a.next o (i a.next (let z = w.up in omega (arith, z, lo)) t o ht)
      (λ x u q hu z. forward_built g d size a.val c.val c.next p x u q hu (still g a.next a.val p o q z.kept w.own w.same) z.same (let b = w.own in let y = z.up in omega (arith, b, y)) z.own)) in
      subst (λ r. IsPlaced d r (behind code) k n)
      (regroup (base s) go (λ q u. Goes (Behind at q) u) ∙ (λ j. then_do (base s) (λ p u. regroup (index u) (λ x w. Goes (forward size p x) w) (λ q u. Goes (Behind at q) u) j)))
      (behind_built d at (then_do (base s) go) code k n pointer)

  -- ---- assignments

  pub assign_built : (d : ℕ) (t : Ty) (r : Run Place) (value : Part Value) (p : PlaceCode) (f : ℕ → Code) (k : ℕ) (n : Item) → length g.vars ≤ k → IsPlaced d r p k n → Builds d value f
      → IsBuilt g d (then_do r (λ q w. then_do (value w) (λ x y. write t q x y))) (after_place p (assign_code t f)) k n
  assign_built d t r value p f k n lo h i =
      place_then d d r (λ q w. then_do (value w) (λ x y. write t q x y)) p (assign_code t f) k n h
      (λ q u o hu w le. let c = f p.next in
      join_built g d d (value u) (λ x y. write t q x y) c (put_code t p.to c.val c.next) p.next o (i p.next (omega (arith, lo, le)) u o hu)
      (λ x y a ha z. put_built g lay d t q p.to c.val c.next x y a ha (place_kept g q p.to p.next c.next o a z.up z.kept w) z.same z.own))

  pub compound_built : (d : ℕ) (t : Ty) (op : Mark) (from : Ty) (r : Run Place) (value : Part Value) (p : PlaceCode) (f : ℕ → Code) (k : ℕ) (n : Item) → length g.vars ≤ k → IsPlaced d r p k n → Builds d value f
      → IsBuilt g d (then_do r (λ q w. then_do (read t q w) (λ old y. then_do (value y) (λ x z. write t q (combined t (operator_in op) from old x) z)))) (after_place p (compound_code t op from f)) k n
  compound_built d t op from r value p f k n lo h i =
      place_then d d r (λ q w. then_do (read t q w) (λ old y. then_do (value y) (λ x z. write t q (combined t (operator_in op) from old x) z))) p
      (compound_code t op from f) k n h
      (λ q u o hu w le.
      let c = get_code t p.to p.next in
      let e = f c.next in
      let b = combined_code t (operator_in op) from c.val e.val e.next in
      join_built g d d (read t q u) (λ old y. then_do (value y) (λ x z. write t q (combined t (operator_in op) from old x) z)) c (joined e (joined b (put_code t p.to b.val b.next))) p.next o (get_built g lay d t q p.to p.next u o hu w)
      (λ old y a ha z. join_built g d d (value y) (λ x z. write t q (combined t (operator_in op) from old x) z) e (joined b (put_code t p.to b.val b.next)) c.next a (i c.next (let j = z.up in omega (arith, lo, le, j)) y a ha)
      (λ x y2 a2 ha2 z2. join_built g d d (Goes (combined t (operator_in op) from old x) y2) (λ x z. write t q x z) b (put_code t p.to b.val b.next) e.next a2
      (combined_built g d t (operator_in op) from c.val e.val e.next old x y2 a2 ha2 (still g c.next c.val old a a2 z2.kept z.own z.same) z2.same (let j = z.own in let l = z2.up in omega (arith, j, l)) z2.own)
      (λ x3 y3 a3 ha3 z3. put_built g lay d t q p.to b.val b.next x3 y3 a3 ha3
      (place_kept g q p.to e.next b.next a2 a3 z3.up z3.kept (place_kept g q p.to c.next e.next a a2 z2.up z2.kept (place_kept g q p.to p.next c.next o a z.up z.kept w))) z3.same z3.own))))

  stepped_built : (d : ℕ) (t : Ty) (up : Bool) (i k : ℕ) (x : Value) (s : State) (n : Item) → Related g d s n → Same g.base x (n.vals i) → i < k → IsBuilt g d (Goes (stepped t up x) s) (stepped_code t up i k) k n
  stepped_built d t up i k x s n h p lt =
      let int = ty.Value Rattle.q_lane.specs.declared.kinds.Scalar.TheVariants.Int in
      join_one g d k 1 (df.Const 1) (Goes (stepped t up x) s) (combined_code t (mark_of_step up) int i k (suc k)) n refl
      (combined_built g d t (mark_of_step up) int i k (suc k) x (Num 1) s (with_val k 1 n) (with_val-related g d k 1 s n h)
      (let ne : i ≢ k = omega (arith, lt) in same_along g x _ _ (with_at-other n.vals k 1 i ne) p) (with_at-same n.vals k 1) (omega (arith, lt)) (omega arith))

  valued_built : (d : ℕ) (post : Bool) (x : Value) (i : ℕ) (r : Run Value) (c : Code) (k : ℕ) (n : Item) → IsBuilt g d r c k n → Same g.base x (n.vals i) → i < k
      → IsBuilt g d (then_do r (λ z u. Goes (first_if post x z) u)) (valued_at post i c) k n
  valued_built d true x i (Goes z u) c k n f p lt =
      (f.0, f.1, f.2, record { same = still g k i x n f.0 f.3.kept lt p; kept = f.3.kept; own = let j = f.3.up in omega (arith, lt, j); up = f.3.up })
  valued_built d false x i (Goes z u) c k n f p lt = f
  valued_built d true x i (Bounds at) c k n f p lt = tt
  valued_built d false x i (Bounds at) c k n f p lt = tt
  valued_built d true x i Spent c k n f p lt = tt
  valued_built d false x i Spent c k n f p lt = tt

  pub step_built : (d : ℕ) (t : Ty) (up post : Bool) (r : Run Place) (p : PlaceCode) (k : ℕ) (n : Item) → IsPlaced d r p k n
      → IsBuilt g d (then_do r (λ q w. then_do (read t q w) (λ x y. then_do (write t q (stepped t up x) y) (λ z u. Goes (first_if post x z) u)))) (after_place p (step_code t up post)) k n
  step_built d t up post r p k n h =
      place_then d d r (λ q w. then_do (read t q w) (λ x y. then_do (write t q (stepped t up x) y) (λ z u. Goes (first_if post x z) u))) p
      (step_code t up post) k n h
      (λ q u o hu w le.
      let c = get_code t p.to p.next in
      let e = stepped_code t up c.val c.next in
      join_built g d d (read t q u) (λ x y. then_do (write t q (stepped t up x) y) (λ z u. Goes (first_if post x z) u)) c (valued_at post c.val (joined e (put_code t p.to e.val e.next))) p.next o (get_built g lay d t q p.to p.next u o hu w)
      (λ x y a ha z. valued_built d post x c.val (write t q (stepped t up x) y) (joined e (put_code t p.to e.val e.next)) c.next a
      (join_built g d d (Goes (stepped t up x) y) (λ x z. write t q x z) e (put_code t p.to e.val e.next) c.next a (stepped_built d t up c.val c.next x y a ha z.same z.own)
      (λ x2 y2 a2 ha2 z2. put_built g lay d t q p.to e.val e.next x2 y2 a2 ha2 (place_kept g q p.to c.next e.next a a2 z2.up z2.kept (place_kept g q p.to p.next c.next o a z.up z.kept w)) z2.same z2.own)) z.same z.own))

  -- ---- choices

  -- code, and its value into r
  pub into_built : (d : ℕ) (P : Run Value) (c : Code) (r : ℕ) (n : Item) → length g.vars ≤ r → IsBuilt g d P c (suc r) n → Follows g d (λ _. Next) P (Held g r n) (run_all g.world (into_var r c) n)
  into_built d (Goes x t) c r n lo f =
      let o = f.0 in (
        with_var r (o.vals c.val) o,
        run-append g.world c.stmts (Set r (v c.val) ∷ []) n ∙ ap (λ z. and_then z (run_all g.world (Set r (v c.val) ∷ []))) f.1,
        own_related g d r (o.vals c.val) t o lo f.2,
        record {
          same = same_along g x _ _ (with_at-same o.vars r (o.vals c.val)) f.3.same;
          kept = record {
            vals = λ j l. f.3.kept.vals j (omega (arith, l));
            vars = λ j b l. let ne : j ≢ r = omega (arith, l) in with_at-other o.vars r (o.vals c.val) j ne ∙ f.3.kept.vars j b (omega (arith, l));
          };
        },
      )
  into_built d (Bounds at) c r n lo f = tt
  into_built d Spent c r n lo f = tt

  -- the value of r
  got_built : (d r j : ℕ) (P : Run Value) (x : Ran) (n : Item) → r ≤ j → Follows g d (λ _. Next) P (Held g r n) x
      → Follows g d (λ _. Next) P (λ y s o. Same g.base y (o.vals j) × Kept g r n o) (and_then x (run_all g.world (Let (v j) (df.Get r) ∷ [])))
  got_built d r j (Goes y t) x n le f =
      let o = f.0 in (
        with_val j (o.vars r) o,
        ap (λ z. and_then z (run_all g.world (Let (v j) (df.Get r) ∷ []))) f.1,
        with_val-related g d j (o.vars r) t o f.2,
        (same_along g y _ _ (with_at-same o.vals j (o.vars r)) f.3.same, Kept-trans g r r n o _ (omega arith) f.3.kept (Kept-val g r j (o.vars r) o le)),
      )
  got_built d r j (Bounds at) x n le f = tt
  got_built d r j Spent x n le f = tt

  abbrev Chosen : ℕ → ℕ → ℕ → Run Value → Item → Ran → Type 0
  Chosen d r j P n x = Follows g d (λ _. Next) P (λ y s o. Same g.base y (o.vals j) × Kept g r n o) x

  take_one : (d r j c b : ℕ) (P : Run Value) (first other : List Stmt) (n : Item) → r ≤ j → n.vals c ≡ suc b → Follows g d (λ _. Next) P (Held g r n) (run_all g.world first n)
      → Chosen d r j P n (run_all g.world (If (v c) first other ∷ Let (v j) (df.Get r) ∷ []) n)
  take_one d r j c b P first other n le e f =
      subst (λ z. Chosen d r j P n (and_then z (run_all g.world (Let (v j) (df.Get r) ∷ [])))) (sym (run-If g.world (v c) first other n ∙ ap (λ z. at_zero z (run_all g.world other n) (run_all g.world first n)) e))
      (got_built d r j P (run_all g.world first n) n le f)

  take_other : (d r j c : ℕ) (P : Run Value) (first other : List Stmt) (n : Item) → r ≤ j → n.vals c ≡ 0 → Follows g d (λ _. Next) P (Held g r n) (run_all g.world other n)
      → Chosen d r j P n (run_all g.world (If (v c) first other ∷ Let (v j) (df.Get r) ∷ []) n)
  take_other d r j c P first other n le e f =
      subst (λ z. Chosen d r j P n (and_then z (run_all g.world (Let (v j) (df.Get r) ∷ [])))) (sym (run-If g.world (v c) first other n ∙ ap (λ z. at_zero z (run_all g.world other n) (run_all g.world first n)) e))
      (got_built d r j P (run_all g.world other n) n le f)

  -- what comes after a condition's code, as one value
  chosen_then : (d k : ℕ) (P : Run Value) (a rest : List Stmt) (c r j : ℕ) (n o : Item) → run_all g.world a n ≡ Ends Next o → Kept g k n o → k ≤ r → r ≤ j → Chosen d r j P o (run_all g.world rest o)
      → IsBuilt g d P (record { stmts = a ++ rest; val = j; next = suc j }) k n
  chosen_then d k P a rest c r j n o e kept le lj f =
      subst (λ z. Follows g d (λ _. Next) P (Valued g k (record { stmts = a ++ rest; val = j; next = suc j }) n) z) (sym (run-append g.world a rest n ∙ ap (λ z. and_then z (run_all g.world rest)) e))
      (weaker g d d (λ _. Next) P (run_all g.world rest o) (λ y s p. Same g.base y (p.vals j) × Kept g r o p) (Valued g k (record { stmts = a ++ rest; val = j; next = suc j }) n) (omega arith)
      (λ y s p q. record { same = q.0; kept = Kept-trans g k r n o p le kept q.1; own = omega arith; up = omega (arith, le, lj) }) f)

  -- the same where the condition's value was put into r before
  set_then : (d k : ℕ) (P : Run Value) (a rest : List Stmt) (c r j : ℕ) (n o : Item) → run_all g.world a n ≡ Ends Next o → Kept g k n o → k ≤ r → r ≤ j
      → Chosen d r j P (with_var r (o.vals c) o) (run_all g.world rest (with_var r (o.vals c) o))
      → IsBuilt g d P (record { stmts = a ++ (Set r (v c) ∷ rest); val = j; next = suc j }) k n
  set_then d k P a rest c r j n o e kept le lj f =
      chosen_then d k P a (Set r (v c) ∷ rest) c r j n o e kept le lj
      (weaker g d d (λ _. Next) P (run_all g.world rest (with_var r (o.vals c) o)) (λ y s p. Same g.base y (p.vals j) × Kept g r (with_var r (o.vals c) o) p) (λ y s p. Same g.base y (p.vals j) × Kept g r o p) (omega arith)
      (λ y s p q. (q.0, Kept-trans g r r o (with_var r (o.vals c) o) p (omega arith) (Kept-var g r r (o.vals c) o (omega arith)) q.1)) f)

  -- the operand of `&&` or `||`, and its truth
  operand_built : (d : ℕ) (operand : Part Value) (f : ℕ → Code) (l : ℕ) → Builds d operand f → length g.vars ≤ l → (s : State) (n : Item) → Related g d s n
      → IsBuilt g d (then_do (operand s) (λ y t. Goes (truth y) t)) (with_code (f l) truth_code) l n
  operand_built d operand f l h lo s n hr =
      join_built g d d (operand s) (λ y t. Goes (truth y) t) (f l) (truth_code (f l).val (f l).next) l n (h l lo s n hr) (λ y t o ht w. truth_built g d (f l).val (f l).next y t o ht w.same w.own)

  pub and_built : (d i k : ℕ) (x : Value) (operand : Part Value) (f : ℕ → Code) (s : State) (n : Item) → length g.vars ≤ k → ((l : ℕ) → l ≤ (f l).next) → Related g d s n → Same g.base x (n.vals i) → i < k → Builds d operand f
      → IsBuilt g d (by_truth x (then_do (operand s) (λ y t. Goes (truth y) t)) (Goes (Num 0) s)) (and_code i k f) k n
  and_built d i k (Num zero) operand f s n lo up h p lt b =
      let t = truth_built g d i k (Num zero) s n h p lt in
      let o = t.0 in
      let r = suc (suc k) in
      let e = with_code (f (suc r)) truth_code in
      let o1 = with_var r (o.vals (suc k)) o in
      set_then d k (Goes (Num 0) s) (truth_code i k).stmts (If (v (suc k)) (into_var r e) [] ∷ Let (v e.next) (df.Get r) ∷ []) (suc k) r e.next n o t.1 t.3.kept (omega arith) (let j = up (suc r) in omega (arith, j))
      (take_other d r e.next (suc k) (Goes (Num 0) s) (into_var r e) [] o1 (let j = up (suc r) in omega (arith, j)) t.3.same
      (o1, refl, own_related g d r (o.vals (suc k)) s o (omega (arith, lo)) t.2, record { same = with_at-same o.vars r (o.vals (suc k)) ∙ t.3.same; kept = Kept-refl g r o1 }))
  and_built d i k (Num (suc a)) operand f s n lo up h p lt b =
      let t = truth_built g d i k (Num (suc a)) s n h p lt in
      let o = t.0 in
      let r = suc (suc k) in
      let e = with_code (f (suc r)) truth_code in
      let o1 = with_var r (o.vals (suc k)) o in
      let P = then_do (operand s) (λ y t. Goes (truth y) t) in
      let h1 = own_related g d r (o.vals (suc k)) s o (omega (arith, lo)) t.2 in
      set_then d k P (truth_code i k).stmts (If (v (suc k)) (into_var r e) [] ∷ Let (v e.next) (df.Get r) ∷ []) (suc k) r e.next n o t.1 t.3.kept (omega arith) (let j = up (suc r) in omega (arith, j))
      (take_one d r e.next (suc k) 0 P (into_var r e) [] o1 (let j = up (suc r) in omega (arith, j)) (t.3.same ∙ some a)
      (into_built d P e r o1 (omega (arith, lo)) (operand_built d operand f (suc r) b (omega (arith, lo)) s o1 h1)))
    where
      some : (a : ℕ) → flag (not (suc a == 0)) ≡ 1
      some a = ap (λ c. flag (not c)) (not_zero a)
  and_built d i k Null operand f s n lo up h p lt b = tt
  and_built d i k (At c l) operand f s n lo up h p lt b = tt

  pub or_built : (d i k : ℕ) (x : Value) (operand : Part Value) (f : ℕ → Code) (s : State) (n : Item) → length g.vars ≤ k → ((l : ℕ) → l ≤ (f l).next) → Related g d s n → Same g.base x (n.vals i) → i < k → Builds d operand f
      → IsBuilt g d (by_truth x (Goes (Num 1) s) (then_do (operand s) (λ y t. Goes (truth y) t))) (or_code i k f) k n
  or_built d i k (Num (suc a)) operand f s n lo up h p lt b =
      let t = truth_built g d i k (Num (suc a)) s n h p lt in
      let o = t.0 in
      let r = suc (suc k) in
      let e = with_code (f (suc r)) truth_code in
      let o1 = with_var r (o.vals (suc k)) o in
      set_then d k (Goes (Num 1) s) (truth_code i k).stmts (If (v (suc k)) [] (into_var r e) ∷ Let (v e.next) (df.Get r) ∷ []) (suc k) r e.next n o t.1 t.3.kept (omega arith) (let j = up (suc r) in omega (arith, j))
      (take_one d r e.next (suc k) 0 (Goes (Num 1) s) [] (into_var r e) o1 (let j = up (suc r) in omega (arith, j)) (t.3.same ∙ some a)
      (o1, refl, own_related g d r (o.vals (suc k)) s o (omega (arith, lo)) t.2, record { same = with_at-same o.vars r (o.vals (suc k)) ∙ t.3.same ∙ some a; kept = Kept-refl g r o1 }))
    where
      some : (a : ℕ) → flag (not (suc a == 0)) ≡ 1
      some a = ap (λ c. flag (not c)) (not_zero a)
  or_built d i k (Num zero) operand f s n lo up h p lt b =
      let t = truth_built g d i k (Num zero) s n h p lt in
      let o = t.0 in
      let r = suc (suc k) in
      let e = with_code (f (suc r)) truth_code in
      let o1 = with_var r (o.vals (suc k)) o in
      let P = then_do (operand s) (λ y t. Goes (truth y) t) in
      let h1 = own_related g d r (o.vals (suc k)) s o (omega (arith, lo)) t.2 in
      set_then d k P (truth_code i k).stmts (If (v (suc k)) [] (into_var r e) ∷ Let (v e.next) (df.Get r) ∷ []) (suc k) r e.next n o t.1 t.3.kept (omega arith) (let j = up (suc r) in omega (arith, j))
      (take_other d r e.next (suc k) P [] (into_var r e) o1 (let j = up (suc r) in omega (arith, j)) t.3.same
      (into_built d P e r o1 (omega (arith, lo)) (operand_built d operand f (suc r) b (omega (arith, lo)) s o1 h1)))
  or_built d i k Null operand f s n lo up h p lt b = tt
  or_built d i k (At c l) operand f s n lo up h p lt b = tt

  -- one of two, after the condition's code
  choice_built : (d k : ℕ) (x : Value) (one' other : Part Value) (c : Code) (f h : ℕ → Code) (s : State) (n o : Item) → run_all g.world c.stmts n ≡ Ends Next o → length g.vars ≤ k → ((l : ℕ) → l ≤ (f l).next) → ((l : ℕ) → l ≤ (h l).next)
      → Related g d s o → Valued g k c n x s o → Builds d one' f → Builds d other h → IsBuilt g d (by_truth x (one' s) (other s)) (conditional_code c f h) k n
  choice_built d k (Num zero) one' other c f h s n o e lo fu hu hr w b q =
      let r = c.next in
      let a = f (suc r) in
      let z = h a.next in
      let le : suc r ≤ z.next = let i = fu (suc r) in let j = hu a.next in omega (arith, i, j) in
      chosen_then d k (other s) c.stmts (If (v c.val) (into_var r a) (into_var r z) ∷ Let (v z.next) (df.Get r) ∷ []) c.val r z.next n o e w.kept w.up (omega (arith, le))
      (take_other d r z.next c.val (other s) (into_var r a) (into_var r z) o (omega (arith, le)) w.same
      (into_built d (other s) z r o (let i = w.up in omega (arith, lo, i))
      (weaker g d d (λ _. Next) (other s) (run_all g.world z.stmts o) (Valued g a.next z o) (Valued g (suc r) z o) (omega arith)
      (λ y u p y'. record { same = y'.same; kept = Kept-less (suc r) a.next o p (fu (suc r)) y'.kept; own = y'.own; up = let i = fu (suc r) in let j = y'.up in omega (arith, i, j) })
      (q a.next (let i = w.up in let j = fu (suc r) in omega (arith, lo, i, j)) s o hr))))
    where
      Kept-less : (k l : ℕ) (a b : Item) → k ≤ l → Kept g l a b → Kept g k a b
      Kept-less k l a b le e = record { vals = λ j lt. e.vals j (omega (arith, lt, le)); vars = λ j t lt. e.vars j t (omega (arith, lt, le)) }
  choice_built d k (Num (suc i)) one' other c f h s n o e lo fu hu hr w b q =
      let r = c.next in
      let a = f (suc r) in
      let z = h a.next in
      let le : suc r ≤ z.next = let i = fu (suc r) in let j = hu a.next in omega (arith, i, j) in
      chosen_then d k (one' s) c.stmts (If (v c.val) (into_var r a) (into_var r z) ∷ Let (v z.next) (df.Get r) ∷ []) c.val r z.next n o e w.kept w.up (omega (arith, le))
      (take_one d r z.next c.val i (one' s) (into_var r a) (into_var r z) o (omega (arith, le)) w.same
      (into_built d (one' s) a r o (let i = w.up in omega (arith, lo, i)) (b (suc r) (let i = w.up in omega (arith, lo, i)) s o hr)))
  choice_built d k Null one' other c f h s n o e lo fu hu hr w b q = tt
  choice_built d k (At l j) one' other c f h s n o e lo fu hu hr w b q = tt

  pub conditional_built : (d k : ℕ) (r : Run Value) (one' other : Part Value) (c : Code) (f h : ℕ → Code) (n : Item) → length g.vars ≤ k → ((l : ℕ) → l ≤ (f l).next) → ((l : ℕ) → l ≤ (h l).next)
      → IsBuilt g d r c k n → Builds d one' f → Builds d other h → IsBuilt g d (then_do r (λ x u. by_truth x (one' u) (other u))) (conditional_code c f h) k n
  conditional_built d k (Goes x s) one' other c f h n lo fu hu w b q = choice_built d k x one' other c f h s n w.0 w.1 lo fu hu w.2 w.3 b q
  conditional_built d k (Bounds at) one' other c f h n lo fu hu w b q = tt
  conditional_built d k Spent one' other c f h n lo fu hu w b q = tt
