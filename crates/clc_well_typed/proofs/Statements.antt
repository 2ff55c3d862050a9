-- Each proper statement is given a well-typed one.
use Rattle.std.proofs.Common.{◌≡◌, ℕ, ◌+◌, Bool, true, false, not, List, [], ◌∷◌, ◌++◌, Option, Some, None, length, is_some, refl, sym, ap, ◌∙◌, subst, arith, append-nil, append_assoc, true≢false}
use Rattle.std.specs.Prelude.{map}
use Rattle.std.proofs.lemmas.Bool.{and_parts, not-false}
use Rattle.clc_lexer.specs.declared.token.Token.{Token}
use Rattle.clc_reading.specs.Reading.{Spelling}
use Rattle.clc_tree.specs.Expressions.{IsExpr}
use Rattle.clc_tree.specs.Statements as g
use Rattle.clc_tree.specs.declared.expressions.Expr.{Expr}
use Rattle.clc_tree.specs.declared.statements.Init.{Init}
use Rattle.clc_tree.specs.declared.statements.Item.{Item}
use Rattle.clc_tree.specs.declared.statements.ItemStep.{ItemStep}
use Rattle.clc_tree.specs.declared.statements.Declare.{Declare}
use Rattle.clc_tree.specs.declared.statements.ForStart.{ForStart}
use Rattle.clc_tree.specs.declared.statements.Block.{Block}
use Rattle.clc_tree.specs.declared.statements.BlockPart.{BlockPart}
use Rattle.clc_tree.specs.declared.statements.Stmt.{Stmt}
use Rattle.q_lane.specs.declared.kinds.Scalar.{Scalar}
use Rattle.clc_types.specs.declared.type_rule.TypeRule.TheVariants.{S10, S11, S13}
use Rattle.clc_types.specs.declared.typed.Var.{Var}
use Rattle.clc_types.specs.declared.typed.TExpr.{TExpr}
use Rattle.clc_types.specs.declared.typed.TStmt.{TStmt}
use Rattle.clc_types.specs.declared.typed.TStmt.TheVariants as st
use Rattle.clc_types.specs.declared.typed.TFunction.{TFunction}
use Rattle.clc_types.specs.declared.forms.Shape.{Shape}
use Rattle.clc_types.specs.declared.forms.Shape.TheVariants as shape
use Rattle.clc_types.specs.declared.forms.Kind.{Kind}
use Rattle.clc_types.specs.declared.forms.Kind.TheVariants as k
use Rattle.clc_types.specs.declared.forms.Form.{Form}
use Rattle.clc_types.specs.Judged.{next, unless, violations, one}
use Rattle.clc_types.specs.Words.{value_of, type_of, type_tokens, one_if}
use Rattle.clc_types.specs.Rules.{is_array as is_array_kind, is_scalar, kind_of, var_of, ty_of, scalar_needed, no_array, fit_needed, return_needs, bare_needs, is_size}
use Rattle.clc_types.specs.Typing.{judge, judge_assign}
use Rattle.clc_types.specs.Blocks.{Piece, nothing, quiet, past, ending, seq, made, maybe, listed, opened, looping, declared, size, init, item_piece, item_step_piece, pointer_shape, pointer_tokens, declare_piece, condition, value, maybe_condition, maybe_value, returned, jump, evaluated, for_start_piece}
use Rattle.clc_types.specs.WellTyped.{is_number, accepts, value_type, is_condition, maybe_condition as maybe_condition_of, maybe_valid, is_declared, is_returned, all_fit, counts, together, declared as declared_in, seen, stmt_fits}
use Rattle.clc_well_typed.proofs.Judging.{fine_is, next_parts, unless_parts, not_violated, yes, yes3, yes4}
use Rattle.clc_well_typed.proofs.Taken.{fit_found, plain_found}
use Rattle.clc_well_typed.proofs.TypedNodes.{fits_block, fits_declare, fits_eval, fits_empty, fits_if0, fits_if1, fits_while, fits_do, fits_for, fits_break, fits_continue, fits_return, declared_block, declared_declare, declared_eval, declared_empty, declared_if0, declared_if1, declared_while, declared_do, declared_for, declared_break, declared_continue, declared_return}
use Rattle.clc_well_typed.proofs.Forms.{Sound, number_read}
use Rattle.clc_well_typed.proofs.Parts.{Gives, one_gives}
use Rattle.clc_well_typed.proofs.Expressions.{expr_valid, assign_part_valid}
use Rattle.clc_well_typed.proofs.Places.{counts_none, counts_one, counts_append}
use Rattle.clc_well_typed.proofs.Pieces.{Still, Both, Looped, Numbered, Stands, nothing_stands, quiet_stands, past_stands, opened_stands, ending_stands, looping_stands, made_stands, seq_stands, declared_stands}
use Rattle.clc_well_typed.proofs.SourceStatements.{j_block_part, j_stmt, j_block, j_else, part_declare, part_stmt, stmt_block, stmt_eval, stmt_empty, stmt_break, stmt_continue, stmt_return, block_is, else_is, when_is, choose_is, loop_is, until_is, count_is}

pub value_typed : (s : Shape) → value_type (var_of s) ≡ ty_of (kind_of 0 s)
value_typed (shape.Value s f) = refl
value_typed (shape.Pointer z c e f) = refl
value_typed (shape.Array e n f) = refl

scalar_kind : (t : Kind) → is_scalar t ≡ true → (s : Scalar) × (t ≡ k.Value s)
scalar_kind k.Void h = absurd (cc)
scalar_kind (k.Value s) h = (s, refl)
scalar_kind (k.Pointer z c e) h = absurd (cc)
scalar_kind (k.Array v e) h = absurd (cc)

together_append : (xs ys : List TStmt) → together (map declared_in xs) ++ together (map declared_in ys) ≡ together (map declared_in (xs ++ ys))
together_append [] ys = refl
together_append (x ∷ xs) ys = append_assoc (declared_in x) (together (map declared_in xs)) (together (map declared_in ys)) ∙ ap (λ z. declared_in x ++ z) (together_append xs ys)

module _ (vars : List Var) (before : List TFunction) (result : Option Scalar) where
  -- ---- what is given

  abbrev pub OkStmt : Bool → ℕ → ℕ → TStmt → Type 0
  OkStmt l n m y = (stmt_fits vars before result y l ≡ true) × (counts n m (declared_in y) ≡ true)

  abbrev pub OkStmts : Bool → ℕ → ℕ → List TStmt → Type 0
  OkStmts l n m ys = (all_fit vars before result (map (stmt_fits vars before result) ys) l ≡ true) × (counts n m (together (map declared_in ys)) ≡ true)

  abbrev OkMaybe : Bool → ℕ → ℕ → Option TStmt → Type 0
  OkMaybe l n m None = n ≡ m
  OkMaybe l n m (Some y) = OkStmt l n m y

  abbrev Tested : TExpr → Type 0
  Tested x = is_condition vars before result x ≡ true

  abbrev Valued : TExpr → Type 0
  Valued x = (seen vars before result x).valid ≡ true

  abbrev MaybeTested : Option TExpr → Type 0
  MaybeTested x = maybe_condition_of vars before result x ≡ true

  abbrev MaybeValued : Option TExpr → Type 0
  MaybeValued x = maybe_valid vars before result x ≡ true

  -- an initial value, or none, of a variable of this kind
  abbrev Initial : Kind → Option TExpr → Type 0
  Initial t None = Unit {0}
  Initial t (Some x) = ((seen vars before result x).valid ≡ true) × (accepts (ty_of t) (seen vars before result x).ty ≡ true)

  abbrev Left : TStmt → Type 0
  Left y = ((l : Bool) → stmt_fits vars before result y l ≡ true) × (declared_in y ≡ [])

  -- ---- lists of statements

  none_declared : (n m : ℕ) (y : TStmt) → n ≡ m → declared_in y ≡ [] → counts n m (declared_in y) ≡ true
  none_declared n m y h i = ap (counts n m) i ∙ counts_none n m h

  one_stmt : (l : Bool) (n m : ℕ) (y : TStmt) → OkStmt l n m y → OkStmts l n m (y ∷ [])
  one_stmt l n m y h = (yes h.0 refl, ap (counts n m) (append-nil (declared_in y)) ∙ h.1)

  both_fit : (l : Bool) (xs ys : List TStmt) → all_fit vars before result (map (stmt_fits vars before result) xs) l ≡ true → all_fit vars before result (map (stmt_fits vars before result) ys) l ≡ true
      → all_fit vars before result (map (stmt_fits vars before result) (xs ++ ys)) l ≡ true
  both_fit l [] ys h i = i
  both_fit l (x ∷ xs) ys h i =
      let d = and_parts (stmt_fits vars before result x l) (all_fit vars before result (map (stmt_fits vars before result) xs) l) h in
      yes d.0 (both_fit l xs ys d.1 i)

  both_stmts : (l : Bool) (n m : ℕ) (y : List TStmt × List TStmt) → Both OkStmts OkStmts l n m y → OkStmts l n m (y.0 ++ y.1)
  both_stmts l n m y h = (
    both_fit l y.0 y.1 h.1.0 h.2.0,
    ap (counts n m) (sym (together_append y.0 y.1)) ∙ counts_append n h.0 m (together (map declared_in y.0)) (together (map declared_in y.1)) h.1.1 h.2.1,
  )

  abbrev AllStand : List (Piece (List TStmt)) → Type 0
  AllStand [] = Unit {0}
  AllStand (x ∷ xs) = Stands vars before result OkStmts x × AllStand xs

  empty_list : Stands vars before result (Still (λ (y : List TStmt). y ≡ [])) (nothing []) → Stands vars before result OkStmts (nothing [])
  empty_list g = record {
    order = g.order;
    fine = λ c pl l from upto p done rest e b u y i.
        let h = g.fine c pl l from upto p done rest e b u y i in
        subst (OkStmts l (length done) (length (done ++ []))) (sym h.1) (refl, counts_none (length done) (length (done ++ [])) h.0);
  }

  listed_stands : (xs : List (Piece (List TStmt))) → AllStand xs → Stands vars before result OkStmts (listed xs)
  listed_stands [] h = empty_list (nothing_stands vars before result (λ y. y ≡ []) [] refl)
  listed_stands (x ∷ xs) h =
      made_stands vars before result (Both OkStmts OkStmts) OkStmts (λ y. y.0 ++ y.1) (seq x (listed xs)) both_stmts (seq_stands vars before result OkStmts OkStmts x (listed xs) h.0 (listed_stands xs h.1))

  -- ---- expressions in statements

  condition_gives : (e : Expr) (ms : Spelling Token) → IsExpr e ms → Gives vars before result Tested (one 0 (judge e) 0 (λ p q x. scalar_needed q x.kind) (λ x. x.expr))
  condition_gives e ms h =
      one_gives vars before result (Sound vars before result) Tested 0 0 (judge e) (λ p q x. scalar_needed q x.kind) (λ x. x.expr) (expr_valid vars before result e ms h) (λ p q x i s. (number_read vars before result q x i s).value)

  condition_stands : (e : Expr) (ms : Spelling Token) → IsExpr e ms → Stands vars before result (Still Tested) (condition e)
  condition_stands e ms h = quiet_stands vars before result Tested _ (condition_gives e ms h)

  value_gives : (e : Expr) (ms : Spelling Token) → IsExpr e ms → Gives vars before result Valued (one 0 (judge e) 0 (λ p q x. no_array q x.kind) (λ x. x.expr))
  value_gives e ms h =
      one_gives vars before result (Sound vars before result) Valued 0 0 (judge e) (λ p q x. no_array q x.kind) (λ x. x.expr) (expr_valid vars before result e ms h) (λ p q x i s. (s.fine (plain_found q x.kind i)).valid)

  value_stands : (e : Expr) (ms : Spelling Token) → IsExpr e ms → Stands vars before result (Still Valued) (value e)
  value_stands e ms h = quiet_stands vars before result Valued _ (value_gives e ms h)

  maybe_condition_stands : (e : Option Expr) (ms : Spelling Token) → g.IsMaybe e ms → Stands vars before result (Still MaybeTested) (maybe_condition e)
  maybe_condition_stands e ms g.nothing = nothing_stands vars before result MaybeTested None refl
  maybe_condition_stands e ms (g.some x m h) = made_stands vars before result (Still Tested) (Still MaybeTested) (λ y. Some y) (condition x) (λ l n m y i. i) (condition_stands x m h)

  maybe_value_stands : (e : Option Expr) (ms : Spelling Token) → g.IsMaybe e ms → Stands vars before result (Still MaybeValued) (maybe_value e)
  maybe_value_stands e ms g.nothing = nothing_stands vars before result MaybeValued None refl
  maybe_value_stands e ms (g.some x m h) = made_stands vars before result (Still Valued) (Still MaybeValued) (λ y. Some y) (value x) (λ l n m y i. i) (value_stands x m h)

  -- ---- declarations

  initial_found : (t : Kind) (q : ℕ) (x : Form) → fit_needed t q x.kind ≡ [] → Sound vars before result x → Initial t (Some x.expr)
  initial_found t q x i s =
      let f = fit_found t q x.kind i in
      let r = s.fine f.right in
      (r.valid, ap (accepts (ty_of t)) r.typed ∙ f.accepts)

  init_stands : (t : Kind) (i : Option Init) (ms : Spelling Token) → g.IsInit i ms → Stands vars before result (Still (Initial t)) (init t i)
  init_stands t i ms g.no_init = nothing_stands vars before result (Initial t) None tt
  init_stands t i ms (g.init w a m h j) =
      quiet_stands vars before result (Initial t) _
      (one_gives vars before result (Sound vars before result) (Initial t) 1 0 (judge_assign a) (λ p q x. fit_needed t q x.kind) (λ x. Some x.expr) (assign_part_valid vars before result a m j) (λ p q x u s. initial_found t q x u s))

  -- a number or a pointer with its initial value
  initial_fits : (s : Shape) (i : Option TExpr) → is_array_kind (kind_of 0 s) ≡ false → Initial (kind_of 0 s) i → is_declared vars before result (Some (var_of s)) i ≡ true
  initial_fits (shape.Value s f) None a h = refl
  initial_fits (shape.Pointer z c e f) None a h = refl
  initial_fits (shape.Array e n f) i a h = absurd (true≢false a)
  initial_fits (shape.Value s f) (Some x) a h = yes h.0 h.1
  initial_fits (shape.Pointer z c e f) (Some x) a h = yes h.0 h.1

  declared_fits : (s : Shape) (i : Option TExpr) (l : Bool) (n m v : ℕ) → Numbered vars s l n m v → is_declared vars before result (Some (var_of s)) i ≡ true → OkStmts l n m (st.Declare v i ∷ [])
  declared_fits s i l n m v h j =
      one_stmt l n m (st.Declare v i) (
        fits_declare vars before result v i l ∙ ap (λ z. is_declared vars before result z i) h.2 ∙ j,
        ap (counts n m) (declared_declare v i) ∙ counts_one n m v h.0 h.1,
      )

  variable_fits : (s : Shape) → is_array_kind (kind_of 0 s) ≡ false → (l : Bool) (n m : ℕ) (y : ℕ × Option TExpr) → Both (Numbered vars s) (Still (Initial (kind_of 0 s))) l n m y → OkStmts l n m (st.Declare y.0 y.1 ∷ [])
  variable_fits s a l n m y h = subst (λ z. OkStmts l n z (st.Declare y.0 y.1 ∷ [])) h.2.0 (declared_fits s y.1 l n h.0 y.0 h.1 (initial_fits s y.1 a h.2.1))

  variable_stands : (s : Shape) (t : Token) (i : Option Init) (ms : Spelling Token) → is_array_kind (kind_of 0 s) ≡ false → g.IsInit i ms
      → Stands vars before result OkStmts (made (λ y. st.Declare y.0 y.1 ∷ []) (seq (declared s t) (init (kind_of 0 s) i)))
  variable_stands s t i ms a h =
      made_stands vars before result (Both (Numbered vars s) (Still (Initial (kind_of 0 s)))) OkStmts (λ y. st.Declare y.0 y.1 ∷ []) (seq (declared s t) (init (kind_of 0 s) i)) (variable_fits s a)
      (seq_stands vars before result (Numbered vars s) (Still (Initial (kind_of 0 s))) (declared s t) (init (kind_of 0 s) i) (declared_stands vars before result s t) (init_stands (kind_of 0 s) i ms h))

  abbrev Sized : ℕ → Unit {0} → Type 0
  Sized n u = is_size n ≡ true

  size_gives : (v : Token) → Gives vars before result (Sized (value_of v)) (size v)
  size_gives v = record {
    holds = λ c r p x h.
        let u = unless_parts (violations (p + 1) ((S11, not (is_size (value_of v))) ∷ [])) tt x h in
        not-false (is_size (value_of v)) (not_violated (p + 1) S11 (not (is_size (value_of v))) [] u.0).0;
  }

  array_fits : (s : Scalar) (z : ℕ) (f l : Bool) (n m : ℕ) (y : ℕ × Unit {0}) → Both (Numbered vars (shape.Array s z f)) (Still (Sized z)) l n m y → OkStmts l n m (st.Declare y.0 None ∷ [])
  array_fits s z f l n m y h = subst (λ w. OkStmts l n w (st.Declare y.0 None ∷ [])) h.2.0 (declared_fits (shape.Array s z f) None l n h.0 y.0 h.1 h.2.1)

  item_stands : (f : Bool) (s : Scalar) (i : Item) (ms : Spelling Token) → g.IsItem i ms → Stands vars before result OkStmts (item_piece f s i)
  item_stands f s i ms (g.array t l v r ht hl hv hr) =
      made_stands vars before result (Both (Numbered vars (shape.Array s (value_of v) f)) (Still (Sized (value_of v)))) OkStmts (λ y. st.Declare y.0 None ∷ []) (seq (declared (shape.Array s (value_of v) f) t) (quiet (size v))) (array_fits s (value_of v) f)
      (seq_stands vars before result (Numbered vars (shape.Array s (value_of v) f)) (Still (Sized (value_of v))) (declared (shape.Array s (value_of v) f) t) (quiet (size v)) (declared_stands vars before result (shape.Array s (value_of v) f) t)
      (quiet_stands vars before result (Sized (value_of v)) (size v) (size_gives v)))
  item_stands f s i ms (g.variable t a m ht hi) = variable_stands (shape.Value s f) t a m refl hi

  items_stand : (f : Bool) (s : Scalar) (xs : List ItemStep) (ms : Spelling Token) → g.AreItems xs ms → AllStand (map (item_step_piece f s) xs)
  items_stand f s xs ms g.no_item = tt
  items_stand f s xs ms (g.one_item t i more m n h j l) = (past_stands vars before result OkStmts 1 (item_piece f s i) (item_stands f s i m j), items_stand f s more n l)

  declare_stands : (d : Declare) (ms : Spelling Token) → g.IsDeclare d ms → Stands vars before result OkStmts (declare_piece d)
  declare_stands d ms (g.values c s i more w m n x y hc hs hi hm hw) =
      let all = item_piece (is_some c) (type_of s) i ∷ map (item_step_piece (is_some c) (type_of s)) more in
      ending_stands vars before result OkStmts 1 (past (one_if c + type_tokens s) (listed all))
      (past_stands vars before result OkStmts (one_if c + type_tokens s) (listed all) (listed_stands all (item_stands (is_some c) (type_of s) i x hi, items_stand (is_some c) (type_of s) more y hm)))
  declare_stands d ms (g.pointers x t i w m n hx ht hi hw) =
      let s = pointer_shape x in
      let inner = seq (declared s t) (init (kind_of 0 s) i) in
      ending_stands vars before result OkStmts 1 (made (λ y. st.Declare y.0 y.1 ∷ []) (past (pointer_tokens x) inner))
      (made_stands vars before result (Both (Numbered vars s) (Still (Initial (kind_of 0 s)))) OkStmts (λ y. st.Declare y.0 y.1 ∷ []) (past (pointer_tokens x) inner) (variable_fits s refl)
      (past_stands vars before result (Both (Numbered vars s) (Still (Initial (kind_of 0 s)))) (pointer_tokens x) inner
      (seq_stands vars before result (Numbered vars s) (Still (Initial (kind_of 0 s))) (declared s t) (init (kind_of 0 s) i) (declared_stands vars before result s t) (init_stands (kind_of 0 s) i n hi))))

  -- ---- jumps

  left_stands : (l : Bool) (n m : ℕ) (y : TStmt) → Still Left l n m y → OkStmt l n m y
  left_stands l n m y h = (h.1.0 l, none_declared n m y h.0 h.1.1)

  from_left : (a : Piece TStmt) → Stands vars before result (Still Left) a → Stands vars before result OkStmt a
  from_left a g = record { order = g.order; fine = λ c pl l from upto p done rest e b u y i. left_stands l (length done) (length (done ++ a.decls from upto p)) y (g.fine c pl l from upto p done rest e b u y i) }

  bare_returned : (r : Option Scalar) (p : ℕ) → bare_needs r p ≡ [] → is_returned vars before result r None ≡ true
  bare_returned None p h = refl
  bare_returned (Some s) p h = absurd (cc)

  bare_left : (p : ℕ) (r : Option Scalar) → r ≡ result → bare_needs r p ≡ [] → Left (st.Return None)
  bare_left p r e h = (λ l. fits_return vars before result None l ∙ ap (λ z. is_returned vars before result z None) (sym e) ∙ bare_returned r p h, declared_return None)

  value_returned : (r : Option Scalar) (p : ℕ) (x : Form) → return_needs r p x.kind ≡ [] → Sound vars before result x → is_returned vars before result r (Some x.expr) ≡ true
  value_returned None p x h s = absurd (cc)
  value_returned (Some z) p x h s =
      let i = scalar_kind x.kind (not-false (is_scalar x.kind) (not_violated p S13 (not (is_scalar x.kind)) [] h).0) in
      let r = s.fine (ap is_array_kind i.1) in
      yes r.valid (ap is_number (r.typed ∙ ap ty_of i.1))

  value_left : (p : ℕ) (r : Option Scalar) (x : Form) → r ≡ result → return_needs r p x.kind ≡ [] → Sound vars before result x → Left (st.Return (Some x.expr))
  value_left p r x e h s = (λ l. fits_return vars before result (Some x.expr) l ∙ ap (λ z. is_returned vars before result z (Some x.expr)) (sym e) ∙ value_returned r p x h s, declared_return (Some x.expr))

  returned_stands : (e : Option Expr) (ms : Spelling Token) → g.IsMaybe e ms → Stands vars before result OkStmt (returned e)
  returned_stands e ms g.nothing =
      from_left (returned None) (quiet_stands vars before result Left (record { tokens = 2; at = λ c p. unless (bare_needs c.home.result p) (st.Return None) }) (record {
        holds = λ c r p x h.
            let u = unless_parts (bare_needs c.home.result p) (st.Return None) x h in
            subst Left u.1 (bare_left p c.home.result r.returned u.0);
      }))
  returned_stands e ms (g.some v m i) =
      from_left (returned (Some v)) (quiet_stands vars before result Left (record { tokens = 1 + (judge v).tokens + 1; at = λ c p. next ((judge v).at c (p + 1)) (λ x. unless (return_needs c.home.result p x.kind) (st.Return (Some x.expr))) }) (record {
        holds = λ c r p x h.
            let n = next_parts ((judge v).at c (p + 1)) (λ x. unless (return_needs c.home.result p x.kind) (st.Return (Some x.expr))) x h in
            let u = unless_parts (return_needs c.home.result p n.0.kind) (st.Return (Some n.0.expr)) x n.2 in
            subst Left u.1 (value_left p c.home.result n.0 r.returned u.0 ((expr_valid vars before result v m i).holds c r (p + 1) n.0 n.1));
      }))

  jump_stands : (s : TStmt) → ((l : Bool) → l ≡ true → stmt_fits vars before result s l ≡ true) → declared_in s ≡ [] → Stands vars before result OkStmt (jump s)
  jump_stands s f d = record {
    order = λ from upto p. omega arith;
    fine = λ c pl l from upto p done rest e b u y i.
        let j = unless_parts (violations p ((S10, not l) ∷ [])) s y i in
        subst (OkStmt l (length done) (length (done ++ []))) j.1
        (f l (not-false l (not_violated p S10 (not l) [] j.0).0), none_declared (length done) (length (done ++ [])) s (sym (ap length (append-nil done))) d);
  }

  -- ---- statements of statements

  block_fits : (l : Bool) (n m : ℕ) (ys : List TStmt) → OkStmts l n m ys → OkStmt l n m (st.Block ys)
  block_fits l n m ys h = (fits_block vars before result ys l ∙ h.0, ap (counts n m) (declared_block ys) ∙ h.1)

  eval_fits : (l : Bool) (n m : ℕ) (x : TExpr) → Still Valued l n m x → OkStmt l n m (st.Eval x)
  eval_fits l n m x h = (fits_eval vars before result x l ∙ h.1, none_declared n m (st.Eval x) h.0 (declared_eval x))

  if_fits : (l : Bool) (n m : ℕ) (y : TExpr × (TStmt × Option TStmt)) → Both (Still Tested) (Both OkStmt OkMaybe) l n m y → OkStmt l n m (st.If y.0 y.1.0 y.1.1)
  if_fits l n m y h = by y.0 y.1.0 y.1.1 h.0 h.2.0 h.1 h.2.1 h.2.2
    where
      by : (x : TExpr) (a : TStmt) (b : Option TStmt) (i j : ℕ) → Still Tested l n i x → OkStmt l i j a → OkMaybe l j m b → OkStmt l n m (st.If x a b)
      by x a None i j t u v = (
        fits_if0 vars before result x a l ∙ yes3 t.1 u.0 refl,
        ap (counts n m) (declared_if0 x a ∙ append-nil (declared_in a)) ∙ subst (λ z. counts z m (declared_in a) ≡ true) (sym t.0) (subst (λ z. counts i z (declared_in a) ≡ true) v u.1),
      )
      by x a (Some b) i j t u v = (
        fits_if1 vars before result x a b l ∙ yes3 t.1 u.0 v.0,
        ap (counts n m) (declared_if1 x a b) ∙ subst (λ z. counts z m (declared_in a ++ declared_in b) ≡ true) (sym t.0) (counts_append i j m (declared_in a) (declared_in b) u.1 v.1),
      )

  while_fits : (l : Bool) (n m : ℕ) (y : TExpr × TStmt) → Both (Still Tested) (Looped OkStmt) l n m y → OkStmt l n m (st.While y.0 y.1)
  while_fits l n m y h = (
    fits_while vars before result y.0 y.1 l ∙ yes h.1.1 h.2.0,
    ap (counts n m) (declared_while y.0 y.1) ∙ subst (λ z. counts z m (declared_in y.1) ≡ true) (sym h.1.0) h.2.1,
  )

  do_fits : (l : Bool) (n m : ℕ) (y : TStmt × TExpr) → Both (Looped OkStmt) (Still Tested) l n m y → OkStmt l n m (st.Do y.0 y.1)
  do_fits l n m y h = (
    fits_do vars before result y.0 y.1 l ∙ yes h.1.0 h.2.1,
    ap (counts n m) (declared_do y.0 y.1) ∙ subst (λ z. counts n z (declared_in y.0) ≡ true) h.2.0 h.1.1,
  )

  abbrev Heads : Bool → ℕ → ℕ → List TStmt × (Option TExpr × (Option TExpr × TStmt)) → Type 0
  Heads = Both OkStmts (Both (Still MaybeTested) (Both (Still MaybeValued) (Looped OkStmt)))

  for_fits : (l : Bool) (n m : ℕ) (y : List TStmt × (Option TExpr × (Option TExpr × TStmt))) → Heads l n m y → OkStmt l n m (st.For y.0 y.1.0 y.1.1.0 y.1.1.1)
  for_fits l n m y h =
      let body = y.1.1.1 in
      let e = h.2.1.0 ∙ h.2.2.1.0 in (
        fits_for vars before result y.0 y.1.0 y.1.1.0 body l ∙ yes4 h.1.0 h.2.1.1 h.2.2.1.1 h.2.2.2.0,
        ap (counts n m) (declared_for y.0 y.1.0 y.1.1.0 body)
            ∙ counts_append n h.0 m (together (map declared_in y.0)) (declared_in body) h.1.1 (subst (λ z. counts z m (declared_in body) ≡ true) (sym e) h.2.2.2.1),
      )

  evaluated_fits : (l : Bool) (n m : ℕ) (y : Option TExpr) → Still MaybeValued l n m y → OkStmts l n m (evaluated y)
  evaluated_fits l n m None h = (refl, counts_none n m h.0)
  evaluated_fits l n m (Some x) h = one_stmt l n m (st.Eval x) (eval_fits l n m x h)

  for_start_stands : (s : ForStart) (ms : Spelling Token) → g.IsForStart s ms → Stands vars before result OkStmts (for_start_piece s)
  for_start_stands s ms (g.declares d m h) = declare_stands d m h
  for_start_stands s ms (g.evaluates e t m h i) =
      ending_stands vars before result OkStmts 1 (made evaluated (maybe_value e)) (made_stands vars before result (Still MaybeValued) OkStmts evaluated (maybe_value e) evaluated_fits (maybe_value_stands e m h))

  empty_stands : Stands vars before result OkStmt (ending (nothing st.Empty) 1)
  empty_stands = from_left _ (ending_stands vars before result (Still Left) 1 (nothing st.Empty) (nothing_stands vars before result Left st.Empty (λ l. fits_empty vars before result l, declared_empty)))

  maybe_none : Stands vars before result OkMaybe (maybe None)
  maybe_none = record {
    order = λ from upto p. omega arith;
    fine = λ c pl l from upto p done rest e b u y i. subst (OkMaybe l (length done) (length (done ++ []))) (fine_is None y i) (sym (ap length (append-nil done)));
  }

  maybe_some : (a : Piece TStmt) → Stands vars before result OkStmt a → Stands vars before result OkMaybe (maybe (Some a))
  maybe_some a g = made_stands vars before result OkStmt OkMaybe (λ x. Some x) a (λ l n m x h. h) g

  if_stands : (x : Expr) (a : Piece TStmt) (b : Option (Piece TStmt)) (ms : Spelling Token) → IsExpr x ms → Stands vars before result OkStmt a → Stands vars before result OkMaybe (maybe b)
      → Stands vars before result OkStmt (made (λ y. st.If y.0 y.1.0 y.1.1) (seq (past 2 (condition x)) (seq (past 1 a) (maybe b))))
  if_stands x a b ms h i j =
      made_stands vars before result (Both (Still Tested) (Both OkStmt OkMaybe)) OkStmt (λ y. st.If y.0 y.1.0 y.1.1) (seq (past 2 (condition x)) (seq (past 1 a) (maybe b))) if_fits
      (seq_stands vars before result (Still Tested) (Both OkStmt OkMaybe) (past 2 (condition x)) (seq (past 1 a) (maybe b)) (past_stands vars before result (Still Tested) 2 (condition x) (condition_stands x ms h))
      (seq_stands vars before result OkStmt OkMaybe (past 1 a) (maybe b) (past_stands vars before result OkStmt 1 a i) j))

  body_stands : (a : Piece TStmt) → Stands vars before result OkStmt a → Stands vars before result (Looped OkStmt) (past 1 (looping a))
  body_stands a g = past_stands vars before result (Looped OkStmt) 1 (looping a) (looping_stands vars before result OkStmt a g)

  while_stands : (x : Expr) (a : Piece TStmt) (ms : Spelling Token) → IsExpr x ms → Stands vars before result OkStmt a
      → Stands vars before result OkStmt (made (λ y. st.While y.0 y.1) (seq (past 2 (condition x)) (past 1 (looping a))))
  while_stands x a ms h i =
      made_stands vars before result (Both (Still Tested) (Looped OkStmt)) OkStmt (λ y. st.While y.0 y.1) (seq (past 2 (condition x)) (past 1 (looping a))) while_fits
      (seq_stands vars before result (Still Tested) (Looped OkStmt) (past 2 (condition x)) (past 1 (looping a)) (past_stands vars before result (Still Tested) 2 (condition x) (condition_stands x ms h)) (body_stands a i))

  do_stands : (x : Expr) (a : Piece TStmt) (ms : Spelling Token) → IsExpr x ms → Stands vars before result OkStmt a
      → Stands vars before result OkStmt (ending (made (λ y. st.Do y.0 y.1) (seq (past 1 (looping a)) (past 2 (condition x)))) 2)
  do_stands x a ms h i =
      ending_stands vars before result OkStmt 2 (made (λ y. st.Do y.0 y.1) (seq (past 1 (looping a)) (past 2 (condition x))))
      (made_stands vars before result (Both (Looped OkStmt) (Still Tested)) OkStmt (λ y. st.Do y.0 y.1) (seq (past 1 (looping a)) (past 2 (condition x))) do_fits
      (seq_stands vars before result (Looped OkStmt) (Still Tested) (past 1 (looping a)) (past 2 (condition x)) (body_stands a i) (past_stands vars before result (Still Tested) 2 (condition x) (condition_stands x ms h))))

  for_stands : (s : ForStart) (x z : Option Expr) (a : Piece TStmt) (ms ns os : Spelling Token) → g.IsForStart s ms → g.IsMaybe x ns → g.IsMaybe z os → Stands vars before result OkStmt a
      → Stands vars before result OkStmt (opened 2 (made (λ y. st.For y.0 y.1.0 y.1.1.0 y.1.1.1) (seq (for_start_piece s) (seq (maybe_condition x) (seq (past 1 (maybe_value z)) (past 1 (looping a)))))))
  for_stands s x z a ms ns os hs hx hz g =
      let last = seq (past 1 (maybe_value z)) (past 1 (looping a)) in
      let later = seq (maybe_condition x) last in
      opened_stands vars before result OkStmt 2 (made (λ y. st.For y.0 y.1.0 y.1.1.0 y.1.1.1) (seq (for_start_piece s) later))
      (made_stands vars before result Heads OkStmt (λ y. st.For y.0 y.1.0 y.1.1.0 y.1.1.1) (seq (for_start_piece s) later) for_fits
      (seq_stands vars before result OkStmts (Both (Still MaybeTested) (Both (Still MaybeValued) (Looped OkStmt))) (for_start_piece s) later (for_start_stands s ms hs)
      (seq_stands vars before result (Still MaybeTested) (Both (Still MaybeValued) (Looped OkStmt)) (maybe_condition x) last (maybe_condition_stands x ns hx)
      (seq_stands vars before result (Still MaybeValued) (Looped OkStmt) (past 1 (maybe_value z)) (past 1 (looping a)) (past_stands vars before result (Still MaybeValued) 1 (maybe_value z) (maybe_value_stands z os hz)) (body_stands a g)))))

  -- ---- whole statements

  mutual
    pub block_stands : (v : Block) (ms : Spelling Token) → g.IsBlock v ms → Stands vars before result OkStmts (j_block v)
    block_stands v ms (g.block l r parts m hl ha hr) =
        subst (Stands vars before result OkStmts) (sym (block_is l parts r)) (ending_stands vars before result OkStmts 1 (listed (map j_block_part parts)) (listed_stands (map j_block_part parts) (parts_stand parts m ha)))

    parts_stand : (v : List BlockPart) (ms : Spelling Token) → g.AreParts v ms → AllStand (map j_block_part v)
    parts_stand v ms g.no_part = tt
    parts_stand v ms (g.one_part x more m n h i) = (part_stands x m h, parts_stand more n i)

    part_stands : (v : BlockPart) (ms : Spelling Token) → g.IsPart v ms → Stands vars before result OkStmts (j_block_part v)
    part_stands v ms (g.declaration d m i) = subst (Stands vars before result OkStmts) (sym (part_declare d)) (declare_stands d m i)
    part_stands v ms (g.statement b x m i) =
        subst (Stands vars before result OkStmts) (sym (part_stmt x)) (made_stands vars before result OkStmt OkStmts (λ y. y ∷ []) (j_stmt x) one_stmt (stmt_stands b x m i))

    stmt_stands : (b : Bool) (v : Stmt) (ms : Spelling Token) → g.IsStmt b v ms → Stands vars before result OkStmt (j_stmt v)
    stmt_stands b v ms (g.compound x m i) =
        subst (Stands vars before result OkStmt) (sym (stmt_block x))
        (opened_stands vars before result OkStmt 1 (made (λ y. st.Block y) (j_block x)) (made_stands vars before result OkStmts OkStmt (λ y. st.Block y) (j_block x) block_fits (block_stands x m i)))
    stmt_stands b v ms (g.eval x t m i j) =
        subst (Stands vars before result OkStmt) (sym (stmt_eval x t))
        (ending_stands vars before result OkStmt 1 (made (λ y. st.Eval y) (value x)) (made_stands vars before result (Still Valued) OkStmt (λ y. st.Eval y) (value x) eval_fits (value_stands x m i)))
    stmt_stands b v ms (g.empty t i) = subst (Stands vars before result OkStmt) (sym (stmt_empty t)) empty_stands
    stmt_stands b v ms (g.when u l x r c y m n hu hl hx hr hy) = subst (Stands vars before result OkStmt) (sym (when_is u l x r y)) (if_stands x (j_stmt y) None m hx (stmt_stands c y n hy) maybe_none)
    stmt_stands b v ms (g.choose u l x r y d c z m n q hu hl hx hr hy hd hz) =
        subst (Stands vars before result OkStmt) (sym (choose_is u l x r y (g.else_of d z)))
        (if_stands x (j_stmt y) (Some (j_else (g.else_of d z))) m hx (stmt_stands false y n hy)
        (maybe_some (j_else (g.else_of d z)) (subst (Stands vars before result OkStmt) (sym (else_is d z)) (past_stands vars before result OkStmt 1 (j_stmt z) (stmt_stands c z q hz)))))
    stmt_stands b v ms (g.loop u l x r c y m n hu hl hx hr hy) = subst (Stands vars before result OkStmt) (sym (loop_is u l x r y)) (while_stands x (j_stmt y) m hx (stmt_stands c y n hy))
    stmt_stands b v ms (g.until u c y d l x r t m n hu hy hd hl hx hr ht) = subst (Stands vars before result OkStmt) (sym (until_is u y d l x r t)) (do_stands x (j_stmt y) n hx (stmt_stands c y m hy))
    stmt_stands b v ms (g.count u l i x t z r c y m n w q hu hl hi hx ht hz hr hy) =
        subst (Stands vars before result OkStmt) (sym (count_is u l i x t z r y)) (for_stands i x z (j_stmt y) m n w hi hx hz (stmt_stands c y q hy))
    stmt_stands b v ms (g.break u t i j) =
        subst (Stands vars before result OkStmt) (sym (stmt_break u t)) (jump_stands st.Break (λ l h. fits_break vars before result l ∙ h) declared_break)
    stmt_stands b v ms (g.continue u t i j) =
        subst (Stands vars before result OkStmt) (sym (stmt_continue u t)) (jump_stands st.Continue (λ l h. fits_continue vars before result l ∙ h) declared_continue)
    stmt_stands b v ms (g.return u x t m i j l) = subst (Stands vars before result OkStmt) (sym (stmt_return u x t)) (returned_stands x m j)
