-- Expressions: what is made of one does what it does.
use Rattle.std.proofs.Common.{◌≡◌, ℕ, suc, ◌+◌, ◌<◌, ◌≤◌, Bool, true, List, [], ◌∷◌, ◌++◌, Option, Some, None, length, refl, sym, ap, subst}
use Rattle.std.specs.Prelude.{map, slice_get}
use Rattle.clc_lexer.specs.declared.marks.Mark.{Mark}
use Rattle.q_lane.specs.declared.kinds.Scalar.{Scalar}
use Rattle.q_functions.specs.declared.work.Work.{Work}
use Rattle.q_functions.specs.NumberFunctions.{bytes_of}
use Rattle.clc_types.specs.declared.typed.Builtin.{Builtin as BuiltinName}
use Rattle.clc_types.specs.declared.typed.Ty.{Ty}
use Rattle.clc_types.specs.declared.typed.Var.{Var}
use Rattle.clc_types.specs.declared.typed.TExpr.{TExpr, roll-TExpr}
use Rattle.clc_types.specs.declared.typed.Node.{Node, roll-Node}
use Rattle.clc_types.specs.declared.typed.Node.TheVariants as v
use Rattle.clc_types.specs.declared.typed.Node.TheOpen as e
use Rattle.clc_types.specs.declared.typed.Node.TheOpen.{Node-F, TExpr-F}
use Rattle.clc_types.specs.declared.typed.Node.TheFolds.{fold-Node, fold-roll-TExpr, fold-roll-Node, ind-TExpr, map-TExpr, map-Node}
use Rattle.clc_types.specs.declared.typed.TFunction.{TFunction}
use Rattle.clc_types.specs.WellTyped.{Seen, seen, node_seen, is_variable, is_array_of, is_call, chained as chained_seen}
use Rattle.clc_inline.specs.declared.body.TExpr.{TExpr as BodyExpr, roll-TExpr as roll_body}
use Rattle.clc_inline.specs.declared.body.Node.{Node as BodyNode}
use Rattle.clc_inline.specs.declared.body.Node.TheVariants as bn
use Rattle.clc_inline.specs.Inlining.{Makes, mapped, two, Bodies, scope, node_layer, expr_layer, expr_made, node_made}
use Rattle.item_meaning.specs.declared.values.Value.{Value}
use Rattle.item_meaning.specs.declared.values.Place.{Place}
use Rattle.item_meaning.specs.ItemState.{Goes, then_do}
use Rattle.item_meaning.specs.Operators.{scalar_of, type_after}
use Rattle.item_meaning.specs.NodeMeanings.{Part, variable_place, step_value, assigned_value, operator_value, chain_value, and_values, call_value}
use Rattle.item_meaning.specs.ItemMeaning.{Calls, value_of, place_of}
use Rattle.body_meaning.specs.BodyMeaning.{value_of as body_value, place_of as body_place}
use Rattle.inline_law.proofs.Frames.{Same, SameList, Both, Moved}
use Rattle.inline_law.proofs.Parts.{bind_both, goes_both, number_both, prefix_both, cast_both, conditional_both, variable_both, index_both, cell_both, pointed_both, with_value}
use Rattle.inline_law.proofs.Forms.{read_both, step_both, operator_both, assigned_both, chain_both, builtin_both}
use Rattle.inline_law.proofs.TypedForms as tf
use Rattle.inline_law.proofs.BodyForms as bf
use Rattle.inline_law.proofs.Growing.{and_left, and_right, Begins, begins_same, begins_more, begins_then, roomy, Grows, each_made, listed_each, each_operand, operands_each, both_by, weaker}
use Rattle.inline_law.proofs.Seen.{all_valid, each_valid, value_valid, values_valid, call_valid, chained_first, chained_each}

-- the same arguments, so many
abbrev pub SameMany : ℕ → List Value → List Value → Type 0
SameMany k x y = (x ≡ y) × (length x ≡ k)

module _ (functions : List TFunction) (bodies : Bodies) (base n skip : ℕ) (fvars total : List Var) (before : List TFunction) (result : Option Scalar) (work : Work) (calls : Calls) where
  abbrev pub make : TExpr → Makes BodyExpr
  make = expr_made functions bodies base

  abbrev pub make_node : Node → Makes BodyNode
  make_node = node_made functions bodies base

  abbrev pub see : TExpr → Seen
  see = seen fvars before result

  abbrev see_node : Node → Ty → Seen
  see_node = fold-Node (Ty → Seen) Seen (node_seen fvars before result) (λ x. x.node x.ty)

  abbrev pub part : TExpr → Part Value
  part x = tf.part work calls x

  abbrev pub spot : TExpr → Part Place
  spot x = tf.spot work calls x

  abbrev pub made_part : BodyExpr → Part Value
  made_part x = bf.part work total x

  abbrev pub made_spot : BodyExpr → Part Place
  made_spot x = bf.spot work total x

  abbrev Values : Part Value → Part Value → Type 0
  Values p q = Both n base skip (length total) Same p q

  abbrev Places : Part Place → Part Place → Type 0
  Places p q = Both n base skip (length total) (Moved n base skip (length total)) p q

  -- a node, what is made of it, and what is seen of it
  abbrev Rel : Node → Makes BodyNode → (Ty → Seen) → Type 0
  Rel y M S =
      Grows M × ((t : Ty) (V : List Var) (at : ℕ) → (S t).valid ≡ true → base + n ≤ length V → Begins (M V).vars total
      → Values (value_of work calls at t y) (body_value work total at t (M V).made) × Places (place_of work calls at t y) (body_place work total at t (M V).made))

  abbrev pub RelExpr : TExpr → Makes BodyExpr → Seen → Type 0
  RelExpr x M S =
      Grows M × (((V : List Var) → (M V).made.ty ≡ x.ty) × ((V : List Var) → S.valid ≡ true → base + n ≤ length V → Begins (M V).vars total
      → Values (part x) (made_part (M V).made) × Places (spot x) (made_spot (M V).made)))

  abbrev QNode : Node → Type 0
  QNode y = Rel y (make_node y) (see_node y)

  abbrev pub QExpr : TExpr → Type 0
  QExpr x = RelExpr x (make x) (see x)

  abbrev Sub : Type 0
  Sub = (x : TExpr) × QExpr x

  abbrev SubNode : Type 0
  SubNode = (x : Node) × QNode x

  spent_both : Places (tf.nowhere work calls) (bf.nowhere work total)
  spent_both s t r = tt

  value_by : (p p2 q q2 : Part Value) → p ≡ p2 → q ≡ q2 → Values p2 q2 → Values p q
  value_by p p2 q q2 a b h = both_by n base skip (length total) Same p p2 q q2 a b h

  place_by : (p p2 q q2 : Part Place) → p ≡ p2 → q ≡ q2 → Places p2 q2 → Places p q
  place_by p p2 q q2 a b h = both_by n base skip (length total) (Moved n base skip (length total)) p p2 q q2 a b h

  room_in : (a : Sub) (V : List Var) → base + n ≤ length V → base + n ≤ length (make a.0 V).vars
  room_in a V room = roomy (base + n) V (make a.0 V).vars room (a.1.0 V)

  form_prefix : (o : Mark) (a : Sub) → Rel (v.Prefix o a.0) (node_layer functions bodies base (e.Prefix o (make a.0))) (node_seen fvars before result (e.Prefix o (see a.0)))
  form_prefix o a = (
    a.1.0,
    λ t V at ok room fits.
        let A : BodyExpr = (make a.0 V).made in
        let valid : (see a.0).valid ≡ true = value_valid (see a.0) (and_left _ _ (and_left _ _ ok)) in
        let h = a.1.1.1 V valid room fits in (
          value_by _ _ _ _ (tf.prefix_parts work calls at t o a.0) (bf.prefix_parts work total at t o A) (prefix_both n base skip (length total) o (part a.0) (made_part A) h.0),
          place_by _ _ _ _ (tf.prefix_spot work calls at t o a.0) (bf.prefix_spot work total at t o A) spent_both,
        ),
  )

  form_index : (a b : Sub) → Rel (v.Index a.0 b.0) (node_layer functions bodies base (e.Index (make a.0) (make b.0))) (node_seen fvars before result (e.Index (see a.0) (see b.0)))
  form_index a b = (
    λ V. begins_then V (make a.0 V).vars (make b.0 (make a.0 V).vars).vars (a.1.0 V) (b.1.0 (make a.0 V).vars),
    λ t V at ok room fits.
        let W : List Var = (make a.0 V).vars in
        let A : BodyExpr = (make a.0 V).made in
        let B : BodyExpr = (make b.0 W).made in
        let h = a.1.1.1 V (and_left _ _ (and_left _ _ ok)) room (begins_then W (make b.0 W).vars total (b.1.0 W) fits) in
        let i = b.1.1.1 W (value_valid (see b.0) (and_right _ _ ok)) (room_in a V room) fits in
        let p = index_both n base skip (length total) at (bytes_of (scalar_of t)) (part a.0) (made_part A) (part b.0) (made_part B) h.0 i.0 in (
          value_by _ _ _ _ (tf.index_parts work calls at t a.0 b.0) (bf.index_parts work total at t A B) (read_both n base skip (length total) t _ _ p),
          place_by _ _ _ _ (tf.index_spot work calls at t a.0 b.0) (bf.index_spot work total at t A B) p,
        ),
  )

  -- a form with one part
  one_form : (a : Sub) (y : Node) (f : BodyExpr → BodyNode) (S : Ty → Seen) → ((t : Ty) → (S t).valid ≡ true → (see a.0).valid ≡ true)
      → ((t : Ty) (at : ℕ) (A : BodyExpr) → A.ty ≡ a.0.ty → Values (part a.0) (made_part A) → Places (spot a.0) (made_spot A)
      → Values (value_of work calls at t y) (body_value work total at t (f A)) × Places (place_of work calls at t y) (body_place work total at t (f A)))
      → Rel y (λ V. mapped f (make a.0 V)) S
  one_form a y f S valid go = (
    a.1.0,
    λ t V at ok room fits.
        let h = a.1.1.1 V (valid t ok) room fits in
        go t at (make a.0 V).made (a.1.1.0 V) h.0 h.1,
  )

  form_deref : (a : Sub) → Rel (v.Deref a.0) (node_layer functions bodies base (e.Deref (make a.0))) (node_seen fvars before result (e.Deref (see a.0)))
  form_deref a =
      one_form a (v.Deref a.0) bn.Deref (node_seen fvars before result (e.Deref (see a.0))) (λ t ok. and_left _ _ ok)
      (λ t at A same h i.
      let p = pointed_both n base skip (length total) at (part a.0) (made_part A) h in (
        value_by _ _ _ _ (tf.deref_parts work calls at t a.0) (bf.deref_parts work total at t A) (read_both n base skip (length total) t _ _ p),
        place_by _ _ _ _ (tf.deref_spot work calls at t a.0) (bf.deref_spot work total at t A) p,
      ))

  form_cast : (a : Sub) → Rel (v.Cast a.0) (node_layer functions bodies base (e.Cast (make a.0))) (node_seen fvars before result (e.Cast (see a.0)))
  form_cast a =
      one_form a (v.Cast a.0) bn.Cast (node_seen fvars before result (e.Cast (see a.0))) (λ t ok. value_valid (see a.0) (and_left _ _ ok))
      (λ t at A same h i. (
        value_by _ _ _ _ (tf.cast_parts work calls at t a.0) (bf.cast_parts work total at t A) (cast_both n base skip (length total) t (part a.0) (made_part A) h),
        place_by _ _ _ _ (tf.cast_spot work calls at t a.0) (bf.cast_spot work total at t A) spent_both,
      ))

  form_paren : (a : Sub) → Rel (v.Paren a.0) (node_layer functions bodies base (e.Paren (make a.0))) (node_seen fvars before result (e.Paren (see a.0)))
  form_paren a =
      one_form a (v.Paren a.0) bn.Paren (node_seen fvars before result (e.Paren (see a.0))) (λ t ok. and_left _ _ ok)
      (λ t at A same h i. (
        value_by _ _ _ _ (tf.paren_parts work calls at t a.0) (bf.paren_parts work total at t A) h,
        place_by _ _ _ _ (tf.paren_spot work calls at t a.0) (bf.paren_spot work total at t A) i,
      ))

  form_step : (a : Sub) (up post : Bool) → Rel (v.Step a.0 up post) (node_layer functions bodies base (e.Step (make a.0) up post)) (node_seen fvars before result (e.Step (see a.0) up post))
  form_step a up post =
      one_form a (v.Step a.0 up post) (λ x. bn.Step x up post) (node_seen fvars before result (e.Step (see a.0) up post)) (λ t ok. and_left _ _ (and_left _ _ ok))
      (λ t at A same h i. (
        value_by _ _ _ _ (tf.step_parts work calls at t a.0 up post) (bf.step_parts work total at t A up post)
            (subst (λ T. Values (step_value a.0.ty up post (spot a.0)) (step_value T up post (made_spot A))) (sym same) (step_both n base skip (length total) a.0.ty up post (spot a.0) (made_spot A) i)),
        place_by _ _ _ _ (tf.step_spot work calls at t a.0 up post) (bf.step_spot work total at t A up post) spent_both,
      ))

  form_assign : (a : Sub) (o : Mark) (b : Sub) → Rel (v.Assign a.0 o b.0) (node_layer functions bodies base (e.Assign (make a.0) o (make b.0))) (node_seen fvars before result (e.Assign (see a.0) o (see b.0)))
  form_assign a o b = (
    λ V. begins_then V (make a.0 V).vars (make b.0 (make a.0 V).vars).vars (a.1.0 V) (b.1.0 (make a.0 V).vars),
    λ t V at ok room fits.
        let W : List Var = (make a.0 V).vars in
        let A : BodyExpr = (make a.0 V).made in
        let B : BodyExpr = (make b.0 W).made in
        let three = and_left _ _ (and_left _ _ (and_left _ _ ok)) in
        let h = a.1.1.1 V (and_left _ _ (and_left _ _ three)) room (begins_then W (make b.0 W).vars total (b.1.0 W) fits) in
        let i = b.1.1.1 W (and_right _ _ three) (room_in a V room) fits in (
          value_by _ _ _ _ (tf.assign_parts work calls at t a.0 o b.0) (bf.assign_parts work total at t A o B)
              (subst (λ T. Values (assigned_value a.0.ty o b.0.ty (spot a.0) (part b.0)) (assigned_value T o B.ty (made_spot A) (made_part B))) (sym (a.1.1.0 V))
              (subst (λ T. Values (assigned_value a.0.ty o b.0.ty (spot a.0) (part b.0)) (assigned_value a.0.ty o T (made_spot A) (made_part B))) (sym (b.1.1.0 W))
              (assigned_both n base skip (length total) a.0.ty o b.0.ty (spot a.0) (made_spot A) (part b.0) (made_part B) h.1 i.0))),
          place_by _ _ _ _ (tf.assign_spot work calls at t a.0 o b.0) (bf.assign_spot work total at t A o B) spent_both,
        ),
  )

  form_cond : (a b c : Sub) → Rel (v.Cond a.0 b.0 c.0) (node_layer functions bodies base (e.Cond (make a.0) (make b.0) (make c.0))) (node_seen fvars before result (e.Cond (see a.0) (see b.0) (see c.0)))
  form_cond a b c = (
    λ V. begins_then V (make b.0 (make a.0 V).vars).vars (make c.0 (make b.0 (make a.0 V).vars).vars).vars
        (begins_then V (make a.0 V).vars (make b.0 (make a.0 V).vars).vars (a.1.0 V) (b.1.0 (make a.0 V).vars)) (c.1.0 (make b.0 (make a.0 V).vars).vars),
    λ t V at ok room fits.
        let W : List Var = (make a.0 V).vars in
        let X : List Var = (make b.0 W).vars in
        let A : BodyExpr = (make a.0 V).made in
        let B : BodyExpr = (make b.0 W).made in
        let C : BodyExpr = (make c.0 X).made in
        let three = and_left _ _ ok in
        let fitsX : Begins X total = begins_then X (make c.0 X).vars total (c.1.0 X) fits in
        let fitsW : Begins W total = begins_then W X total (b.1.0 W) fitsX in
        let h = a.1.1.1 V (value_valid (see a.0) (and_left _ _ (and_left _ _ three))) room fitsW in
        let i = b.1.1.1 W (value_valid (see b.0) (and_right _ _ (and_left _ _ three))) (room_in a V room) fitsX in
        let j = c.1.1.1 X (value_valid (see c.0) (and_right _ _ three)) (room_in b W (room_in a V room)) fits in (
          value_by _ _ _ _ (tf.cond_parts work calls at t a.0 b.0 c.0) (bf.cond_parts work total at t A B C)
              (conditional_both n base skip (length total) (part a.0) (made_part A) (part b.0) (made_part B) (part c.0) (made_part C) h.0 i.0 j.0),
          place_by _ _ _ _ (tf.cond_spot work calls at t a.0 b.0 c.0) (bf.cond_spot work total at t A B C) spent_both,
        ),
  )

  form_number : (w : ℕ) → Rel (v.Number w) (node_layer functions bodies base (e.Number w)) (node_seen fvars before result (e.Number w))
  form_number w = (λ V. begins_same V, λ t V at ok room fits. (number_both n base skip (length total) w, spent_both))

  -- ---- lists of parts

  abbrev makes : List Sub → List (Makes BodyExpr)
  makes xs = map make (map (λ x. x.0) xs)

  abbrev sees : List Sub → List Seen
  sees xs = map see (map (λ x. x.0) xs)

  args_grow : (xs : List Sub) → Grows (each_made (makes xs))
  args_grow [] V = begins_same V
  args_grow (x ∷ xs) V = begins_then V (make x.0 V).vars (each_made (makes xs) (make x.0 V).vars).vars (x.1.0 V) (args_grow xs (make x.0 V).vars)

  more_many : (k : ℕ) (p q : Part Value) (f g : Part (List Value)) → Values p q → Both n base skip (length total) (SameMany k) f g → Both n base skip (length total) (SameMany (suc k)) (and_values p f) (and_values q g)
  more_many k p q f g h i =
      with_value n base skip (length total) (SameMany (suc k)) p q (λ x t. then_do (f t) (λ xs u. Goes (x ∷ xs) u)) (λ x t. then_do (g t) (λ xs u. Goes (x ∷ xs) u)) h
      (λ x s t r. bind_both n base skip (length total) (SameMany k) (SameMany (suc k)) t (f s) (g t) (λ xs u. Goes (x ∷ xs) u) (λ xs u. Goes (x ∷ xs) u) (i s t r)
      (λ a c e. goes_both n base skip (length total) (SameMany (suc k)) (x ∷ a) (x ∷ c) (ap (λ z. x ∷ z) e.0, ap suc e.1)))

  args_both : (xs : List Sub) (V : List Var) → all_valid (sees xs) ≡ true → base + n ≤ length V → Begins (each_made (makes xs) V).vars total
      → Both n base skip (length total) (SameMany (length (sees xs))) (tf.parts work calls (map (λ x. x.0) xs)) (bf.parts work total (each_made (makes xs) V).made)
  args_both [] V ok room fits = goes_both n base skip (length total) (SameMany 0) [] [] (refl, refl)
  args_both (x ∷ xs) V ok room fits =
      let W : List Var = (make x.0 V).vars in
      let h = x.1.1.1 V (and_left (see x.0).valid (all_valid (sees xs)) ok) room (begins_then W (each_made (makes xs) W).vars total (args_grow xs W) fits) in
      more_many (length (sees xs)) (part x.0) (made_part (make x.0 V).made) (tf.parts work calls (map (λ y. y.0) xs)) (bf.parts work total (each_made (makes xs) W).made) h.0
      (args_both xs W (and_right (see x.0).valid (all_valid (sees xs)) ok) (room_in x V room) fits)

  form_builtin : (b : BuiltinName) (w : Scalar) (xs : List Sub) → Rel (v.Builtin b w (map (λ x. x.0) xs)) (λ V. mapped (bn.Builtin b w) (each_made (makes xs) V)) (node_seen fvars before result (e.Builtin b w (sees xs)))
  form_builtin b w xs = (
    args_grow xs,
    λ t V at ok room fits.
        let l : List BodyExpr = (each_made (makes xs) V).made in
        let valid : all_valid (sees xs) ≡ true = values_valid (sees xs) (and_right _ _ (and_left _ _ (and_left _ _ ok))) in (
          value_by _ _ _ _ (tf.builtin_parts work calls at t b w (map (λ x. x.0) xs)) (bf.builtin_parts work total at t b w l)
              (builtin_both n base skip (length total) work b w (tf.parts work calls (map (λ x. x.0) xs)) (bf.parts work total l)
              (weaker n base skip (length total) (SameMany (length (sees xs))) SameList _ _ (λ a c e. e.0) (args_both xs V valid room fits))),
          place_by _ _ _ _ (tf.builtin_spot work calls at t b w (map (λ x. x.0) xs)) (bf.builtin_spot work total at t b w l) spent_both,
        ),
  )

  -- ---- chains

  abbrev first_of : Mark × Sub → Mark × TExpr
  first_of x = (x.0, x.1.0)

  abbrev make_second : Mark × TExpr → Mark × Makes BodyExpr
  make_second x = (x.0, make x.1)

  abbrev see_second : Mark × TExpr → Mark × Seen
  see_second x = (x.0, see x.1)

  abbrev ops : List (Mark × Sub) → List (Mark × Makes BodyExpr)
  ops xs = map make_second (map first_of xs)

  ops_grow : (xs : List (Mark × Sub)) → Grows (each_operand (ops xs))
  ops_grow [] V = begins_same V
  ops_grow (x ∷ xs) V = begins_then V (make x.1.0 V).vars (each_operand (ops xs) (make x.1.0 V).vars).vars (x.1.1.0 V) (ops_grow xs (make x.1.0 V).vars)

  ops_many : (xs : List (Mark × Sub)) (V : List Var) → length (map first_of xs) ≡ length (each_operand (ops xs) V).made
  ops_many [] V = refl
  ops_many (x ∷ xs) V = ap suc (ops_many xs (make x.1.0 V).vars)

  ops_both : (a : Ty) (xs : List (Mark × Sub)) (V : List Var) → each_valid (map see_second (map first_of xs)) ≡ true → base + n ≤ length V → Begins (each_operand (ops xs) V).vars total
      → (x : Value) → Values (tf.steps work calls a (map first_of xs) x) (bf.steps work total a (each_operand (ops xs) V).made x)
  ops_both a [] V ok room fits x = goes_both n base skip (length total) Same x x refl
  ops_both a (y ∷ ys) V ok room fits x =
      let W : List Var = (make y.1.0 V).vars in
      let A : BodyExpr = (make y.1.0 V).made in
      let more : List (Mark × BodyExpr) = (each_operand (ops ys) W).made in
      let h = y.1.1.1.1 V (and_left (see y.1.0).valid (each_valid (map see_second (map first_of ys))) ok) room (begins_then W (each_operand (ops ys) W).vars total (ops_grow ys W) fits) in
      subst (λ T. Values (λ s. then_do (operator_value a y.0 y.1.0.ty x (part y.1.0) s) (tf.steps work calls (type_after y.0 a y.1.0.ty) (map first_of ys)))
      (λ s. then_do (operator_value a y.0 T x (made_part A) s) (bf.steps work total (type_after y.0 a T) more))) (sym (y.1.1.1.0 V))
      (with_value n base skip (length total) Same (operator_value a y.0 y.1.0.ty x (part y.1.0)) (operator_value a y.0 y.1.0.ty x (made_part A))
      (tf.steps work calls (type_after y.0 a y.1.0.ty) (map first_of ys)) (bf.steps work total (type_after y.0 a y.1.0.ty) more)
      (operator_both n base skip (length total) a y.0 y.1.0.ty x (part y.1.0) (made_part A) h.0)
      (λ z. ops_both (type_after y.0 a y.1.0.ty) ys W (and_right (see y.1.0).valid (each_valid (map see_second (map first_of ys))) ok) (room_in y.1 V room) fits z))

  form_chain : (a : Sub) (xs : List (Mark × Sub)) → Rel (v.Chain a.0 (map first_of xs)) (λ V. two bn.Chain (make a.0 V) (each_operand (ops xs))) (node_seen fvars before result (e.Chain (see a.0) (map see_second (map first_of xs))))
  form_chain a xs = (
    λ V. begins_then V (make a.0 V).vars (each_operand (ops xs) (make a.0 V).vars).vars (a.1.0 V) (ops_grow xs (make a.0 V).vars),
    λ t V at ok room fits.
        let W : List Var = (make a.0 V).vars in
        let A : BodyExpr = (make a.0 V).made in
        let l : List (Mark × BodyExpr) = (each_operand (ops xs) W).made in
        let more : List (Mark × Seen) = map see_second (map first_of xs) in
        let valid : (chained_seen (see a.0) more).valid ≡ true = and_left _ _ ok in
        let h = a.1.1.1 V (chained_first (see a.0) more valid) room (begins_then W (each_operand (ops xs) W).vars total (ops_grow xs W) fits) in (
          value_by _ _ _ _ (tf.chain_parts work calls at t a.0 (map first_of xs)) (bf.chain_parts work total at t A l)
              (subst (λ k. Values (chain_value (length (map first_of xs)) (part a.0) (tf.steps work calls a.0.ty (map first_of xs))) (chain_value k (made_part A) (bf.steps work total A.ty l))) (ops_many xs W)
              (subst (λ T. Values (chain_value (length (map first_of xs)) (part a.0) (tf.steps work calls a.0.ty (map first_of xs))) (chain_value (length (map first_of xs)) (made_part A) (bf.steps work total T l))) (sym (a.1.1.0 V))
              (chain_both n base skip (length total) (length (map first_of xs)) (part a.0) (made_part A) (tf.steps work calls a.0.ty (map first_of xs)) (bf.steps work total a.0.ty l) h.0
              (ops_both a.0.ty xs W (chained_each (see a.0) more valid) (room_in a V room) fits)))),
          place_by _ _ _ _ (tf.chain_spot work calls at t a.0 (map first_of xs)) (bf.chain_spot work total at t A l) spent_both,
        ),
  )

  -- ---- variables and calls

  abbrev pub Names : Type 0
  Names = (u : ℕ) (t : Ty) → is_variable (slice_get fvars u) t ≡ true → u < n

  abbrev pub Cells : Type 0
  Cells = (u : ℕ) (t : Ty) → is_array_of (slice_get fvars u) t ≡ true → (u < n) × (skip ≤ u)

  abbrev pub BodiesGrow : Type 0
  BodiesGrow = (k b : ℕ) (V : List Var) → Begins V (bodies k b V).vars

  -- a scope does what the call does
  abbrev pub Runs : Type 0
  Runs = (f : ℕ) (t : Ty) (xs : List Seen) (p : Part (List Value)) (V : List Var) (l : List BodyExpr) (at : ℕ) → is_call (slice_get before f) xs t ≡ true → base + n ≤ length V
      → Begins (scope bodies f (slice_get functions f) l V).vars total → Both n base skip (length total) (SameMany (length xs)) p (bf.parts work total l)
      → Values (call_value p (calls f)) (body_value work total at t (scope bodies f (slice_get functions f) l V).made)

  scope_grows : BodiesGrow → (f : ℕ) (o : Option TFunction) (l : List BodyExpr) (V : List Var) → Begins V (scope bodies f o l V).vars
  scope_grows grow f None l V = begins_same V
  scope_grows grow f (Some g) l V = begins_then V (V ++ g.vars) (bodies f (length V) (V ++ g.vars)).vars (begins_more V g.vars) (grow f (length V) (V ++ g.vars))

  scope_spot : (at : ℕ) (t : Ty) (f : ℕ) (o : Option TFunction) (l : List BodyExpr) (V : List Var) → body_place work total at t (scope bodies f o l V).made ≡ bf.nowhere work total
  scope_spot at t f None l V = refl
  scope_spot at t f (Some g) l V = refl

  module _ (names : Names) (cells : Cells) (grow : BodiesGrow) (runs : Runs) where
    form_name : (u : ℕ) → Rel (v.Name u) (node_layer functions bodies base (e.Name u)) (node_seen fvars before result (e.Name u))
    form_name u = (
      λ V. begins_same V,
      λ t V at ok room fits.
          let p = variable_both n base skip (length total) u (names u t ok) in
          (read_both n base skip (length total) t (variable_place u) (variable_place (base + u)) p, p),
    )

    form_element : (u : ℕ) (a : Sub) → Rel (v.Element u a.0) (node_layer functions bodies base (e.Element u (make a.0))) (node_seen fvars before result (e.Element u (see a.0)))
    form_element u a = (
      a.1.0,
      λ t V at ok room fits.
          let A : BodyExpr = (make a.0 V).made in
          let h = a.1.1.1 V (value_valid (see a.0) (and_right _ _ ok)) room fits in
          let c = cells u t (and_left _ _ ok) in
          let p = cell_both n base skip (length total) at u (part a.0) (made_part A) c.0 c.1 h.0 in (
            value_by _ _ _ _ (tf.element_parts work calls at t u a.0) (bf.element_parts work total at t (base + u) A) (read_both n base skip (length total) t _ _ p),
            place_by _ _ _ _ (tf.element_spot work calls at t u a.0) (bf.element_spot work total at t (base + u) A) p,
          ),
    )

    form_call : (f : ℕ) (xs : List Sub) → Rel (v.Call f (map (λ x. x.0) xs)) (λ V. scope bodies f (slice_get functions f) (each_made (makes xs) V).made (each_made (makes xs) V).vars) (node_seen fvars before result (e.Call f (sees xs)))
    form_call f xs = (
      λ V. begins_then V (each_made (makes xs) V).vars (scope bodies f (slice_get functions f) (each_made (makes xs) V).made (each_made (makes xs) V).vars).vars (args_grow xs V)
          (scope_grows grow f (slice_get functions f) (each_made (makes xs) V).made (each_made (makes xs) V).vars),
      λ t V at ok room fits.
          let l : List BodyExpr = (each_made (makes xs) V).made in
          let W : List Var = (each_made (makes xs) V).vars in
          let h = args_both xs V (call_valid (slice_get before f) (sees xs) t ok) room (begins_then W (scope bodies f (slice_get functions f) l W).vars total (scope_grows grow f (slice_get functions f) l W) fits) in (
            value_by _ _ _ _ (tf.call_parts work calls at t f (map (λ x. x.0) xs)) refl (runs f t (sees xs) (tf.parts work calls (map (λ x. x.0) xs)) W l at ok (roomy (base + n) V W room (args_grow xs V)) fits h),
            place_by _ _ _ _ (tf.call_spot work calls at t f (map (λ x. x.0) xs)) (scope_spot at t f (slice_get functions f) l W) spent_both,
          ),
    )

    at_roll : (x y : Node) (M : Makes BodyNode) (S : Ty → Seen) → x ≡ y → Rel x M S → Rel y M S
    at_roll x y M S h r = subst (λ z. Rel z M S) h r

    made_so : (x : Node) (M N : Makes BodyNode) (S : Ty → Seen) → M ≡ N → Rel x M S → Rel x N S
    made_so x M N S h r = subst (λ z. Rel x z S) h r

    seen_so : (x : Node) (M : Makes BodyNode) (S T : Ty → Seen) → S ≡ T → Rel x M S → Rel x M T
    seen_so x M S T h r = subst (λ z. Rel x M z) h r

    layer : (y : Node-F SubNode Sub)
        → Rel (roll-Node (map-Node _ _ _ _ (λ x. x.0) (λ x. x.0) y))
        (node_layer functions bodies base (map-Node _ _ _ _ make_node make (map-Node _ _ _ _ (λ x. x.0) (λ x. x.0) y)))
        (node_seen fvars before result (map-Node _ _ _ _ see_node see (map-Node _ _ _ _ (λ x. x.0) (λ x. x.0) y)))
    layer (e.Number w) =
        at_roll (v.Number w) (roll-Node (e.Number w)) (node_layer functions bodies base (e.Number w)) (node_seen fvars before result (e.Number w)) (sym (v.rolls-Number w)) (form_number w)
    layer (e.Name u) =
        at_roll (v.Name u) (roll-Node (e.Name u)) (node_layer functions bodies base (e.Name u)) (node_seen fvars before result (e.Name u)) (sym (v.rolls-Name u)) (form_name u)
    layer (e.Index a b) =
        at_roll (v.Index a.0 b.0) (roll-Node (e.Index a.0 b.0)) (node_layer functions bodies base (e.Index (make a.0) (make b.0))) (node_seen fvars before result (e.Index (see a.0) (see b.0))) (sym (v.rolls-Index a.0 b.0)) (form_index a b)
    layer (e.Element u b) =
        at_roll (v.Element u b.0) (roll-Node (e.Element u b.0)) (node_layer functions bodies base (e.Element u (make b.0))) (node_seen fvars before result (e.Element u (see b.0))) (sym (v.rolls-Element u b.0)) (form_element u b)
    layer (e.Deref a) =
        at_roll (v.Deref a.0) (roll-Node (e.Deref a.0)) (node_layer functions bodies base (e.Deref (make a.0))) (node_seen fvars before result (e.Deref (see a.0))) (sym (v.rolls-Deref a.0)) (form_deref a)
    layer (e.Prefix o a) =
        at_roll (v.Prefix o a.0) (roll-Node (e.Prefix o a.0)) (node_layer functions bodies base (e.Prefix o (make a.0))) (node_seen fvars before result (e.Prefix o (see a.0))) (sym (v.rolls-Prefix o a.0)) (form_prefix o a)
    layer (e.Step a up post) =
        at_roll (v.Step a.0 up post) (roll-Node (e.Step a.0 up post)) (node_layer functions bodies base (e.Step (make a.0) up post)) (node_seen fvars before result (e.Step (see a.0) up post)) (sym (v.rolls-Step a.0 up post)) (form_step a up post)
    layer (e.Cast a) =
        at_roll (v.Cast a.0) (roll-Node (e.Cast a.0)) (node_layer functions bodies base (e.Cast (make a.0))) (node_seen fvars before result (e.Cast (see a.0))) (sym (v.rolls-Cast a.0)) (form_cast a)
    layer (e.Paren a) =
        at_roll (v.Paren a.0) (roll-Node (e.Paren a.0)) (node_layer functions bodies base (e.Paren (make a.0))) (node_seen fvars before result (e.Paren (see a.0))) (sym (v.rolls-Paren a.0)) (form_paren a)
    layer (e.Chain a xs) =
        at_roll (v.Chain a.0 (map first_of xs)) (roll-Node (e.Chain a.0 (map first_of xs))) (node_layer functions bodies base (e.Chain (make a.0) (ops xs))) (node_seen fvars before result (e.Chain (see a.0) (map see_second (map first_of xs)))) (sym (v.rolls-Chain a.0 (map first_of xs))) (made_so (v.Chain a.0 (map first_of xs)) (λ V. two bn.Chain (make a.0 V) (each_operand (ops xs))) (node_layer functions bodies base (e.Chain (make a.0) (ops xs))) (node_seen fvars before result (e.Chain (see a.0) (map see_second (map first_of xs)))) (ap {B = Makes BodyNode} (λ (z : Makes (List (Mark × BodyExpr))) (V : List Var). two bn.Chain (make a.0 V) z) (sym (operands_each (ops xs)))) (form_chain a xs))
    layer (e.Cond a b c) =
        at_roll (v.Cond a.0 b.0 c.0) (roll-Node (e.Cond a.0 b.0 c.0)) (node_layer functions bodies base (e.Cond (make a.0) (make b.0) (make c.0))) (node_seen fvars before result (e.Cond (see a.0) (see b.0) (see c.0))) (sym (v.rolls-Cond a.0 b.0 c.0)) (form_cond a b c)
    layer (e.Assign a o b) =
        at_roll (v.Assign a.0 o b.0) (roll-Node (e.Assign a.0 o b.0)) (node_layer functions bodies base (e.Assign (make a.0) o (make b.0))) (node_seen fvars before result (e.Assign (see a.0) o (see b.0))) (sym (v.rolls-Assign a.0 o b.0)) (form_assign a o b)
    layer (e.Call f xs) =
        at_roll (v.Call f (map (λ x. x.0) xs)) (roll-Node (e.Call f (map (λ x. x.0) xs))) (node_layer functions bodies base (e.Call f (makes xs))) (node_seen fvars before result (e.Call f (sees xs))) (sym (v.rolls-Call f (map (λ x. x.0) xs))) (made_so (v.Call f (map (λ x. x.0) xs)) (λ V. scope bodies f (slice_get functions f) (each_made (makes xs) V).made (each_made (makes xs) V).vars) (node_layer functions bodies base (e.Call f (makes xs))) (node_seen fvars before result (e.Call f (sees xs))) (ap {B = Makes BodyNode} (λ (z : Makes (List BodyExpr)) (V : List Var). scope bodies f (slice_get functions f) (z V).made (z V).vars) (sym (listed_each (makes xs)))) (form_call f xs))
    layer (e.Builtin b w xs) =
        at_roll (v.Builtin b w (map (λ x. x.0) xs)) (roll-Node (e.Builtin b w (map (λ x. x.0) xs))) (node_layer functions bodies base (e.Builtin b w (makes xs))) (node_seen fvars before result (e.Builtin b w (sees xs))) (sym (v.rolls-Builtin b w (map (λ x. x.0) xs))) (made_so (v.Builtin b w (map (λ x. x.0) xs)) (λ V. mapped (bn.Builtin b w) (each_made (makes xs) V)) (node_layer functions bodies base (e.Builtin b w (makes xs))) (node_seen fvars before result (e.Builtin b w (sees xs))) (ap {B = Makes BodyNode} (λ (z : Makes (List BodyExpr)) (V : List Var). mapped (bn.Builtin b w) (z V)) (sym (listed_each (makes xs)))) (form_builtin b w xs))

    rolled_node : (x : Node-F Node TExpr) (y : Node-F SubNode Sub) → map-Node _ _ _ _ (λ z. z.0) (λ z. z.0) y ≡ x → QNode (roll-Node x)
    rolled_node x y is =
        subst (λ z. QNode (roll-Node z)) is
        (let z : Node-F Node TExpr = map-Node _ _ _ _ (λ w. w.0) (λ w. w.0) y in
        made_so (roll-Node z) (node_layer functions bodies base (map-Node _ _ _ _ make_node make z)) (make_node (roll-Node z)) (see_node (roll-Node z)) (sym (fold-roll-Node (Makes BodyNode) (Makes BodyExpr) (node_layer functions bodies base) (expr_layer functions bodies base) z))
        (seen_so (roll-Node z) (node_layer functions bodies base (map-Node _ _ _ _ make_node make z)) (node_seen fvars before result (map-Node _ _ _ _ see_node see z)) (see_node (roll-Node z)) (sym (fold-roll-Node (Ty → Seen) Seen (node_seen fvars before result) (λ w. w.node w.ty) z)) (layer y)))

    expr_form : (y : TExpr-F SubNode Sub) → RelExpr (roll-TExpr (map-TExpr _ _ _ _ (λ z. z.0) (λ z. z.0) y)) (λ V. mapped (λ z. roll_body (record { at = y.at; ty = y.ty; node = z })) (make_node y.node.0 V)) (see_node y.node.0 y.ty)
    expr_form y = (y.node.1.0, (λ V. refl, λ V ok room fits. y.node.1.1 y.ty V y.at ok room fits))

    rolled_expr : (x : TExpr-F Node TExpr) (y : TExpr-F SubNode Sub) → map-TExpr _ _ _ _ (λ z. z.0) (λ z. z.0) y ≡ x → QExpr (roll-TExpr x)
    rolled_expr x y is =
        subst (λ z. QExpr (roll-TExpr z)) is
        (let z : TExpr-F Node TExpr = map-TExpr _ _ _ _ (λ w. w.0) (λ w. w.0) y in
        subst (λ M. RelExpr (roll-TExpr z) M (see (roll-TExpr z))) (sym (fold-roll-TExpr (Makes BodyNode) (Makes BodyExpr) (node_layer functions bodies base) (expr_layer functions bodies base) z))
        (subst (λ S. RelExpr (roll-TExpr z) (λ V. mapped (λ w. roll_body (record { at = y.at; ty = y.ty; node = w })) (make_node y.node.0 V)) S)
        (sym (fold-roll-TExpr (Ty → Seen) Seen (node_seen fvars before result) (λ w. w.node w.ty) z)) (expr_form y)))

    -- every expression
    pub expr_related : (x : TExpr) → QExpr x
    expr_related = ind-TExpr QNode QExpr rolled_node rolled_expr
