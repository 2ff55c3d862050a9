-- Each form that an expression's operands make is well typed, where the rules find no fault.
use Rattle.std.proofs.Common.{◌≡◌, ℕ, Bool, true, false, not, ◌&&◌, ◌||◌, List, [], ◌∷◌, ◌++◌, Option, Some, slice_get, refl, sym, ap, ap₂, ◌∙◌, subst, true≢false}
use Rattle.std.specs.Prelude.{map}
use Rattle.clc_lexer.specs.declared.token.Token.{Token}
use Rattle.clc_lexer.specs.declared.marks.Mark.{Mark}
use Rattle.clc_lexer.specs.declared.marks.Mark.TheVariants as m
use Rattle.clc_tree.specs.declared.expressions.Scalar.{Scalar as Written}
use Rattle.q_lane.specs.declared.kinds.Scalar.{Scalar}
use Rattle.q_lane.specs.declared.kinds.Scalar.TheVariants.{Int, Uint}
use Rattle.clc_types.specs.declared.type_rule.TypeRule.TheVariants.{S3, S4, S5, S12}
use Rattle.clc_types.specs.declared.typed.Ty.TheVariants as ty
use Rattle.clc_types.specs.declared.typed.Var.{Var}
use Rattle.clc_types.specs.declared.typed.Var.TheVariants as var
use Rattle.clc_types.specs.declared.typed.Node.{Node}
use Rattle.clc_types.specs.declared.typed.Node.TheVariants as n
use Rattle.clc_types.specs.declared.typed.TExpr.{TExpr}
use Rattle.clc_types.specs.declared.typed.TFunction.{TFunction}
use Rattle.clc_types.specs.declared.forms.Shape.{Shape}
use Rattle.clc_types.specs.declared.forms.Shape.TheVariants as shape
use Rattle.clc_types.specs.declared.forms.Kind.{Kind}
use Rattle.clc_types.specs.declared.forms.Kind.TheVariants as k
use Rattle.clc_types.specs.declared.forms.Place.{Place}
use Rattle.clc_types.specs.declared.forms.Place.TheVariants as place
use Rattle.clc_types.specs.declared.forms.Form.{Form}
use Rattle.clc_types.specs.declared.forms.Sofar.{Sofar}
use Rattle.clc_types.specs.Words.{mark_of, value_of, is_unsigned, is_increment, type_of}
use Rattle.clc_types.specs.Rules.{is_void, is_array as is_array_kind, is_nowhere, is_constant, is_locked, place_if, var_of, ty_of, int_or_uint, scalar_needed, indexed_needed, pointer_needed, step_needs, index_needs, operands_needed, operator_of, result_of, prefix_kind, common, scalar_of, conditional_needs, assigned_needed, value_needed}
use Rattle.clc_types.specs.Typing.{expr_of, at_of, plain, number_form, variable_form, paren_form, index_form, deref_form, post_form, step_form, prefix_form, cast_form, first_of_chain, further, chain_form, conditional_form, assign_form}
use Rattle.clc_types.specs.WellTyped.{Seen, is_number, is_value, is_open, same_type, points_to, kind_of_type, is_prefix, is_operator, is_assignment, takes, assigns, is_variable, is_array_of, combined, chained, seen_value, seen_place, seen}
use Rattle.clc_well_typed.proofs.Judging.{append_none, not_violated, yes, yes3, yes4, yes6}
use Rattle.clc_well_typed.proofs.Taken.{same_self, scalar_kept, result_kept, scalar_found, taken, taken_plain, writable, assigned}
use Rattle.clc_well_typed.proofs.TypedNodes.{each_seen, seen_number, seen_name, seen_index, seen_element, seen_deref, seen_prefix, seen_step, seen_cast, seen_paren, seen_chain, seen_cond, seen_assign}

-- what is seen of an expression of this kind that is this place
pub record Reads (t : Kind) (at : Place) (x : Seen) : Type 0 where
  pub typed : x.ty ≡ ty_of t
  pub place : at ≡ place.Writable → x.place ≡ true
  pub valid : x.valid ≡ true

pub nowhere : {A : Type 0} → place.Nowhere ≡ place.Writable → A
nowhere h = absurd (cc)

pub as_value : (t : Kind) (at : Place) (x : Seen) → Reads t at x → Reads t place.Nowhere x
as_value t at x r = record { typed = r.typed; place = λ h. nowhere h; valid = r.valid }

value_reads : (t : Kind) (v : Bool) → v ≡ true → Reads t place.Nowhere (seen_value (ty_of t) v)
value_reads t v h = record { typed = refl; place = λ i. nowhere i; valid = h }

place_reads : (t : Kind) (at : Place) (p v : Bool) → (at ≡ place.Writable → p ≡ true) → v ≡ true → Reads t at (seen_place (ty_of t) p v)
place_reads t at p v h i = record { typed = refl; place = h; valid = i }

open_if : (b : Bool) → place_if b ≡ place.Writable → not b ≡ true
open_if true h = absurd (cc)
open_if false h = refl

literal : (b : Bool) → same_type (ty.Value (int_or_uint b)) (ty.Value Int) || same_type (ty.Value (int_or_uint b)) (ty.Value Uint) ≡ true
literal true = refl
literal false = refl

prefix_plain : (o : Mark) (t : Kind) → is_array_kind (prefix_kind o t) ≡ false
prefix_plain m.Bang t = refl
prefix_plain o t = refl

-- the operand of `++` or `--`
record Stepped (t : Kind) (at : Place) : Type 0 where
  pub array : is_array_kind t ≡ false
  pub place : at ≡ place.Writable

stepped : (q : ℕ) (x : Form) → step_needs q x ≡ [] → Stepped x.kind x.place
stepped q x h =
    let e0 = not_violated q S3 (is_void x.kind) _ h in
    let e1 = not_violated q S4 (is_nowhere x.place) _ e0.1 in
    let e2 = not_violated q S5 (is_constant x.place) _ e1.1 in
    let e3 = not_violated q S12 (is_array_kind x.kind) [] e2.1 in
    record { array = e3.0; place = writable x.place e1.0 e2.0 }

pub chained_last : (a : Seen) (xs : List (Mark × Seen)) (x : Mark × Seen) → chained a (xs ++ x ∷ []) ≡ combined (chained a xs) x
chained_last a [] x = refl
chained_last a (y ∷ ys) x = chained_last (combined a y) ys x

pub map_last : {A B : Type 0} (f : A → B) (xs : List A) (x : A) → map f (xs ++ x ∷ []) ≡ map f xs ++ f x ∷ []
map_last f [] x = refl
map_last f (y ∷ ys) x = ap (λ z. f y ∷ z) (map_last f ys x)

module _ (vars : List Var) (before : List TFunction) (result : Option Scalar) where
  -- an array's number names one
  abbrev pub Cell : Kind → Type 0
  Cell (k.Array v g) = (n : ℕ) × (slice_get vars v ≡ Some (var.Array g n))
  Cell _ = Unit {0}

  pub no_cell : (t : Kind) → is_array_kind t ≡ false → Cell t
  no_cell k.Void h = tt
  no_cell (k.Value s) h = tt
  no_cell (k.Pointer z c g) h = tt
  no_cell (k.Array v g) h = absurd (true≢false h)

  pub record Sound (x : Form) : Type 0 where
    pub cell : Cell x.kind
    pub fine : is_array_kind x.kind ≡ false → Reads x.kind x.place (seen vars before result x.expr)

  -- a number
  pub record Number (x : Form) : Type 0 where
    pub scalar : Scalar
    pub kind : x.kind ≡ k.Value scalar
    pub reads : Reads x.kind x.place (seen vars before result x.expr)
    pub value : is_value (seen vars before result x.expr) ≡ true

  pub number_read : (q : ℕ) (x : Form) → scalar_needed q x.kind ≡ [] → Sound x → Number x
  number_read q x e h =
      let f = scalar_found q x.kind e in
      let r = h.fine (ap is_array_kind f.1) in
      record { scalar = f.0; kind = f.1; reads = r; value = yes r.valid (ap is_number (r.typed ∙ ap ty_of f.1)) }

  pub plain_sound : (a : ℕ) (t : Kind) (x : Node) (v : Bool) → is_array_kind t ≡ false → seen vars before result (expr_of a t x) ≡ seen_value (ty_of t) v → v ≡ true → Sound (plain a t x)
  plain_sound a t x v p h i = record { cell = no_cell t p; fine = λ q. subst (Reads t place.Nowhere) (sym h) (value_reads t v i) }

  place_sound : (a : ℕ) (t : Kind) (at : Place) (x : Node) (p v : Bool) → is_array_kind t ≡ false → seen vars before result (expr_of a t x) ≡ seen_place (ty_of t) p v → (at ≡ place.Writable → p ≡ true) → v ≡ true
      → Sound (record { expr = expr_of a t x; kind = t; place = at })
  place_sound a t at x p v c h i j = record { cell = no_cell t c; fine = λ q. subst (Reads t at) (sym h) (place_reads t at p v i j) }

  pub number_sound : (t : Token) → Sound (number_form t)
  number_sound t = let s = k.Value (int_or_uint (is_unsigned t)) in plain_sound t.from s (n.Number (value_of t)) _ refl (seen_number vars before result t.from s (value_of t)) (literal (is_unsigned t))

  pub variable_sound : (t : Token) (v : ℕ) (s : Shape) → slice_get vars v ≡ Some (var_of s) → Sound (variable_form t v s)
  variable_sound t v (shape.Value s f) h =
      place_sound t.from (k.Value s) (place_if f) (n.Name v) true _ refl (seen_name vars before result t.from (k.Value s) v) (λ i. refl) (ap (λ z. is_variable z (ty.Value s)) h ∙ same_self (ty.Value s))
  variable_sound t v (shape.Pointer z c g f) h =
      place_sound t.from (k.Pointer z c g) (place_if f) (n.Name v) true _ refl (seen_name vars before result t.from (k.Pointer z c g) v) (λ i. refl) (ap (λ x. is_variable x (ty.Pointer g (is_locked z c))) h ∙ same_self (ty.Pointer g (is_locked z c)))
  variable_sound t v (shape.Array g l f) h = record { cell = (l, h); fine = λ i. absurd (true≢false i) }

  pub paren_sound : (t : Token) (x : Form) → Sound x → Sound (paren_form t x)
  paren_sound t x h = record {
    cell = h.cell;
    fine = λ p.
        let r = h.fine p in
        subst (Reads x.kind x.place) (sym (seen_paren vars before result t.from x.kind x.expr))
        (place_reads x.kind x.place (seen vars before result x.expr).place ((seen vars before result x.expr).valid && same_type (ty_of x.kind) (seen vars before result x.expr).ty) r.place (yes r.valid (ap (same_type (ty_of x.kind)) r.typed ∙ same_self (ty_of x.kind))));
  }

  index_by : (t : Kind) (at : Place) (x : TExpr) (p q : ℕ) (y : Form) → index_needs p (record { expr = x; kind = t; place = at }) q y ≡ [] → Sound (record { expr = x; kind = t; place = at }) → Sound y
      → Sound (index_form (record { expr = x; kind = t; place = at }) y)
  index_by k.Void at x p q y e h i = absurd (cc)
  index_by (k.Value s) at x p q y e h i = absurd (cc)
  index_by (k.Pointer z c g) at x p q y e h i =
      let a = h.fine refl in
      let b = number_read q y (append_none (indexed_needed p (k.Pointer z c g)) (scalar_needed q y.kind) e).1 i in
      place_sound (at_of x) (k.Value g) (place_if (is_locked z c)) (n.Index x y.expr) (is_open (seen vars before result x).ty) _ refl (seen_index vars before result (at_of x) (k.Value g) x y.expr)
      (λ w. ap is_open a.typed ∙ open_if (is_locked z c) w) (yes3 a.valid (ap (λ u. points_to u (ty.Value g)) a.typed ∙ same_self (ty.Value g)) b.value)
  index_by (k.Array v g) at x p q y e h i =
      let b = number_read q y (append_none (indexed_needed p (k.Array v g)) (scalar_needed q y.kind) e).1 i in
      place_sound (at_of x) (k.Value g) at (n.Element v y.expr) true _ refl (seen_element vars before result (at_of x) (k.Value g) v y.expr) (λ w. refl)
      (yes (ap (λ u. is_array_of u (ty.Value g)) h.cell.1 ∙ same_self (ty.Value g)) b.value)

  pub index_sound : (p q : ℕ) (x y : Form) → index_needs p x q y ≡ [] → Sound x → Sound y → Sound (index_form x y)
  index_sound p q x y e h i = index_by x.kind x.place x.expr p q y e h i

  deref_by : (t : Token) (q : ℕ) (s : Kind) (at : Place) (x : TExpr) → pointer_needed q s ≡ [] → Sound (record { expr = x; kind = s; place = at }) → Sound (deref_form t (record { expr = x; kind = s; place = at }))
  deref_by t q k.Void at x e h = absurd (cc)
  deref_by t q (k.Value s) at x e h = absurd (cc)
  deref_by t q (k.Pointer z c g) at x e h =
      let a = h.fine refl in
      place_sound t.from (k.Value g) (place_if (is_locked z c)) (n.Deref x) (is_open (seen vars before result x).ty) _ refl (seen_deref vars before result t.from (k.Value g) x)
      (λ w. ap is_open a.typed ∙ open_if (is_locked z c) w) (yes a.valid (ap (λ u. points_to u (ty.Value g)) a.typed ∙ same_self (ty.Value g)))
  deref_by t q (k.Array v g) at x e h = absurd (cc)

  pub deref_sound : (t : Token) (q : ℕ) (x : Form) → pointer_needed q x.kind ≡ [] → Sound x → Sound (deref_form t x)
  deref_sound t q x e h = deref_by t q x.kind x.place x.expr e h

  moved_sound : (a : ℕ) (u b : Bool) (q : ℕ) (x : Form) → step_needs q x ≡ [] → Sound x → Sound (plain a x.kind (n.Step x.expr u b))
  moved_sound a u b q x e h =
      let d = stepped q x e in
      let r = h.fine d.array in
      plain_sound a x.kind (n.Step x.expr u b) _ d.array (seen_step vars before result a x.kind x.expr u b) (yes3 r.valid (r.place d.place) (ap (same_type (ty_of x.kind)) r.typed ∙ same_self (ty_of x.kind)))

  pub post_sound : (t : Token) (q : ℕ) (x : Form) → step_needs q x ≡ [] → Sound x → Sound (post_form t x)
  post_sound t q x e h = moved_sound (at_of x.expr) (is_increment (mark_of t)) true q x e h

  pub step_sound : (t : Token) (q : ℕ) (x : Form) → step_needs q x ≡ [] → Sound x → Sound (step_form t x)
  step_sound t q x e h = moved_sound t.from (is_increment (mark_of t)) false q x e h

  pub prefix_sound : (t : Token) (q : ℕ) (x : Form) → is_prefix (mark_of t) ≡ true → scalar_needed q x.kind ≡ [] → Sound x → Sound (prefix_form t x)
  prefix_sound t q x o e h =
      let a = number_read q x e h in
      let u = mark_of t in
      let d : ty_of (prefix_kind u (kind_of_type (seen vars before result x.expr).ty)) ≡ ty_of (prefix_kind u x.kind) =
      ap (λ z. ty_of (prefix_kind u (kind_of_type z))) (a.reads.typed ∙ ap ty_of a.kind) ∙ ap (λ z. ty_of (prefix_kind u z)) (sym a.kind) in
      plain_sound t.from (prefix_kind u x.kind) (n.Prefix u x.expr) _ (prefix_plain u x.kind) (seen_prefix vars before result t.from (prefix_kind u x.kind) u x.expr)
      (yes3 a.value o (ap (same_type (ty_of (prefix_kind u x.kind))) d ∙ same_self (ty_of (prefix_kind u x.kind))))

  pub cast_sound : (t : Token) (s : Written) (q : ℕ) (x : Form) → scalar_needed q x.kind ≡ [] → Sound x → Sound (cast_form t s x)
  cast_sound t s q x e h =
      plain_sound t.from (k.Value (type_of s)) (n.Cast x.expr) _ refl (seen_cast vars before result t.from (k.Value (type_of s)) x.expr) (yes (number_read q x e h).value refl)

  pub conditional_sound : (p q r : ℕ) (x y z : Form) → conditional_needs p x q y r z ≡ [] → Sound x → Sound y → Sound z → Sound (conditional_form x y z)
  conditional_sound p q r x y z e hx hy hz =
      let d = append_none (scalar_needed p x.kind) (scalar_needed q y.kind ++ scalar_needed r z.kind) e in
      let d2 = append_none (scalar_needed q y.kind) (scalar_needed r z.kind) d.1 in
      let a = number_read p x d.0 hx in
      let b = number_read q y d2.0 hy in
      let c = number_read r z d2.1 hz in
      let t = k.Value (common (scalar_of y.kind) (scalar_of z.kind)) in
      plain_sound (at_of x.expr) t (n.Cond x.expr y.expr z.expr) _ refl (seen_cond vars before result (at_of x.expr) t x.expr y.expr z.expr)
      (yes4 a.value b.value c.value
      (ap₂ (λ u v. same_type (ty_of t) (ty.Value (common (scalar_of (kind_of_type u)) (scalar_of (kind_of_type v))))) b.reads.typed c.reads.typed
      ∙ ap₂ (λ u v. same_type (ty_of t) (ty.Value (common u v))) (scalar_kept y.kind) (scalar_kept z.kind) ∙ same_self (ty_of t)))

  pub assign_sound : (o : Mark) (p q : ℕ) (x y : Form) → is_assignment o ≡ true → assigned_needed o p x.kind x.place ++ value_needed o x.kind q y.kind ≡ [] → Sound x → Sound y → Sound (assign_form o x y)
  assign_sound o p q x y w e hx hy =
      let d = append_none (assigned_needed o p x.kind x.place) (value_needed o x.kind q y.kind) e in
      let f = assigned o p q x.kind x.place y.kind d.0 d.1 in
      let a = hx.fine f.left in
      let b = hy.fine f.right in
      plain_sound (at_of x.expr) x.kind (n.Assign x.expr o y.expr) _ f.left (seen_assign vars before result (at_of x.expr) x.kind x.expr o y.expr)
      (yes6 a.valid (a.place f.place) b.valid w (ap₂ (assigns o) a.typed b.typed ∙ f.assigns) (ap (same_type (ty_of x.kind)) a.typed ∙ same_self (ty_of x.kind)))

  -- ---- chains

  pub record SofarSound (a : Sofar) : Type 0 where
    pub cell : Cell a.kind
    pub fine : is_array_kind a.kind ≡ false → Reads a.kind place.Nowhere (chained (seen vars before result a.first) (map (each_seen vars before result) a.rest))

  pub first_sound : (x : Form) → Sound x → SofarSound (first_of_chain x)
  first_sound x h = record { cell = h.cell; fine = λ p. as_value x.kind x.place (seen vars before result x.expr) (h.fine p) }

  pub further_sound : (o : Mark) (p q : ℕ) (a : Sofar) (y : Form) → is_operator o ≡ true → operands_needed o p a.kind q y.kind ≡ [] → SofarSound a → Sound y → SofarSound (further o a y)
  further_sound o p q a y w e h i =
      let d = taken o p q a.kind y.kind e in
      let r = h.fine d.left in
      let b = i.fine d.right in
      let so_far = chained (seen vars before result a.first) (map (each_seen vars before result) a.rest) in
      let last : Mark × TExpr = (o, y.expr) in
      let is : chained (seen vars before result a.first) (map (each_seen vars before result) (a.rest ++ last ∷ [])) ≡ combined so_far (o, seen vars before result y.expr) =
      ap (chained (seen vars before result a.first)) (map_last (each_seen vars before result) a.rest last) ∙ chained_last (seen vars before result a.first) (map (each_seen vars before result) a.rest) (o, seen vars before result y.expr) in
      let c = taken_plain o a.kind y.kind d.right in
      record {
        cell = no_cell (result_of (operator_of o) a.kind y.kind) c;
        fine = λ u. subst (Reads (result_of (operator_of o) a.kind y.kind) place.Nowhere) (sym is) (record {
          typed = ap₂ (λ s t. ty_of (result_of (operator_of o) (kind_of_type s) (kind_of_type t))) r.typed b.typed ∙ result_kept (operator_of o) a.kind y.kind;
          place = λ v. nowhere v;
          valid = yes4 r.valid b.valid w (ap₂ (takes o) r.typed b.typed ∙ d.takes);
        });
      }

  pub chain_sound : (a : Sofar) → SofarSound a → Sound (chain_form a)
  chain_sound a h = record {
    cell = h.cell;
    fine = λ p.
        let r = h.fine p in
        subst (Reads a.kind place.Nowhere) (sym (seen_chain vars before result (at_of a.first) a.kind a.first a.rest))
        (value_reads a.kind _ (yes r.valid (ap (same_type (ty_of a.kind)) r.typed ∙ same_self (ty_of a.kind))));
  }
