-- What a piece of a function's text gives, whatever it stands among.
use Rattle.std.proofs.Common.{◌≡◌, ℕ, ◌+◌, Bool, true, List, [], ◌∷◌, ◌++◌, Option, Some, None, refl, ap, subst}
use Rattle.clc_tree.specs.declared.expressions.Expr.{Expr}
use Rattle.clc_tree.specs.declared.statements.Item.{Item}
use Rattle.clc_tree.specs.declared.statements.Item.TheVariants as item
use Rattle.clc_tree.specs.declared.statements.ItemStep.{ItemStep}
use Rattle.clc_tree.specs.declared.statements.Declare.{Declare}
use Rattle.clc_tree.specs.declared.statements.Declare.TheVariants as declare
use Rattle.clc_tree.specs.declared.statements.ForStart.{ForStart}
use Rattle.clc_tree.specs.declared.statements.ForStart.TheVariants as start
use Rattle.q_lane.specs.declared.kinds.Scalar.{Scalar}
use Rattle.clc_types.specs.declared.forms.Fault.{Fault}
use Rattle.clc_types.specs.declared.typed.TExpr.{TExpr}
use Rattle.clc_types.specs.declared.typed.TStmt.{TStmt}
use Rattle.clc_types.specs.declared.typed.TStmt.TheVariants as st
use Rattle.clc_types.specs.Judged.{Judged, Fine, Faulty, both, next, unless}
use Rattle.std.specs.Prelude.{map, is_some}
use Rattle.clc_types.specs.Words.{type_of, value_of, one_if, type_tokens}
use Rattle.clc_types.specs.Blocks.{Around, Piece, nothing, past, ending, seq, made, maybe, listed, opened, looping, declared, quiet, size, init, item_piece, item_step_piece, declare_piece, pointer_shape, pointer_tokens, evaluated, maybe_value, for_start_piece, returned, jump}
use Rattle.clc_types.specs.Rules.{kind_of, return_needs}
use Rattle.clc_types.specs.Typing.{judge}
use Rattle.clc_types.specs.declared.forms.Shape.TheVariants as shape
use Rattle.clc_plain.proofs.Typed.{Whole, Starts, starts_append, declare_starts, eval_starts, return_whole}

abbrev fine_or : {A : Type 0} → A → Judged A → A
fine_or a (Fine b) = b
fine_or a (Faulty f fs) = a

pub fine_is : {A : Type 0} (a b : A) → Fine a ≡ Fine b → a ≡ b
fine_is a b h = ap (fine_or a) h

pub next_parts : {A B : Type 0} (j : Judged A) (go : A → Judged B) (y : B) → next j go ≡ Fine y → (x : A) × (j ≡ Fine x) × (go x ≡ Fine y)
next_parts (Fine a) go y h = (a, refl, h)
next_parts (Faulty f fs) go y h = absurd (cc)

pub both_parts : {A B : Type 0} (j : Judged A) (k : Judged B) (x : A × B) → both j k ≡ Fine x → (j ≡ Fine x.0) × (k ≡ Fine x.1)
both_parts {A} {B} (Fine a) (Fine b) x h = (ap (λ z. Fine (fine_or {A = A × B} (a, b) z).0) h, ap (λ z. Fine (fine_or {A = A × B} (a, b) z).1) h)
both_parts (Fine a) (Faulty g gs) x h = absurd (cc)
both_parts (Faulty f fs) (Fine b) x h = absurd (cc)
both_parts (Faulty f fs) (Faulty g gs) x h = absurd (cc)

unless_is : {A : Type 0} (fs : List Fault) (a y : A) → unless fs a ≡ Fine y → a ≡ y
unless_is [] a y h = fine_is a y h
unless_is (f ∷ fs) a y h = absurd (cc)

abbrev pub Gives : {A : Type 0} → (A → Type 0) → Piece A → Type 0
Gives {A = A} P a = (c : Around) (l : Bool) (from p : ℕ) (y : A) → a.at c l from p ≡ Fine y → P y

abbrev pub Any : {A : Type 0} → A → Type 0
Any x = Unit {0}

pub any_gives : {A : Type 0} (a : Piece A) → Gives Any a
any_gives a c l from p y h = tt

pub nothing_gives : {A : Type 0} (P : A → Type 0) (a : A) → P a → Gives P (nothing a)
nothing_gives P a i c l from p y h = subst P (fine_is a y h) i

pub made_gives : {A B : Type 0} (P : A → Type 0) (Q : B → Type 0) (f : A → B) (a : Piece A) → ((x : A) → P x → Q (f x)) → Gives P a → Gives Q (made f a)
made_gives P Q f a i g c l from p y h = let d = next_parts (a.at c l from p) (λ x. Fine (f x)) y h in subst Q (fine_is (f d.0) y d.2) (i d.0 (g c l from p d.0 d.1))

pub seq_gives : {A B : Type 0} (P : A → Type 0) (Q : B → Type 0) (a : Piece A) (b : Piece B) → Gives P a → Gives Q b → Gives (λ y. P y.0 × Q y.1) (seq a b)
seq_gives P Q a b g i c l from p y h = let d = both_parts (a.at c l from p) (b.at c l from (p + a.tokens)) y h in (g c l from p y.0 d.0, i c l from (p + a.tokens) y.1 d.1)

pub past_gives : {A : Type 0} (P : A → Type 0) (n : ℕ) (a : Piece A) → Gives P a → Gives P (past n a)
past_gives P n a g c l from p y h = g c l from (p + n) y h

pub ending_gives : {A : Type 0} (P : A → Type 0) (a : Piece A) (n : ℕ) → Gives P a → Gives P (ending a n)
ending_gives P a n g = g

pub opened_gives : {A : Type 0} (P : A → Type 0) (n : ℕ) (a : Piece A) → Gives P a → Gives P (opened n a)
opened_gives P n a g c l from p y h = g c l p (p + n) y h

pub looping_gives : {A : Type 0} (P : A → Type 0) (a : Piece A) → Gives P a → Gives P (looping a)
looping_gives P a g c l from p y h = g c true from p y h

abbrev pub IfThere : {A : Type 0} → (A → Type 0) → Option A → Type 0
IfThere P None = Unit {0}
IfThere P (Some x) = P x

pub maybe_gives : {A : Type 0} (P : A → Type 0) (a : Piece A) → Gives P a → Gives (IfThere P) (maybe (Some a))
maybe_gives P a g = made_gives P (IfThere P) (λ x. Some x) a (λ x h. h) g

-- ---- declarations

item_gives : (fixed : Bool) (k : Scalar) (i : Item) → Gives Starts (item_piece fixed k i)
item_gives fixed k (item.Array t l v r) = let a = seq (declared (shape.Array k (value_of v) fixed) t) (quiet (size v)) in made_gives Any Starts (λ y. st.Declare y.0 None ∷ []) a (λ y h. declare_starts y.0 None) (any_gives a)
item_gives fixed k (item.Value t i) = let a = seq (declared (shape.Value k fixed) t) (init (kind_of 0 (shape.Value k fixed)) i) in made_gives Any Starts (λ y. st.Declare y.0 y.1 ∷ []) a (λ y h. declare_starts y.0 y.1) (any_gives a)

starts_listed : (a : Piece (List TStmt)) (more : List (Piece (List TStmt))) → Gives Starts a → Gives Starts (listed more) → Gives Starts (listed (a ∷ more))
starts_listed a more g i =
    made_gives (λ y. Starts y.0 × Starts y.1) Starts (λ y. y.0 ++ y.1) (seq a (listed more)) (λ y h. starts_append y.0 y.1 h.0 h.1) (seq_gives Starts Starts a (listed more) g i)

steps_give : (fixed : Bool) (k : Scalar) (more : List ItemStep) → Gives Starts (listed (map (item_step_piece fixed k) more))
steps_give fixed k [] = nothing_gives Starts [] (refl, refl)
steps_give fixed k (x ∷ more) = starts_listed (item_step_piece fixed k x) (map (item_step_piece fixed k) more) (past_gives Starts 1 (item_piece fixed k x.item) (item_gives fixed k x.item)) (steps_give fixed k more)

pub declare_gives : (d : Declare) → Gives Starts (declare_piece d)
declare_gives (declare.Values c k i more e) =
    let all = item_piece (is_some c) (type_of k) i ∷ map (item_step_piece (is_some c) (type_of k)) more in
    past_gives Starts (one_if c + type_tokens k) (listed all) (starts_listed (item_piece (is_some c) (type_of k) i) (map (item_step_piece (is_some c) (type_of k)) more) (item_gives (is_some c) (type_of k) i) (steps_give (is_some c) (type_of k) more))
declare_gives (declare.Pointer x t i e) =
    let a = past (pointer_tokens x) (seq (declared (pointer_shape x) t) (init (kind_of 0 (pointer_shape x)) i)) in
    made_gives Any Starts (λ y. st.Declare y.0 y.1 ∷ []) a (λ y h. declare_starts y.0 y.1) (any_gives a)

evaluated_starts : (e : Option TExpr) → Starts (evaluated e)
evaluated_starts None = (refl, refl)
evaluated_starts (Some e) = eval_starts e

pub start_gives : (x : ForStart) → Gives Starts (for_start_piece x)
start_gives (start.Declare d) = declare_gives d
start_gives (start.Eval e t) = made_gives Any Starts evaluated (maybe_value e) (λ y h. evaluated_starts y) (any_gives (maybe_value e))

-- ---- statements of one piece

pub jump_gives : (s : TStmt) → Whole s → Gives Whole (jump s)
jump_gives s i c l from p y h = subst Whole (unless_is _ s y h) i

pub returned_gives : (e : Option Expr) → Gives Whole (returned e)
returned_gives None c l from p y h = subst Whole (unless_is _ (st.Return None) y h) (return_whole None)
returned_gives (Some e) c l from p y h =
    let d = next_parts ((judge e).at c.names (p + 1)) (λ x. unless (return_needs c.names.home.result p x.kind) (st.Return (Some x.expr))) y h in
    subst Whole (unless_is (return_needs c.names.home.result p d.0.kind) (st.Return (Some d.0.expr)) y d.2) (return_whole (Some d.0.expr))
