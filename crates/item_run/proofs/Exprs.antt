-- The meanings of expressions at the nodes as the code has them.
use Rattle.std.proofs.Common.{◌≡◌, ℕ, zero, suc, ◌<◌, List, [], ◌∷◌, length, refl, sym, ap, ◌∙◌, subst, arith}
use Rattle.std.proofs.Math.Path.{fun_ext}
use Rattle.std.specs.Prelude.{Bool}
use Rattle.clc_lexer.specs.declared.marks.Mark.{Mark}
use Rattle.q_lane.specs.declared.kinds.Scalar.{Scalar}
use Rattle.q_functions.specs.declared.work.Work.{Work}
use Rattle.q_functions.specs.NumberFunctions.{bytes_of}
use Rattle.clc_types.specs.declared.typed.Ty.{Ty}
use Rattle.clc_types.specs.declared.typed.Builtin.{Builtin as BuiltinName}
use Rattle.clc_types.specs.declared.typed.TExpr.{TExpr}
use Rattle.clc_types.specs.declared.typed.Node.{Node, Row_of-TExpr, end_of-TExpr, more_of-TExpr, Row_of-Node-Chain-1-2, end_of-Node-Chain-1-2, more_of-Node-Chain-1-2}
use Rattle.clc_types.specs.declared.typed.Node.TheVariants as n
use Rattle.clc_types.specs.declared.typed.Node.TheBlock.{shape-the_row-TExpr-0, hidden-the_row-TExpr-0, shape-the_row-Node-Chain-1-2-1, hidden-the_row-Node-Chain-1-2-1, items-the_row-Node-Chain-1-2, items_hidden-the_row-Node-Chain-1-2-1, shape-the_row-TExpr-2, hidden-the_row-TExpr-2, items-the_row-TExpr, items_hidden-the_row-TExpr-2}
use denote.Hole.Carrier.{hidden}
use Rattle.item_meaning.specs.declared.values.Value.{Value}
use Rattle.item_meaning.specs.ItemState.{State, Run, Goes, Bounds, Spent, then_do}
use Rattle.item_meaning.specs.Operators.{scalar_of, type_after}
use Rattle.item_meaning.specs.Places.{read}
use Rattle.item_meaning.specs.NodeMeanings.{Part, index_place, cell_place, pointed_place, prefix_value, cast_value, step_value, assigned_value, conditional_value, operator_value, chain_value, builtin_value, call_value, no_values, and_values, read_from}
use Rattle.item_meaning.specs.ItemMeaning.{Calls, value, value_of, value_in, place_of, place_in, operators, chained, values_of, calls_below}
use Rattle.item_run.specs.declared.setting.Setting.{Setting}
use Rattle.item_run.specs.Settings.{calls_in, value_in_run, place_in_run}
use Rattle.item_run.specs.Nodes.{IsBare, IsCore}
use Rattle.item_run.specs.Lists.{operators_in_run, values_in_run}

-- runs that go on alike
pub then_same : {A B : Type 0} (r : Run A) (f g : A → State → Run B) → ((y : A) (u : State) → f y u ≡ g y u) → then_do r f ≡ then_do r g
then_same (Goes y u) f g h = h y u
then_same (Bounds b) f g h = refl
then_same Spent f g h = refl

-- ---- lists of operators and of arguments

chained_items : {k : _} (e : Setting) (a : Ty) (r : Row_of-Node-Chain-1-2 k) (x : Value) (s : State)
    → chained e.work.now (calls_in e) a r x s ≡ operators_in_run e a (items-the_row-Node-Chain-1-2 k r) x s
chained_items e a end_of-Node-Chain-1-2 x s = refl
chained_items e a (more_of-Node-Chain-1-2 o at t i rest) x s =
    then_same (operator_value a o t x (value_of e.work.now (calls_in e) at t i) s) (chained e.work.now (calls_in e) (type_after o a t) rest)
    (operators_in_run e (type_after o a t) (items-the_row-Node-Chain-1-2 _ rest)) (λ y u. chained_items e (type_after o a t) rest y u)

chained_list : (e : Setting) (a : Ty) (l : List (Mark × TExpr)) → chained e.work.now (calls_in e) a (hidden-the_row-Node-Chain-1-2-1 l) ≡ operators_in_run e a l
chained_list e a l =
    fun_ext λ x. fun_ext λ s.
    chained_items e a (hidden-the_row-Node-Chain-1-2-1 l) x s ∙ ap (λ (z : List (Mark × TExpr)). operators_in_run e a z x s) (items_hidden-the_row-Node-Chain-1-2-1 l)

operators_items : {k : _} (r : Row_of-Node-Chain-1-2 k) → operators r ≡ length (items-the_row-Node-Chain-1-2 k r)
operators_items end_of-Node-Chain-1-2 = refl
operators_items (more_of-Node-Chain-1-2 o at t i rest) = ap suc (operators_items rest)

operators_list : (l : List (Mark × TExpr)) → operators (hidden-the_row-Node-Chain-1-2-1 l) ≡ length l
operators_list l = operators_items (hidden-the_row-Node-Chain-1-2-1 l) ∙ ap (λ (z : List (Mark × TExpr)). length z) (items_hidden-the_row-Node-Chain-1-2-1 l)

values_items : {k : _} (e : Setting) (r : Row_of-TExpr k) (s : State) → values_of e.work.now (calls_in e) r s ≡ values_in_run e (items-the_row-TExpr k r) s
values_items e end_of-TExpr s = refl
values_items e (more_of-TExpr at t i rest) s =
    then_same (value_of e.work.now (calls_in e) at t i s) _ _
    (λ x u. ap (λ (r : Run (List Value)). then_do r (λ xs w. Goes (x ∷ xs) w)) (values_items e rest u))

values_list : (e : Setting) (l : List TExpr) → values_of e.work.now (calls_in e) (hidden-the_row-TExpr-2 l) ≡ values_in_run e l
values_list e l =
    fun_ext λ s. values_items e (hidden-the_row-TExpr-2 l) s ∙ ap (λ (z : List TExpr). values_in_run e z s) (items_hidden-the_row-TExpr-2 l)

-- ---- places

pub value-Name : (e : Setting) (at : ℕ) (t : Ty) (v : ℕ) (s : State) → value_of e.work.now (calls_in e) at t (n.Name v) s ≡ read_from t (place_of e.work.now (calls_in e) at t (n.Name v)) s
value-Name e at t v s = refl

pub value-Index : (e : Setting) (at : ℕ) (t : Ty) (a b : TExpr) (s : State) → value_of e.work.now (calls_in e) at t (n.Index a b) s ≡ read_from t (place_of e.work.now (calls_in e) at t (n.Index a b)) s
value-Index e at t a b s = refl

pub value-Element : (e : Setting) (at : ℕ) (t : Ty) (v : ℕ) (b : TExpr) (s : State) → value_of e.work.now (calls_in e) at t (n.Element v b) s ≡ read_from t (place_of e.work.now (calls_in e) at t (n.Element v b)) s
value-Element e at t v b s = refl

pub value-Deref : (e : Setting) (at : ℕ) (t : Ty) (a : TExpr) (s : State) → value_of e.work.now (calls_in e) at t (n.Deref a) s ≡ read_from t (place_of e.work.now (calls_in e) at t (n.Deref a)) s
value-Deref e at t a s = refl

pub place-Index : (e : Setting) (at : ℕ) (t : Ty) (a b : TExpr) (s : State) → place_of e.work.now (calls_in e) at t (n.Index a b) s ≡ index_place at (bytes_of (scalar_of t)) (value_in_run e a) (value_in_run e b) s
unfolding shape-the_row-TExpr-0 hidden-the_row-TExpr-0 hidden
place-Index e at t a b s = refl

pub place-Element : (e : Setting) (at : ℕ) (t : Ty) (v : ℕ) (b : TExpr) (s : State) → place_of e.work.now (calls_in e) at t (n.Element v b) s ≡ cell_place at v (value_in_run e b) s
unfolding shape-the_row-TExpr-0 hidden-the_row-TExpr-0 hidden
place-Element e at t v b s = refl

pub place-Deref : (e : Setting) (at : ℕ) (t : Ty) (a : TExpr) (s : State) → place_of e.work.now (calls_in e) at t (n.Deref a) s ≡ pointed_place at (value_in_run e a) s
unfolding shape-the_row-TExpr-0 hidden-the_row-TExpr-0 hidden
place-Deref e at t a s = refl

-- ---- values

pub value-Prefix : (e : Setting) (at : ℕ) (t : Ty) (o : Mark) (a : TExpr) (s : State) → value_of e.work.now (calls_in e) at t (n.Prefix o a) s ≡ prefix_value o (value_in_run e a) s
unfolding shape-the_row-TExpr-0 hidden-the_row-TExpr-0 hidden
value-Prefix e at t o a s = refl

pub value-Step : (e : Setting) (at : ℕ) (t : Ty) (a : TExpr) (up post : Bool) (s : State) → value_of e.work.now (calls_in e) at t (n.Step a up post) s ≡ step_value a.ty up post (place_in_run e a) s
unfolding shape-the_row-TExpr-0 hidden-the_row-TExpr-0 hidden
value-Step e at t a up post s = refl

pub value-Cast : (e : Setting) (at : ℕ) (t : Ty) (a : TExpr) (s : State) → value_of e.work.now (calls_in e) at t (n.Cast a) s ≡ cast_value t (value_in_run e a) s
unfolding shape-the_row-TExpr-0 hidden-the_row-TExpr-0 hidden
value-Cast e at t a s = refl

pub value-Cond : (e : Setting) (at : ℕ) (t : Ty) (a b c : TExpr) (s : State) → value_of e.work.now (calls_in e) at t (n.Cond a b c) s ≡ conditional_value (value_in_run e a) (value_in_run e b) (value_in_run e c) s
unfolding shape-the_row-TExpr-0 hidden-the_row-TExpr-0 hidden
value-Cond e at t a b c s = refl

pub value-Assign : (e : Setting) (at : ℕ) (t : Ty) (a : TExpr) (o : Mark) (b : TExpr) (s : State) → value_of e.work.now (calls_in e) at t (n.Assign a o b) s ≡ assigned_value a.ty o b.ty (place_in_run e a) (value_in_run e b) s
unfolding shape-the_row-TExpr-0 hidden-the_row-TExpr-0 hidden
value-Assign e at t a o b s = refl

pub value-Chain : (e : Setting) (at : ℕ) (t : Ty) (a : TExpr) (l : List (Mark × TExpr)) (s : State) → value_of e.work.now (calls_in e) at t (n.Chain a l) s ≡ chain_value (length l) (value_in_run e a) (operators_in_run e a.ty l) s
unfolding shape-the_row-TExpr-0 hidden-the_row-TExpr-0 hidden
value-Chain e at t a l s = ap (λ k. chain_value k (value_in_run e a) (chained e.work.now (calls_in e) a.ty (hidden-the_row-Node-Chain-1-2-1 l)) s) (operators_list l)
    ∙ ap (λ (p : Value → Part Value). chain_value (length l) (value_in_run e a) p s) (chained_list e a.ty l)

pub value-Call : (e : Setting) (at : ℕ) (t : Ty) (f : ℕ) (l : List TExpr) (s : State) → value_of e.work.now (calls_in e) at t (n.Call f l) s ≡ call_value (values_in_run e l) (calls_in e f) s
value-Call e at t f l s = ap (λ (p : Part (List Value)). call_value p (calls_in e f) s) (values_list e l)

pub value-Builtin : (e : Setting) (at : ℕ) (t : Ty) (b : BuiltinName) (k : Scalar) (l : List TExpr) (s : State) → value_of e.work.now (calls_in e) at t (n.Builtin b k l) s ≡ builtin_value e.work.now b k (values_in_run e l) s
value-Builtin e at t b k l s = ap (λ (p : Part (List Value)). builtin_value e.work.now b k p s) (values_list e l)

-- ---- parentheses

pub value-Paren : (w : Work) (k : Calls) (at : ℕ) (t : Ty) (a : TExpr) (s : State) → value_of w k at t (n.Paren a) s ≡ value w k a s
unfolding shape-the_row-TExpr-0 hidden-the_row-TExpr-0 hidden
value-Paren w k at t a s = refl

pub place-Paren : (w : Work) (k : Calls) (at : ℕ) (t : Ty) (a : TExpr) (s : State) → place_of w k at t (n.Paren a) s ≡ place_of w k a.at a.ty a.node s
unfolding shape-the_row-TExpr-0 hidden-the_row-TExpr-0 hidden
place-Paren w k at t a s = refl

then_goes : {A : Type 0} (r : Run A) → then_do r (λ x u. Goes x u) ≡ r
then_goes (Goes x s) = refl
then_goes (Bounds at) = refl
then_goes Spent = refl

no_operators : {k : _} (w : Work) (c : Calls) (a : Ty) (r : Row_of-Node-Chain-1-2 k) (first : Run Value) → operators r ≡ 0 → then_do first (chained w c a r) ≡ first
no_operators w c a end_of-Node-Chain-1-2 first h = then_goes first
no_operators w c a (more_of-Node-Chain-1-2 o at t i rest) first h = absurd (cc)

pub value-alone : (w : Work) (k : Calls) (at : ℕ) (t : Ty) (a : TExpr) (l : List (Mark × TExpr)) (s : State) → l ≡ [] → value_of w k at t (n.Chain a l) s ≡ value w k a s
unfolding shape-the_row-TExpr-0 hidden-the_row-TExpr-0 hidden
value-alone w k at t a l s h =
    let none : operators (hidden-the_row-Node-Chain-1-2-1 l) ≡ 0 = operators_list l ∙ ap (λ (z : List (Mark × TExpr)). length z) h in
    ap (λ m. chain_value m (value w k a) (chained w k a.ty (hidden-the_row-Node-Chain-1-2-1 l)) s) none
    ∙ no_operators w k a.ty (hidden-the_row-Node-Chain-1-2-1 l) (value w k a s) none

pub some_length : {A : Type 0} (l : List A) → (l ≡ [] → ⊥) → 0 < length l
some_length [] h = absurd (h refl)
some_length (x ∷ xs) h = omega arith

pub core-Chain : (a : TExpr) (l : List (Mark × TExpr)) → 0 < length l → IsCore (n.Chain a l)
core-Chain a l h = subst (λ m. 0 < m) (sym (operators_list l)) h

pub some_operators : (a : TExpr) (l : List (Mark × TExpr)) → IsCore (n.Chain a l) → 0 < length l
some_operators a l h = subst (λ m. 0 < m) (operators_list l) h
