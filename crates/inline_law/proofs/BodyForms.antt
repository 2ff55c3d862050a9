-- What each form of a body without calls does, by its parts.
use Rattle.std.proofs.Common.{◌≡◌, ℕ, suc, Bool, List, [], ◌∷◌, length, refl, ap, ◌∙◌}
use Rattle.clc_lexer.specs.declared.marks.Mark.{Mark}
use Rattle.q_lane.specs.declared.kinds.Scalar.{Scalar}
use Rattle.q_functions.specs.declared.work.Work.{Work}
use Rattle.clc_types.specs.declared.typed.Builtin.{Builtin as BuiltinName}
use Rattle.clc_types.specs.declared.typed.Ty.{Ty}
use Rattle.clc_types.specs.declared.typed.Var.{Var}
use Rattle.clc_inline.specs.declared.body.TExpr.{TExpr}
use Rattle.clc_inline.specs.declared.body.Node.{Row_of-TExpr, end_of-TExpr, more_of-TExpr, Row_of-Node-Chain-1-2, end_of-Node-Chain-1-2, more_of-Node-Chain-1-2}
use Rattle.clc_inline.specs.declared.body.Node.TheVariants as v
use Rattle.clc_inline.specs.declared.body.Node.TheBlock.{shape-the_row-TExpr-0, hidden-the_row-TExpr-0, hidden-the_row-Node-Chain-1-2-1, items-the_row-Node-Chain-1-2, items_hidden-the_row-Node-Chain-1-2-1, hidden-the_row-TExpr-2, items-the_row-TExpr, items_hidden-the_row-TExpr-2}
use denote.Hole.Carrier.{hidden}
use Rattle.item_meaning.specs.declared.values.Value.{Value}
use Rattle.item_meaning.specs.declared.values.Place.{Place}
use Rattle.item_meaning.specs.ItemState.{Goes, Spent, then_do}
use Rattle.q_functions.specs.NumberFunctions.{bytes_of}
use Rattle.item_meaning.specs.Operators.{scalar_of, type_after}
use Rattle.item_meaning.specs.NodeMeanings.{Part, index_place, cell_place, pointed_place, read_from, prefix_value, cast_value, step_value, assigned_value, conditional_value, operator_value, chain_value, builtin_value, no_values, and_values}
use Rattle.body_meaning.specs.BodyMeaning.{value_of, place_of, values_of, chained, operators}

module _ (work : Work) (vars : List Var) where
  abbrev pub part : TExpr → Part Value
  part e = value_of work vars e.at e.ty e.node

  abbrev pub spot : TExpr → Part Place
  spot e = place_of work vars e.at e.ty e.node

  abbrev pub nowhere : Part Place
  nowhere s = Spent

  abbrev pub parts : List TExpr → Part (List Value)
  parts [] = no_values
  parts (e ∷ es) = and_values (part e) (parts es)

  abbrev pub steps : Ty → List (Mark × TExpr) → Value → Part Value
  steps a [] x s = Goes x s
  steps a (p ∷ rest) x s = then_do (operator_value a p.0 p.1.ty x (part p.1) s) (steps (type_after p.0 a p.1.ty) rest)

  pub index_parts : (at : ℕ) (t : Ty) (a b : TExpr) → value_of work vars at t (v.Index a b) ≡ read_from t (index_place at (bytes_of (scalar_of t)) (part a) (part b))
  unfolding shape-the_row-TExpr-0 hidden-the_row-TExpr-0 hidden
  index_parts at t a b = refl

  pub index_spot : (at : ℕ) (t : Ty) (a b : TExpr) → place_of work vars at t (v.Index a b) ≡ index_place at (bytes_of (scalar_of t)) (part a) (part b)
  unfolding shape-the_row-TExpr-0 hidden-the_row-TExpr-0 hidden
  index_spot at t a b = refl

  pub element_parts : (at : ℕ) (t : Ty) (u : ℕ) (a : TExpr) → value_of work vars at t (v.Element u a) ≡ read_from t (cell_place at u (part a))
  unfolding shape-the_row-TExpr-0 hidden-the_row-TExpr-0 hidden
  element_parts at t u a = refl

  pub element_spot : (at : ℕ) (t : Ty) (u : ℕ) (a : TExpr) → place_of work vars at t (v.Element u a) ≡ cell_place at u (part a)
  unfolding shape-the_row-TExpr-0 hidden-the_row-TExpr-0 hidden
  element_spot at t u a = refl

  pub deref_parts : (at : ℕ) (t : Ty) (a : TExpr) → value_of work vars at t (v.Deref a) ≡ read_from t (pointed_place at (part a))
  unfolding shape-the_row-TExpr-0 hidden-the_row-TExpr-0 hidden
  deref_parts at t a = refl

  pub deref_spot : (at : ℕ) (t : Ty) (a : TExpr) → place_of work vars at t (v.Deref a) ≡ pointed_place at (part a)
  unfolding shape-the_row-TExpr-0 hidden-the_row-TExpr-0 hidden
  deref_spot at t a = refl

  pub prefix_parts : (at : ℕ) (t : Ty) (o : Mark) (a : TExpr) → value_of work vars at t (v.Prefix o a) ≡ prefix_value o (part a)
  unfolding shape-the_row-TExpr-0 hidden-the_row-TExpr-0 hidden
  prefix_parts at t o a = refl

  pub prefix_spot : (at : ℕ) (t : Ty) (o : Mark) (a : TExpr) → place_of work vars at t (v.Prefix o a) ≡ nowhere
  unfolding shape-the_row-TExpr-0 hidden-the_row-TExpr-0 hidden
  prefix_spot at t o a = refl

  pub step_parts : (at : ℕ) (t : Ty) (a : TExpr) (up post : Bool) → value_of work vars at t (v.Step a up post) ≡ step_value a.ty up post (spot a)
  unfolding shape-the_row-TExpr-0 hidden-the_row-TExpr-0 hidden
  step_parts at t a up post = refl

  pub step_spot : (at : ℕ) (t : Ty) (a : TExpr) (up post : Bool) → place_of work vars at t (v.Step a up post) ≡ nowhere
  unfolding shape-the_row-TExpr-0 hidden-the_row-TExpr-0 hidden
  step_spot at t a up post = refl

  pub cast_parts : (at : ℕ) (t : Ty) (a : TExpr) → value_of work vars at t (v.Cast a) ≡ cast_value t (part a)
  unfolding shape-the_row-TExpr-0 hidden-the_row-TExpr-0 hidden
  cast_parts at t a = refl

  pub cast_spot : (at : ℕ) (t : Ty) (a : TExpr) → place_of work vars at t (v.Cast a) ≡ nowhere
  unfolding shape-the_row-TExpr-0 hidden-the_row-TExpr-0 hidden
  cast_spot at t a = refl

  pub paren_parts : (at : ℕ) (t : Ty) (a : TExpr) → value_of work vars at t (v.Paren a) ≡ part a
  unfolding shape-the_row-TExpr-0 hidden-the_row-TExpr-0 hidden
  paren_parts at t a = refl

  pub paren_spot : (at : ℕ) (t : Ty) (a : TExpr) → place_of work vars at t (v.Paren a) ≡ spot a
  unfolding shape-the_row-TExpr-0 hidden-the_row-TExpr-0 hidden
  paren_spot at t a = refl

  pub cond_parts : (at : ℕ) (t : Ty) (a b c : TExpr) → value_of work vars at t (v.Cond a b c) ≡ conditional_value (part a) (part b) (part c)
  unfolding shape-the_row-TExpr-0 hidden-the_row-TExpr-0 hidden
  cond_parts at t a b c = refl

  pub cond_spot : (at : ℕ) (t : Ty) (a b c : TExpr) → place_of work vars at t (v.Cond a b c) ≡ nowhere
  unfolding shape-the_row-TExpr-0 hidden-the_row-TExpr-0 hidden
  cond_spot at t a b c = refl

  pub assign_parts : (at : ℕ) (t : Ty) (a : TExpr) (o : Mark) (b : TExpr) → value_of work vars at t (v.Assign a o b) ≡ assigned_value a.ty o b.ty (spot a) (part b)
  unfolding shape-the_row-TExpr-0 hidden-the_row-TExpr-0 hidden
  assign_parts at t a o b = refl

  pub assign_spot : (at : ℕ) (t : Ty) (a : TExpr) (o : Mark) (b : TExpr) → place_of work vars at t (v.Assign a o b) ≡ nowhere
  unfolding shape-the_row-TExpr-0 hidden-the_row-TExpr-0 hidden
  assign_spot at t a o b = refl

  args_items : {i : _} (r : Row_of-TExpr i) → values_of work vars r ≡ parts (items-the_row-TExpr i r)
  args_items end_of-TExpr = refl
  args_items (more_of-TExpr at t e rest) = ap (λ z. and_values (value_of work vars at t e) z) (args_items rest)

  pub args_listed : (l : List TExpr) → values_of work vars (hidden-the_row-TExpr-2 l) ≡ parts l
  args_listed l = args_items (hidden-the_row-TExpr-2 l) ∙ ap parts (items_hidden-the_row-TExpr-2 l)

  chain_items : {i : _} (a : Ty) (r : Row_of-Node-Chain-1-2 i) (x : Value) → chained work vars a r x ≡ steps a (items-the_row-Node-Chain-1-2 i r) x
  chain_items a end_of-Node-Chain-1-2 x = refl
  chain_items a (more_of-Node-Chain-1-2 o at t e rest) x = λ i s. then_do (operator_value a o t x (value_of work vars at t e) s) (λ y. chain_items (type_after o a t) rest y i)

  chain_listed : (a : Ty) (l : List (Mark × TExpr)) (x : Value) → chained work vars a (hidden-the_row-Node-Chain-1-2-1 l) x ≡ steps a l x
  chain_listed a l x = chain_items a (hidden-the_row-Node-Chain-1-2-1 l) x ∙ ap (λ (z : List (Mark × TExpr)). steps a z x) (items_hidden-the_row-Node-Chain-1-2-1 l)

  operator_items : {i : _} (r : Row_of-Node-Chain-1-2 i) → operators r ≡ length (items-the_row-Node-Chain-1-2 i r)
  operator_items end_of-Node-Chain-1-2 = refl
  operator_items (more_of-Node-Chain-1-2 o at t e rest) = ap suc (operator_items rest)

  operator_listed : (l : List (Mark × TExpr)) → operators (hidden-the_row-Node-Chain-1-2-1 l) ≡ length l
  operator_listed l = operator_items (hidden-the_row-Node-Chain-1-2-1 l) ∙ ap length (items_hidden-the_row-Node-Chain-1-2-1 l)

  pub chain_parts : (at : ℕ) (t : Ty) (a : TExpr) (l : List (Mark × TExpr)) → value_of work vars at t (v.Chain a l) ≡ chain_value (length l) (part a) (steps a.ty l)
  unfolding shape-the_row-TExpr-0 hidden-the_row-TExpr-0 hidden
  chain_parts at t a l = λ i. chain_value (operator_listed l i) (part a) (λ x. chain_listed a.ty l x i)

  pub chain_spot : (at : ℕ) (t : Ty) (a : TExpr) (l : List (Mark × TExpr)) → place_of work vars at t (v.Chain a l) ≡ nowhere
  unfolding shape-the_row-TExpr-0 hidden-the_row-TExpr-0 hidden
  chain_spot at t a l = refl

  pub builtin_parts : (at : ℕ) (t : Ty) (b : BuiltinName) (e : Scalar) (l : List TExpr) → value_of work vars at t (v.Builtin b e l) ≡ builtin_value work b e (parts l)
  builtin_parts at t b e l = ap (λ z. builtin_value work b e z) (args_listed l)

  pub builtin_spot : (at : ℕ) (t : Ty) (b : BuiltinName) (e : Scalar) (l : List TExpr) → place_of work vars at t (v.Builtin b e l) ≡ nowhere
  builtin_spot at t b e l = refl
