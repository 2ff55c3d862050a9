-- What each form of a statement of a body without calls does, by its parts.
use Rattle.std.proofs.Common.{◌≡◌, ℕ, List, [], ◌∷◌, ◌++◌, Option, Some, None, refl, ap, ◌∙◌}
use Rattle.q_functions.specs.declared.work.Work.{Work}
use Rattle.clc_types.specs.declared.typed.Var.{Var}
use Rattle.clc_inline.specs.declared.body.TExpr.{TExpr}
use Rattle.clc_inline.specs.declared.body.TStmt.{TStmt, Row_of-TStmt, end_of-TStmt, more_of-TStmt}
use Rattle.clc_inline.specs.declared.body.TStmt.TheVariants as st
use Rattle.clc_inline.specs.declared.body.Node.TheBlock.{shape-the_row-TStmt-3, hidden-the_row-TStmt-3, hidden-the_row-TStmt-4, items-the_row-TStmt, items_hidden-the_row-TStmt-4}
use denote.Hole.Carrier.{hidden}
use Rattle.item_meaning.specs.declared.values.Value.{Value}
use Rattle.item_meaning.specs.declared.values.Flow.{Flow}
use Rattle.item_meaning.specs.ItemState.{Spent}
use Rattle.item_meaning.specs.NodeMeanings.{Part}
use Rattle.item_meaning.specs.StatementMeanings.{var_at, declare_flow, block_flow, no_flow, and_flow, dropped, eval_flow, if_flow, while_flow, do_flow, always, for_flow, return_flow}
use Rattle.body_meaning.specs.BodyMeaning.{does, does_all, begins, begin_with, declared_in, declared_all}
use Rattle.inline_law.proofs.BodyForms.{part}

-- ---- declared variables

abbrev pub each_declared : List TStmt → List ℕ
each_declared [] = []
each_declared (a ∷ more) = declared_in a ++ each_declared more

abbrev pub other_declared : Option TStmt → List ℕ
other_declared None = []
other_declared (Some a) = declared_in a

abbrev pub in_one : List ℕ → List ℕ
in_one l = l ++ []

declared_items : {i : _} (r : Row_of-TStmt i) → declared_all r ≡ each_declared (items-the_row-TStmt i r)
declared_items end_of-TStmt = refl
declared_items (more_of-TStmt a rest) = ap (λ z. declared_in a ++ z) (declared_items rest)

declared_listed : (l : List TStmt) → declared_all (hidden-the_row-TStmt-4 l) ≡ each_declared l
declared_listed l = declared_items (hidden-the_row-TStmt-4 l) ∙ ap each_declared (items_hidden-the_row-TStmt-4 l)

pub declared_block : (l : List TStmt) → declared_in (st.Block l) ≡ each_declared l
declared_block l = declared_listed l

pub declared_declare : (u : ℕ) (x : Option TExpr) → declared_in (st.Declare u x) ≡ u ∷ []
declared_declare u None = refl
declared_declare u (Some e) = refl

pub declared_if : (e : TExpr) (a : TStmt) (o : Option TStmt) → declared_in (st.If e a o) ≡ in_one (declared_in a) ++ in_one (other_declared o)
unfolding shape-the_row-TStmt-3 hidden-the_row-TStmt-3 hidden
declared_if e a None = refl
declared_if e a (Some b) = refl

pub declared_while : (e : TExpr) (a : TStmt) → declared_in (st.While e a) ≡ in_one (declared_in a)
unfolding shape-the_row-TStmt-3 hidden-the_row-TStmt-3 hidden
declared_while e a = refl

pub declared_do : (a : TStmt) (e : TExpr) → declared_in (st.Do a e) ≡ in_one (declared_in a)
unfolding shape-the_row-TStmt-3 hidden-the_row-TStmt-3 hidden
declared_do a e = refl

for_declared : (l : List TStmt) (x y : Option TExpr) (a : TStmt) → declared_in (st.For l x y a) ≡ declared_all (hidden-the_row-TStmt-4 l) ++ in_one (declared_in a)
unfolding shape-the_row-TStmt-3 hidden-the_row-TStmt-3 hidden
for_declared l None None a = refl
for_declared l None (Some y) a = refl
for_declared l (Some x) None a = refl
for_declared l (Some x) (Some y) a = refl

pub declared_for : (l : List TStmt) (x y : Option TExpr) (a : TStmt) → declared_in (st.For l x y a) ≡ each_declared l ++ in_one (declared_in a)
declared_for l x y a = for_declared l x y a ∙ ap (λ z. z ++ in_one (declared_in a)) (declared_listed l)

pub declared_return : (x : Option TExpr) → declared_in (st.Return x) ≡ []
declared_return None = refl
declared_return (Some e) = refl

module _ (work : Work) (vars : List Var) where
  abbrev pub if_part : Option TExpr → Option (Part Value)
  if_part None = None
  if_part (Some e) = Some (part work vars e)

  abbrev pub test_part : Option TExpr → Part Value
  test_part None = always
  test_part (Some e) = part work vars e

  abbrev pub step_part : Option TExpr → Part Flow
  step_part None = no_flow
  step_part (Some e) = dropped (part work vars e)

  abbrev pub flow : TStmt → Part Flow
  flow a = does work vars a

  abbrev pub start : TStmt → Part Flow
  start a = begin_with work vars a

  abbrev pub flows : List TStmt → Part Flow
  flows [] = no_flow
  flows (a ∷ more) = and_flow (flow a) (flows more)

  abbrev pub starts : List TStmt → Part Flow
  starts [] = no_flow
  starts (a ∷ more) = and_flow (start a) (starts more)

  abbrev pub other_flow : Option TStmt → Part Flow
  other_flow None = no_flow
  other_flow (Some a) = flow a

  abbrev pub spent : Part Flow
  spent s = Spent

  flow_items : {i : _} (r : Row_of-TStmt i) → does_all work vars r ≡ flows (items-the_row-TStmt i r)
  flow_items end_of-TStmt = refl
  flow_items (more_of-TStmt a rest) = ap (λ z. and_flow (flow a) z) (flow_items rest)

  flow_listed : (l : List TStmt) → does_all work vars (hidden-the_row-TStmt-4 l) ≡ flows l
  flow_listed l = flow_items (hidden-the_row-TStmt-4 l) ∙ ap (λ (z : List TStmt). flows z) (items_hidden-the_row-TStmt-4 l)

  start_items : {i : _} (r : Row_of-TStmt i) → begins work vars r ≡ starts (items-the_row-TStmt i r)
  start_items end_of-TStmt = refl
  start_items (more_of-TStmt a rest) = ap (λ z. and_flow (start a) z) (start_items rest)

  start_listed : (l : List TStmt) → begins work vars (hidden-the_row-TStmt-4 l) ≡ starts l
  start_listed l = start_items (hidden-the_row-TStmt-4 l) ∙ ap (λ (z : List TStmt). starts z) (items_hidden-the_row-TStmt-4 l)

  pub block_flows : (l : List TStmt) → flow (st.Block l) ≡ block_flow (flows l)
  block_flows l = ap (λ z. block_flow z) (flow_listed l)

  pub block_start : (l : List TStmt) → start (st.Block l) ≡ spent
  block_start l = refl

  pub declare_flows : (u : ℕ) (x : Option TExpr) → flow (st.Declare u x) ≡ declare_flow (var_at vars u) u (if_part x)
  declare_flows u None = refl
  declare_flows u (Some e) = refl

  pub declare_start : (u : ℕ) (x : Option TExpr) → start (st.Declare u x) ≡ declare_flow (var_at vars u) u (if_part x)
  declare_start u None = refl
  declare_start u (Some e) = refl

  pub eval_flows : (e : TExpr) → flow (st.Eval e) ≡ eval_flow (part work vars e)
  eval_flows e = refl

  pub eval_start : (e : TExpr) → start (st.Eval e) ≡ dropped (part work vars e)
  eval_start e = refl

  pub if_flows : (e : TExpr) (a : TStmt) (b : Option TStmt) → flow (st.If e a b) ≡ if_flow (part work vars e) (flow a) (other_flow b)
  unfolding shape-the_row-TStmt-3 hidden-the_row-TStmt-3 hidden
  if_flows e a None = refl
  if_flows e a (Some b) = refl

  pub if_start : (e : TExpr) (a : TStmt) (b : Option TStmt) → start (st.If e a b) ≡ spent
  if_start e a None = refl
  if_start e a (Some b) = refl

  pub while_flows : (e : TExpr) (a : TStmt) → flow (st.While e a) ≡ while_flow (part work vars e) (flow a)
  unfolding shape-the_row-TStmt-3 hidden-the_row-TStmt-3 hidden
  while_flows e a = refl

  pub while_start : (e : TExpr) (a : TStmt) → start (st.While e a) ≡ spent
  while_start e a = refl

  pub do_flows : (a : TStmt) (e : TExpr) → flow (st.Do a e) ≡ do_flow (flow a) (part work vars e)
  unfolding shape-the_row-TStmt-3 hidden-the_row-TStmt-3 hidden
  do_flows a e = refl

  pub do_start : (a : TStmt) (e : TExpr) → start (st.Do a e) ≡ spent
  do_start a e = refl

  pub for_flows : (l : List TStmt) (x y : Option TExpr) (a : TStmt) → flow (st.For l x y a) ≡ for_flow (starts l) (test_part x) (step_part y) (flow a)
  unfolding shape-the_row-TStmt-3 hidden-the_row-TStmt-3 hidden
  for_flows l None None a = ap (λ z. for_flow z (test_part None) (step_part None) (flow a)) (start_listed l)
  for_flows l None (Some y) a = ap (λ z. for_flow z (test_part None) (step_part (Some y)) (flow a)) (start_listed l)
  for_flows l (Some x) None a = ap (λ z. for_flow z (test_part (Some x)) (step_part None) (flow a)) (start_listed l)
  for_flows l (Some x) (Some y) a = ap (λ z. for_flow z (test_part (Some x)) (step_part (Some y)) (flow a)) (start_listed l)

  pub for_start : (l : List TStmt) (x y : Option TExpr) (a : TStmt) → start (st.For l x y a) ≡ spent
  for_start l None None a = refl
  for_start l None (Some y) a = refl
  for_start l (Some x) None a = refl
  for_start l (Some x) (Some y) a = refl

  pub return_flows : (x : Option TExpr) → flow (st.Return x) ≡ return_flow (if_part x)
  return_flows None = refl
  return_flows (Some e) = refl

  pub return_start : (x : Option TExpr) → start (st.Return x) ≡ spent
  return_start None = refl
  return_start (Some e) = refl
