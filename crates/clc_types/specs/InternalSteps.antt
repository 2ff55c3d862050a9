-- Internal: what the code does, and no part of the rules. The walk over statements, with the open blocks and the variables so far.
use Rattle.std.specs.Prelude.{◌≡◌, ℕ, ◌+◌, min, Bool, true, false, not, List, [], ◌∷◌, ◌++◌, Option, Some, None, is_some, length, map, Result, Ok, Err}
use Rattle.clc_lexer.specs.declared.token.Token.{Token}
use Rattle.clc_tree.specs.declared.expressions.Expr.{Expr}
use Rattle.clc_tree.specs.declared.statements.Init.{Init}
use Rattle.clc_tree.specs.declared.statements.Item.{Item}
use Rattle.clc_tree.specs.declared.statements.Item.TheVariants as item
use Rattle.clc_tree.specs.declared.statements.ItemStep.{ItemStep}
use Rattle.clc_tree.specs.declared.statements.Declare.{Declare}
use Rattle.clc_tree.specs.declared.statements.Declare.TheVariants as declare
use Rattle.clc_tree.specs.declared.statements.ForStart.{ForStart}
use Rattle.clc_tree.specs.declared.statements.ForStart.TheVariants as start
use Rattle.clc_tree.specs.declared.statements.Stmt.{Stmt}
use Rattle.clc_tree.specs.declared.statements.Else.{Else}
use Rattle.clc_tree.specs.declared.statements.Do.{Do}
use Rattle.clc_tree.specs.declared.statements.For.{For}
use Rattle.clc_tree.specs.declared.statements.If.{If}
use Rattle.clc_tree.specs.declared.statements.While.{While}
use Rattle.clc_tree.specs.declared.statements.Block.{Block}
use Rattle.clc_tree.specs.declared.statements.BlockPart.{BlockPart}
use Rattle.clc_tree.specs.declared.statements.BlockPart.TheOpen as o
use Rattle.clc_tree.specs.declared.statements.BlockPart.TheOpen.{BlockPart-F, Stmt-F, Block-F, Do-F, Else-F, For-F, If-F, While-F}
use Rattle.clc_tree.specs.declared.statements.BlockPart.TheFolds.{fold-BlockPart, fold-Stmt, fold-Block, fold-Do, fold-Else, fold-For, fold-If, fold-While}
use Rattle.q_lane.specs.declared.kinds.Scalar.{Scalar}
use Rattle.clc_types.specs.declared.type_rule.TypeRule.TheVariants.{S2, S10, S11}
use Rattle.clc_types.specs.declared.typed.TExpr.{TExpr}
use Rattle.clc_types.specs.declared.typed.TStmt.{TStmt}
use Rattle.clc_types.specs.declared.typed.TStmt.TheVariants as st
use Rattle.clc_types.specs.declared.typed.Var.{Var}
use Rattle.clc_types.specs.declared.typed.TypeFault.{TypeFault}
use Rattle.clc_types.specs.declared.typed.TypeFault.TheVariants.{Rule, Memory}
use Rattle.clc_types.specs.declared.forms.Fault.{Fault}
use Rattle.clc_types.specs.declared.forms.Shape.{Shape}
use Rattle.clc_types.specs.declared.forms.Shape.TheVariants as shape
use Rattle.clc_types.specs.declared.forms.Kind.{Kind}
use Rattle.clc_types.specs.declared.forms.Home.{Home}
use Rattle.clc_types.specs.declared.forms.Form.{Form}
use Rattle.clc_types.specs.declared.forms.Named.TheVariants as nm
use Rattle.clc_types.specs.declared.scope.State.{State}
use Rattle.clc_types.specs.Judged.{violations}
use Rattle.clc_types.specs.Words.{name_of, value_of, type_of, type_tokens, one_if}
use Rattle.clc_types.specs.Rules.{var_of, kind_of, scalar_needed, no_array, fit_needed, return_needs, bare_needs, is_size}
use Rattle.clc_types.specs.Blocks.{pointer_shape, pointer_tokens, evaluated}
use Rattle.clc_types.specs.InternalScope.{Entries, Known, found, look_in, seen}
use Rattle.clc_types.specs.InternalWalk.{Walked, Right, Wrong, after, guarded, bump, walk_expr, walk_assign}

-- what the walk carries: the blocks outside the innermost one, that one, the function, its variables so far, and the next token's number
pub record View : Type 0 where
  pub outer : List Entries
  pub inner : Entries
  pub home : Home
  pub vars : List Var
  pub at : ℕ

pub data Stepped (A : Type 0) : Type 0 where
  Goes : A → View → Stepped A
  Stops : Fault → Stepped A

abbrev pub and_then : {A B : Type 0} → Stepped A → (A → View → Stepped B) → Stepped B
and_then (Goes a v) go = go a v
and_then (Stops f) go = Stops f

-- a walk that moves the count alone
abbrev pub reach : {A : Type 0} → View → Walked A → Stepped A
reach v (Right a q) = Goes a (record v { at = q })
reach v (Wrong f) = Stops f

-- a walk over a piece, in a loop or not
abbrev pub PieceWalk : Type 0 → Type 0
PieceWalk A = Bool → View → Stepped A

abbrev pub number : ℕ → ℕ
number n = min n 4294967295

abbrev pub knows_in : View → Known
knows_in v = record { look = look_in (v.outer ++ v.inner ∷ []); home = v.home }

unfoldable pub skipped : ℕ → View → View
skipped n v = record v { at = bump v.at n }

unfoldable pub entered : View → View
entered v = record v { outer = v.outer ++ v.inner ∷ []; inner = [] }

abbrev pub front : List Entries → List Entries
front [] = []
front (b ∷ []) = []
front (b ∷ c ∷ bs) = b ∷ front (c ∷ bs)

abbrev pub last_of : List Entries → Entries → Entries
last_of [] e = e
last_of (b ∷ bs) e = last_of bs b

unfoldable pub left : View → View
left v = record v { outer = front v.outer; inner = last_of v.outer v.inner }

-- ---- the walks of pieces

abbrev pub past : {A : Type 0} → ℕ → PieceWalk A → PieceWalk A
past n w = λ l v. w l (skipped n v)

abbrev pub ending : {A : Type 0} → PieceWalk A → ℕ → PieceWalk A
ending w n = λ l v. and_then (w l v) (λ x u. Goes x (skipped n u))

abbrev pub seq : {A B : Type 0} → PieceWalk A → PieceWalk B → PieceWalk (A × B)
seq w z = λ l v. and_then (w l v) (λ x u. and_then (z l u) (λ y s. Goes (x, y) s))

abbrev pub made : {A B : Type 0} → (A → B) → PieceWalk A → PieceWalk B
made f w = λ l v. and_then (w l v) (λ x u. Goes (f x) u)

abbrev pub nothing : {A : Type 0} → A → PieceWalk A
nothing a = λ l v. Goes a v

abbrev pub maybe : {A : Type 0} → Option (PieceWalk A) → PieceWalk (Option A)
maybe None = nothing None
maybe (Some w) = made (λ x. Some x) w

abbrev pub listed : {A : Type 0} → List A → List (PieceWalk (List A)) → PieceWalk (List A)
listed done [] = nothing done
listed done (w ∷ ws) = λ l v. and_then (w l v) (λ y u. listed (done ++ y) ws l u)

abbrev pub opened : {A : Type 0} → ℕ → PieceWalk A → PieceWalk A
opened n w = λ l v. and_then (w l (skipped n (entered v))) (λ x u. Goes x (left u))

abbrev pub looping : {A : Type 0} → PieceWalk A → PieceWalk A
looping w = λ l v. w true v

-- ---- declarations

abbrev pub with_var : View → List ℕ → Shape → View
with_var v x s = record {
  outer = v.outer;
  inner = v.inner ++ (x, nm.Variable (number (length v.vars)) s) ∷ [];
  home = v.home;
  vars = v.vars ++ var_of s ∷ [];
  at = bump v.at 1;
}

-- the name is not declared in the innermost block, and then it is
abbrev pub declare_in : Bool → View → List ℕ → Shape → Stepped ℕ
declare_in true v x s = Stops (record { token = v.at; rule = S2 })
declare_in false v x s = Goes (number (length v.vars)) (with_var v x s)

unfoldable pub declared_in : View → List ℕ → Shape → Stepped ℕ
declared_in v x s = declare_in (is_some (found v.inner x)) v x s

abbrev pub declared : Shape → Token → PieceWalk ℕ
declared s t = λ l v. declared_in v (name_of t) s

unfoldable pub size_in : Token → ℕ → Walked (Unit {0})
size_in t p = guarded (violations (bump p 1) ((S11, not (is_size (value_of t))) ∷ [])) (Right tt (bump p 3))

abbrev pub size : Token → PieceWalk (Unit {0})
size t = λ l v. reach v (size_in t v.at)

unfoldable pub fit_end : Kind → ℕ → Form → ℕ → Walked (Option TExpr)
fit_end s q x r = guarded (fit_needed s q x.kind) (Right (Some x.expr) r)

unfoldable pub init_in : Kind → Option Init → View → Stepped (Option TExpr)
init_in s None v = Goes None v
init_in s (Some i) v = reach v (after (walk_assign (knows_in v) i.value (bump v.at 1)) (λ x r. fit_end s (bump v.at 1) x r))

abbrev pub init : Kind → Option Init → PieceWalk (Option TExpr)
init s i = λ l v. init_in s i v

abbrev pub item_walk : Bool → Scalar → Item → PieceWalk (List TStmt)
item_walk fixed s (item.Array t l v r) = made (λ y. st.Declare y.0 None ∷ []) (seq (declared (shape.Array s (value_of v) fixed) t) (size v))
item_walk fixed s (item.Value t i) = made (λ y. st.Declare y.0 y.1 ∷ []) (seq (declared (shape.Value s fixed) t) (init (kind_of 0 (shape.Value s fixed)) i))

abbrev pub item_step_walk : Bool → Scalar → ItemStep → PieceWalk (List TStmt)
item_step_walk fixed s x = past 1 (item_walk fixed s x.item)

abbrev pub declare_walk : Declare → PieceWalk (List TStmt)
declare_walk (declare.Values c s i more e) =
    ending (past (one_if c + type_tokens s) (listed [] (item_walk (is_some c) (type_of s) i ∷ map (item_step_walk (is_some c) (type_of s)) more))) 1
declare_walk (declare.Pointer x t i e) =
    ending (made (λ y. st.Declare y.0 y.1 ∷ []) (past (pointer_tokens x) (seq (declared (pointer_shape x) t) (init (kind_of 0 (pointer_shape x)) i)))) 1

-- ---- expressions

unfoldable pub condition_end : ℕ → Form → ℕ → Walked TExpr
condition_end p x r = guarded (scalar_needed p x.kind) (Right x.expr r)

unfoldable pub value_end : ℕ → Form → ℕ → Walked TExpr
value_end p x r = guarded (no_array p x.kind) (Right x.expr r)

unfoldable pub condition_in : Expr → View → Stepped TExpr
condition_in e v = reach v (after (walk_expr (knows_in v) e v.at) (λ x r. condition_end v.at x r))

unfoldable pub value_in : Expr → View → Stepped TExpr
value_in e v = reach v (after (walk_expr (knows_in v) e v.at) (λ x r. value_end v.at x r))

abbrev pub condition : Expr → PieceWalk TExpr
condition e = λ l v. condition_in e v

abbrev pub value : Expr → PieceWalk TExpr
value e = λ l v. value_in e v

abbrev pub maybe_condition : Option Expr → PieceWalk (Option TExpr)
maybe_condition None = maybe None
maybe_condition (Some e) = maybe (Some (condition e))

abbrev pub maybe_value : Option Expr → PieceWalk (Option TExpr)
maybe_value None = maybe None
maybe_value (Some e) = maybe (Some (value e))

unfoldable pub return_end : ℕ → Option Scalar → Form → ℕ → Walked TStmt
return_end p result x r = guarded (return_needs result p x.kind) (Right (st.Return (Some x.expr)) (bump r 1))

unfoldable pub bare_return : ℕ → Option Scalar → Walked TStmt
bare_return p result = guarded (bare_needs result p) (Right (st.Return None) (bump p 2))

unfoldable pub returned_in : Option Expr → View → Stepped TStmt
returned_in None v = reach v (bare_return v.at v.home.result)
returned_in (Some e) v = reach v (after (walk_expr (knows_in v) e (bump v.at 1)) (λ x r. return_end v.at v.home.result x r))

unfoldable pub jump_in : TStmt → Bool → View → Stepped TStmt
jump_in s l v = reach v (guarded (violations v.at ((S10, not l) ∷ [])) (Right s (bump v.at 2)))

abbrev pub for_start_walk : ForStart → PieceWalk (List TStmt)
for_start_walk (start.Declare d) = declare_walk d
for_start_walk (start.Eval e t) = ending (made evaluated (maybe_value e)) 1

-- ---- one level of a tree

abbrev pub block_part_walk : BlockPart-F (PieceWalk (List TStmt)) (PieceWalk TStmt) (PieceWalk (List TStmt)) (PieceWalk TStmt) (PieceWalk TStmt) (PieceWalk TStmt) (PieceWalk TStmt) (PieceWalk TStmt) → PieceWalk (List TStmt)
block_part_walk (o.Declare d) = declare_walk d
block_part_walk (o.Stmt x) = made (λ y. y ∷ []) x

abbrev pub stmt_walk : Stmt-F (PieceWalk (List TStmt)) (PieceWalk TStmt) (PieceWalk (List TStmt)) (PieceWalk TStmt) (PieceWalk TStmt) (PieceWalk TStmt) (PieceWalk TStmt) (PieceWalk TStmt) → PieceWalk TStmt
stmt_walk (o.Block b) = opened 1 (made (λ y. st.Block y) b)
stmt_walk (o.Eval e t) = ending (made (λ y. st.Eval y) (value e)) 1
stmt_walk (o.Empty t) = ending (nothing st.Empty) 1
stmt_walk (o.If x) = x
stmt_walk (o.While x) = x
stmt_walk (o.Do x) = x
stmt_walk (o.For x) = x
stmt_walk (o.Break w t) = λ l v. jump_in st.Break l v
stmt_walk (o.Continue w t) = λ l v. jump_in st.Continue l v
stmt_walk (o.Return w e t) = λ l v. returned_in e v

abbrev pub if_walk : If-F (PieceWalk (List TStmt)) (PieceWalk TStmt) (PieceWalk (List TStmt)) (PieceWalk TStmt) (PieceWalk TStmt) (PieceWalk TStmt) (PieceWalk TStmt) (PieceWalk TStmt) → PieceWalk TStmt
if_walk x = made (λ y. st.If y.0 y.1.0 y.1.1) (seq (past 2 (condition x.test)) (seq (past 1 x.body) (maybe x.other)))

abbrev pub while_walk : While-F (PieceWalk (List TStmt)) (PieceWalk TStmt) (PieceWalk (List TStmt)) (PieceWalk TStmt) (PieceWalk TStmt) (PieceWalk TStmt) (PieceWalk TStmt) (PieceWalk TStmt) → PieceWalk TStmt
while_walk x = made (λ y. st.While y.0 y.1) (seq (past 2 (condition x.test)) (past 1 (looping x.body)))

abbrev pub do_walk : Do-F (PieceWalk (List TStmt)) (PieceWalk TStmt) (PieceWalk (List TStmt)) (PieceWalk TStmt) (PieceWalk TStmt) (PieceWalk TStmt) (PieceWalk TStmt) (PieceWalk TStmt) → PieceWalk TStmt
do_walk x = ending (made (λ y. st.Do y.0 y.1) (seq (past 1 (looping x.body)) (past 2 (condition x.test)))) 2

abbrev pub for_walk : For-F (PieceWalk (List TStmt)) (PieceWalk TStmt) (PieceWalk (List TStmt)) (PieceWalk TStmt) (PieceWalk TStmt) (PieceWalk TStmt) (PieceWalk TStmt) (PieceWalk TStmt) → PieceWalk TStmt
for_walk x =
    opened 2 (made (λ y. st.For y.0 y.1.0 y.1.1.0 y.1.1.1)
    (seq (for_start_walk x.start) (seq (maybe_condition x.test) (seq (past 1 (maybe_value x.step)) (past 1 (looping x.body))))))

abbrev pub block_walk : Block-F (PieceWalk (List TStmt)) (PieceWalk TStmt) (PieceWalk (List TStmt)) (PieceWalk TStmt) (PieceWalk TStmt) (PieceWalk TStmt) (PieceWalk TStmt) (PieceWalk TStmt) → PieceWalk (List TStmt)
block_walk x = ending (listed [] x.parts) 1

abbrev pub else_walk : Else-F (PieceWalk (List TStmt)) (PieceWalk TStmt) (PieceWalk (List TStmt)) (PieceWalk TStmt) (PieceWalk TStmt) (PieceWalk TStmt) (PieceWalk TStmt) (PieceWalk TStmt) → PieceWalk TStmt
else_walk x = past 1 x.body

abbrev pub walk_block_part : BlockPart → PieceWalk (List TStmt)
walk_block_part = fold-BlockPart (PieceWalk (List TStmt)) (PieceWalk TStmt) (PieceWalk (List TStmt)) (PieceWalk TStmt) (PieceWalk TStmt) (PieceWalk TStmt) (PieceWalk TStmt) (PieceWalk TStmt) block_part_walk stmt_walk block_walk do_walk else_walk for_walk if_walk while_walk

abbrev pub walk_stmt : Stmt → PieceWalk TStmt
walk_stmt = fold-Stmt (PieceWalk (List TStmt)) (PieceWalk TStmt) (PieceWalk (List TStmt)) (PieceWalk TStmt) (PieceWalk TStmt) (PieceWalk TStmt) (PieceWalk TStmt) (PieceWalk TStmt) block_part_walk stmt_walk block_walk do_walk else_walk for_walk if_walk while_walk

abbrev pub walk_block : Block → PieceWalk (List TStmt)
walk_block = fold-Block (PieceWalk (List TStmt)) (PieceWalk TStmt) (PieceWalk (List TStmt)) (PieceWalk TStmt) (PieceWalk TStmt) (PieceWalk TStmt) (PieceWalk TStmt) (PieceWalk TStmt) block_part_walk stmt_walk block_walk do_walk else_walk for_walk if_walk while_walk

abbrev pub walk_do : Do → PieceWalk TStmt
walk_do = fold-Do (PieceWalk (List TStmt)) (PieceWalk TStmt) (PieceWalk (List TStmt)) (PieceWalk TStmt) (PieceWalk TStmt) (PieceWalk TStmt) (PieceWalk TStmt) (PieceWalk TStmt) block_part_walk stmt_walk block_walk do_walk else_walk for_walk if_walk while_walk

abbrev pub walk_else : Else → PieceWalk TStmt
walk_else = fold-Else (PieceWalk (List TStmt)) (PieceWalk TStmt) (PieceWalk (List TStmt)) (PieceWalk TStmt) (PieceWalk TStmt) (PieceWalk TStmt) (PieceWalk TStmt) (PieceWalk TStmt) block_part_walk stmt_walk block_walk do_walk else_walk for_walk if_walk while_walk

abbrev pub walk_for : For → PieceWalk TStmt
walk_for = fold-For (PieceWalk (List TStmt)) (PieceWalk TStmt) (PieceWalk (List TStmt)) (PieceWalk TStmt) (PieceWalk TStmt) (PieceWalk TStmt) (PieceWalk TStmt) (PieceWalk TStmt) block_part_walk stmt_walk block_walk do_walk else_walk for_walk if_walk while_walk

abbrev pub walk_if : If → PieceWalk TStmt
walk_if = fold-If (PieceWalk (List TStmt)) (PieceWalk TStmt) (PieceWalk (List TStmt)) (PieceWalk TStmt) (PieceWalk TStmt) (PieceWalk TStmt) (PieceWalk TStmt) (PieceWalk TStmt) block_part_walk stmt_walk block_walk do_walk else_walk for_walk if_walk while_walk

abbrev pub walk_while : While → PieceWalk TStmt
walk_while = fold-While (PieceWalk (List TStmt)) (PieceWalk TStmt) (PieceWalk (List TStmt)) (PieceWalk TStmt) (PieceWalk TStmt) (PieceWalk TStmt) (PieceWalk TStmt) (PieceWalk TStmt) block_part_walk stmt_walk block_walk do_walk else_walk for_walk if_walk while_walk

abbrev pub maybe_else : Option Else → PieceWalk (Option TStmt)
maybe_else None = maybe None
maybe_else (Some e) = maybe (Some (walk_else e))

-- ---- what the code answers, and the state that it leaves

abbrev pub view_of : State → View
view_of s = record { outer = map (λ b. seen b) s.scope.outer; inner = seen s.scope.inner; home = s.scope.home; vars = s.vars; at = s.at }

abbrev pub Stands : {A : Type 0} → Stepped A → Result A TypeFault → State → Type 0
Stands (Goes a v) (Ok b) new = (a ≡ b) × (v ≡ view_of new)
Stands (Goes a v) (Err Memory) new = Unit {0}
Stands (Goes a v) (Err (Rule r t)) new = ⊥
Stands (Stops f) (Ok b) new = ⊥
Stands (Stops f) (Err (Rule r t)) new = f ≡ record { token = t; rule = r }
Stands (Stops f) (Err Memory) new = Unit {0}

abbrev pub Reaches : {A : Type 0} → Walked A → Result A TypeFault → State → State → Type 0
Reaches (Right a q) (Ok b) old new = (a ≡ b) × (record (view_of old) { at = q } ≡ view_of new)
Reaches (Right a q) (Err Memory) old new = Unit {0}
Reaches (Right a q) (Err (Rule r t)) old new = ⊥
Reaches (Wrong f) (Ok b) old new = ⊥
Reaches (Wrong f) (Err (Rule r t)) old new = f ≡ record { token = t; rule = r }
Reaches (Wrong f) (Err Memory) old new = Unit {0}

abbrev pub Entered : Result (Unit {0}) TypeFault → View → State → Type 0
Entered (Ok u) v new = view_of new ≡ entered v
Entered (Err Memory) v new = Unit {0}
Entered (Err (Rule r t)) v new = ⊥
