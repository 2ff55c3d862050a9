-- The count of each form as the tree has it.
use Rattle.std.proofs.Common.{◌≡◌, ℕ, ◌+◌, Bool, List, [], ◌∷◌, Option, Some, None, refl, ap, ◌∙◌}
use Rattle.clc_lexer.specs.declared.marks.Mark.{Mark}
use Rattle.q_lane.specs.declared.kinds.Scalar.{Scalar}
use Rattle.clc_types.specs.declared.typed.Builtin.{Builtin as BuiltinName}
use Rattle.clc_counts.specs.Counts.{weight}
use Rattle.clc_inline.specs.declared.body.TExpr.{TExpr, roll-TExpr}
use Rattle.clc_inline.specs.declared.body.TStmt.{TStmt, Row_of-TStmt, end_of-TStmt, more_of-TStmt}
use Rattle.clc_inline.specs.declared.body.TStmt.TheVariants as f
use Rattle.clc_inline.specs.declared.body.Node.{Node, Row_of-TExpr, end_of-TExpr, more_of-TExpr, Row_of-Node-Chain-1-2, end_of-Node-Chain-1-2, more_of-Node-Chain-1-2}
use Rattle.clc_inline.specs.declared.body.Node.TheVariants as v
use Rattle.clc_inline.specs.declared.body.Node.TheBlock.{shape-the_row-TExpr-0, hidden-the_row-TExpr-0, hidden-the_row-Node-Chain-1-2-1, items-the_row-Node-Chain-1-2, items_hidden-the_row-Node-Chain-1-2-1, hidden-the_row-TExpr-2, items-the_row-TExpr, items_hidden-the_row-TExpr-2, shape-the_row-TStmt-3, hidden-the_row-TStmt-3, hidden-the_row-TStmt-4, items-the_row-TStmt, items_hidden-the_row-TStmt-4}
use denote.Hole.Carrier.{hidden}
use Rattle.clc_types.specs.declared.typed.Ty.{Ty}
use Rattle.item_weights.specs.Nodes.{count, count_args, count_chain, count_stmt, count_all, count_begin, count_first}

abbrev pub of : TExpr → ℕ
of e = count e.node

abbrev pub args : List TExpr → ℕ
args [] = 0
args (e ∷ rest) = of e + args rest

abbrev pub chain : List (Mark × TExpr) → ℕ
chain [] = 0
chain (x ∷ rest) = weight x.0 + of x.1 + chain rest

abbrev pub all : List TStmt → ℕ
all [] = 0
all (a ∷ rest) = count_stmt a + all rest

abbrev pub begins : List TStmt → ℕ
begins [] = 0
begins (a ∷ rest) = count_first a + begins rest

abbrev pub maybe : Option TExpr → ℕ
maybe None = 0
maybe (Some e) = of e

abbrev pub other : Option TStmt → ℕ
other None = 0
other (Some a) = count_stmt a

pub of_roll : (at : ℕ) (t : Ty) (e : Node) → of (roll-TExpr (record { at = at; ty = t; node = e })) ≡ count e
of_roll at t e = refl

chain_items : {i : _} (r : Row_of-Node-Chain-1-2 i) → count_chain r ≡ chain (items-the_row-Node-Chain-1-2 i r)
chain_items end_of-Node-Chain-1-2 = refl
chain_items (more_of-Node-Chain-1-2 o at t e rest) = ap (λ n. weight o + count e + n) (chain_items rest)

chain_listed : (l : List (Mark × TExpr)) → count_chain (hidden-the_row-Node-Chain-1-2-1 l) ≡ chain l
chain_listed l = chain_items (hidden-the_row-Node-Chain-1-2-1 l) ∙ ap (λ (z : List (Mark × TExpr)). chain z) (items_hidden-the_row-Node-Chain-1-2-1 l)

args_items : {i : _} (r : Row_of-TExpr i) → count_args r ≡ args (items-the_row-TExpr i r)
args_items end_of-TExpr = refl
args_items (more_of-TExpr at t e rest) = ap (λ n. count e + n) (args_items rest)

args_listed : (l : List TExpr) → count_args (hidden-the_row-TExpr-2 l) ≡ args l
args_listed l = args_items (hidden-the_row-TExpr-2 l) ∙ ap (λ (z : List TExpr). args z) (items_hidden-the_row-TExpr-2 l)

block_items : {i : _} (r : Row_of-TStmt i) → count_all r ≡ all (items-the_row-TStmt i r)
block_items end_of-TStmt = refl
block_items (more_of-TStmt a rest) = ap (λ n. count_stmt a + n) (block_items rest)

begin_items : {i : _} (r : Row_of-TStmt i) → count_begin r ≡ begins (items-the_row-TStmt i r)
begin_items end_of-TStmt = refl
begin_items (more_of-TStmt a rest) = ap (λ n. count_first a + n) (begin_items rest)

begin_listed : (l : List TStmt) → count_begin (hidden-the_row-TStmt-4 l) ≡ begins l
begin_listed l = begin_items (hidden-the_row-TStmt-4 l) ∙ ap (λ (z : List TStmt). begins z) (items_hidden-the_row-TStmt-4 l)

pub count_index : (a b : TExpr) → count (v.Index a b) ≡ 1 + (of a + of b)
unfolding shape-the_row-TExpr-0 hidden-the_row-TExpr-0 hidden
count_index a b = refl

pub count_element : (u : ℕ) (a : TExpr) → count (v.Element u a) ≡ 2 + of a
unfolding shape-the_row-TExpr-0 hidden-the_row-TExpr-0 hidden
count_element u a = refl

pub count_deref : (a : TExpr) → count (v.Deref a) ≡ 1 + of a
unfolding shape-the_row-TExpr-0 hidden-the_row-TExpr-0 hidden
count_deref a = refl

pub count_prefix : (o : Mark) (a : TExpr) → count (v.Prefix o a) ≡ 1 + of a
unfolding shape-the_row-TExpr-0 hidden-the_row-TExpr-0 hidden
count_prefix o a = refl

pub count_step : (a : TExpr) (up post : Bool) → count (v.Step a up post) ≡ 1 + of a
unfolding shape-the_row-TExpr-0 hidden-the_row-TExpr-0 hidden
count_step a up post = refl

pub count_cast : (a : TExpr) → count (v.Cast a) ≡ 1 + of a
unfolding shape-the_row-TExpr-0 hidden-the_row-TExpr-0 hidden
count_cast a = refl

pub count_paren : (a : TExpr) → count (v.Paren a) ≡ of a
unfolding shape-the_row-TExpr-0 hidden-the_row-TExpr-0 hidden
count_paren a = refl

pub count_chained : (a : TExpr) (l : List (Mark × TExpr)) → count (v.Chain a l) ≡ of a + chain l
unfolding shape-the_row-TExpr-0 hidden-the_row-TExpr-0 hidden
count_chained a l = ap (λ n. of a + n) (chain_listed l)

pub count_cond : (a b c : TExpr) → count (v.Cond a b c) ≡ 1 + (of a + (of b + of c))
unfolding shape-the_row-TExpr-0 hidden-the_row-TExpr-0 hidden
count_cond a b c = refl

pub count_assign : (a : TExpr) (o : Mark) (b : TExpr) → count (v.Assign a o b) ≡ weight o + (of a + of b)
unfolding shape-the_row-TExpr-0 hidden-the_row-TExpr-0 hidden
count_assign a o b = refl

pub count_scope : (ps : List ℕ) (l : List TExpr) (r : Option Scalar) (a : TStmt) → count (v.Scope ps l r a) ≡ 1 + (count_stmt a + args l)
unfolding shape-the_row-TStmt-3 hidden-the_row-TStmt-3 hidden
count_scope ps l r a = ap (λ n. 1 + (count_stmt a + n)) (args_listed l)

pub count_builtin : (b : BuiltinName) (s : Scalar) (l : List TExpr) → count (v.Builtin b s l) ≡ 16 + args l
count_builtin b s l = ap (λ n. 16 + n) (args_listed l)

pub count_block : (l : List TStmt) → count_stmt (f.Block l) ≡ 1 + all l
count_block l = ap (λ n. 1 + n) (block_items (hidden-the_row-TStmt-4 l) ∙ ap (λ (z : List TStmt). all z) (items_hidden-the_row-TStmt-4 l))

pub count_declare : (u : ℕ) (x : Option TExpr) → count_stmt (f.Declare u x) ≡ 1 + maybe x
count_declare u None = refl
count_declare u (Some e) = refl

pub count_choice : (e : TExpr) (a : TStmt) (o : Option TStmt) → count_stmt (f.If e a o) ≡ 1 + (of e + (count_stmt a + other o))
unfolding shape-the_row-TStmt-3 hidden-the_row-TStmt-3 hidden
count_choice e a None = refl
count_choice e a (Some b) = refl

pub count_while : (e : TExpr) (a : TStmt) → count_stmt (f.While e a) ≡ 1 + (of e + count_stmt a)
unfolding shape-the_row-TStmt-3 hidden-the_row-TStmt-3 hidden
count_while e a = refl

pub count_do : (a : TStmt) (e : TExpr) → count_stmt (f.Do a e) ≡ 1 + (count_stmt a + of e)
unfolding shape-the_row-TStmt-3 hidden-the_row-TStmt-3 hidden
count_do a e = refl

for_count : (l : List TStmt) (x y : Option TExpr) (a : TStmt) → count_stmt (f.For l x y a) ≡ 1 + (count_begin (hidden-the_row-TStmt-4 l) + (maybe x + (maybe y + count_stmt a)))
unfolding shape-the_row-TStmt-3 hidden-the_row-TStmt-3 hidden
for_count l None None a = refl
for_count l None (Some y) a = refl
for_count l (Some x) None a = refl
for_count l (Some x) (Some y) a = refl

pub count_for : (l : List TStmt) (x y : Option TExpr) (a : TStmt) → count_stmt (f.For l x y a) ≡ 1 + (begins l + (maybe x + (maybe y + count_stmt a)))
count_for l x y a = for_count l x y a ∙ ap (λ n. 1 + (n + (maybe x + (maybe y + count_stmt a)))) (begin_listed l)

pub count_return : (x : Option TExpr) → count_stmt (f.Return x) ≡ 1 + maybe x
count_return None = refl
count_return (Some e) = refl

pub first_declare : (u : ℕ) (x : Option TExpr) → count_first (f.Declare u x) ≡ 1 + maybe x
first_declare u None = refl
first_declare u (Some e) = refl
