-- The declarations of a function, what is in force at a token, and the faults of statements (OpenCL C 1.2, 6.5 and 6.8; C99, 6.2.1,
-- 6.7 and 6.8).
use Rattle.std.specs.Prelude.{ℕ, suc, ◌+◌, Bool, true, false, not, ◌&&◌, ◌||◌, if◌then◌else◌, bytes_eq, nat_eq, nat_lt, nat_le, List, [], ◌∷◌, ◌++◌, Option, Some, None, is_some, map}
use Rattle.clc_lexer.specs.declared.token.Token.{Token}
use Rattle.clc_tree.specs.declared.expressions.Expr.{Expr}
use Rattle.clc_tree.specs.declared.statements.Pointer.{Pointer}
use Rattle.clc_tree.specs.declared.statements.Init.{Init}
use Rattle.clc_tree.specs.declared.statements.Item.{Item}
use Rattle.clc_tree.specs.declared.statements.Item.TheVariants as item
use Rattle.clc_tree.specs.declared.statements.ItemStep.{ItemStep}
use Rattle.clc_tree.specs.declared.statements.Declare.{Declare}
use Rattle.clc_tree.specs.declared.statements.Declare.TheVariants as declare
use Rattle.clc_tree.specs.declared.statements.ForStart.{ForStart}
use Rattle.clc_tree.specs.declared.statements.ForStart.TheVariants as start
use Rattle.clc_tree.specs.declared.statements.Block.{Block}
use Rattle.clc_tree.specs.declared.statements.BlockPart.TheOpen as o
use Rattle.clc_tree.specs.declared.statements.BlockPart.TheOpen.{BlockPart-F, Stmt-F, Block-F, Do-F, Else-F, For-F, If-F, While-F}
use Rattle.clc_tree.specs.declared.statements.BlockPart.TheFolds.{fold-Block}
use Rattle.q_lane.specs.declared.kinds.Scalar.{Scalar}
use Rattle.clc_types.specs.declared.type_rule.TypeRule.TheVariants.{S2, S10, S11}
use Rattle.clc_types.specs.declared.typed.TExpr.{TExpr}
use Rattle.clc_types.specs.declared.typed.TStmt.{TStmt}
use Rattle.clc_types.specs.declared.typed.TStmt.TheVariants as st
use Rattle.clc_types.specs.declared.forms.Shape.{Shape}
use Rattle.clc_types.specs.declared.forms.Shape.TheVariants as shape
use Rattle.clc_types.specs.declared.forms.Kind.{Kind}
use Rattle.clc_types.specs.declared.forms.Named.{Named}
use Rattle.clc_types.specs.declared.forms.Named.TheVariants as nm
use Rattle.clc_types.specs.Judged.{Judged, Fine, both, next, unless, violations, Context, Part, one}
use Rattle.clc_types.specs.Words.{name_of, value_of, type_of, type_tokens, space_in, one_if}
use Rattle.clc_types.specs.Rules.{kind_of, scalar_needed, no_array, fit_needed, return_needs, bare_needs, is_size}
use Rattle.clc_types.specs.Names.{or_else}
use Rattle.clc_types.specs.Typing.{judge, judge_assign}

-- ---- declarations

-- a declared variable: its name, the number of that token, and the tokens of the block that it belongs to, from its first one up to but
-- without `upto`
pub record Decl : Type 0 where
  pub name : List ℕ
  pub place : ℕ
  pub from : ℕ
  pub upto : ℕ
  pub shape : Shape

-- it stands earlier, and its block encloses the token
abbrev pub is_visible : Decl → ℕ → List ℕ → Bool
is_visible d q x = bytes_eq x d.name && (nat_lt d.place q && (nat_le d.from q && nat_lt q d.upto))

-- the last one that is visible; a variable's number is its index among all declarations
abbrev pub last_visible : ℕ → List Decl → ℕ → List ℕ → Option Named
last_visible n [] q x = None
last_visible n (d ∷ ds) q x = or_else (last_visible (suc n) ds q x) (if is_visible d q x then Some (nm.Variable n d.shape) else None)

-- S2: an earlier declaration of the name in the same block
abbrev pub is_again : List Decl → ℕ → ℕ → List ℕ → Bool
is_again [] from q x = false
is_again (d ∷ ds) from q x = if bytes_eq x d.name && (nat_eq d.from from && nat_lt d.place q) then true else is_again ds from q x

-- how many declarations stand earlier
abbrev pub earlier : List Decl → ℕ → ℕ
earlier [] q = 0
earlier (d ∷ ds) q = if nat_lt d.place q then suc (earlier ds q) else earlier ds q

-- ---- pieces: parts of a function's text that may declare

-- what a piece stands among: its expressions' context, and all declarations of the function
pub record Around : Type 0 where
  pub names : Context
  pub all : List Decl

-- a piece has so many tokens; it declares these names, in the block with these first token and end, from a place on; and it is judged
-- there, in a loop or not
pub record Piece (A : Type 0) : Type 0 where
  pub tokens : ℕ
  pub decls : (from upto at : ℕ) → List Decl
  pub at : Around → (looped : Bool) → (from at : ℕ) → Judged A

-- no token at all
abbrev pub nothing : {A : Type 0} → A → Piece A
nothing a = record { tokens = 0; decls = λ from upto p. []; at = λ c l from p. Fine a }

-- a part that declares nothing
abbrev pub quiet : {A : Type 0} → Part A → Piece A
quiet a = record { tokens = a.tokens; decls = λ from upto p. []; at = λ c l from p. a.at c.names p }

-- n tokens, and then a piece
abbrev pub past : {A : Type 0} → ℕ → Piece A → Piece A
past n a = record {
  tokens = n + a.tokens;
  decls = λ from upto p. a.decls from upto (p + n);
  at = λ c l from p. a.at c l from (p + n);
}

-- a piece, and then n tokens
abbrev pub ending : {A : Type 0} → Piece A → ℕ → Piece A
ending a n = record { tokens = a.tokens + n; decls = a.decls; at = a.at }

-- a piece, and then another
abbrev pub seq : {A B : Type 0} → Piece A → Piece B → Piece (A × B)
seq a b = record {
  tokens = a.tokens + b.tokens;
  decls = λ from upto p. a.decls from upto p ++ b.decls from upto (p + a.tokens);
  at = λ c l from p. both (a.at c l from p) (b.at c l from (p + a.tokens));
}

abbrev pub made : {A B : Type 0} → (A → B) → Piece A → Piece B
made f a = record { tokens = a.tokens; decls = a.decls; at = λ c l from p. next (a.at c l from p) (λ x. Fine (f x)) }

abbrev pub maybe : {A : Type 0} → Option (Piece A) → Piece (Option A)
maybe None = nothing None
maybe (Some a) = made (λ x. Some x) a

abbrev pub listed : {A : Type 0} → List (Piece (List A)) → Piece (List A)
listed [] = nothing []
listed (x ∷ xs) = made (λ y. y.0 ++ y.1) (seq x (listed xs))

-- n tokens, and then a piece: a block of its own
abbrev pub opened : {A : Type 0} → ℕ → Piece A → Piece A
opened n a = record {
  tokens = n + a.tokens;
  decls = λ from upto p. a.decls p (p + (n + a.tokens)) (p + n);
  at = λ c l from p. a.at c l p (p + n);
}

abbrev pub looping : {A : Type 0} → Piece A → Piece A
looping a = record { tokens = a.tokens; decls = a.decls; at = λ c l from p. a.at c true from p }

-- ---- declarations

-- the token of a declared name: S2, and the variable's number
abbrev pub declared : Shape → Token → Piece ℕ
declared s t = record {
  tokens = 1;
  decls = λ from upto p. record { name = name_of t; place = p; from = from; upto = upto; shape = s } ∷ [];
  at = λ c l from p. unless (violations p ((S2, is_again c.all from p (name_of t)) ∷ [])) (earlier c.all p);
}

-- `[`, a number and `]`: S11 at the number
abbrev pub size : Token → Part (Unit {0})
size t = record { tokens = 3; at = λ c p. unless (violations (p + 1) ((S11, not (is_size (value_of t))) ∷ [])) tt }

abbrev pub init : Kind → Option Init → Piece (Option TExpr)
init s None = nothing None
init s (Some i) = quiet (one 1 (judge_assign i.value) 0 (λ p q x. fit_needed s q x.kind) (λ x. Some x.expr))

abbrev pub item_piece : Bool → Scalar → Item → Piece (List TStmt)
item_piece fixed s (item.Array t l v r) = made (λ y. st.Declare y.0 None ∷ []) (seq (declared (shape.Array s (value_of v) fixed) t) (quiet (size v)))
item_piece fixed s (item.Value t i) = made (λ y. st.Declare y.0 y.1 ∷ []) (seq (declared (shape.Value s fixed) t) (init (kind_of 0 (shape.Value s fixed)) i))

-- "," and an item
abbrev pub item_step_piece : Bool → Scalar → ItemStep → Piece (List TStmt)
item_step_piece fixed s x = past 1 (item_piece fixed s x.item)

abbrev pub pointer_shape : Pointer → Shape
pointer_shape p = shape.Pointer (space_in p.space.kind) (is_some p.outer_const || is_some p.inner_const) (type_of p.element) (is_some p.own_const)

abbrev pub pointer_tokens : Pointer → ℕ
pointer_tokens p = one_if p.outer_const + 1 + one_if p.inner_const + type_tokens p.element + 1 + one_if p.own_const + one_if p.restrict

abbrev pub declare_piece : Declare → Piece (List TStmt)
declare_piece (declare.Values c s i more e) =
    ending (past (one_if c + type_tokens s) (listed (item_piece (is_some c) (type_of s) i ∷ map (item_step_piece (is_some c) (type_of s)) more))) 1
declare_piece (declare.Pointer x t i e) =
    ending (made (λ y. st.Declare y.0 y.1 ∷ []) (past (pointer_tokens x) (seq (declared (pointer_shape x) t) (init (kind_of 0 (pointer_shape x)) i)))) 1

-- ---- expressions in statements

-- a number is needed
abbrev pub condition : Expr → Piece TExpr
condition e = quiet (one 0 (judge e) 0 (λ p q x. scalar_needed q x.kind) (λ x. x.expr))

-- no value is needed
abbrev pub value : Expr → Piece TExpr
value e = quiet (one 0 (judge e) 0 (λ p q x. no_array q x.kind) (λ x. x.expr))

abbrev pub maybe_condition : Option Expr → Piece (Option TExpr)
maybe_condition None = maybe None
maybe_condition (Some e) = maybe (Some (condition e))

abbrev pub maybe_value : Option Expr → Piece (Option TExpr)
maybe_value None = maybe None
maybe_value (Some e) = maybe (Some (value e))

-- S13
abbrev pub returned : Option Expr → Piece TStmt
returned None = quiet (record { tokens = 2; at = λ c p. unless (bare_needs c.home.result p) (st.Return None) })
returned (Some e) = quiet (record {
  tokens = 1 + (judge e).tokens + 1;
  at = λ c p. next ((judge e).at c (p + 1)) (λ x. unless (return_needs c.home.result p x.kind) (st.Return (Some x.expr)));
})

-- S10
abbrev pub jump : TStmt → Piece TStmt
jump s = record { tokens = 2; decls = λ from upto p. []; at = λ c l from p. unless (violations p ((S10, not l) ∷ [])) s }

abbrev pub evaluated : Option TExpr → List TStmt
evaluated None = []
evaluated (Some e) = st.Eval e ∷ []

abbrev pub for_start_piece : ForStart → Piece (List TStmt)
for_start_piece (start.Declare d) = declare_piece d
for_start_piece (start.Eval e t) = ending (made evaluated (maybe_value e)) 1

-- ---- one level of a tree, with the piece of each part in its place

abbrev pub block_part_piece : BlockPart-F (Piece (List TStmt)) (Piece TStmt) (Piece (List TStmt)) (Piece TStmt) (Piece TStmt) (Piece TStmt) (Piece TStmt) (Piece TStmt) → Piece (List TStmt)
block_part_piece (o.Declare d) = declare_piece d
block_part_piece (o.Stmt x) = made (λ y. y ∷ []) x

abbrev pub stmt_piece : Stmt-F (Piece (List TStmt)) (Piece TStmt) (Piece (List TStmt)) (Piece TStmt) (Piece TStmt) (Piece TStmt) (Piece TStmt) (Piece TStmt) → Piece TStmt
stmt_piece (o.Block b) = opened 1 (made (λ y. st.Block y) b)
stmt_piece (o.Eval e t) = ending (made (λ y. st.Eval y) (value e)) 1
stmt_piece (o.Empty t) = ending (nothing st.Empty) 1
stmt_piece (o.If x) = x
stmt_piece (o.While x) = x
stmt_piece (o.Do x) = x
stmt_piece (o.For x) = x
stmt_piece (o.Break w t) = jump st.Break
stmt_piece (o.Continue w t) = jump st.Continue
stmt_piece (o.Return w e t) = returned e

abbrev pub if_piece : If-F (Piece (List TStmt)) (Piece TStmt) (Piece (List TStmt)) (Piece TStmt) (Piece TStmt) (Piece TStmt) (Piece TStmt) (Piece TStmt) → Piece TStmt
if_piece x = made (λ y. st.If y.0 y.1.0 y.1.1) (seq (past 2 (condition x.test)) (seq (past 1 x.body) (maybe x.other)))

abbrev pub while_piece : While-F (Piece (List TStmt)) (Piece TStmt) (Piece (List TStmt)) (Piece TStmt) (Piece TStmt) (Piece TStmt) (Piece TStmt) (Piece TStmt) → Piece TStmt
while_piece x = made (λ y. st.While y.0 y.1) (seq (past 2 (condition x.test)) (past 1 (looping x.body)))

abbrev pub do_piece : Do-F (Piece (List TStmt)) (Piece TStmt) (Piece (List TStmt)) (Piece TStmt) (Piece TStmt) (Piece TStmt) (Piece TStmt) (Piece TStmt) → Piece TStmt
do_piece x = ending (made (λ y. st.Do y.0 y.1) (seq (past 1 (looping x.body)) (past 2 (condition x.test)))) 2

abbrev pub for_piece : For-F (Piece (List TStmt)) (Piece TStmt) (Piece (List TStmt)) (Piece TStmt) (Piece TStmt) (Piece TStmt) (Piece TStmt) (Piece TStmt) → Piece TStmt
for_piece x =
    opened 2 (made (λ y. st.For y.0 y.1.0 y.1.1.0 y.1.1.1)
    (seq (for_start_piece x.start) (seq (maybe_condition x.test) (seq (past 1 (maybe_value x.step)) (past 1 (looping x.body))))))

-- what stands after `{` belongs to the block that it is handed
abbrev pub block_piece : Block-F (Piece (List TStmt)) (Piece TStmt) (Piece (List TStmt)) (Piece TStmt) (Piece TStmt) (Piece TStmt) (Piece TStmt) (Piece TStmt) → Piece (List TStmt)
block_piece x = ending (listed x.parts) 1

abbrev pub else_piece : Else-F (Piece (List TStmt)) (Piece TStmt) (Piece (List TStmt)) (Piece TStmt) (Piece TStmt) (Piece TStmt) (Piece TStmt) (Piece TStmt) → Piece TStmt
else_piece x = past 1 x.body

abbrev pub block : Block → Piece (List TStmt)
block = fold-Block (Piece (List TStmt)) (Piece TStmt) (Piece (List TStmt)) (Piece TStmt) (Piece TStmt) (Piece TStmt) (Piece TStmt) (Piece TStmt) block_part_piece stmt_piece block_piece do_piece else_piece for_piece if_piece while_piece
