-- What the meaning gives for a scope, worked out by hand.
use Rattle.std.specs.Prelude.{◌≡◌, ℕ, List, [], ◌∷◌, Some}
use Rattle.q_lane.specs.declared.kinds.Scalar.TheVariants.{Char, Short, Int}
use Rattle.q_functions.specs.declared.work.Work.{Work}
use Rattle.clc_types.specs.declared.typed.Ty.TheVariants as ty
use Rattle.clc_types.specs.declared.typed.Var.{Var}
use Rattle.clc_types.specs.declared.typed.Var.TheVariants as var
use Rattle.item_meaning.specs.declared.values.Value.{Value}
use Rattle.item_meaning.specs.declared.values.Value.TheVariants.{Num, Null}
use Rattle.item_meaning.specs.ItemState.{State, Goes, Spent}
use Rattle.clc_inline.specs.declared.body.Node.{Node, end_of-TExpr, more_of-TExpr}
use Rattle.clc_inline.specs.declared.body.Node.TheVariants.{Number, Name, Scope'}
use Rattle.clc_inline.specs.declared.body.TStmt.{end_of-TStmt, more_of-TStmt, TStmt-Declare-1-None', TStmt-Declare-1-Some'}
use Rattle.clc_inline.specs.declared.body.TStmt.TheVariants.{Block', Declare', Return'}
use Rattle.body_meaning.specs.BodyMeaning.{value_of}

-- f(70000) of `char f(short a){return a;char c;}`, where a is variable 0 and c variable 1
abbrev pub called : Node
called =
    Scope' (0 ∷ []) (tt ∷ []) (more_of-TExpr 0 (ty.Value Int) (Number 70000) end_of-TExpr) (Some Char) _ (
    more_of-TStmt (
    Block' (tt ∷ tt ∷ []) (
    more_of-TStmt (Return' (TStmt-Declare-1-Some' 0 (ty.Value Short) (Name 0))) (more_of-TStmt (Declare' 1 TStmt-Declare-1-None') end_of-TStmt)
    )
    ) end_of-TStmt
    )

abbrev pub variables : List Var
variables = var.Value Short ∷ var.Value Char ∷ []

abbrev pub state : (a c : Value) → (turns : ℕ) → State
state a c turns = record { vars = a ∷ c ∷ []; arrays = [] ∷ [] ∷ []; buffers = []; marks = []; left = turns }

-- the scope, its argument, the block, the `return` and the name take a turn each. The argument becomes a short, what is returned a char, and what
-- the scope declares holds nothing when it begins, whatever it held before
abbrev pub ScopeReturns : Type 0
ScopeReturns =
    (work : Work)
    → (value_of work variables 0 (ty.Value Char) called (state (Num 7) (Num 9) 5) ≡ Goes (Num 112) (state (Num 4464) Null 0))
    × (value_of work variables 0 (ty.Value Char) called (state (Num 7) (Num 9) 4) ≡ Spent)
