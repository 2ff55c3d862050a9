-- What is added to statements.
use Rattle.std.specs.Prelude.{◌≡◌, ℕ, List, ◌++◌}
use Rattle.item_ir.specs.declared.form.Stmt.{Stmt}
use Rattle.ir_build.specs.declared.pieces.Piece.{Piece}
use Rattle.ir_build.specs.declared.places.Found.{Found}
use Rattle.ir_build.specs.declared.scopes.Given.{Given}
use Rattle.ir_build.specs.declared.scopes.Branch.{Branch}
use Rattle.ir_build.specs.declared.scopes.Head.{Head}
use Rattle.ir_build.specs.Code.{Code, PlaceCode, ArgsCode, Stmts}

-- a piece of code: its statements, and in p its value and the first number that is free
abbrev pub Adds : (old new : List Stmt) → Piece → Code → Type 0
Adds old new p c = (new ≡ old ++ c.stmts) × (p.val.0 ≡ c.val) × (p.next ≡ c.next)

-- statements, and the first number that is free
abbrev pub Grows : (old new : List Stmt) → (next : ℕ) → Stmts → Type 0
Grows old new next c = (new ≡ old ++ c.stmts) × (next ≡ c.next)

-- the code of a place
abbrev pub Finds : (old new : List Stmt) → Found → PlaceCode → Type 0
Finds old new p c = (new ≡ old ++ c.stmts) × (p.to ≡ c.to) × (p.next ≡ c.next)

-- the code of arguments
abbrev pub Gathers : (old new : List Stmt) → Given → ArgsCode → Type 0
Gathers old new g c = (new ≡ old ++ c.stmts) × (g.vals.items ≡ c.vals) × (g.next ≡ c.next)

-- statements by themselves
abbrev pub Holds : Branch → Stmts → Type 0
Holds b c = (b.stmts.items ≡ c.stmts) × (b.next ≡ c.next)

abbrev pub Tests : Head → Code → Type 0
Tests h c = (h.stmts.items ≡ c.stmts) × (h.val.0 ≡ c.val) × (h.next ≡ c.next)
