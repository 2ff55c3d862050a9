-- The masks that are open where a statement stands, the innermost first, and the place that they make.
use Rattle.std.specs.Prelude.{ℕ, ◌+◌, Bool, true, false, Option, Some, None, List, [], ◌∷◌, if◌then◌else◌}
use Rattle.item_ir.specs.declared.form.Val.{Val}
use Rattle.mask_flow.specs.declared.place.Place.{Place}

-- what a mask is the mask of: a branch, a round of a loop, a loop, a scope
pub data Kind : Type 0 where
  Branch : Kind
  Round : Kind
  In_loop : Kind
  In_scope : Kind

abbrev pub same : Kind → Kind → Bool
same Branch Branch = true
same Round Round = true
same In_loop In_loop = true
same In_scope In_scope = true
same _ _ = false

-- a mask and its variable. Those that are open stand in a list, the innermost first
pub record Entry : Type 0 where
  pub kind : Kind
  pub var : ℕ

abbrev pub top : List Entry → ℕ
top [] = 0
top (e ∷ st) = e.var

-- the variable of the innermost mask of a kind, within the innermost scope; the top's where there is none
abbrev pub at_kind : Kind → ℕ → List Entry → ℕ
at_kind k none [] = none
at_kind k none (e ∷ st) = if same k e.kind then e.var else (if same In_scope e.kind then none else at_kind k none st)

abbrev pub var_at : Kind → List Entry → ℕ
var_at k st = at_kind k (top st) st

-- the same, where it may be missing
abbrev pub found : Kind → List Entry → Option ℕ
found k [] = None
found k (e ∷ st) = if same k e.kind then Some e.var else (if same In_scope e.kind then None else found k st)

-- the place where k is the first value that is free and v the first variable
abbrev pub place : (k v : ℕ) → List Entry → Place
place k v st = record { value = k; var = v; top = top st; round = found Round st; in_loop = found In_loop st; in_scope = var_at In_scope st }

abbrev pub val : ℕ → Val
val k = record { 0 = k }

abbrev pub branch : ℕ → List Entry → List Entry
branch v st = record { kind = Branch; var = v } ∷ st

abbrev pub in_scope : ℕ → List Entry → List Entry
in_scope v st = record { kind = In_scope; var = v } ∷ st

abbrev pub in_loop : ℕ → List Entry → List Entry
in_loop v st = record { kind = In_loop; var = v } ∷ st

abbrev pub in_round : ℕ → List Entry → List Entry
in_round v st = record { kind = Round; var = v + 1 } ∷ in_loop v st
