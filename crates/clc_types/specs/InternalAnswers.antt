-- Internal: what the code does, and no part of the rules. What the checker answers, where the walk goes right or wrong. Memory may always run out.
use Rattle.std.specs.Prelude.{◌≡◌, ℕ, Option, Some, None, Ok, Err, Result, List, [], ◌∷◌, Vec}
use Rattle.clc_types.specs.declared.typed.TypeFault.{TypeFault}
use Rattle.clc_types.specs.declared.typed.TypeFault.TheVariants.{Rule, Memory}
use Rattle.clc_types.specs.InternalWalk.{Walked, Right, Wrong}

abbrev pub Walks : {A : Type 0} → Walked A → Result A TypeFault → ℕ → Type 0
Walks (Right a q) (Ok b) n = (a ≡ b) × (q ≡ n)
Walks (Right a q) (Err Memory) n = Unit {0}
Walks (Right a q) (Err (Rule r t)) n = ⊥
Walks (Wrong f) (Ok b) n = ⊥
Walks (Wrong f) (Err (Rule r t)) n = f ≡ record { token = t; rule = r }
Walks (Wrong f) (Err Memory) n = Unit {0}

abbrev pub first : {A : Type 0} → List A → Option A
first [] = None
first (x ∷ xs) = Some x

-- no fault but for memory
abbrev pub Gives : {A : Type 0} → Result A TypeFault → A → Type 0
Gives (Ok a) b = a ≡ b
Gives (Err Memory) b = Unit {0}
Gives (Err (Rule r t)) b = ⊥

abbrev pub unit_is : {A B : Type 0} → Result A TypeFault → B → Result B TypeFault
unit_is (Ok a) b = Ok b
unit_is (Err f) b = Err f

abbrev pub items_in : {A S : Type 0} → Result (Vec A S) TypeFault → Result (List A) TypeFault
items_in (Ok v) = Ok v.items
items_in (Err f) = Err f
