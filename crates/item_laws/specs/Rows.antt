-- What the meaning gives for small pieces of code, worked out by hand.
use Rattle.std.specs.Prelude.{◌≡◌, ℕ, ◌+◌, ◌*◌, List, [], ◌∷◌, get_or}
use Rattle.q_lane.specs.declared.kinds.Scalar.TheVariants.{Char, Short, Int}
use Rattle.q_lane.specs.declared.operations.BinOp.TheVariants.{Sub}
use Rattle.q_functions.specs.declared.work.Work.{Work}
use Rattle.item_ir.specs.IrMeaning.{World, State, Run, Ends, Stops, Spent, Next, run_all}
use Rattle.item_ir.specs.declared.form.Val.{Val}
use Rattle.item_ir.specs.declared.form.Def.TheVariants as d
use Rattle.item_ir.specs.declared.form.Stmt.{Stmt}
use Rattle.item_ir.specs.declared.form.Stmt.TheVariants.{Let, Set, Store, SetElement, Clear, If, Loop, Scope, Leave, Break, Continue}

-- a buffer of eight bytes at address 64, and arrays of two elements
abbrev pub world : Work → World
world work = record { regions = record { start = 64; len = 8 } ∷ []; params = λ p. 0; lens = λ a. 2; work = work }

-- these values and variables, and 0 for all others; each byte of the memory is its address, and each element of array a is 10 a and its index
abbrev pub state : (vals vars : List ℕ) → (left : ℕ) → State
state vals vars left = record { vals = λ v. get_or vals v 0; vars = λ u. get_or vars u 0; arrays = λ a i. 10 * a + i; mem = λ a. a; touches = []; left = left }

-- a value, three variables, a byte and the rounds left, where the code ends at its end
abbrev pub told : Run → List ℕ
told (Ends Next s) = s.vals 9 ∷ s.vars 0 ∷ s.vars 1 ∷ s.vars 2 ∷ s.mem 68 ∷ s.left ∷ []
told _ = []

abbrev pub v : ℕ → Val
v n = record { 0 = n }

-- the code in a state of these values and variables, with five rounds left
abbrev pub does : Work → List Stmt → (vals vars : List ℕ) → Run
does work code vals vars = run_all (world work) code (state vals vars 5)

-- ---- accesses: an address is a multiple of the element's size, and its bytes lie in a buffer

abbrev pub LoadsAreBounded : Type 0
LoadsAreBounded =
    (work : Work)
    → (told (does work (Let (v 9) (d.Load Int (v 0)) ∷ []) (68 ∷ []) []) ≡ 1195787588 ∷ 0 ∷ 0 ∷ 0 ∷ 68 ∷ 5 ∷ [])
    × (told (does work (Let (v 9) (d.Load Short (v 0)) ∷ []) (70 ∷ []) []) ≡ 18246 ∷ 0 ∷ 0 ∷ 0 ∷ 68 ∷ 5 ∷ [])
    × (told (does work (Let (v 9) (d.Load Char (v 0)) ∷ []) (71 ∷ []) []) ≡ 71 ∷ 0 ∷ 0 ∷ 0 ∷ 68 ∷ 5 ∷ [])
    × (does work (Let (v 9) (d.Load Int (v 0)) ∷ []) (66 ∷ []) [] ≡ Stops)
    × (does work (Let (v 9) (d.Load Short (v 0)) ∷ []) (67 ∷ []) [] ≡ Stops)
    × (does work (Let (v 9) (d.Load Char (v 0)) ∷ []) (72 ∷ []) [] ≡ Stops)
    × (does work (Let (v 9) (d.Load Char (v 0)) ∷ []) (63 ∷ []) [] ≡ Stops)
    × (does work (Let (v 9) (d.Load Int (v 0)) ∷ []) (72 ∷ []) [] ≡ Stops)

abbrev pub StoresAreBounded : Type 0
StoresAreBounded =
    (work : Work)
    → (told (does work (Store Int (v 0) (v 1) ∷ []) (68 ∷ 258 ∷ []) []) ≡ 0 ∷ 0 ∷ 0 ∷ 0 ∷ 2 ∷ 5 ∷ [])
    × (told (does work (Store Char (v 0) (v 1) ∷ Let (v 9) (d.Load Short (v 0)) ∷ []) (68 ∷ 258 ∷ []) []) ≡ 17666 ∷ 0 ∷ 0 ∷ 0 ∷ 2 ∷ 5 ∷ [])
    × (does work (Store Int (v 0) (v 1) ∷ []) (70 ∷ 258 ∷ []) [] ≡ Stops)
    × (does work (Store Int (v 0) (v 1) ∷ []) (72 ∷ 258 ∷ []) [] ≡ Stops)

-- an index is below the array's length
abbrev pub IndicesAreBounded : Type 0
IndicesAreBounded =
    (work : Work)
    → (told (does work (Let (v 9) (d.Element 3 (v 0)) ∷ []) (1 ∷ []) []) ≡ 31 ∷ 0 ∷ 0 ∷ 0 ∷ 68 ∷ 5 ∷ [])
    × (does work (Let (v 9) (d.Element 3 (v 0)) ∷ []) (2 ∷ []) [] ≡ Stops)
    × (told (does work (SetElement 3 (v 0) (v 1) ∷ Let (v 9) (d.Element 3 (v 0)) ∷ []) (1 ∷ 7 ∷ []) []) ≡ 7 ∷ 0 ∷ 0 ∷ 0 ∷ 68 ∷ 5 ∷ [])
    × (told (does work (SetElement 3 (v 0) (v 1) ∷ Let (v 9) (d.Element 4 (v 0)) ∷ []) (1 ∷ 7 ∷ []) []) ≡ 41 ∷ 0 ∷ 0 ∷ 0 ∷ 68 ∷ 5 ∷ [])
    × (does work (SetElement 3 (v 0) (v 1) ∷ []) (2 ∷ 7 ∷ []) [] ≡ Stops)
    × (told (does work (Clear 3 ∷ Let (v 9) (d.Element 3 (v 0)) ∷ []) (1 ∷ []) []) ≡ 0 ∷ 0 ∷ 0 ∷ 0 ∷ 68 ∷ 5 ∷ [])

-- ---- choices

abbrev pub ChoicesAreThose : Type 0
ChoicesAreThose =
    (work : Work)
    → (told (does work (Let (v 9) (d.Choose (v 0) (v 1) (v 2)) ∷ []) (0 ∷ 7 ∷ 8 ∷ []) []) ≡ 8 ∷ 0 ∷ 0 ∷ 0 ∷ 68 ∷ 5 ∷ [])
    × (told (does work (Let (v 9) (d.Choose (v 0) (v 1) (v 2)) ∷ []) (2 ∷ 7 ∷ 8 ∷ []) []) ≡ 7 ∷ 0 ∷ 0 ∷ 0 ∷ 68 ∷ 5 ∷ [])
    × (told (does work (If (v 0) (Set 0 (v 1) ∷ []) (Set 1 (v 2) ∷ []) ∷ []) (0 ∷ 7 ∷ 8 ∷ []) []) ≡ 0 ∷ 0 ∷ 8 ∷ 0 ∷ 68 ∷ 5 ∷ [])
    × (told (does work (If (v 0) (Set 0 (v 1) ∷ []) (Set 1 (v 2) ∷ []) ∷ []) (2 ∷ 7 ∷ 8 ∷ []) []) ≡ 0 ∷ 7 ∷ 0 ∷ 0 ∷ 68 ∷ 5 ∷ [])

-- ---- loops and scopes

-- variable 0 is tested, and one less after each round
abbrev pub test : List Stmt
test = Let (v 1) (d.Get 0) ∷ []

abbrev pub less : List Stmt
less = Let (v 2) (d.Const 1) ∷ Let (v 3) (d.Bin Sub (v 1) (v 2)) ∷ Set 0 (v 3) ∷ []

abbrev pub counting : List Stmt → Stmt
counting body = Loop test (v 1) body less

-- goes on while value 8 isn't 0, which nothing changes
abbrev pub endless : List Stmt → Stmt
endless body = Loop [] (v 8) body []

-- value 8 is 4
abbrev pub with_four : List ℕ
with_four = 0 ∷ 0 ∷ 0 ∷ 0 ∷ 0 ∷ 0 ∷ 0 ∷ 0 ∷ 4 ∷ []

-- each round takes one of those that are left, and the last test takes none. Where none is left for a round, the code needs more
abbrev pub RoundsAreCounted : Type 0
RoundsAreCounted =
    (work : Work)
    → (told (does work (counting [] ∷ []) [] (2 ∷ [])) ≡ 0 ∷ 0 ∷ 0 ∷ 0 ∷ 68 ∷ 3 ∷ [])
    × (told (does work (counting [] ∷ []) [] (0 ∷ [])) ≡ 0 ∷ 0 ∷ 0 ∷ 0 ∷ 68 ∷ 5 ∷ [])
    × (told (does work (counting [] ∷ []) [] (5 ∷ [])) ≡ 0 ∷ 0 ∷ 0 ∷ 0 ∷ 68 ∷ 0 ∷ [])
    × (does work (counting [] ∷ []) [] (6 ∷ []) ≡ Spent)

-- `continue` skips the rest of the body and does the step; `break` leaves the inner loop alone, after a round of it in each round of the outer one; what
-- leaves the scope leaves both loops and the rest of the scope, and no more
abbrev pub LoopsAreLeft : Type 0
LoopsAreLeft =
    (work : Work)
    → (told (does work (counting (Set 1 (v 8) ∷ Continue ∷ Set 2 (v 8) ∷ []) ∷ []) with_four (2 ∷ [])) ≡ 0 ∷ 0 ∷ 4 ∷ 0 ∷ 68 ∷ 3 ∷ [])
    × (told (does work (counting (endless (Break ∷ Set 2 (v 8) ∷ []) ∷ Set 1 (v 8) ∷ []) ∷ []) with_four (2 ∷ [])) ≡ 0 ∷ 0 ∷ 4 ∷ 0 ∷ 68 ∷ 1 ∷ [])
    × (told (does work (Scope (counting (endless (Leave ∷ []) ∷ []) ∷ Set 2 (v 8) ∷ []) ∷ Set 1 (v 8) ∷ []) with_four (2 ∷ [])) ≡ 0 ∷ 2 ∷ 4 ∷ 0 ∷ 68 ∷ 3 ∷ [])
