-- What the meaning gives for small programs, worked out by hand: values, turns, and where a run is spent or out of bounds.
use Rattle.std.specs.Prelude.{◌≡◌, ℕ, ◌-◌, Bool, true, false, List, [], ◌∷◌, Option, Some, None, slice_index_or}
use Rattle.clc_lexer.specs.declared.marks.Mark.{Mark}
use Rattle.clc_lexer.specs.declared.marks.Mark.TheVariants as m
use Rattle.q_lane.specs.declared.kinds.Scalar.{Scalar}
use Rattle.q_lane.specs.declared.kinds.Scalar.TheVariants.{Char, Uchar, Short, Int, Uint}
use Rattle.q_functions.specs.declared.work.Work.{Work}
use Rattle.q_functions.specs.WorkFunctions.{work_of}
use Rattle.clc_types.specs.declared.typed.Builtin.{Builtin}
use Rattle.clc_types.specs.declared.typed.Builtin.TheVariants as b
use Rattle.clc_types.specs.declared.typed.Ty.{Ty}
use Rattle.clc_types.specs.declared.typed.Ty.TheVariants as ty
use Rattle.clc_types.specs.declared.typed.Var.{Var}
use Rattle.clc_types.specs.declared.typed.Var.TheVariants as var
use Rattle.clc_types.specs.declared.typed.TExpr.{TExpr}
use Rattle.clc_types.specs.declared.typed.TFunction.{TFunction}
use Rattle.clc_types.specs.declared.typed.Node.{Node, end_of-TExpr, more_of-TExpr, end_of-Node-Chain-1-2, more_of-Node-Chain-1-2}
use Rattle.clc_types.specs.declared.typed.Node.TheVariants.{Number, Name, Index', Element', Deref', Prefix', Step', Cast', Paren', Chain', Cond', Assign', Call', Builtin'}
use Rattle.clc_types.specs.declared.typed.TStmt.{TStmt, end_of-TStmt, more_of-TStmt, None'}
use Rattle.clc_types.specs.declared.typed.TStmt.TheVariants.{Block', Declare, Eval, Empty, If', While', Do', For', Break, Continue, Return}
use Rattle.item_meaning.specs.declared.values.Value.{Value}
use Rattle.item_meaning.specs.declared.values.Value.TheVariants.{Num, Null, At}
use Rattle.item_meaning.specs.ItemState.{State, Run, Goes, Bounds, Spent, Flow, Next, Broke, Returned}
use Rattle.item_meaning.specs.ItemMeaning.{value_of, does, calls_below, item}
use Rattle.footprint.specs.declared.marks.Use.TheVariants.{Write}
use Rattle.launch_file.specs.declared.launch.Arg.TheVariants.{Buffer}
use Rattle.launch_file.specs.declared.launch.Schedule.TheVariants.{Rounds}
use Rattle.launch_meaning.specs.declared.ends.ItemEnd.{ItemEnd}
use Rattle.launch_meaning.specs.declared.ends.ItemEnd.TheVariants as e

-- ---- trees. Places in the source are 0, but for accesses

abbrev pub int : Ty
int = ty.Value Int

abbrev pub uint : Ty
uint = ty.Value Uint

abbrev pub char : Ty
char = ty.Value Char

abbrev pub pointer : Ty
pointer = ty.Pointer Int false

abbrev pub prefixed : Mark → Node → Node
prefixed o e = Prefix' o _ (more_of-TExpr 0 int e end_of-TExpr)

abbrev pub in_parentheses : Node → Node
in_parentheses e = Paren' _ (more_of-TExpr 0 int e end_of-TExpr)

-- a op c
abbrev pub two : Ty → Node → Mark → Ty → Node → Node
two t a o u c = Chain' _ (more_of-TExpr 0 t a end_of-TExpr) (tt ∷ []) (more_of-Node-Chain-1-2 o 0 u c end_of-Node-Chain-1-2)

-- a op c op d
abbrev pub three : Ty → Node → Mark → Ty → Node → Mark → Ty → Node → Node
three t a o u c q v d =
    Chain' _ (more_of-TExpr 0 t a end_of-TExpr) (tt ∷ tt ∷ [])
    (more_of-Node-Chain-1-2 o 0 u c (more_of-Node-Chain-1-2 q 0 v d end_of-Node-Chain-1-2))

abbrev pub conditional : Node → Node → Node → Node
conditional a c d = Cond' _ (more_of-TExpr 0 int a end_of-TExpr) _ (more_of-TExpr 0 int c end_of-TExpr) _ (more_of-TExpr 0 int d end_of-TExpr)

abbrev pub cast : Ty → Node → Node
cast t e = Cast' _ (more_of-TExpr 0 t e end_of-TExpr)

abbrev pub step : Ty → Node → (up post : Bool) → Node
step t e up post = Step' _ (more_of-TExpr 0 t e end_of-TExpr) up post

abbrev pub assign : Ty → Node → Mark → Node → Node
assign t e o a = Assign' _ (more_of-TExpr 4 t e end_of-TExpr) o _ (more_of-TExpr 0 int a end_of-TExpr)

abbrev pub index : Node → Node → Node
index p i = Index' _ (more_of-TExpr 0 pointer p end_of-TExpr) _ (more_of-TExpr 0 int i end_of-TExpr)

abbrev pub element : ℕ → Node → Node
element v i = Element' v _ (more_of-TExpr 0 int i end_of-TExpr)

abbrev pub target : Node → Node
target p = Deref' _ (more_of-TExpr 0 pointer p end_of-TExpr)

abbrev pub asks : Builtin → Node → Node
asks f d = Builtin' f Uint (tt ∷ []) (more_of-TExpr 0 int d end_of-TExpr)

abbrev pub of_pair : Builtin → Scalar → Node → Node → Node
of_pair f t x y = Builtin' f t (tt ∷ tt ∷ []) (more_of-TExpr 0 (ty.Value t) x (more_of-TExpr 0 (ty.Value t) y end_of-TExpr))

abbrev pub statement : Node → TStmt
statement e = Eval (record { at = 0; ty = int; node = e })

-- ---- runs

-- item 5 of a launch of 4 by 3 items in groups of 2 by 1
abbrev pub item_5 : Work
item_5 = work_of 2 (4 ∷ 3 ∷ 1 ∷ []) (2 ∷ 1 ∷ 1 ∷ []) 5

-- a char of 127, a pointer to the first of two ints, a null pointer, and an array of two elements
abbrev pub before : (turns : ℕ) → State
before turns = record {
  vars = Num 127 ∷ At 0 0 ∷ Null ∷ Null ∷ [];
  arrays = [] ∷ [] ∷ [] ∷ (5 ∷ 6 ∷ []) ∷ [];
  buffers = (1 ∷ 2 ∷ 3 ∷ 4 ∷ 255 ∷ 255 ∷ 255 ∷ 255 ∷ []) ∷ [];
  marks = [];
  left = turns;
}

-- char g(char x){return x;}
abbrev pub returns_its_own : TFunction
returns_its_own = record {
  name = [];
  at = 0;
  kernel = false;
  result = Some Char;
  params = 1;
  vars = var.Value Char ∷ [];
  body = Block' (tt ∷ []) (more_of-TStmt (Return (Some (record { at = 0; ty = char; node = Name 0 }))) end_of-TStmt);
}

-- a function with an empty body that gives this
abbrev pub does_nothing : Option Scalar → TFunction
does_nothing r = record { name = []; at = 0; kernel = false; result = r; params = 0; vars = []; body = Block' [] end_of-TStmt }

-- kernel void r(global int*a){a[0]=get_global_id(0);}
abbrev pub stores_its_id : TFunction
stores_its_id = record {
  name = [];
  at = 12;
  kernel = true;
  result = None;
  params = 1;
  vars = var.Pointer Int false ∷ [];
  body = Block' (tt ∷ []) (more_of-TStmt (statement (Assign' _ (more_of-TExpr 28 int (index (Name 0) (Number 0)) end_of-TExpr) m.Assign _ (more_of-TExpr 33 uint (asks b.GetGlobalId (Number 0)) end_of-TExpr))) end_of-TStmt);
}

abbrev pub functions : List TFunction
functions = returns_its_own ∷ does_nothing (Some Int) ∷ does_nothing None ∷ stores_its_id ∷ []

abbrev pub value_in_turns : Ty → Node → ℕ → Run Value
value_in_turns t e n = value_of item_5 (calls_below item_5 functions 3) 9 t e (before n)

-- item 1 of two runs function 3 on one buffer
abbrev pub item_in_turns : List ℕ → ℕ → ItemEnd
item_in_turns buffer n =
    item functions 3 (record {
      qpus = 1;
      global = 2 ∷ 1 ∷ 1 ∷ [];
      local = 1 ∷ 1 ∷ 1 ∷ [];
      dims = 1;
      buffers = [];
      args = Buffer 0 ∷ [];
      schedule = Rounds 1;
    }) 1 (buffer ∷ []) n

abbrev pub flow_in_turns : TStmt → ℕ → Run Flow
flow_in_turns a n = does item_5 (calls_below item_5 functions 3) (var.Value Char ∷ var.Pointer Int false ∷ var.Pointer Int false ∷ var.Array Int 2 ∷ []) a (before n)

-- a run ends with a value, and with the first variable and the turns that are left
abbrev pub EndsWith : {A : Type 0} → Run A → A → Value → ℕ → Type 0
EndsWith (Goes x s) a v n = (x ≡ a) × (slice_index_or s.vars 0 Null ≡ v) × (s.left ≡ n)
EndsWith (Bounds at) a v n = ⊥
EndsWith Spent a v n = ⊥

-- an expression gives this word in so many turns, and not in one fewer
abbrev pub Gives : Ty → Node → (turns word : ℕ) → Type 0
Gives t e n w = EndsWith (value_in_turns t e n) (Num w) (Num 127) 0 × (value_in_turns t e (n - 1) ≡ Spent)

-- and leaves this word in the first variable
abbrev pub Makes : Ty → Node → (turns word first : ℕ) → Type 0
Makes t e n w v = EndsWith (value_in_turns t e n) (Num w) (Num v) 0 × (value_in_turns t e (n - 1) ≡ Spent)

-- its access at this byte is out of bounds, which is found once so many turns are taken
abbrev pub Misses : Ty → Node → (turns at : ℕ) → Type 0
Misses t e n at = (value_in_turns t e n ≡ Bounds at) × (value_in_turns t e (n - 1) ≡ Spent)

-- a statement is left so in so many turns
abbrev pub Does : TStmt → Flow → (turns : ℕ) → Type 0
Does a f n = EndsWith (flow_in_turns a n) f (Num 127) 0 × (flow_in_turns a (n - 1) ≡ Spent)

-- ---- rows

-- Each operator of a chain works in the common type of what stands before it and its operand, and a shift in that of its left operand.
-- -7/2*1u is (-3)*1u; -7/2u*1 is 2147483644; -8>>1u is -4; 1<<33 is 2; -1<0u is 0 and -1<0 is 1
abbrev pub RunningTypes : Type 0
RunningTypes =
    Gives uint (three int (prefixed m.Minus (Number 7)) m.Slash int (Number 2) m.Star uint (Number 1)) 6 4294967293
    × Gives uint (three int (prefixed m.Minus (Number 7)) m.Slash uint (Number 2) m.Star int (Number 1)) 6 2147483644
    × Gives int (two int (prefixed m.Minus (Number 8)) m.ShiftRight uint (Number 1)) 4 4294967292
    × Gives int (two int (Number 1) m.ShiftLeft int (Number 33)) 3 2
    × Gives int (two int (prefixed m.Minus (Number 1)) m.Less uint (Number 0)) 4 0
    × Gives int (two int (prefixed m.Minus (Number 1)) m.Less int (Number 0)) 4 1

-- -2147483647-1
abbrev pub lowest_int : Node
lowest_int = in_parentheses (two int (prefixed m.Minus (Number 2147483647)) m.Minus int (Number 1))

-- 7/0 is 0, 7%0 is 7, 7u/0u is 0, and the lowest int divided by -1 is itself and leaves 0; -7/2 is -3 and -7%2 is -1
abbrev pub Divisions : Type 0
Divisions =
    Gives int (two int (Number 7) m.Slash int (Number 0)) 3 0
    × Gives int (two int (Number 7) m.Percent int (Number 0)) 3 7
    × Gives uint (two uint (Number 7) m.Slash uint (Number 0)) 3 0
    × Gives int (two int lowest_int m.Slash int (prefixed m.Minus (Number 1))) 7 2147483648
    × Gives int (two int lowest_int m.Percent int (prefixed m.Minus (Number 1))) 7 0
    × Gives int (two int (prefixed m.Minus (Number 7)) m.Slash int (Number 2)) 4 4294967293
    × Gives int (two int (prefixed m.Minus (Number 7)) m.Percent int (Number 2)) 4 4294967295

-- All operators of a chain begin; an operand that isn't needed doesn't. 0&&p[2] has no access
abbrev pub ShortCircuits : Type 0
ShortCircuits =
    Gives int (two int (Number 0) m.AndAnd int (index (Name 1) (Number 2))) 2 0
    × Gives int (two int (Number 3) m.AndAnd int (Number 2)) 3 1
    × Gives int (two int (Number 3) m.OrOr int (index (Name 1) (Number 2))) 2 1
    × Gives int (two int (Number 0) m.OrOr int (Number 0)) 3 0
    × Gives int (three int (Number 0) m.AndAnd int (Number 1) m.AndAnd int (Number 1)) 3 0
    × Gives int (conditional (Number 0) (index (Name 1) (Number 2)) (Number 4)) 3 4
    × Gives int (two int (Number 1) m.Comma int (Number 2)) 3 2
    × Misses int (two int (Number 1) m.AndAnd int (index (Name 1) (Number 2))) 5 0

-- (uchar)300 is 44 and (char)200 is -56; 127 and one more in a char is -128; 127 + 300 is -85; the postfix form gives the old value
abbrev pub Conversions : Type 0
Conversions =
    Gives (ty.Value Uchar) (cast int (Number 300)) 2 44
    × Gives char (cast int (Number 200)) 2 4294967240
    × Makes char (step char (Name 0) true true) 2 127 4294967168
    × Makes char (step char (Name 0) true false) 2 4294967168 4294967168
    × Makes char (step char (Name 0) false false) 2 126 126
    × Makes char (assign char (Name 0) m.Assign (Number 300)) 3 44 44
    × Makes char (assign char (Name 0) m.PlusAssign (Number 300)) 3 4294967211 4294967211

-- an int of a buffer has its lowest byte first; an access lies in its buffer, an index in its array, and null nowhere
abbrev pub Accesses : Type 0
Accesses =
    Gives int (index (Name 1) (Number 0)) 3 67305985
    × Gives int (target (Name 1)) 2 67305985
    × Gives int (target (two pointer (Name 1) m.Plus int (Number 1))) 4 4294967295
    × Gives int (element 3 (Number 1)) 3 6
    × Misses int (index (Name 1) (Number 2)) 3 9
    × Misses int (index (Name 1) (prefixed m.Minus (Number 1))) 4 9
    × Misses int (target (Name 2)) 2 9
    × Misses int (element 3 (Number 2)) 3 9
    × Misses int (element 3 (prefixed m.Minus (Number 1))) 4 9
    × Misses int (assign int (index (Name 1) (Number 2)) m.Assign (Number 1)) 5 4
    × Misses int (assign int (index (Name 2) (Number 0)) m.PlusAssign (Number 1)) 4 4

-- item 5 of 4 by 3 has the ids 1 and 1, and lies in the groups 0 and 1
abbrev pub Questions : Type 0
Questions =
    Gives uint (Builtin' b.GetWorkDim Uint [] end_of-TExpr) 1 2
    × Gives uint (asks b.GetGlobalId (Number 0)) 2 1
    × Gives uint (asks b.GetGlobalId (Number 1)) 2 1
    × Gives uint (asks b.GetGlobalId (Number 3)) 2 0
    × Gives uint (asks b.GetGlobalSize (Number 0)) 2 4
    × Gives uint (asks b.GetGlobalSize (prefixed m.Minus (Number 1))) 3 1
    × Gives uint (asks b.GetLocalId (Number 0)) 2 1
    × Gives uint (asks b.GetGroupId (Number 0)) 2 0
    × Gives uint (asks b.GetGroupId (Number 1)) 2 1
    × Gives uint (asks b.GetNumGroups (Number 0)) 2 2

-- mul24(-1, 2) is -2; mul_hi of two times 4294967295 is 4294967294; rotate and add_sat in char; clz(0) in char
abbrev pub Functions : Type 0
Functions =
    Gives int (of_pair b.Mul24 Int (prefixed m.Minus (Number 1)) (Number 2)) 4 4294967294
    × Gives uint (of_pair b.MulHi Uint (prefixed m.Minus (Number 1)) (prefixed m.Minus (Number 1))) 5 4294967294
    × Gives char (of_pair b.Rotate Char (Name 0) (Number 9)) 3 4294967294
    × Gives char (of_pair b.AddSat Char (Name 0) (Name 0)) 3 127
    × Gives char (of_pair b.Min Char (Name 0) (prefixed m.Minus (Number 128))) 4 4294967168

-- the turns of each statement; the first part of a `for` and its step are no statements of their own
abbrev pub Statements : Type 0
Statements =
    Does (Block' [] end_of-TStmt) Next 1
    × Does Empty Next 1
    × Does (statement (Number 1)) Next 2
    × Does (Declare 1 None) Next 1
    × Does (If' (record { at = 0; ty = int; node = Number 1 }) _ (more_of-TStmt Empty end_of-TStmt) None') Next 3
    × Does (If' (record { at = 0; ty = int; node = Number 0 }) _ (more_of-TStmt Empty end_of-TStmt) None') Next 2
    × Does (While' (record { at = 0; ty = int; node = Number 1 }) _ (more_of-TStmt Break end_of-TStmt)) Next 3
    × Does (Do' _ (more_of-TStmt Continue end_of-TStmt) (record { at = 0; ty = int; node = Number 0 })) Next 3
    × Does (For' (tt ∷ []) (more_of-TStmt (statement (Number 1)) end_of-TStmt) (Some (record { at = 0; ty = int; node = Number 0 })) None _ (more_of-TStmt Empty end_of-TStmt)) Next 3
    × Does (Return (Some (record { at = 0; ty = int; node = Number 7 }))) (Returned (Num 7)) 2

-- A call takes its own turn, those of its arguments and those of the body. An argument and a result are converted; where the body falls off its end
-- a value function gives 0
abbrev pub Calls : Type 0
Calls =
    Gives char (Call' 0 (tt ∷ []) (more_of-TExpr 0 int (Number 300) end_of-TExpr)) 5 44
    × Gives int (Call' 1 [] end_of-TExpr) 2 0
    × Does (statement (Call' 2 [] end_of-TExpr)) Next 3

-- the kernel needs 8 turns, writes the four bytes of its element, and is out of bounds where the buffer has three
abbrev pub Items : Type 0
Items =
    (item_in_turns (7 ∷ 7 ∷ 7 ∷ 7 ∷ []) 9 ≡ e.Ends (record { buffers = (1 ∷ 0 ∷ 0 ∷ 0 ∷ []) ∷ []; marks = record { how = Write; buffer = 0; from = 0; to = 4 } ∷ []; turns = 8 }))
    × (item_in_turns (7 ∷ 7 ∷ 7 ∷ 7 ∷ []) 7 ≡ e.Spent)
    × (item_in_turns (7 ∷ 7 ∷ 7 ∷ []) 8 ≡ e.Bounds 28)
    × (item_in_turns (7 ∷ 7 ∷ 7 ∷ []) 7 ≡ e.Spent)
