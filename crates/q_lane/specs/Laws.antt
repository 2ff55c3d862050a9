-- Laws of the operations, over all words, all operations and all lengths of vectors.
use Rattle.std.specs.Prelude.{◌≡◌, ℕ, ◌+◌, ◌%◌, ◌^◌, ◌<◌, ◌≤◌, Bool, true, false, if◌then◌else◌, ◌==◌, List, length}
use Rattle.q_lane.specs.declared.kinds.Scalar.{Scalar}
use Rattle.q_lane.specs.declared.operations.BinOp.{BinOp}
use Rattle.q_lane.specs.declared.operations.BinOp.TheVariants.{Xor, Min, Max, Less}
use Rattle.q_lane.specs.declared.operations.UnOp.{UnOp}
use Rattle.q_lane.specs.declared.operations.UnOp.TheVariants.{Narrow}
use Rattle.q_lane.specs.Numbers.{applied, applied_one, width}
use Rattle.q_lane.specs.Vectors.{lanes, lane, mapped, selected, rotated}

-- an operation on two words gives a word
abbrev pub TwoGiveWord : Type 0
TwoGiveWord = (op : BinOp) (a b : ℕ) → a < 2 ^ 32 → b < 2 ^ 32 → applied op a b < 2 ^ 32

-- an operation on one word gives a word
abbrev pub OneGivesWord : Type 0
OneGivesWord = (op : UnOp) (a : ℕ) → a < 2 ^ 32 → applied_one op a < 2 ^ 32

-- signed less is unsigned less of both words with their top bits flipped
abbrev pub LessByFlips : Type 0
LessByFlips = (a b : ℕ) → a < 2 ^ 32 → b < 2 ^ 32 → applied (Less true) a b ≡ applied (Less false) (applied Xor a (2 ^ 31)) (applied Xor b (2 ^ 31))

-- the lesser is chosen by Less
abbrev pub MinByLess : Type 0
MinByLess = (s : Bool) (a b : ℕ) → applied (Min s) a b ≡ (if applied (Less s) a b == 0 then b else a)

-- and so is the greater
abbrev pub MaxByLess : Type 0
MaxByLess = (s : Bool) (a b : ℕ) → applied (Max s) a b ≡ (if applied (Less s) a b == 0 then a else b)

-- narrowing to a type that isn't wider than the type before, the same type included: the first narrowing is nothing
abbrev pub NarrowestWins : Type 0
NarrowestWins = (s t : Scalar) (a : ℕ) → width s ≤ width t → applied_one (Narrow s) (applied_one (Narrow t) a) ≡ applied_one (Narrow s) a

-- a choice between the results of two operations is made lane by lane
abbrev pub ChoiceByLanes : Type 0
ChoiceByLanes = (n : ℕ) (m : List ℕ) (o p : BinOp) (a b c d : List ℕ)
    → selected n m (mapped n o a b) (mapped n p c d)
    ≡ lanes n (λ i. if lane m i == 0 then applied p (lane c i) (lane d i) else applied o (lane a i) (lane b i))

-- a rotation by k and then by m is one by k + m
abbrev pub RotationsAdd : Type 0
RotationsAdd = (n : ℕ) (xs : List ℕ) (k m : ℕ) → rotated n (rotated n xs k) m ≡ rotated n xs (k + m)

-- a rotation of a vector by a multiple of its length, 0 and the length included, is nothing
abbrev pub WholeTurns : Type 0
WholeTurns = (n : ℕ) (xs : List ℕ) (k : ℕ) → length xs ≡ n → k % n ≡ 0 → rotated n xs k ≡ xs
