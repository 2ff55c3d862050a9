-- What holds of the built-in functions.
use Rattle.std.specs.Prelude.{ℕ, ◌^◌, ◌<◌, List}
use Rattle.q_lane.specs.declared.kinds.Scalar.{Scalar}
use Rattle.q_functions.specs.declared.functions.NumberFunction.{NumberFunction}
use Rattle.q_functions.specs.NumberFunctions.{number_function}

-- a function of numbers gives a word
abbrev pub GivesWord : Type 0
GivesWord = (which : NumberFunction) (t : Scalar) (xs : List ℕ) → number_function which t xs < 2 ^ 32
