-- Internal: what the code does, and no part of the grammar. What a function that reads ensures: that it gives what a reader of token lists gives, and goes on where the reader goes on.
use Rattle.std.specs.Prelude.{◌≡◌, List, Some, None, Result, Ok, Err}
use Rattle.clc_reading.specs.Reading.{Outcome, Got, Stops, Wrong, Deep}
use Rattle.clc_lexer.specs.declared.token.Token.{Token}
use Rattle.clc_tree.specs.ExpressionRules.{bare}
use Rattle.clc_tree.specs.declared.expressions.Cond.{Cond}
use Rattle.clc_parser.specs.declared.expressions.Bare.{Bare}
use Rattle.clc_parser.specs.declared.expressions.Bare.TheVariants.{Lone, Other}
use Rattle.clc_parser.specs.declared.tokens.Stop.{Stop}
use Rattle.clc_parser.specs.declared.tokens.Stop.TheVariants as stop

-- the reader stops for that reason, unless no memory is left
abbrev pub StopsAt : {A : Type 0} → Outcome Token A → Stop → List Token → Type 0
StopsAt outcome stop.Wrong left = outcome ≡ Stops Wrong left
StopsAt outcome stop.Deep left = outcome ≡ Stops Deep left
StopsAt outcome stop.Memory left = Unit {0}

abbrev pub Reads : {A : Type 0} → Outcome Token A → Result A Stop → List Token → Type 0
Reads outcome (Ok a) left = outcome ≡ Got a left
Reads outcome (Err e) left = StopsAt outcome e left

-- the unary expression that a conditional is, or the conditional where it is more than one
abbrev pub IsBare : Cond → Bare → Type 0
IsBare c (Lone u) = bare c ≡ Some u
IsBare c (Other d) = (bare c ≡ None) × (d ≡ c)
