-- How what a reader says goes through the readers around it.
use Rattle.std.proofs.Common.{◌≡◌, List, ap, sym, subst}
use Rattle.std.specs.Result.{IsErrAnd}
use Rattle.std.specs.Prelude.{Result, Ok, Err}
use Rattle.clc_reading.specs.Reading.{Reader, Outcome, Got, and_then}
use Rattle.clc_lexer.specs.declared.token.Token.{Token}
use Rattle.clc_parser.specs.Reads.{StopsAt, Reads}
use Rattle.clc_parser.specs.declared.tokens.Stop.{Stop}
use Rattle.clc_parser.specs.declared.tokens.Stop.TheVariants as stop

-- an error that is handed on
pub handed_on : {A : Type 0} (outcome : Outcome Token A) (r : Result A Stop) (e : Stop) (left : List Token) → IsErrAnd r (λ y. y ≡ e) → StopsAt outcome e left → Reads outcome r left
handed_on outcome (Ok a) e left x h = absurd x
handed_on outcome (Err y) e left x h = subst (λ z. StopsAt outcome z left) (sym x) h

-- what stops a part stops the whole
pub stops_here : {A B : Type 0} (p : Outcome Token A) (f : A → Reader Token B) (e : Stop) (left : List Token) → StopsAt p e left → StopsAt (and_then p f) e left
stops_here p f stop.Wrong left h = ap (λ o. and_then o f) h
stops_here p f stop.Deep left h = ap (λ o. and_then o f) h
stops_here p f stop.Memory left h = tt

-- the same in a later part
pub stops_later : {A B : Type 0} (p : Outcome Token A) (a : A) (mid : List Token) (f : A → Reader Token B) (e : Stop) (left : List Token) → p ≡ Got a mid → StopsAt (f a mid) e left → StopsAt (and_then p f) e left
stops_later p a mid f e left h g = subst (λ o. StopsAt o e left) (sym (ap (λ o. and_then o f) h)) g

-- what a later part reads or stops at is what the whole does
pub reads_later : {A B : Type 0} (p : Outcome Token A) (a : A) (mid : List Token) (f : A → Reader Token B) (r : Result B Stop) (left : List Token) → p ≡ Got a mid → Reads (f a mid) r left → Reads (and_then p f) r left
reads_later p a mid f r left h g = subst (λ o. Reads o r left) (sym (ap (λ o. and_then o f) h)) g
