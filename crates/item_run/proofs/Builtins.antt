-- What a built-in function answers.
use Rattle.std.proofs.Common.{◌≡◌, Result, Ok, Err, sym, ap, ◌∙◌, MatchResult}
use Rattle.item_meaning.specs.ItemState.{State, Run, Goes}
use Rattle.item_values.specs.declared.stop.Stop.{Stop}
use Rattle.item_values.specs.declared.stop.Stop.TheVariants as st
use Rattle.item_values.specs.Answers.{Gives}
use Rattle.item_run.proofs.Parts.{forgotten}

-- an answer that only memory can prevent
pub gives_value : {A : Type 0} (r : Run A) (x : Result A Stop) (v : A) (t : State) → r ≡ Goes v t → MatchResult x (λ a. a ≡ v) (λ e. e ≡ st.Memory) → Gives r x t
gives_value r (Ok a) v t p h = p ∙ ap (λ z. Goes z t) (sym h)
gives_value r (Err e) v t p h = forgotten r e h
