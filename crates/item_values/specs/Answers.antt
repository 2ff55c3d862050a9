-- What a part of a run in Rust answers, by what the part means. Memory may always run out, and then nothing is said.
use Rattle.std.specs.Prelude.{◌≡◌, ℕ, suc, ◌+◌, ◌<◌, List, Option, Some, None, Result, MatchResult}
use Rattle.item_values.specs.declared.stop.Stop.{Stop}
use Rattle.item_values.specs.declared.stop.Stop.TheVariants as st
use Rattle.item_meaning.specs.declared.values.Value.{Value}
use Rattle.item_meaning.specs.declared.values.Value.TheVariants.{Null}
use Rattle.item_meaning.specs.NodeMeanings.{with_words}
use Rattle.item_meaning.specs.ItemState.{State, Run, Goes, Bounds, Spent}

-- the run stops as this error says; of want of memory nothing is said
abbrev pub StopsSo : {A : Type 0} → Run A → Stop → Type 0
StopsSo r (st.Bounds at) = r ≡ Bounds at
StopsSo r st.Spent = r ≡ Spent
StopsSo r st.Memory = Unit {0}

pub record Stops {A : Type 0} (r : Run A) (e : Stop) : Type 0 where
  pub is : StopsSo r e

-- the run goes on with this answer in this state, or stops as the error says
abbrev pub Gives : {A : Type 0} → Run A → Result A Stop → State → Type 0
Gives r x t = MatchResult x (λ a. r ≡ Goes a t) (λ e. Stops r e)

-- so many turns were taken, or fewer are left
abbrev pub TurnsTaken : {A : Type 0} → ℕ → State → Result A Stop → State → Type 0
TurnsTaken n s x t = MatchResult x (λ a. (s.left ≡ n + t.left) × (t ≡ record s { left = t.left })) (λ e. (s.left < n) × (e ≡ st.Spent))

abbrev pub TurnTaken : {A : Type 0} → State → Result A Stop → State → Type 0
TurnTaken s x t = MatchResult x (λ a. (s.left ≡ suc t.left) × (t ≡ record s { left = t.left })) (λ e. (s.left ≡ 0) × (e ≡ st.Spent))

-- the words of values that are all numbers
abbrev pub WordsAre : List Value → Option (List ℕ) → Type 0
WordsAre xs (Some ws) = (go : List ℕ → Value) → with_words xs go ≡ go ws
WordsAre xs None = (go : List ℕ → Value) → with_words xs go ≡ Null
