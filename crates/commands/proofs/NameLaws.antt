-- The names in a launch are text.
use Rattle.std.proofs.Common.{ℕ, ◌<◌, ◌≤◌, List, length, get_or, subst, arith}
use Rattle.std.specs.Prelude.{Option, Some, None, IfSome, slice_get, All, IsAscii}
use Rattle.std.proofs.lemmas.Option.{slice_get-get_or}
use Rattle.std.proofs.lemmas.Str.Ascii.{IsAscii-from_all}
use Rattle.launch_file.specs.declared.launch.BufferLine.{BufferLine}
use Rattle.launch_file.specs.Launches.{LaunchOf, IsLaunch, IsName, IsBuffer, IsSchedule}
use Rattle.launch_file.specs.declared.launch.Schedule.{Schedule}
use Rattle.launch_file.specs.declared.launch.Schedule.TheVariants.{Rounds, Seed, File}
use Rattle.commands.specs.Buffers.{HasTextNames, HasTextFile}

-- what holds of the element at a place, where there is one
pub at_place : {X : Type 0} (P : X → Type 0) (xs : List X) (i : ℕ) (d : X) → i < length xs → IfSome (slice_get xs i) P → P (get_or xs i d)
at_place P xs i d within h = subst (λ x. IfSome x P) (slice_get-get_or xs i d within) h

if_some_map : {X : Type 0} (o : Option X) (P Q : X → Type 0) → ((x : X) → P x → Q x) → IfSome o P → IfSome o Q
if_some_map (Some x) P Q h p = h x p
if_some_map None P Q h p = tt

pub name_text : (name : List ℕ) → IsName name → IsAscii name
name_text name is =
    IsAscii-from_all name (λ k d within. let printed : (33 ≤ get_or name k d) × (get_or name k d ≤ 126) = at_place (λ byte. (33 ≤ byte) × (byte ≤ 126)) name k d within (is.each k) in omega (arith, printed.1))

buffer_text : (buffer : BufferLine) → IsBuffer buffer → HasTextNames buffer
buffer_text buffer is = (if_some_map buffer.from IsName IsAscii name_text is.from, if_some_map buffer.to IsName IsAscii name_text is.to)

pub text_names : (buffers : List BufferLine) → ((i : ℕ) → IfSome (slice_get buffers i) IsBuffer) → All HasTextNames buffers
text_names buffers h = λ k d within. buffer_text (get_or buffers k d) (at_place IsBuffer buffers k d within (h k))

pub text_file : (schedule : Schedule) → IsSchedule schedule → HasTextFile schedule
text_file (Rounds rounds) is = tt
text_file (Seed seed steps) is = tt
text_file (File name times) is = name_text name is.0

pub text_names_of : (launch : LaunchOf) → IsLaunch launch → All HasTextNames launch.buffers
text_names_of launch is = text_names launch.buffers is.buffers
