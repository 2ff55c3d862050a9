-- The lines of a launch say that launch.
use Rattle.std.proofs.Common.{zero, suc, ◌≡◌, ℕ, ◌≤◌, ◌<◌, List, [], ◌∷◌, ◌++◌, length, map, take, flat_map, refl, sym, ap, ◌∙◌, subst, arith, append-nil}
use Rattle.std.proofs.lemmas.List.{length-take-le}
use Rattle.launch_file.specs.declared.launch.BufferLine.{BufferLine}
use Rattle.launch_file.specs.declared.launch.Arg.{Arg}
use Rattle.launch_file.specs.declared.launch.Arg.TheVariants.{Value, Buffer}
use Rattle.launch_file.specs.declared.launch.Schedule.{Schedule}
use Rattle.launch_file.specs.declared.launch.Schedule.TheVariants.{Rounds, Seed, File}
use Rattle.launch_file.specs.Launches.{LaunchOf, IsLaunch, AreSizes, with_ones}
use Rattle.launch_file.specs.LineText.{Line}
use Rattle.launch_file.specs.LaunchText.{launch_lines, head_lines, buffer_line, arg_line, schedule_line}
use Rattle.launch_file.specs.LaunchIn.{launch_from, global_of, local_of, buffers_of, args_of, schedule_in}

abbrev Later : List BufferLine → List Arg → Schedule → List Line
Later buffers args schedule = map buffer_line buffers ++ (map arg_line args ++ schedule_line schedule ∷ [])

global_none : (buffers : List BufferLine) (args : List Arg) (schedule : Schedule) → flat_map global_of (Later buffers args schedule) ≡ []
global_none (b ∷ bs) args schedule = global_none bs args schedule
global_none [] (Value v ∷ args) schedule = global_none [] args schedule
global_none [] (Buffer n ∷ args) schedule = global_none [] args schedule
global_none [] [] (Rounds n) = refl
global_none [] [] (Seed s n) = refl
global_none [] [] (File name n) = refl

local_none : (buffers : List BufferLine) (args : List Arg) (schedule : Schedule) → flat_map local_of (Later buffers args schedule) ≡ []
local_none (b ∷ bs) args schedule = local_none bs args schedule
local_none [] (Value v ∷ args) schedule = local_none [] args schedule
local_none [] (Buffer n ∷ args) schedule = local_none [] args schedule
local_none [] [] (Rounds n) = refl
local_none [] [] (Seed s n) = refl
local_none [] [] (File name n) = refl

buffers_same : (buffers : List BufferLine) (args : List Arg) (schedule : Schedule) → flat_map buffers_of (Later buffers args schedule) ≡ buffers
buffers_same (b ∷ bs) args schedule = ap (λ xs. b ∷ xs) (buffers_same bs args schedule)
buffers_same [] (Value v ∷ args) schedule = buffers_same [] args schedule
buffers_same [] (Buffer n ∷ args) schedule = buffers_same [] args schedule
buffers_same [] [] (Rounds n) = refl
buffers_same [] [] (Seed s n) = refl
buffers_same [] [] (File name n) = refl

args_same : (buffers : List BufferLine) (args : List Arg) (schedule : Schedule) → flat_map args_of (Later buffers args schedule) ≡ args
args_same (b ∷ bs) args schedule = args_same bs args schedule
args_same [] (Value v ∷ args) schedule = ap (λ xs. Value v ∷ xs) (args_same [] args schedule)
args_same [] (Buffer n ∷ args) schedule = ap (λ xs. Buffer n ∷ xs) (args_same [] args schedule)
args_same [] [] (Rounds n) = refl
args_same [] [] (Seed s n) = refl
args_same [] [] (File name n) = refl

schedule_same : (buffers : List BufferLine) (args : List Arg) (schedule : Schedule) → schedule_in (Later buffers args schedule) ≡ schedule
schedule_same (b ∷ bs) args schedule = schedule_same bs args schedule
schedule_same [] (Value v ∷ args) schedule = schedule_same [] args schedule
schedule_same [] (Buffer n ∷ args) schedule = schedule_same [] args schedule
schedule_same [] [] (Rounds n) = refl
schedule_same [] [] (Seed s n) = refl
schedule_same [] [] (File name n) = refl

sizes_again : (dims : ℕ) (sizes : List ℕ) → 1 ≤ dims → dims ≤ 3 → AreSizes dims sizes → with_ones (take dims sizes) ≡ sizes
sizes_again dims [] some few are = absurd (let n = are.three in omega (arith, n))
sizes_again dims (x ∷ []) some few are = absurd (let n = are.three in omega (arith, n))
sizes_again dims (x ∷ y ∷ []) some few are = absurd (let n = are.three in omega (arith, n))
sizes_again dims (x ∷ y ∷ z ∷ w ∷ rest) some few are = absurd (let n = are.three in omega (arith, n))
sizes_again zero (x ∷ y ∷ z ∷ []) some few are = absurd (omega arith)
sizes_again (suc zero) (x ∷ y ∷ z ∷ []) some few are =
    let second : y ≡ 1 = are.past 1 (omega arith) in
    let third : z ≡ 1 = are.past 2 (omega arith) in
    sym (ap (λ b. x ∷ b ∷ z ∷ []) second ∙ ap (λ c. x ∷ 1 ∷ c ∷ []) third)
sizes_again (suc (suc zero)) (x ∷ y ∷ z ∷ []) some few are =
    let third : z ≡ 1 = are.past 2 (omega arith) in
    sym (ap (λ c. x ∷ y ∷ c ∷ []) third)
sizes_again (suc (suc (suc zero))) (x ∷ y ∷ z ∷ []) some few are = refl
sizes_again (suc (suc (suc (suc n)))) (x ∷ y ∷ z ∷ []) some few are = absurd (omega arith)

many : (dims : ℕ) (sizes : List ℕ) → dims ≤ 3 → length sizes ≡ 3 → length (take dims sizes) ≡ dims
many dims sizes few three = length-take-le dims sizes (omega arith)

pub said_again : (launch : LaunchOf) → IsLaunch launch → launch_from (launch_lines launch) ≡ launch
unfolding launch_from launch_lines
said_again launch is =
    let global : List ℕ = take launch.dims launch.global in
    let local : List ℕ = take launch.dims launch.local in
    let no_more = ap (λ (xs : List ℕ). global ++ xs) (global_none launch.buffers launch.args launch.schedule) ∙ append-nil global in
    let no_others = ap (λ (xs : List ℕ). local ++ xs) (local_none launch.buffers launch.args launch.schedule) ∙ append-nil local in
    let dims = ap length no_more ∙ many launch.dims launch.global is.few_dims is.global.three in
    let globals = ap with_ones no_more ∙ sizes_again launch.dims launch.global is.some_dims is.few_dims is.global in
    let locals = ap with_ones no_others ∙ sizes_again launch.dims launch.local is.some_dims is.few_dims is.local in
    λ i. record {
      qpus = launch.qpus;
      global = globals i;
      local = locals i;
      dims = dims i;
      buffers = buffers_same launch.buffers launch.args launch.schedule i;
      args = args_same launch.buffers launch.args launch.schedule i;
      schedule = schedule_same launch.buffers launch.args launch.schedule i;
    }
