-- A file that a plan doesn't write stays as it is.
use Rattle.std.proofs.Common.{◌≡◌, inl, inr, ℕ, suc, Bool, true, false, cond, List, [], ◌∷◌, ◌++◌, refl, sym, ap, ◌∙◌, subst}
use Rattle.std.specs.Prelude.{Option, Some, None, option_map, IfSome, slice_get, bytes_eq, ⊤}
use Rattle.std.specs.List.{Contains}
use Rattle.std.proofs.lemmas.Slice.Eq.{bytes_eq-Decides}
use Rattle.q_io.specs.FilesMeaning.{Tree, with_file, FilesState, Holds}
use Rattle.q_io.specs.SinkMeaning.{SinkState}
use Rattle.launch_file.specs.declared.launch.BufferLine.{BufferLine}
use Rattle.launch_file.specs.declared.launch.Schedule.{Schedule}
use Rattle.launch_file.specs.declared.launch.Schedule.TheVariants.{Rounds, Seed, File}
use Rattle.launch_file.specs.Launches.{LaunchOf}
use Rattle.launch_file.specs.LaunchIn.{launch_in}
use Rattle.launch_file.specs.Rules.{first_fault as launch_fault}
use Rattle.launch_file.specs.Fit.{FaultAt, fit_fault}
use Rattle.launch_file.proofs.FitLaws.{no_fault_is_fit}
use Rattle.vc4q_module.specs.ModuleBytes.{ModuleOf}
use Rattle.promise.specs.Faithful.{buffers_of}
use Rattle.commands.specs.Plan.{MadeOf, Plan, reads, writes, makes, commits, answers, Ends}
use Rattle.commands.specs.Buffers.{filled, read_buffer, read_buffers, write_buffer, write_buffers}
use Rattle.commands.specs.Openings.{opening_for}
use Rattle.commands.specs.Play.{ran, report_plan, play_plan}
use Rattle.commands.specs.Launching.{launch_plan, after_launch, fit_plan, after_fit}
use Rattle.commands.specs.Exec.{exec_launch_plan, schedule_plan, buffers_plan, ready_plan, read_schedule}
use Rattle.commands.specs.declared.status.Status.{Status}
use Rattle.promise.specs.Language.{Sources}

-- a plan that doesn't write this file
pub Spares : List ℕ → Plan → Type 0
Spares name (reads other limit next) = (bytes : List ℕ) → Spares name (next bytes)
Spares name (writes other bytes next) = (bytes_eq other name ≡ false) × Spares name next
Spares name (makes wanted next) = (made : MadeOf wanted) → Spares name (next made)
Spares name (commits next) = Spares name next
Spares name (answers answer line) = ⊤

pub holds_same : (before now : FilesState) (name bytes : List ℕ) → now.told ≡ before.told → Holds before name bytes → Holds now name bytes
holds_same before now name bytes e h = subst (λ told. IfSome told (λ tree. tree name ≡ Some bytes)) (sym e) h

other_file : (told : Option Tree) (other name bytes : List ℕ) (content : Option (List ℕ)) → bytes_eq other name ≡ false
    → IfSome told (λ tree. tree name ≡ Some bytes) → IfSome (option_map (with_file other content) told) (λ tree. tree name ≡ Some bytes)
other_file None other name bytes content apart h = tt
other_file (Some tree) other name bytes content apart h = ap (λ b. cond b content (tree name)) apart ∙ h

holds_beside : (before now : FilesState) (other name bytes : List ℕ) (content : Option (List ℕ)) → bytes_eq other name ≡ false
    → now.told ≡ option_map (with_file other content) before.told → Holds before name bytes → Holds now name bytes
holds_beside before now other name bytes content apart e h = subst (λ told. IfSome told (λ tree. tree name ≡ Some bytes)) (sym e) (other_file before.told other name bytes content apart h)

pub ends_spare : (sources : Sources) (asks : Bool) (name bytes : List ℕ) (plan : Plan) (before : FilesState) (out_before : SinkState) (now : FilesState) (out_now : SinkState) (result : Status)
    → Spares name plan → Ends sources asks plan before out_before now out_now result → Holds before name bytes → Holds now name bytes
unfolding Spares
ends_spare sources asks name bytes (reads other limit next) before out_before now out_now result spares (inl h) is = holds_same before now name bytes (ap (λ f. f.told) h.files) is
ends_spare sources asks name bytes (reads other limit next) before out_before now out_now result spares (inr (inl h)) is = holds_same before now name bytes h.files is
ends_spare sources asks name bytes (reads other limit next) before out_before now out_now result spares (inr (inr h)) is =
    ends_spare sources asks name bytes (next h.0) h.1 out_before now out_now result (spares h.0) h.3 (holds_same before h.1 name bytes h.2.files is)
ends_spare sources asks name bytes (writes other written next) before out_before now out_now result spares (inl h) is = holds_same before now name bytes (ap (λ f. f.told) h.files) is
ends_spare sources asks name bytes (writes other written next) before out_before now out_now result spares (inr (inl h)) is = holds_beside before now other name bytes h.files.0 spares.0 h.files.1 is
ends_spare sources asks name bytes (writes other written next) before out_before now out_now result spares (inr (inr h)) is =
    ends_spare sources asks name bytes next h.0 out_before now out_now result spares.1 h.2 (holds_beside before h.0 other name bytes (Some written) spares.0 h.1.files is)
ends_spare sources asks name bytes (makes wanted next) before out_before now out_now result spares (inl h) is = holds_same before now name bytes (ap (λ f. f.told) h.files) is
ends_spare sources asks name bytes (makes wanted next) before out_before now out_now result spares (inr h) is =
    ends_spare sources asks name bytes (next h.0) before out_before now out_now result (spares h.0) h.2 is
ends_spare sources asks name bytes (commits next) before out_before now out_now result spares (inl h) is = holds_same before now name bytes (ap (λ f. f.told) h.files) is
ends_spare sources asks name bytes (commits next) before out_before now out_now result spares (inr h) is = ends_spare sources false name bytes next before out_before now out_now result spares h is
ends_spare sources asks name bytes (answers answer line) before out_before now out_now result spares (inl h) is = holds_same before now name bytes (ap (λ f. f.told) h.files) is
ends_spare sources asks name bytes (answers answer line) before out_before now out_now result spares (inr h) is = holds_same before now name bytes (ap (λ f. f.told) h.0) is

-- ---- the plans of `exec`, from the launch on

is_false : (b : Bool) → (b ≡ true → ⊥) → b ≡ false
is_false true never = absurd (never refl)
is_false false never = refl

other_name : (taken : List (List ℕ)) (other name : List ℕ) → (Contains taken other → ⊥) → Contains taken name → bytes_eq other name ≡ false
other_name taken other name free there = is_false (bytes_eq other name) (λ e. free (subst (λ n. Contains taken n) (sym ((bytes_eq-Decides other name).0 e)) there))

abbrev IsFree : List (List ℕ) → Option (List ℕ) → Type 0
IsFree taken to = IfSome to (λ name. Contains taken name → ⊥)

module _ (taken : List (List ℕ)) (name : List ℕ) (there : Contains taken name) where
  write_spares : (size : ℕ) (from to : Option (List ℕ)) (bytes : List ℕ) (next : Plan) → IsFree taken to → Spares name next
      → Spares name (write_buffer (record { size = size; from = from; to = to }) bytes next)
  unfolding Spares
  write_spares size from None bytes next free h = h
  write_spares size from (Some other) bytes next free h = (other_name taken other name free there, h)

  writes_spare : (lines : List BufferLine) (buffers : List (List ℕ)) (next : Plan) → ((i : ℕ) → IfSome (slice_get lines i) (λ line. IsFree taken line.to)) → Spares name next
      → Spares name (write_buffers lines buffers next)
  writes_spare [] buffers next free h = h
  writes_spare (line ∷ lines) [] next free h = h
  writes_spare (line ∷ lines) (bytes ∷ buffers) next free h =
      write_spares line.size line.from line.to bytes (write_buffers lines buffers next) (free 0) (writes_spare lines buffers next (λ i. free (suc i)) h)

  buffer_spares : (size : ℕ) (from to : Option (List ℕ)) (next : List ℕ → Plan) → ((bytes : List ℕ) → Spares name (next bytes)) → Spares name (read_buffer (record { size = size; from = from; to = to }) next)
  unfolding Spares
  buffer_spares size None to next h = h (filled size [])
  buffer_spares size (Some other) to next h = λ bytes. h (filled size bytes)

  buffers_spare : (lines : List BufferLine) (got : List (List ℕ)) (next : List (List ℕ) → Plan) → ((buffers : List (List ℕ)) → Spares name (next buffers)) → Spares name (read_buffers lines got next)
  buffers_spare [] got next h = h got
  buffers_spare (line ∷ lines) got next h = buffer_spares line.size line.from line.to _ (λ bytes. buffers_spare lines (got ++ bytes ∷ []) next h)

  schedule_spares : (schedule : Schedule) (next : List ℕ → Plan) → ((file : List ℕ) → Spares name (next file)) → Spares name (read_schedule schedule next)
  unfolding Spares
  schedule_spares (Rounds rounds) next h = h []
  schedule_spares (Seed seed steps) next h = h []
  schedule_spares (File other times) next h = h

  ready_spares : (code : ModuleOf) (launch : LaunchOf) (file : List ℕ) (buffers : List (List ℕ)) → ((i : ℕ) → IfSome (slice_get launch.buffers i) (λ line. IsFree taken line.to))
      → Spares name (ready_plan code launch file buffers)
  unfolding Spares play_plan report_plan
  ready_spares code launch file buffers free =
      let r = ran (opening_for code launch buffers) launch.schedule file in
      writes_spare launch.buffers (buffers_of r) (report_plan r) free tt

  fit_spares : (fault : Option FaultAt) (code : ModuleOf) (launch : LaunchOf) → fit_fault launch code.kinds taken ≡ fault → Spares name (after_fit fault (schedule_plan code) launch)
  unfolding Spares schedule_plan buffers_plan
  fit_spares None code launch is =
      let free = ((no_fault_is_fit launch code.kinds taken).0 is).names in
      schedule_spares launch.schedule (buffers_plan code launch) (λ file. buffers_spare launch.buffers [] (ready_plan code launch file) (λ buffers. ready_spares code launch file buffers free))
  fit_spares (Some fault) code launch is = tt

  text_spares : (fault : Option (ℕ × ℕ)) (code : ModuleOf) (launch : LaunchOf) → Spares name (after_launch fault taken code.kinds (schedule_plan code) launch)
  unfolding Spares fit_plan
  text_spares None code launch = fit_spares (fit_fault launch code.kinds taken) code launch refl
  text_spares (Some fault) code launch = tt

  pub launch_spares : (code : ModuleOf) (launch_name : List ℕ) → Spares name (exec_launch_plan taken code launch_name)
  unfolding Spares launch_plan
  launch_spares code launch_name = λ bytes. text_spares (launch_fault bytes) code (launch_in bytes)
