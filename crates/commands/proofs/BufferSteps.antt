-- The writes of a machine's buffers, one after another.
use Rattle.std.proofs.Common.{◌≡◌, ℕ, ◌+◌, ◌<◌, List, length, drop, get_or, sym, ◌∙◌, subst, arith}
use Rattle.std.specs.Prelude.{IfSome, slice_get}
use Rattle.std.proofs.lemmas.Option.{slice_get-get_or}
use Rattle.std.proofs.lemmas.List.{get_or-map, length-map}
use Rattle.launch_file.specs.declared.launch.BufferLine.{BufferLine}
use Rattle.vpm_words.specs.declared.state.Region.{Region}
use Rattle.qpu_machine.specs.Planned.{bytes_of, no_region}
use Rattle.qpu_machine.specs.MachineState.{MachineState}
use Rattle.commands.specs.Plan.{Plan}
use Rattle.promise.specs.Faithful.{buffers_of}
use Rattle.commands.specs.Buffers.{write_buffer, write_buffers}
use Rattle.commands.proofs.Steps.{write_buffers_at}

pub count_buffers : (s : MachineState) → length (buffers_of s) ≡ length s.fixed.buffers
unfolding buffers_of
count_buffers s = length-map s.fixed.buffers (bytes_of s.memory)

buffer_is : (s : MachineState) (i : ℕ) (bytes : List ℕ) → i < length s.fixed.buffers
    → IfSome (slice_get s.fixed.buffers i) (λ region. bytes ≡ bytes_of s.memory region) → bytes ≡ get_or (buffers_of s) i bytes
unfolding buffers_of
buffer_is s i bytes within h =
    let regions : List Region = s.fixed.buffers in
    let there : bytes ≡ bytes_of s.memory (get_or regions i no_region) = subst (λ r. IfSome r (λ region. bytes ≡ bytes_of s.memory region)) (slice_get-get_or regions i no_region within) h in
    there ∙ sym (get_or-map (bytes_of s.memory) regions i no_region bytes within)

-- the writes from the i-th buffer on are the i-th and then the later ones
pub stores_at : (lines : List BufferLine) (s : MachineState) (i : ℕ) (line : BufferLine) (bytes : List ℕ) (next : Plan)
    → i < length lines → length lines ≡ length s.fixed.buffers → line ≡ get_or lines i line
    → IfSome (slice_get s.fixed.buffers i) (λ region. bytes ≡ bytes_of s.memory region)
    → write_buffers (drop i lines) (drop i (buffers_of s)) next ≡ write_buffer line bytes (write_buffers (drop (i + 1) lines) (drop (i + 1) (buffers_of s)) next)
stores_at lines s i line bytes next within same is h =
    let count = count_buffers s in
    write_buffers_at lines (buffers_of s) i line bytes next within (omega (arith, count, same)) is (buffer_is s i bytes (omega (arith, same)) h)
