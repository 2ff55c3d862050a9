-- The buffers and the QPUs of an opening are those of its setting.
use Rattle.std.proofs.Common.{◌≡◌, ℕ, ◌+◌, ◌-◌, List, [], ◌∷◌, ◌++◌, length, map, take, drop, sym, ap, ◌∙◌, subst, arith, append_assoc}
use Rattle.std.proofs.Math.Seq.{take-append_seam, drop-append_seam}
use Rattle.std.proofs.lemmas.List.{append-nil, length-map}
use Rattle.launch_file.specs.declared.places.Region2.{Region2}
use Rattle.launch_file.specs.Layout.{first_start, next_start, regions, start_after, scratch_start, layout_of}
use Rattle.launch_file.proofs.RegionSteps.{regions_none, regions_next}
use Rattle.vc4q_module.specs.ModuleBytes.{ModuleOf}
use Rattle.vpm_words.specs.declared.state.Region.{Region}
use Rattle.qpu_machine.specs.Planned.{bytes_of}
use Rattle.qpu_machine.specs.Opening.{opening, opening_qpu}
use Rattle.promise.specs.Faithful.{buffers_of}
use Rattle.promise.specs.Openings.{gap, with_region, with_regions, memory_of, region_of, plan_for, Setting, IsSetting, opening_of}
use Rattle.promise.proofs.MemoryLengths.{length-gap, length-with_region, length-with_buffers, length-memory_of}

-- the bytes that stand behind a memory
bytes_behind : (m bytes rest : List ℕ) → bytes_of (m ++ (bytes ++ rest)) (record { start = length m; len = length bytes }) ≡ bytes
bytes_behind m bytes rest =
    let len : length m + length bytes - length m ≡ length bytes = omega arith in
    ap (λ (n : ℕ). take n (drop (length m) (m ++ (bytes ++ rest)))) len
    ∙ ap (take (length bytes)) (drop-append_seam m (bytes ++ rest))
    ∙ take-append_seam bytes rest

-- more regions leave the memory before them
abbrev Begins : List ℕ → List ℕ → Type 0
Begins m whole = (rest : List ℕ) × (whole ≡ m ++ rest)

begins_longer : (m more whole : List ℕ) → Begins (m ++ more) whole → Begins m whole
begins_longer m more whole b = (more ++ b.0, b.1 ∙ append_assoc m more b.0)

begins_regions : (m : List ℕ) (contents : List (List ℕ)) (whole : List ℕ) → Begins (with_regions m contents) whole → Begins m whole
unfolding with_regions with_region
begins_regions m [] whole b = b
begins_regions m (bytes ∷ rest) whole b = begins_longer m _ whole (begins_regions (with_region m bytes) rest whole b)

-- the bytes of a region that a memory ends with
bytes_of_last : (m bytes whole : List ℕ) → Begins (with_region m bytes) whole → bytes_of whole (record { start = length m; len = length bytes }) ≡ bytes
unfolding with_region
bytes_of_last m bytes whole b =
    let fill : List ℕ = gap (next_start (length m) (length bytes) - (length m + length bytes)) in
    let region : Region = record { start = length m; len = length bytes } in
    let split : whole ≡ m ++ (bytes ++ (fill ++ b.0)) = b.1 ∙ append_assoc m (bytes ++ fill) b.0 ∙ ap (λ (xs : List ℕ). m ++ xs) (append_assoc bytes fill b.0) in
    ap (λ (xs : List ℕ). bytes_of xs region) split ∙ bytes_behind m bytes (fill ++ b.0)

-- the bytes of all regions
bytes_of_all : (m : List ℕ) (contents : List (List ℕ)) (whole : List ℕ) → Begins (with_regions m contents) whole
    → map (bytes_of whole) (map region_of (regions (length m) (map length contents))) ≡ contents
unfolding with_regions
bytes_of_all m [] whole b = ap (λ (rs : List Region2). map (bytes_of whole) (map region_of rs)) (regions_none (length m))
bytes_of_all m (bytes ∷ rest) whole b =
    let after : List ℕ = with_region m bytes in
    let here : bytes_of whole (record { start = length m; len = length bytes }) ≡ bytes = bytes_of_last m bytes whole (begins_regions after rest whole b) in
    let later : map (bytes_of whole) (map region_of (regions (next_start (length m) (length bytes)) (map length rest))) ≡ rest =
    subst (λ (n : ℕ). map (bytes_of whole) (map region_of (regions n (map length rest))) ≡ rest) (length-with_region m bytes) (bytes_of_all after rest whole b) in
    ap (λ (rs : List Region2). map (bytes_of whole) (map region_of rs)) (regions_next (length m) (length bytes) (map length rest))
    ∙ ap (λ (xs : List ℕ). xs ∷ map (bytes_of whole) (map region_of (regions (next_start (length m) (length bytes)) (map length rest)))) here
    ∙ ap (λ (xs : List (List ℕ)). bytes ∷ xs) later

begins_memory : (buffers scratch : List (List ℕ)) → Begins (with_regions (gap first_start) buffers) (memory_of buffers scratch)
unfolding memory_of
begins_memory buffers scratch =
    begins_regions (with_regions (gap first_start) buffers) scratch (memory_of buffers scratch) ([], sym (append-nil (memory_of buffers scratch)))

whole_memory : (buffers scratch : List (List ℕ)) → Begins (with_regions (with_regions (gap first_start) buffers) scratch) (memory_of buffers scratch)
unfolding memory_of
whole_memory buffers scratch = ([], sym (append-nil (memory_of buffers scratch)))

-- each buffer of an opening has the bytes of the setting
pub buffers_back : (code : ModuleOf) (s : Setting) → IsSetting code s → buffers_of (opening_of code s) ≡ s.buffers
unfolding buffers_of opening_of plan_for opening layout_of
buffers_back code s good =
    let memory : List ℕ = memory_of s.buffers s.scratch in
    ap (λ (lens : List ℕ). map (bytes_of memory) (map region_of (regions first_start lens))) (sym good.buffer_sizes)
    ∙ ap (λ (n : ℕ). map (bytes_of memory) (map region_of (regions n (map length s.buffers)))) (sym (length-gap first_start))
    ∙ bytes_of_all (gap first_start) s.buffers memory (begins_memory s.buffers s.scratch)

-- and so has each scratch
pub scratch_back : (code : ModuleOf) (s : Setting) → IsSetting code s
    → map (bytes_of (opening_of code s).memory) (opening_of code s).fixed.scratch ≡ s.scratch
unfolding opening_of plan_for opening layout_of
scratch_back code s good =
    let memory : List ℕ = memory_of s.buffers s.scratch in
    ap (λ (lens : List ℕ). map (bytes_of memory) (map region_of (regions (scratch_start s.launch) lens))) (sym good.scratch_sizes)
    ∙ ap (λ (lens : List ℕ). map (bytes_of memory) (map region_of (regions (start_after first_start lens) (map length s.scratch)))) (sym good.buffer_sizes)
    ∙ ap (λ (n : ℕ). map (bytes_of memory) (map region_of (regions n (map length s.scratch)))) (sym (length-with_buffers s.buffers))
    ∙ bytes_of_all (with_regions (gap first_start) s.buffers) s.scratch memory (whole_memory s.buffers s.scratch)

-- the memory is as long as its layout says
pub opened_size : (code : ModuleOf) (s : Setting) → IsSetting code s → length (opening_of code s).memory ≡ (layout_of s.launch code.rows).size
unfolding opening_of plan_for opening
opened_size code s good = length-memory_of s.launch code.rows s.buffers s.scratch good.buffer_sizes good.scratch_sizes

-- an opening has the QPUs of its launch
pub opened_qpus : (code : ModuleOf) (s : Setting) → IsSetting code s → length (opening_of code s).qpus ≡ s.launch.qpus
unfolding opening_of plan_for opening
opened_qpus code s good = length-map s.contents.regs opening_qpu ∙ good.contents.many
