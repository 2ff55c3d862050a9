-- Bytes outside regions.
use Rattle.std.specs.Prelude.{◌≡◌, ◌<◌, ◌≤◌, ℕ, ◌+◌, ◌-◌, List, [], ◌∷◌, ◌++◌, length, get_or, map}
use Rattle.std.proofs.Common.{ap, ◌∙◌, subst, arith, inl, inr}
use Rattle.std.proofs.lemmas.Bool.{cases_lt}
use Rattle.std.proofs.lemmas.List.{get_or-replicate, get_or_append_left, get_or-append-add}
use Rattle.launch_file.specs.Layout.{first_start, next_start, regions, start_after, scratch_start, layout_of}
use Rattle.vc4q_module.specs.ModuleBytes.{ModuleOf}
use Rattle.qpu_machine.specs.Opening.{opening}
use Rattle.promise.specs.Openings.{gap, with_region, with_regions, memory_of, plan_for, Setting, IsSetting, opening_of, Covered}
use Rattle.promise.proofs.MemoryLengths.{length-gap, length-with_region, length-with_buffers}

pub gap_at : (size i : ℕ) → i < size → get_or (gap size) i 0 ≡ 165
unfolding gap
gap_at size i h = get_or-replicate size i 165 0 h

-- a byte of the memory before the region
before_region : (m bytes : List ℕ) (a : ℕ) → a < length m → get_or (with_region m bytes) a 0 ≡ get_or m a 0
unfolding with_region
before_region m bytes a h = get_or_append_left m _ 0 a h

-- a byte behind the region
behind_region : (m bytes : List ℕ) (i : ℕ) → length m + length bytes + i < next_start (length m) (length bytes)
    → get_or (with_region m bytes) (length m + length bytes + i) 0 ≡ 165
unfolding with_region
behind_region m bytes i h =
    let rest : List ℕ = gap (next_start (length m) (length bytes) - (length m + length bytes)) in
    let at : length m + length bytes + i ≡ length m + (length bytes + i) = omega arith in
    ap (λ (k : ℕ). get_or (m ++ (bytes ++ rest)) k 0) at
    ∙ get_or-append-add m (bytes ++ rest) (length bytes + i) 0
    ∙ get_or-append-add bytes rest i 0
    ∙ gap_at (next_start (length m) (length bytes) - (length m + length bytes)) i (omega (arith, h))

-- one region more
one_more : (m bytes : List ℕ) (a : ℕ) → a < length (with_region m bytes) → ((length m ≤ a) × (a < length m + length bytes) → ⊥)
    → (a < length m → get_or m a 0 ≡ 165) → get_or (with_region m bytes) a 0 ≡ 165
one_more m bytes a h free old =
    let wide : length (with_region m bytes) ≡ next_start (length m) (length bytes) = length-with_region m bytes in
    elim (cases_lt a (length m)) [
      | inl l ↦ before_region m bytes a l ∙ old l
      | inr g ↦ elim (cases_lt a (length m + length bytes)) [
        | inl l ↦ absurd (free (omega (arith, g), l))
        | inr b ↦
            let at : length m + length bytes + (a - (length m + length bytes)) ≡ a = omega (arith, b) in
            subst (λ (k : ℕ). get_or (with_region m bytes) k 0 ≡ 165) at
            (behind_region m bytes (a - (length m + length bytes)) (omega (arith, h, wide, at)))
      ]
    ]

gaps_in : (contents : List (List ℕ)) (m : List ℕ) (a : ℕ) → a < length (with_regions m contents)
    → ¬ (Covered (regions (length m) (map length contents)) a) → (a < length m → get_or m a 0 ≡ 165)
    → get_or (with_regions m contents) a 0 ≡ 165
unfolding with_regions regions
gaps_in [] m a h free old = old h
gaps_in (bytes ∷ rest) m a h free old =
    let same : length (with_region m bytes) ≡ next_start (length m) (length bytes) = length-with_region m bytes in
    gaps_in rest (with_region m bytes) a h
    (λ c. free (inr (subst (λ (start : ℕ). Covered (regions start (map length rest)) a) same c)))
    (λ l. one_more m bytes a l (λ c. free (inl c)) old)

gaps_are_165 : (buffers scratch : List (List ℕ)) (a : ℕ) → a < length (memory_of buffers scratch)
    → ¬ (Covered (regions first_start (map length buffers)) a)
    → ¬ (Covered (regions (start_after first_start (map length buffers)) (map length scratch)) a)
    → get_or (memory_of buffers scratch) a 0 ≡ 165
unfolding memory_of
gaps_are_165 buffers scratch a h free_buffers free_scratch =
    let start : length (gap first_start) ≡ first_start = length-gap first_start in
    gaps_in scratch (with_regions (gap first_start) buffers) a h
    (λ c. free_scratch (subst (λ (n : ℕ). Covered (regions n (map length scratch)) a) (length-with_buffers buffers) c))
    (λ l. gaps_in buffers (gap first_start) a l (λ c. free_buffers (subst (λ (n : ℕ). Covered (regions n (map length buffers)) a) start c)) (λ k. gap_at first_start a (subst (λ (n : ℕ). a < n) start k)))

-- the same of the memory that a setting opens with
pub gaps_in_opening : (code : ModuleOf) (s : Setting) → IsSetting code s → (a : ℕ) → a < length (opening_of code s).memory
    → ¬ (Covered (layout_of s.launch code.rows).buffers a) → ¬ (Covered (layout_of s.launch code.rows).scratch a) → get_or (opening_of code s).memory a 0 ≡ 165
unfolding opening_of plan_for opening layout_of
gaps_in_opening code s good a h free_buffers free_scratch =
    gaps_are_165 s.buffers s.scratch a h
    (λ c. free_buffers (subst (λ (lens : List ℕ). Covered (regions first_start lens) a) good.buffer_sizes c))
    (λ c. free_scratch (subst (λ (lens : List ℕ). Covered (regions (scratch_start s.launch) lens) a) good.scratch_sizes
    (subst (λ (lens : List ℕ). Covered (regions (start_after first_start lens) (map length s.scratch)) a) good.buffer_sizes c)))
