-- Three buffers that are placed, beside scratch regions without bytes, are what a plan wants.
use Rattle.std.proofs.Common.{◌≡◌, ℕ, zero, suc, ◌*◌, ◌∙◌, ap, List, [], ◌∷◌, ◌++◌, length, refl, sym, subst, arith}
use Rattle.std.proofs.lemmas.List.{length-replicate}
use Rattle.std.specs.Prelude.{Option, Some, None, IfSome, slice_get, replicate}
use Rattle.vpm_words.specs.declared.state.Region.{Region}
use Rattle.qpu_machine.specs.Planned.{Planned, IsPlan, no_region, Covers, LieIn, AreApart}
use Rattle.machine_rows.specs.declared.openings.Places.{Places}
use Rattle.machine_rows.specs.declared.openings.Opening.{Opening}
use Rattle.machine_rows.specs.Ready.{AreClear, ArePlaced, IsReady}

abbrev pub buffers : Places → List Region
buffers places = places.first ∷ places.second ∷ places.third ∷ []

pub buffers_lie : (size : ℕ) (places : Places) → ArePlaced size places → LieIn (buffers places) size
buffers_lie size places placed zero = placed.first
buffers_lie size places placed (suc zero) = placed.second
buffers_lie size places placed (suc (suc zero)) = placed.third
buffers_lie size places placed (suc (suc (suc i))) = tt

pub scratch_lies : (size n : ℕ) → LieIn (replicate n no_region) size
scratch_lies size zero i = tt
scratch_lies size (suc n) zero = omega arith
scratch_lies size (suc n) (suc i) = scratch_lies size n i

clash : (one other : Region) (address : ℕ) → AreClear one other → Covers address one → Covers address other → ⊥
clash one other address clear h k = grind (arith, clear, h.0, h.1, k.0, k.1)

-- no byte lies in a region without bytes, whatever the other is
nothing_in : (n j address : ℕ) (B A : Type 0) → IfSome (slice_get (replicate n no_region) j) (λ other. B → Covers address other → A)
nothing_in zero j address B A = tt
nothing_in (suc n) zero address B A = λ b k. absurd (omega (arith, k.0, k.1))
nothing_in (suc n) (suc j) address B A = nothing_in n j address B A

nothing_beside : (address : ℕ) (o : Option Region) (A : Type 0) → IfSome o (λ other. Covers address no_region → Covers address other → A)
nothing_beside address None A = tt
nothing_beside address (Some other) A = λ h k. absurd (omega (arith, h.0, h.1))

nothing_first : (n i address : ℕ) (o : Option Region) (A : Type 0)
    → IfSome (slice_get (replicate n no_region) i) (λ one. IfSome o (λ other. Covers address one → Covers address other → A))
nothing_first zero i address o A = tt
nothing_first (suc n) zero address o A = nothing_beside address o A
nothing_first (suc n) (suc i) address o A = nothing_first n i address o A

pub are_apart : (size n : ℕ) (places : Places) → ArePlaced size places → AreApart (buffers places ++ replicate n no_region)
are_apart size n places placed address zero zero = λ h k. refl
are_apart size n places placed address zero (suc zero) = λ h k. absurd (clash places.first places.second address placed.first_second h k)
are_apart size n places placed address zero (suc (suc zero)) = λ h k. absurd (clash places.first places.third address placed.first_third h k)
are_apart size n places placed address zero (suc (suc (suc j))) = nothing_in n j address (Covers address places.first) (zero ≡ suc (suc (suc j)))
are_apart size n places placed address (suc zero) zero = λ h k. absurd (clash places.first places.second address placed.first_second k h)
are_apart size n places placed address (suc zero) (suc zero) = λ h k. refl
are_apart size n places placed address (suc zero) (suc (suc zero)) = λ h k. absurd (clash places.second places.third address placed.second_third h k)
are_apart size n places placed address (suc zero) (suc (suc (suc j))) = nothing_in n j address (Covers address places.second) (suc zero ≡ suc (suc (suc j)))
are_apart size n places placed address (suc (suc zero)) zero = λ h k. absurd (clash places.first places.third address placed.first_third k h)
are_apart size n places placed address (suc (suc zero)) (suc zero) = λ h k. absurd (clash places.second places.third address placed.second_third k h)
are_apart size n places placed address (suc (suc zero)) (suc (suc zero)) = λ h k. refl
are_apart size n places placed address (suc (suc zero)) (suc (suc (suc j))) = nothing_in n j address (Covers address places.third) (suc (suc zero) ≡ suc (suc (suc j)))
are_apart size n places placed address (suc (suc (suc i))) j =
    nothing_first n i address (slice_get (buffers places ++ replicate n no_region) j) (suc (suc (suc i)) ≡ j)

-- what is made of an opening that is ready is a plan
pub is_plan : (opening : Opening) (qpus : ℕ) (plan : Planned) → IsReady opening qpus → length plan.words ≡ length opening.code.items → plan.qpus ≡ qpus
    → plan.per ≡ opening.per → length plan.uniforms ≡ length opening.uniforms.items → length plan.memory ≡ length opening.memory.items
    → plan.buffers ≡ buffers opening.places → plan.scratch ≡ replicate qpus no_region → IsPlan plan
is_plan opening qpus plan ready words many per uniforms memory placed scratch =
    let size : ℕ = length opening.memory.items in
    let some = ready.some in
    let few = ready.few in
    let small = ready.per in
    let code = ready.code in
    let short = ready.short in
    let bytes = ready.memory in
    record {
      some = omega (arith, some, many);
      few = omega (arith, few, many);
      per = omega (arith, small, per);
      uniforms = uniforms ∙ ready.uniforms ∙ ap (λ n. n * opening.per) (sym many) ∙ ap (λ n. plan.qpus * n) (sym per);
      scratch = ap length scratch ∙ length-replicate qpus no_region ∙ sym many;
      code = omega (arith, code, words);
      short = omega (arith, short, words);
      memory = omega (arith, bytes, memory);
      buffers_within = subst (λ regions. LieIn regions (length plan.memory)) (sym placed) (subst (LieIn (buffers opening.places)) (sym memory) (buffers_lie size opening.places ready.placed));
      scratch_within = subst (λ regions. LieIn regions (length plan.memory)) (sym scratch) (scratch_lies (length plan.memory) qpus);
      apart = subst (λ regions. AreApart (regions ++ plan.scratch)) (sym placed)
          (subst (λ regions. AreApart (buffers opening.places ++ regions)) (sym scratch) (are_apart size qpus opening.places ready.placed));
    }
