-- The plan of a setting is one that a machine may be begun with.
use Rattle.std.proofs.Common.{zero, suc, ◌≡◌, inl, inr, ℕ, ◌+◌, ◌*◌, ◌≤◌, List, [], ◌∷◌, ◌++◌, length, get_or, replicate, refl, map, flat_map, sym, ap, ◌∙◌, subst, arith}
use Rattle.std.specs.Prelude.{Option, Some, None, option_map, IfSome, slice_get}
use Rattle.std.specs.List.{range_with_len, All, AllPairs}
use Rattle.std.proofs.lemmas.Option.{slice_get-map, slice_get_cases, get_or_from_slice_get}
use Rattle.std.proofs.lemmas.Bool.{cases_order}
use Rattle.std.proofs.lemmas.List.{length-append, length-map, length-replicate, map-append, get_or_append_left, get_or-append-add}
use Rattle.launch_file.specs.declared.places.Region2.{Region2}
use Rattle.launch_file.specs.Launches.{LaunchOf, IsLaunch}
use Rattle.launch_file.specs.Layout.{PlacesOf, buffer_lens, scratch_lens, layout_of}
use Rattle.launch_file.specs.Laws.{ArePlaced}
use Rattle.launch_file.specs.Uniforms.{uniforms_of, work_words, arg_word}
use Rattle.launch_file.proofs.LayoutLaws.{layout_is_good}
use Rattle.vc4q_module.specs.ModuleBytes.{ModuleOf, IsModule}
use Rattle.vpm_words.specs.declared.state.Region.{Region}
use Rattle.qpu_machine.specs.Planned.{IsPlan, LieIn, AreApart, Covers}
use Rattle.qpu_machine.specs.Reachable.{AreBytes}
use Rattle.promise.specs.Openings.{memory_of, all_uniforms, region_of, plan_for, Setting, IsSetting, AreAllBytes}
use Rattle.qpu_machine.proofs.RangeFill.{fill_in_range}
use Rattle.promise.specs.Laws.{IsPlanned, SettingsOpen, ValidLaunchesHaveSettings}
use Rattle.promise.proofs.OpeningBytes.{buffers_back, scratch_back, opened_size, opened_qpus}
use Rattle.promise.proofs.OpeningGaps.{gaps_in_opening}
use Rattle.promise.proofs.MemoryLengths.{length-memory_of}
use Rattle.promise.proofs.OpeningWords.{all_words, memory_bytes}

-- ---- how many uniforms there are

length-uniforms_of : (launch : LaunchOf) (places : PlacesOf) (k : ℕ) → IsLaunch launch → length (uniforms_of launch places k) ≡ 12 + length launch.args
unfolding uniforms_of work_words
length-uniforms_of launch places k is =
    let sizes : length (launch.global ++ launch.local) ≡ 6 = length-append launch.global launch.local ∙ (let six : length launch.global + length launch.local ≡ 6 = omega (arith, is.global.three, is.local.three) in six) in
    let words : length (work_words launch places k) ≡ 12 = omega (arith, sizes) in
    length-append (work_words launch places k) (map (arg_word places.buffers) launch.args)
    ∙ ap (λ n. length (work_words launch places k) + n) (length-map launch.args (arg_word places.buffers))
    ∙ ap (λ n. n + length launch.args) words

each_many : (f : ℕ → List ℕ) (per : ℕ) → ((k : ℕ) → length (f k) ≡ per) → (a n : ℕ) → length (flat_map f (range_with_len a n)) ≡ n * per
each_many f per h a zero = let none : 0 ≡ 0 * per = omega arith in none
each_many f per h a (suc n) =
    length-append (f a) (flat_map f (range_with_len (a + 1) n)) ∙ ap (λ k. k + length (flat_map f (range_with_len (a + 1) n))) (h a) ∙ ap (λ k. per + k) (each_many f per h (a + 1) n)
    ∙ (let sum : per + n * per ≡ suc n * per = grind arith in sum)

-- ---- where the regions lie

all_some : {X : Type 0} (P : X → Type 0) (xs : List X) → All P xs → (i : ℕ) → IfSome (slice_get xs i) P
all_some {X} P xs h i = elim ((slice_get_cases xs i).1) [
  | inl there ↦ subst (λ o. IfSome o P) (sym there.2) (subst P there.3 (h i there.0 there.1))
  | inr past ↦ subst (λ o. IfSome o P) (sym past.1) tt
]

all_first : {X : Type 0} (P : X → Type 0) (xs ys : List X) → All P (xs ++ ys) → All P xs
all_first P xs ys h = λ k d within. subst P (get_or_append_left xs ys d k within) (h k d (let long = length-append xs ys in omega (arith, long)))

all_last : {X : Type 0} (P : X → Type 0) (xs ys : List X) → All P (xs ++ ys) → All P ys
all_last P xs ys h = λ k d within. subst P (get_or-append-add xs ys k d) (h (length xs + k) d (let long = length-append xs ys in omega (arith, long)))

mapped : (o : Option Region2) (P : Region → Type 0) → IfSome o (λ r. P (region_of r)) → IfSome (option_map region_of o) P
mapped (Some r) P h = h
mapped None P h = tt

lie_in : (regions : List Region2) (size : ℕ) → All (λ r. r.start + r.len ≤ size) regions → LieIn (map region_of regions) size
lie_in regions size h = λ i.
    subst (λ o. IfSome o (λ region. region.start + region.len ≤ size)) (sym (slice_get-map region_of regions i))
    (mapped (slice_get regions i) (λ region. region.start + region.len ≤ size) (all_some (λ r. r.start + r.len ≤ size) regions h i))

both_mapped : (one other : Option Region2) (C : Region → Region → Type 0)
    → IfSome one (λ r. IfSome other (λ s. C (region_of r) (region_of s))) → IfSome (option_map region_of one) (λ r. IfSome (option_map region_of other) (λ s. C r s))
both_mapped (Some r) (Some s) C h = h
both_mapped (Some r) None C h = tt
both_mapped None other C h = tt

abbrev Follows : Region2 → Region2 → Type 0
Follows one later = one.start + one.len + 64 ≤ later.start

apart_at : (regions : List Region2) → AllPairs Follows regions → (address i j : ℕ)
    → IfSome (slice_get regions i) (λ one. IfSome (slice_get regions j) (λ other. Covers address (region_of one) → Covers address (region_of other) → i ≡ j))
apart_at regions h address i j = elim ((slice_get_cases regions i).1) [
  | inr past ↦ subst (λ o. IfSome o (λ one. IfSome (slice_get regions j) (λ other. Covers address (region_of one) → Covers address (region_of other) → i ≡ j))) (sym past.1) tt
  | inl one ↦ subst (λ o. IfSome o (λ one. IfSome (slice_get regions j) (λ other. Covers address (region_of one) → Covers address (region_of other) → i ≡ j))) (sym one.2)
      (elim ((slice_get_cases regions j).1) [
        | inr past ↦ subst (λ o. IfSome o (λ other. Covers address (region_of one.0) → Covers address (region_of other) → i ≡ j)) (sym past.1) tt
        | inl other ↦ subst (λ o. IfSome o (λ other. Covers address (region_of one.0) → Covers address (region_of other) → i ≡ j)) (sym other.2)
            (λ here there. elim (cases_order i j) [
              | inl e ↦ e
              | inr order ↦ elim order [
                | inl less ↦ absurd (let gap = subst (λ r. Follows one.0 r) (get_or_from_slice_get regions j other.0 one.0 other.2) (subst (λ r. Follows r (get_or regions j one.0)) one.3 (h i j one.0 less other.1)) in omega (arith, gap, here.0, here.1, there.0, there.1))
                | inr more ↦ absurd (let gap = subst (λ r. Follows other.0 r) (get_or_from_slice_get regions i one.0 other.0 one.2) (subst (λ r. Follows r (get_or regions i other.0)) other.3 (h j i other.0 more one.1)) in omega (arith, gap, here.0, here.1, there.0, there.1))
              ]
            ])
      ])
]

are_apart : (regions : List Region2) → AllPairs Follows regions → AreApart (map region_of regions)
are_apart regions h = λ address i j.
    let C : Region → Region → Type 0 = λ one other. Covers address one → Covers address other → i ≡ j in
    let P : Option Region → Option Region → Type 0 = λ o p. IfSome o (λ one. IfSome p (λ other. C one other)) in
    subst (λ o. P o (slice_get (map region_of regions) j)) (sym (slice_get-map region_of regions i))
    (subst (λ p. P (option_map region_of (slice_get regions i)) p) (sym (slice_get-map region_of regions j))
    (both_mapped (slice_get regions i) (slice_get regions j) C (apart_at regions h address i j)))

-- ---- the plan

-- all regions lie in the memory
abbrev Within : PlacesOf → Region2 → Type 0
Within places r = r.start + r.len ≤ places.size

placed : (code : ModuleOf) (s : Setting) → IsModule code → IsSetting code s → ArePlaced s.launch code.rows (layout_of s.launch code.rows)
placed code s module_is good = layout_is_good s.launch code.rows good.valid.is_launch module_is.few_rows

pub is_plan_for : (code : ModuleOf) (s : Setting) → IsModule code → IsSetting code s → IsPlan (plan_for code s.launch s.buffers s.scratch)
unfolding plan_for all_uniforms
is_plan_for code s module_is good =
    let launch : LaunchOf = s.launch in
    let launch_is : IsLaunch launch = good.valid.is_launch in
    let places : PlacesOf = layout_of launch code.rows in
    let at : ArePlaced launch code.rows places = placed code s module_is good in
    let long : length (memory_of s.buffers s.scratch) ≡ places.size = length-memory_of launch code.rows s.buffers s.scratch good.buffer_sizes good.scratch_sizes in
    let scratches : length places.scratch ≡ launch.qpus =
    sym (length-map places.scratch (λ region. region.len)) ∙ ap length at.scratch ∙ length-replicate launch.qpus (64 * code.rows) in
    record {
      some = launch_is.some_qpus;
      few = launch_is.few_qpus;
      per = (let count = good.valid.fits.count in let few = module_is.few_kinds in omega (arith, count, few));
      uniforms = each_many (uniforms_of launch places) (12 + length launch.args) (λ k. length-uniforms_of launch places k launch_is) 0 launch.qpus;
      scratch = length-map places.scratch region_of ∙ scratches;
      code = module_is.some_words;
      short = (let few = module_is.few_words in omega (arith, few));
      memory = (let small = at.small in omega (arith, long, small));
      buffers_within = subst (LieIn (map region_of places.buffers)) (sym long) (lie_in places.buffers places.size (all_first (Within places) places.buffers places.scratch at.inside));
      scratch_within = subst (LieIn (map region_of places.scratch)) (sym long) (lie_in places.scratch places.size (all_last (Within places) places.buffers places.scratch at.inside));
      apart = subst AreApart (map-append region_of places.buffers places.scratch) (are_apart (places.buffers ++ places.scratch) at.apart);
    }

pub is_planned : (code : ModuleOf) (s : Setting) → IsModule code → IsSetting code s → IsPlanned code s
unfolding plan_for
is_planned code s module_is good =
    let places : PlacesOf = layout_of s.launch code.rows in
    let at : ArePlaced s.launch code.rows places = placed code s module_is good in
    record {
      plan = is_plan_for code s module_is good;
      uniforms = all_words s.launch places good.valid.is_launch (all_first (Within places) places.buffers places.scratch at.inside)
          (all_last (Within places) places.buffers places.scratch at.inside) at.small;
      memory = memory_bytes s.buffers s.scratch good.buffer_bytes good.scratch_bytes;
    }

pub settings_open : SettingsOpen
settings_open code s module_is good = (
  is_planned code s module_is good,
  record {
    buffers = buffers_back code s good;
    scratch = scratch_back code s good;
    size = opened_size code s good;
    gaps = gaps_in_opening code s good;
    qpus = opened_qpus code s good;
  },
)

-- ---- each valid launch has a setting

lens_back : (sizes : List ℕ) → map (length {A = ℕ}) (map (λ size. replicate size 0) sizes) ≡ sizes
lens_back [] = refl
lens_back (size ∷ sizes) = ap (λ (n : ℕ). n ∷ map (length {A = ℕ}) (map (λ k. replicate {A = ℕ} k 0) sizes)) (length-replicate {A = ℕ} size 0) ∙ ap (λ ns. size ∷ ns) (lens_back sizes)

zeros_are : (size : ℕ) → AreBytes (replicate size 0)
zeros_are zero i = omega arith
zeros_are (suc size) zero = omega arith
zeros_are (suc size) (suc i) = zeros_are size i

zeros_all : (sizes : List ℕ) → AreAllBytes (map (λ size. replicate size 0) sizes)
zeros_all [] i = tt
zeros_all (size ∷ sizes) zero = zeros_are size
zeros_all (size ∷ sizes) (suc i) = zeros_all sizes i

pub valid_launches : ValidLaunchesHaveSettings
valid_launches code launch fill valid =
    record {
      valid = valid;
      buffer_sizes = lens_back (buffer_lens launch.buffers);
      buffer_bytes = zeros_all (buffer_lens launch.buffers);
      scratch_sizes = lens_back (scratch_lens launch.qpus code.rows);
      scratch_bytes = zeros_all (scratch_lens launch.qpus code.rows);
      contents = fill_in_range fill launch.qpus;
    }
