-- The regions of a valid launch are apart, aligned and inside the memory.
use Rattle.std.proofs.Common.{◌≡◌, ℕ, ◌+◌, ◌*◌, ◌%◌, ◌^◌, ◌<◌, ◌≤◌, List, [], ◌∷◌, ◌++◌, length, replicate, slice_get, IfSome, zero, suc, refl, ap, subst, arith}
use Rattle.std.specs.List.{All, AllPairs}
use Rattle.std.proofs.lemmas.List.{length-map, length-replicate}
use Rattle.std.proofs.lemmas.List.Elements.{All-nil, All-cons}
use Rattle.launch_file.specs.declared.launch.BufferLine.{BufferLine}
use Rattle.launch_file.specs.declared.places.Region2.{Region2}
use Rattle.launch_file.specs.Launches.{LaunchOf, IsBuffer, IsLaunch}
use Rattle.launch_file.specs.Layout.{first_start, next_start, regions, start_after, buffer_lens, scratch_lens, scratch_start, most_rows, layout_of}
use Rattle.launch_file.specs.Laws.{lens_of, LayoutIsGood}

pairs-next : {X : Type 0} (R : X → X → Type 0) (x : X) (xs : List X) → All (R x) xs → AllPairs R xs → AllPairs R (x ∷ xs)
pairs-next R x xs here rest zero zero d below h = absurd (omega arith)
pairs-next R x xs here rest zero (suc j) d below h = here j d (omega arith)
pairs-next R x xs here rest (suc i) zero d below h = absurd (omega arith)
pairs-next R x xs here rest (suc i) (suc j) d below h = rest i j d (omega arith) (omega arith)

all-weaker : {X : Type 0} (P Q : X → Type 0) (xs : List X) → ((x : X) → P x → Q x) → All P xs → All Q xs
all-weaker P Q xs weaker all k d h = weaker _ (all k d h)

-- a region's next one begins behind it, at a multiple of 64
next-behind : (start len : ℕ) → start + len + 64 ≤ next_start start len
next-behind start len = omega arith

next-near : (start len : ℕ) → next_start start len ≤ start + len + 127
next-near start len = omega arith

next-aligned : (start len : ℕ) → next_start start len % 64 ≡ 0
next-aligned start len = omega arith

-- regions of these lengths follow those of the ones before
regions-append : (start : ℕ) (before after : List ℕ) → regions start (before ++ after) ≡ regions start before ++ regions (start_after start before) after
unfolding regions start_after
regions-append start [] after = refl
regions-append start (len ∷ before) after = ap (λ (rs : List Region2). record { start = start; len = len } ∷ rs) (regions-append (next_start start len) before after)

start_after-append : (start : ℕ) (before after : List ℕ) → start_after start (before ++ after) ≡ start_after (start_after start before) after
unfolding start_after
start_after-append start [] after = refl
start_after-append start (len ∷ before) after = start_after-append (next_start start len) before after

start_after-more : (start : ℕ) (lens : List ℕ) → start ≤ start_after start lens
unfolding start_after
start_after-more start [] = omega arith
start_after-more start (len ∷ lens) =
    let rest : next_start start len ≤ start_after (next_start start len) lens = start_after-more (next_start start len) lens in
    omega (arith, next-behind start len)

-- lengths of at most 2^24 bytes
start_after-most : (start : ℕ) (lens : List ℕ) → All (λ len. len ≤ 16777216) lens → start_after start lens ≤ start + length lens * 16777343
unfolding start_after
start_after-most start [] small = omega arith
start_after-most start (len ∷ lens) small =
    let here : len ≤ 16777216 = small 0 0 (omega arith) in
    let rest : start_after (next_start start len) lens ≤ next_start start len + length lens * 16777343 =
    start_after-most (next_start start len) lens (λ k d h. small (suc k) d (omega arith))
    in
    omega (arith, next-near start len)

regions-lens : (start : ℕ) (lens : List ℕ) → lens_of (regions start lens) ≡ lens
unfolding regions
regions-lens start [] = refl
regions-lens start (len ∷ lens) = ap (λ (ls : List ℕ). len ∷ ls) (regions-lens (next_start start len) lens)

regions-above : (start : ℕ) (lens : List ℕ) → All (λ region. start ≤ region.start) (regions start lens)
unfolding regions
regions-above start [] = All-nil (λ region. start ≤ region.start)
regions-above start (len ∷ lens) =
    All-cons (λ region. start ≤ region.start) _ _ (omega arith)
    (all-weaker (λ region. next_start start len ≤ region.start) (λ region. start ≤ region.start) _ (λ region h. omega (arith, next-behind start len)) (regions-above (next_start start len) lens))

regions-inside : (start : ℕ) (lens : List ℕ) → All (λ region. region.start + region.len ≤ start_after start lens) (regions start lens)
unfolding regions start_after
regions-inside start [] = All-nil (λ region. region.start + region.len ≤ start)
regions-inside start (len ∷ lens) =
    All-cons (λ region. region.start + region.len ≤ start_after (next_start start len) lens) _ _
    (omega (arith, next-behind start len, start_after-more (next_start start len) lens)) (regions-inside (next_start start len) lens)

regions-aligned : (start : ℕ) (lens : List ℕ) → start % 64 ≡ 0 → All (λ region. region.start % 64 ≡ 0) (regions start lens)
unfolding regions
regions-aligned start [] h = All-nil (λ region. region.start % 64 ≡ 0)
regions-aligned start (len ∷ lens) h =
    All-cons (λ region. region.start % 64 ≡ 0) _ _ h (regions-aligned (next_start start len) lens (next-aligned start len))

regions-apart : (start : ℕ) (lens : List ℕ) → AllPairs (λ one later. one.start + one.len + 64 ≤ later.start) (regions start lens)
unfolding regions
regions-apart start [] = λ i j d below h. absurd (omega arith)
regions-apart start (len ∷ lens) =
    pairs-next (λ one later. one.start + one.len + 64 ≤ later.start) _ _
    (all-weaker (λ later. next_start start len ≤ later.start) (λ later. start + len + 64 ≤ later.start) _ (λ later h. omega (arith, next-behind start len)) (regions-above (next_start start len) lens))
    (regions-apart (next_start start len) lens)

-- the lengths of a valid launch
small_buffers : (buffers : List BufferLine) → ((i : ℕ) → IfSome (slice_get buffers i) IsBuffer) → All (λ len. len ≤ 16777216) (buffer_lens buffers)
small_buffers [] each = All-nil (λ len. len ≤ 16777216)
small_buffers (buffer ∷ buffers) each =
    let here : IsBuffer buffer = each 0 in
    All-cons (λ len. len ≤ 16777216) buffer.size (buffer_lens buffers) here.small (small_buffers buffers (λ i. each (suc i)))

small_scratch : (qpus len : ℕ) → len ≤ 16777216 → All (λ n. n ≤ 16777216) (replicate qpus len)
small_scratch zero len h = All-nil (λ n. n ≤ 16777216)
small_scratch (suc qpus) len h = All-cons (λ n. n ≤ 16777216) len (replicate qpus len) h (small_scratch qpus len h)

all_lens : LaunchOf → ℕ → List ℕ
all_lens launch rows = buffer_lens launch.buffers ++ scratch_lens launch.qpus rows

all-placed : (launch : LaunchOf) (rows : ℕ) → regions first_start (all_lens launch rows) ≡ (layout_of launch rows).buffers ++ (layout_of launch rows).scratch
unfolding all_lens layout_of
all-placed launch rows = regions-append first_start (buffer_lens launch.buffers) (scratch_lens launch.qpus rows)

size-placed : (launch : LaunchOf) (rows : ℕ) → start_after first_start (all_lens launch rows) ≡ (layout_of launch rows).size
unfolding all_lens layout_of
size-placed launch rows = start_after-append first_start (buffer_lens launch.buffers) (scratch_lens launch.qpus rows)

size-small : (launch : LaunchOf) (rows : ℕ) → IsLaunch launch → rows ≤ most_rows → (layout_of launch rows).size < 2 ^ 32
unfolding layout_of
size-small launch rows valid few =
    let buffers = start_after-most first_start (buffer_lens launch.buffers) (small_buffers launch.buffers valid.buffers) in
    let scratch = start_after-most (scratch_start launch) (scratch_lens launch.qpus rows) (small_scratch launch.qpus (64 * rows) (omega arith)) in
    let many = length-map launch.buffers (λ (buffer : BufferLine). buffer.size) in
    let more = length-replicate launch.qpus (64 * rows) in
    let limit = valid.few_buffers in
    let twelve = valid.few_qpus in
    omega arith

pub layout_is_good : LayoutIsGood
unfolding layout_of
layout_is_good launch rows valid few =
    let all = all-placed launch rows in
    let size = size-placed launch rows in
    record {
      buffers = regions-lens first_start (buffer_lens launch.buffers);
      scratch = regions-lens (scratch_start launch) (scratch_lens launch.qpus rows);
      apart = subst (AllPairs (λ one later. one.start + one.len + 64 ≤ later.start)) all (regions-apart first_start (all_lens launch rows));
      aligned = subst (All (λ region. region.start % 64 ≡ 0)) all (regions-aligned first_start (all_lens launch rows) refl);
      above = subst (All (λ region. first_start ≤ region.start)) all (regions-above first_start (all_lens launch rows));
      inside = subst (λ (n : ℕ). All (λ region. region.start + region.len ≤ n) ((layout_of launch rows).buffers ++ (layout_of launch rows).scratch)) size
          (subst (All (λ region. region.start + region.len ≤ start_after first_start (all_lens launch rows))) all (regions-inside first_start (all_lens launch rows)));
      small = size-small launch rows valid few;
    }
