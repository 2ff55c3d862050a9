-- The uniforms of an opening are words, and its memory is bytes.
use Rattle.std.proofs.Common.{zero, suc, inl, inr, ℕ, ◌+◌, ◌-◌, ◌^◌, ◌<◌, ◌≤◌, List, [], ◌∷◌, ◌++◌, length, get_or, map, flat_map, ap, arith}
use Rattle.std.specs.List.{range_with_len, All}
use Rattle.std.proofs.lemmas.Bool.{cases_lt}
use Rattle.std.proofs.lemmas.List.{get_or_past, get_or_default}
use Rattle.q_lane.proofs.WordLaws.{word_of-below}
use Rattle.launch_file.specs.declared.launch.Arg.{Arg}
use Rattle.launch_file.specs.declared.launch.Arg.TheVariants.{Value, Buffer}
use Rattle.launch_file.specs.declared.places.Region2.{Region2}
use Rattle.launch_file.specs.Launches.{LaunchOf, AreSizes, IsLaunch}
use Rattle.launch_file.specs.Layout.{PlacesOf, first_start, next_start}
use Rattle.launch_file.specs.Uniforms.{no_region, address, arg_word, work_words, uniforms_of}
use Rattle.qpu_machine.specs.Reachable.{AreWords, AreBytes}
use Rattle.promise.specs.Openings.{gap, with_region, with_regions, memory_of, all_uniforms, AreAllBytes}
use Rattle.promise.proofs.MemoryLengths.{length-gap}
use Rattle.promise.proofs.OpeningGaps.{gap_at}

-- ---- numbers below a limit, and 0 past the end

abbrev pub AreBelow : ℕ → List ℕ → Type 0
AreBelow limit xs = (i : ℕ) → get_or xs i 0 < limit

pub below_append : (limit : ℕ) (xs ys : List ℕ) → AreBelow limit xs → AreBelow limit ys → AreBelow limit (xs ++ ys)
below_append limit [] ys h k i = k i
below_append limit (x ∷ xs) ys h k zero = h zero
below_append limit (x ∷ xs) ys h k (suc i) = below_append limit xs ys (λ j. h (suc j)) k i

below_map : {X : Type 0} (limit : ℕ) (f : X → ℕ) (xs : List X) → 0 < limit → ((x : X) → f x < limit) → AreBelow limit (map f xs)
below_map limit f [] some h i = some
below_map limit f (x ∷ xs) some h zero = h x
below_map limit f (x ∷ xs) some h (suc i) = below_map limit f xs some h i

below_flat_map : (limit : ℕ) (f : ℕ → List ℕ) (a n : ℕ) → 0 < limit → ((k : ℕ) → k < a + n → AreBelow limit (f k)) → AreBelow limit (flat_map f (range_with_len a n))
below_flat_map limit f a zero some h = λ i. some
below_flat_map limit f a (suc n) some h =
    below_append limit (f a) (flat_map f (range_with_len (a + 1) n)) (h a (omega arith)) (below_flat_map limit f (a + 1) n some (λ k within. h k (omega (arith, within))))

-- ---- uniforms

sizes_below : (dims : ℕ) (sizes : List ℕ) → AreSizes dims sizes → AreWords sizes
sizes_below dims sizes is i = elim (cases_lt i 3) [
  | inl within ↦ (let same = get_or_default sizes i 1 0 (omega (arith, within, is.three)) in let small = is.small i within in omega (arith, same, small))
  | inr past ↦ (let none = get_or_past sizes i 0 (omega (arith, past, is.three)) in omega (arith, none))
]

address_below : (regions : List Region2) (size : ℕ) → All (λ r. r.start + r.len ≤ size) regions → size < 2 ^ 32 → (i : ℕ) → address regions i < 2 ^ 32
address_below regions size inside small i = elim (cases_lt i (length regions)) [
  | inl within ↦ (let here = inside i no_region within in omega (arith, here, small))
  | inr past ↦ (let none = ap (λ (r : Region2). r.start) (get_or_past regions i no_region past) in omega (arith, none))
]

arg_below : (buffers : List Region2) → ((i : ℕ) → address buffers i < 2 ^ 32) → (arg : Arg) → arg_word buffers arg < 2 ^ 32
unfolding arg_word
arg_below buffers h (Value number) = word_of-below number
arg_below buffers h (Buffer i) = h i

work_below : (launch : LaunchOf) (places : PlacesOf) (k : ℕ) → IsLaunch launch → k < 12 → ((i : ℕ) → address places.scratch i < 2 ^ 32)
    → AreWords (work_words launch places k)
unfolding work_words
work_below launch places k is few scratch zero = scratch k
work_below launch places k is few scratch (suc zero) = omega (arith, few)
work_below launch places k is few scratch (suc (suc zero)) = (let small = is.few_qpus in omega (arith, small))
work_below launch places k is few scratch (suc (suc (suc zero))) = (let small = is.items in omega (arith, small))
work_below launch places k is few scratch (suc (suc (suc (suc zero)))) = (let small = is.items in omega (arith, small))
work_below launch places k is few scratch (suc (suc (suc (suc (suc zero))))) = (let small = is.few_dims in omega (arith, small))
work_below launch places k is few scratch (suc (suc (suc (suc (suc (suc i)))))) =
    below_append (2 ^ 32) launch.global launch.local (sizes_below launch.dims launch.global is.global) (sizes_below launch.dims launch.local is.local) i

uniforms_below : (launch : LaunchOf) (places : PlacesOf) (k : ℕ) → IsLaunch launch → k < 12 → ((i : ℕ) → address places.buffers i < 2 ^ 32)
    → ((i : ℕ) → address places.scratch i < 2 ^ 32) → AreWords (uniforms_of launch places k)
unfolding uniforms_of
uniforms_below launch places k is few buffers scratch =
    below_append (2 ^ 32) (work_words launch places k) (map (arg_word places.buffers) launch.args) (work_below launch places k is few scratch)
    (below_map (2 ^ 32) (arg_word places.buffers) launch.args (omega arith) (arg_below places.buffers buffers))

pub all_words : (launch : LaunchOf) (places : PlacesOf) → IsLaunch launch → All (λ r. r.start + r.len ≤ places.size) places.buffers
    → All (λ r. r.start + r.len ≤ places.size) places.scratch → places.size < 2 ^ 32 → AreWords (all_uniforms launch places)
unfolding all_uniforms
all_words launch places is buffers scratch small =
    below_flat_map (2 ^ 32) (uniforms_of launch places) 0 launch.qpus (omega arith)
    (λ k within. uniforms_below launch places k is (let few = is.few_qpus in omega (arith, within, few))
    (address_below places.buffers places.size buffers small) (address_below places.scratch places.size scratch small))

-- ---- the memory

gap_below : (size : ℕ) → AreBytes (gap size)
gap_below size i = elim (cases_lt i size) [
  | inl within ↦ (let here = gap_at size i within in omega (arith, here))
  | inr past ↦ (let none = get_or_past (gap size) i 0 (let long = length-gap size in omega (arith, long, past)) in omega (arith, none))
]

regions_below : (m : List ℕ) (contents : List (List ℕ)) → AreBytes m → AreAllBytes contents → AreBytes (with_regions m contents)
unfolding with_regions with_region
regions_below m [] h each = h
regions_below m (bytes ∷ rest) h each =
    let fill : ℕ = next_start (length m) (length bytes) - (length m + length bytes) in
    regions_below (with_region m bytes) rest
    (below_append 256 m (bytes ++ gap fill) h (below_append 256 bytes (gap fill) (each 0) (gap_below fill)))
    (λ i. each (suc i))

pub memory_bytes : (buffers scratch : List (List ℕ)) → AreAllBytes buffers → AreAllBytes scratch → AreBytes (memory_of buffers scratch)
unfolding memory_of
memory_bytes buffers scratch buffer_bytes scratch_bytes =
    regions_below (with_regions (gap first_start) buffers) scratch (regions_below (gap first_start) buffers (gap_below first_start) buffer_bytes) scratch_bytes
