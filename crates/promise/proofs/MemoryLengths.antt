-- How long the memory of an opening is.
use Rattle.std.proofs.Common.{◌≡◌, ℕ, ◌+◌, ◌-◌, ◌≤◌, List, [], ◌∷◌, ◌++◌, length, map, sym, ap, ◌∙◌, arith}
use Rattle.std.proofs.lemmas.List.{length-append, length-replicate}
use Rattle.launch_file.specs.Launches.{LaunchOf}
use Rattle.launch_file.specs.Layout.{first_start, next_start, start_after, buffer_lens, scratch_lens, scratch_start, layout_of}
use Rattle.launch_file.proofs.RegionSteps.{start_after_none, start_after_next}
use Rattle.promise.specs.Openings.{gap, with_region, with_regions, memory_of}

pub length-gap : (size : ℕ) → length (gap size) ≡ size
unfolding gap
length-gap size = length-replicate size 165

pub next_behind : (start len : ℕ) → start + len ≤ next_start start len
next_behind start len = omega arith

pub length-with_region : (memory bytes : List ℕ) → length (with_region memory bytes) ≡ next_start (length memory) (length bytes)
unfolding with_region
length-with_region memory bytes =
    let behind = next_behind (length memory) (length bytes) in
    let fill : ℕ = next_start (length memory) (length bytes) - (length memory + length bytes) in
    let whole : length (memory ++ (bytes ++ gap fill)) ≡ length memory + (length bytes + fill) =
    length-append memory (bytes ++ gap fill) ∙ ap (λ n. length memory + n) (length-append bytes (gap fill) ∙ ap (λ n. length bytes + n) (length-gap fill)) in
    whole ∙ (let sum : length memory + (length bytes + fill) ≡ next_start (length memory) (length bytes) = omega (arith, behind) in sum)

pub length-with_regions : (memory : List ℕ) (contents : List (List ℕ)) → length (with_regions memory contents) ≡ start_after (length memory) (map length contents)
unfolding with_regions
length-with_regions memory [] = sym (start_after_none (length memory))
length-with_regions memory (bytes ∷ rest) =
    length-with_regions (with_region memory bytes) rest
    ∙ ap (λ n. start_after n (map length rest)) (length-with_region memory bytes)
    ∙ sym (start_after_next (length memory) (length bytes) (map length rest))

-- where the first scratch stands
pub length-with_buffers : (buffers : List (List ℕ)) → length (with_regions (gap first_start) buffers) ≡ start_after first_start (map length buffers)
length-with_buffers buffers = length-with_regions (gap first_start) buffers ∙ ap (λ n. start_after n (map length buffers)) (length-gap first_start)

pub length-memory_of : (launch : LaunchOf) (rows : ℕ) (buffers scratch : List (List ℕ)) → map length buffers ≡ buffer_lens launch.buffers
    → map length scratch ≡ scratch_lens launch.qpus rows → length (memory_of buffers scratch) ≡ (layout_of launch rows).size
unfolding memory_of layout_of
length-memory_of launch rows buffers scratch buffer_sizes scratch_sizes =
    length-with_regions (with_regions (gap first_start) buffers) scratch
    ∙ ap (λ n. start_after n (map length scratch)) (length-with_buffers buffers ∙ ap (start_after first_start) buffer_sizes)
    ∙ ap (start_after (scratch_start launch)) scratch_sizes
