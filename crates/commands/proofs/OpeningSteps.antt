-- The memory and the uniforms of an opening, one region and one QPU after another.
use Rattle.std.proofs.Common.{zero, suc, ◌≡◌, ℕ, ◌+◌, ◌-◌, ◌<◌, List, [], ◌∷◌, ◌++◌, length, drop, replicate, get_or, flat_map, sym, ap, ◌∙◌, arith, add-one}
use Rattle.std.specs.List.{range_with_len}
use Rattle.std.proofs.Math.Seq.{drop-cons, drop-length}
use Rattle.std.proofs.lemmas.List.{flat_map_more}
use Rattle.launch_file.specs.Launches.{LaunchOf}
use Rattle.launch_file.specs.Layout.{PlacesOf}
use Rattle.launch_file.specs.Uniforms.{uniforms_of}
use Rattle.promise.specs.Openings.{with_region, with_regions}

-- the regions from the i-th on are the i-th and then the later ones
pub regions_at : (memory : List ℕ) (contents : List (List ℕ)) (i : ℕ) (bytes : List ℕ) → i < length contents → bytes ≡ get_or contents i bytes
    → with_regions memory (drop i contents) ≡ with_regions (with_region memory bytes) (drop (i + 1) contents)
unfolding with_regions
regions_at memory contents i bytes within is =
    ap (with_regions memory) (drop-cons contents i bytes within) ∙ ap (λ b. with_regions (with_region memory b) (drop (suc i) contents)) (sym is) ∙ ap (λ n. with_regions (with_region memory bytes) (drop n contents)) (sym (add-one i))

pub regions_end : (memory : List ℕ) (contents : List (List ℕ)) (i : ℕ) → i ≡ length contents → with_regions memory (drop i contents) ≡ memory
unfolding with_regions
regions_end memory contents i e = ap (with_regions memory) (ap (λ n. drop n contents) e ∙ drop-length contents)

-- so many equal regions are one and then the others
pub same_regions : (memory bytes : List ℕ) (n i : ℕ) → i < n
    → with_regions memory (replicate (n - i) bytes) ≡ with_regions (with_region memory bytes) (replicate (n - (i + 1)) bytes)
unfolding with_regions
same_regions memory bytes n i within =
    ap (λ k. with_regions memory (replicate k bytes)) (let e : n - i ≡ suc (n - (i + 1)) = omega arith in e)

pub no_regions : (memory bytes : List ℕ) (n i : ℕ) → n ≡ i → with_regions memory (replicate (n - i) bytes) ≡ memory
unfolding with_regions
no_regions memory bytes n i e = ap (λ k. with_regions memory (replicate k bytes)) (let none : n - i ≡ 0 = omega arith in none)

range_last : (a n j : ℕ) → a + n ≡ j → range_with_len a (suc n) ≡ range_with_len a n ++ j ∷ []
range_last a zero j e = ap (λ k. k ∷ []) (let same : a ≡ j = omega (arith, e) in same)
range_last a (suc n) j e = ap (λ ks. a ∷ ks) (range_last (a + 1) n j (omega (arith, e)))

-- the uniforms of one more QPU stand behind those of the earlier ones
pub uniforms_more : (launch : LaunchOf) (places : PlacesOf) (n : ℕ) → flat_map (uniforms_of launch places) (range_with_len 0 (n + 1)) ≡ flat_map (uniforms_of launch places) (range_with_len 0 n) ++ uniforms_of launch places n
uniforms_more launch places n =
    let f : ℕ → List ℕ = uniforms_of launch places in
    let on : n + 1 ≡ suc n = omega arith in
    ap (λ k. flat_map f (range_with_len 0 k)) on ∙ ap (flat_map f) (range_last 0 n n (omega arith)) ∙ sym (flat_map_more f [] (range_with_len 0 n) n)
