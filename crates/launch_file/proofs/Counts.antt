-- How many regions a launch has.
use Rattle.std.proofs.Common.{◌≡◌, ℕ, ◌*◌, ◌<◌, List, [], ◌∷◌, length, sym, refl, ap, subst, ◌∙◌, suc, get_or, slice_get, IfSome, Option, Some}
use Rattle.std.proofs.lemmas.List.{length-map, length-replicate}
use Rattle.std.proofs.lemmas.Option.{slice_get-get_or}
use Rattle.launch_file.specs.declared.launch.Arg.{Arg}
use Rattle.launch_file.specs.Launches.{LaunchOf, IsArg}
use Rattle.launch_file.specs.Layout.{PlacesOf, next_start, regions, first_start, scratch_start, buffer_lens, scratch_lens, layout_of, ArePlaces}

pub length-regions : (start : ℕ) (lens : List ℕ) → length (regions start lens) ≡ length lens
unfolding regions
length-regions start [] = refl
length-regions start (len ∷ lens) = ap suc (length-regions (next_start start len) lens)

pub buffers-count : (launch : LaunchOf) (rows : ℕ) → length (layout_of launch rows).buffers ≡ length launch.buffers
unfolding layout_of
buffers-count launch rows = length-regions first_start (buffer_lens launch.buffers) ∙ length-map launch.buffers (λ buffer. buffer.size)

pub scratch-count : (launch : LaunchOf) (rows : ℕ) → length (layout_of launch rows).scratch ≡ launch.qpus
unfolding layout_of
scratch-count launch rows = length-regions (scratch_start launch) (scratch_lens launch.qpus rows) ∙ length-replicate launch.qpus (64 * rows)

pub places-buffers : (launch : LaunchOf) (places : PlacesOf) → ArePlaces launch places → length places.buffers ≡ length launch.buffers
places-buffers launch places are = ap (λ (p : PlacesOf). length p.buffers) are.2 ∙ buffers-count launch are.0

pub places-scratch : (launch : LaunchOf) (places : PlacesOf) → ArePlaces launch places → length places.scratch ≡ launch.qpus
places-scratch launch places are = ap (λ (p : PlacesOf). length p.scratch) are.2 ∙ scratch-count launch are.0

-- an argument of a launch is one for its buffers
pub arg-fine : (args : List Arg) (count n i : ℕ) (d : Arg) → ((i : ℕ) → IfSome (slice_get args i) (IsArg count)) → i < length args → n ≡ count → IsArg n (get_or args i d)
arg-fine args count n i d each h same =
    let found : slice_get args i ≡ Some (get_or args i d) = slice_get-get_or args i d h in
    let fine = subst (λ (o : Option Arg). IfSome o (IsArg count)) found (each i) in
    subst (λ (m : ℕ). IsArg m (get_or args i d)) (sym same) fine
