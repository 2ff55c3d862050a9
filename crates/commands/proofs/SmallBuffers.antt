-- The buffers of a launch are small.
use Rattle.std.proofs.Common.{◌≡◌, ℕ, zero, suc, ◌^◌, ◌<◌, List, [], ◌∷◌, length, map, arith}
use Rattle.std.specs.Prelude.{slice_get, slice_index_or, IfSome}
use Rattle.launch_file.specs.declared.launch.BufferLine.{BufferLine}
use Rattle.launch_file.specs.Launches.{IsBuffer}
use Rattle.launch_file.specs.Layout.{buffer_lens}
use Rattle.launch_meaning.specs.Small.{AreSmall}

head_of : (x y : ℕ) (xs ys : List ℕ) → x ∷ xs ≡ y ∷ ys → x ≡ y
head_of x y xs ys e = cc

tail_of : (x y : ℕ) (xs ys : List ℕ) → x ∷ xs ≡ y ∷ ys → xs ≡ ys
tail_of x y xs ys e = cc

each_small : (lines : List BufferLine) (buffers : List (List ℕ)) → ((i : ℕ) → IfSome (slice_get lines i) IsBuffer) → map length buffers ≡ buffer_lens lines
    → (k : ℕ) → length (slice_index_or buffers k []) < 2 ^ 32
each_small lines [] good sizes k = omega arith
each_small [] (bytes ∷ buffers) good sizes k = absurd (cc)
each_small (line ∷ lines) (bytes ∷ buffers) good sizes zero =
    let same : length bytes ≡ line.size = head_of _ _ _ _ sizes in
    let small = (good 0).small in
    omega (arith, same, small)
each_small (line ∷ lines) (bytes ∷ buffers) good sizes (suc k) = each_small lines buffers (λ i. good (suc i)) (tail_of _ _ _ _ sizes) k

pub are_small : (lines : List BufferLine) (buffers : List (List ℕ)) → ((i : ℕ) → IfSome (slice_get lines i) IsBuffer) → map length buffers ≡ buffer_lens lines → AreSmall buffers
are_small lines buffers good sizes = record { each = each_small lines buffers good sizes }
