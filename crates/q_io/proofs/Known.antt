-- Known bytes of a writer, over one call after another.
use Rattle.std.proofs.Common.{ℕ, ◌+◌, List, ◌++◌, take, drop, ap, ◌∙◌, append_assoc}
use Rattle.std.specs.Prelude.{Option, Some, None}
use Rattle.std.specs.Io.KnownBytes.{Appends}
use Rattle.std.proofs.Math.Seq.{take-add}

pub appends_then : (a b c : Option (List ℕ)) (xs ys : List ℕ) → Appends a b xs → Appends b c ys → Appends a c (xs ++ ys)
appends_then None b c xs ys p q = tt
appends_then (Some a) None c xs ys p q = absurd p
appends_then (Some a) (Some b) None xs ys p q = absurd q
appends_then (Some a) (Some b) (Some c) xs ys p q = q ∙ ap (λ t. t ++ ys) p ∙ append_assoc a xs ys

pub appends_next : (a b c : Option (List ℕ)) (piece : List ℕ) (n m : ℕ) → Appends a b (take n piece) → Appends b c (take m (drop n piece)) → Appends a c (take (n + m) piece)
appends_next a b c piece n m p q = rw (take-add n m piece) (appends_then a b c (take n piece) (take m (drop n piece)) p q)
