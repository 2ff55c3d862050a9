use Rattle.std.proofs.Common.{arith, ◌≡◌, ℕ, List, suc, ◌+◌, ◌-◌, ◌/◌, ◌%◌, ◌^◌, ◌∙◌, slice_set, refl}
use Rattle.vpm_words.specs.Moves.{bytes_of, put_bytes}
use Rattle.vpm_words.proofs.moves.write_number.Goals as goal

one_more : (m : List ℕ) (at b v n k : ℕ) → n ≡ suc k → b ≡ at + 1 → put_bytes (slice_set m at (v % 2 ^ 8)) b (bytes_of k (v / 2 ^ 8)) ≡ put_bytes m at (bytes_of n v)
one_more m at b v n k e h = rw (e, h) refl

pub loop-j-preserved : goal.loop-j-preserved
loop-j-preserved c =
    rw (c.put_byte.ensures, c.from.ensures) (
    one_more c.loop-j.memory (c.args.at + c.loop-j.j) (c.args.at + (c.loop-j.j + 1)) c.loop-j.rest (c.args.size - c.loop-j.j) (c.args.size - (c.loop-j.j + 1)) (omega arith) (omega arith)
    ∙ c.loop-j.invariant)
