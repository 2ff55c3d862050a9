use Rattle.std.proofs.Common.{◌≡◌, ◌+◌, ◌-◌}
use Rattle.vpm_words.specs.Moves.{bytes_of, put_bytes}
use Rattle.vpm_words.proofs.moves.write_number.Given as goal

-- what is left to write gives the whole
abbrev pub invariant-loop-j : goal.invariant-loop-j
invariant-loop-j l = put_bytes l.memory (l.at + l.j) (bytes_of (l.size - l.j) l.rest) ≡ put_bytes l.fn.memory l.at (bytes_of l.size l.value)
