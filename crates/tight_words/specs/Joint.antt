-- The search for a word that does two.
use Rattle.std.specs.Prelude.{ℕ, ◌+◌, List, Bool, true, false, not, ◌&&◌, ◌||◌, ◌==◌, nat_le, if◌then◌else◌}
use Rattle.std.specs.declared.option.Option.{Option}
use Rattle.std.specs.declared.option.Option.TheVariants.{Some, None}
use Rattle.qpu_encode.specs.declared.form.Head.TheVariants.{Plain, Small}
use Rattle.qpu_encode.specs.declared.form.Form.{Form}
use Rattle.qpu_encode.specs.declared.form.Form.TheVariants.{Alu}
use Rattle.qpu_encode.specs.WordFields.{is_in_profile}
use Rattle.tight_words.specs.declared.meaning.Source.{Source}
use Rattle.tight_words.specs.declared.meaning.Source.TheVariants.{Acc, Five}
use Rattle.tight_words.specs.declared.meaning.Reads.{Reads}
use Rattle.tight_words.specs.declared.meaning.Meaning.{Meaning}
use Rattle.tight_words.specs.Meaning.{same, read_a, read_b, meaning, same_meaning, apart, both}
use Rattle.tight_words.specs.Registers.{clash, other, is_free}
use Rattle.tight_words.specs.Code.{form_at, back, clash_of_jumps, any_below}

-- the selector of a source, where A gives it or else B
abbrev pub pick : ℕ → Source → ℕ
pick ra (Acc n) = n
pick ra Five = 5
pick ra s = if same (read_a ra) s then 6 else 7

-- the word with this meaning, by these addresses
unfoldable pub word_for : Meaning → Bool → ℕ → ℕ → Bool → Form
word_for m small ra rb swap =
    Alu (if small then Small else Plain) m.add.unpack
    (record { op = m.add.op; cond = m.add.cond; dst = m.add.dst; a = pick ra m.add.a; b = pick ra m.add.b })
    (record { op = m.mul.op; cond = m.mul.cond; dst = m.mul.dst; a = pick ra m.mul.a; b = pick ra m.mul.b })
    m.flags swap ra rb

-- a source is an operand
abbrev pub is_wanted : Meaning → Source → Bool
is_wanted m s = (same s m.add.a || same s m.add.b) || (same s m.mul.a || same s m.mul.b)

abbrev pub is_common : ℕ → Bool
is_common x = (((x == 39) || (x == 32)) || (x == 48)) || ((x == 50) || (x == 51))

-- the address of nothing, or of a peripheral that is read
abbrev pub is_read_a : Reads → ℕ → Bool
is_read_a r x =
    ((x == 39) || (((x == 32) && not (r.uniform == 0)) || ((x == 48) && not (r.row == 0))))
    || (((x == 50) && not (r.load_wait == 0)) || ((x == 51) && not (r.lock == 0)))

abbrev pub is_read_b : Reads → ℕ → Bool
is_read_b r x =
    ((x == 39) || (((x == 32) && not (r.uniform == 0)) || ((x == 48) && not (r.row == 0))))
    || (((x == 50) && not (r.store_wait == 0)) || ((x == 51) && not (r.lock == 0)))

-- addresses that are worth trying; under a small immediate, the code of the rotation
unfoldable pub is_useful_a : Meaning → ℕ → Bool
is_useful_a m ra = is_read_a m.reads ra || is_wanted m (read_a ra)

unfoldable pub is_useful_b : Meaning → Bool → ℕ → Bool
is_useful_b m small rb = (if small then nat_le 48 rb && (m.mul.turn == rb) else is_read_b m.reads rb) || is_wanted m (read_b small rb)

-- the word is in the profile, means m, and breaks none of H1 to H3 where it would stand, nor does the word after it
unfoldable pub stands : List ℕ → ℕ → Meaning → Form → Bool
stands code i m j =
    ((same_meaning (meaning j) m && is_in_profile j) && (not (clash (back code i 1) (Some j)) && not (clash (Some j) (form_at code (i + 2)))))
    && not (clash_of_jumps code i (Some j))

unfoldable pub fits : List ℕ → ℕ → Meaning → Bool → ℕ → ℕ → Bool
fits code i m small ra rb = stands code i m (word_for m small ra rb false) || stands code i m (word_for m small ra rb true)

unfoldable pub fits_b : List ℕ → ℕ → Meaning → ℕ → ℕ → Bool
fits_b code i m ra rb = (is_useful_b m false rb && fits code i m false ra rb) || (is_useful_b m true rb && fits code i m true ra rb)

unfoldable pub fits_some_b : List ℕ → ℕ → Meaning → ℕ → Bool
fits_some_b code i m ra = any_below 64 (λ rb. fits_b code i m ra rb)

unfoldable pub fits_some : List ℕ → ℕ → Meaning → Bool
fits_some code i m = any_below 64 (λ ra. is_useful_a m ra && fits_some_b code i m ra)

unfoldable pub fit_together : List ℕ → ℕ → Form → Form → Bool
fit_together code i x y = is_free x y && (apart (meaning x) (meaning y) && fits_some code i (both (meaning x) (meaning y)))

abbrev pub fit_other : List ℕ → ℕ → Form → Option Form → Bool
fit_other code i x None = false
fit_other code i x (Some y) = fit_together code i x y

-- in some form of the second, and in some of the first
unfoldable pub fit_second : List ℕ → ℕ → Form → Form → Bool
fit_second code i x v = fit_together code i x v || fit_other code i x (other v)

abbrev pub fit_first : List ℕ → ℕ → Option Form → Form → Bool
fit_first code i None v = false
fit_first code i (Some x) v = fit_second code i x v

unfoldable pub fit_forms : List ℕ → ℕ → Form → Form → Bool
fit_forms code i u v = fit_second code i u v || fit_first code i (other u) v
