-- The restrictions on a word, each as a test of its own, and the least one that is broken. Their wording and numbers are this project's own;
-- what they guard against is said by Broadcom's VideoCore IV 3D Architecture Reference Guide, QPU chapter.
use Rattle.std.specs.Prelude.{◌≡◌, ℕ, ◌/◌, ◌%◌, ◌^◌, ◌<◌, Bool, true, false, not, nat_le, nat_lt, ◌==◌, ◌||◌, ◌&&◌, Option, Some, None, List, [], ◌∷◌}
use Rattle.std.specs.List.{list_any}
use Rattle.qpu_encode.specs.declared.form.Form.{Form}
use Rattle.qpu_rules.specs.declared.access.Accesses.{Accesses}
use Rattle.qpu_rules.specs.declared.access.Accesses.TheVariants.{Nothing, One, Several}
use Rattle.qpu_rules.specs.declared.recent.Recent.{Recent}
use Rattle.qpu_rules.specs.Uses.{is_end, is_branch, file_read, writes_file, rotates, rotates_by_five, mul_selectors, accesses, count_of, reads_uniform, writes_acc, accs_written}
use Rattle.vpm_words.specs.Rules as access
use Rattle.vpm_words.specs.Rules.{number, first_of, least, least_broken}
use Rattle.vpm_words.specs.declared.state.Access.{Access}
use Rattle.vpm_words.specs.declared.state.Access.TheVariants.{Uniform}
use Rattle.vpm_words.specs.declared.state.Rule.{Rule}
use Rattle.vpm_words.specs.declared.state.Rule.TheVariants.{H0, H1, H2, H3, H4, H5, H6, H7, H8, H9, H10, H11, H12, H13, H14, H15, H16}
use Rattle.vpm_words.specs.declared.state.Seen.{Seen}

-- both are the same register
abbrev pub is_same : Option ℕ → Option ℕ → Bool
is_same None y = false
is_same (Some x) None = false
is_same (Some x) (Some y) = x == y

-- bit i of the accumulators is set
abbrev pub has_acc : ℕ → ℕ → Bool
has_acc accs i = (accs / 2 ^ i) % 2 == 1

-- a selector of an accumulator that the word before didn't write
abbrev pub is_settled : ℕ → ℕ → Bool
is_settled accs selector = nat_le selector 3 && not (has_acc accs selector)

abbrev pub are_settled : ℕ → List ℕ → Bool
are_settled accs [] = true
are_settled accs (x ∷ xs) = is_settled accs x && are_settled accs xs

-- the word reads a register of file A or B that the word before it wrote
unfoldable pub breaks_h1 : Form → Recent → Bool
breaks_h1 f r = is_same r.file_a (file_read false f) || is_same r.file_b (file_read true f)

-- the word rotates, and a mul selector isn't 0 to 3 or names an accumulator that the word before it wrote
unfoldable pub breaks_h2 : Form → Recent → Bool
breaks_h2 f r = rotates f && not (are_settled r.accs (mul_selectors f))

-- the word rotates by r5, which the word before it wrote
unfoldable pub breaks_h3 : Form → Recent → Bool
breaks_h3 f r = rotates_by_five f && r.five

-- a uniform is read and none is left
unfoldable pub breaks_h4 : Form → Seen → Bool
breaks_h4 f s = reads_uniform f && access.breaks_h4 Uniform s

abbrev pub is_several : Accesses → Bool
is_several Nothing = false
is_several (One a) = false
is_several Several = true

abbrev pub is_nothing : Accesses → Bool
is_nothing Nothing = true
is_nothing (One a) = false
is_nothing Several = false

-- the word has two or more peripheral accesses
unfoldable pub breaks_h5 : Form → Bool
breaks_h5 f = is_several (count_of (accesses f))

-- a branch or program end stands in a delay slot, or in the two words after a program end
unfoldable pub breaks_h6 : Form → Recent → Bool
breaks_h6 f r = (is_branch f || is_end f) && (nat_lt 0 r.slots || nat_lt 0 r.ending)

-- a program end writes a register of a file, or it or one of the two words after it has a peripheral access
unfoldable pub breaks_h7 : Form → Recent → Bool
breaks_h7 f r = (is_end f && writes_file f) || ((is_end f || nat_lt 0 r.ending) && not (is_nothing (count_of (accesses f))))

-- whether a word breaks a rule: H0 isn't a matter of words of the profile
abbrev pub breaks : Form → Recent → Seen → Rule → Bool
breaks f r s H0 = false
breaks f r s H1 = breaks_h1 f r
breaks f r s H2 = breaks_h2 f r
breaks f r s H3 = breaks_h3 f r
breaks f r s H4 = breaks_h4 f s
breaks f r s H5 = breaks_h5 f
breaks f r s H6 = breaks_h6 f r
breaks f r s H7 = breaks_h7 f r
breaks f r s H8 = list_any (λ a. access.breaks_h8 a s) (accesses f)
breaks f r s H9 = list_any (λ a. access.breaks_h9 a s) (accesses f)
breaks f r s H10 = list_any (λ a. access.breaks_h10 a s) (accesses f)
breaks f r s H11 = list_any (λ a. access.breaks_h11 a s) (accesses f)
breaks f r s H12 = list_any (λ a. access.breaks_h12 a s) (accesses f)
breaks f r s H13 = list_any (λ a. access.breaks_h13 a r.age s) (accesses f)
breaks f r s H14 = list_any (λ a. access.breaks_h14 a s) (accesses f)
breaks f r s H15 = list_any (λ a. access.breaks_h15 a s) (accesses f)
breaks f r s H16 = list_any (λ a. access.breaks_h16 a s) (accesses f)

-- the first rule that is broken, in order of number
unfoldable pub least_rule : Form → Recent → Seen → Option Rule
least_rule f r s = least (breaks f r s)

-- ---- the same in two parts: what the QPU's own words and uniforms decide, and then what its access looks at

-- the least of H1 to H7, where this many uniforms are left
unfoldable pub least_early : Form → Recent → ℕ → Option Rule
least_early f r left =
    first_of (breaks_h1 f r) H1 (first_of (breaks_h2 f r) H2 (first_of (breaks_h3 f r) H3
    (first_of (reads_uniform f && (left == 0)) H4 (first_of (breaks_h5 f) H5 (first_of (breaks_h6 f r) H6
    (first_of (breaks_h7 f r) H7 None))))))

-- the least rule that the one access of a word breaks, None where it has none or several
abbrev pub least_late : Option Access → ℕ → Seen → Option Rule
least_late None age s = None
least_late (Some a) age s = least_broken a age s

-- the first where there is one, else the second
abbrev pub or_rule : Option Rule → Option Rule → Option Rule
or_rule None other = other
or_rule (Some rule) other = Some rule

-- ---- by the count of a word's accesses

-- the least rule of an access, from H8 on
unfoldable pub least_of_access : Access → ℕ → Seen → Option Rule
least_of_access a age s =
    first_of (access.breaks_h8 a s) H8 (first_of (access.breaks_h9 a s) H9 (first_of (access.breaks_h10 a s) H10
    (first_of (access.breaks_h11 a s) H11 (first_of (access.breaks_h12 a s) H12 (first_of (access.breaks_h13 a age s) H13
    (first_of (access.breaks_h14 a s) H14 (first_of (access.breaks_h15 a s) H15 (first_of (access.breaks_h16 a s) H16 None))))))))

-- the same where a word has several, which breaks a lower rule, or none
unfoldable pub least_of_accesses : Accesses → ℕ → Seen → Option Rule
least_of_accesses Nothing age s = None
least_of_accesses (One a) age s = least_of_access a age s
least_of_accesses Several age s = None

-- the rule is broken, and none of a lower number is
pub record IsLeastBroken (f : Form) (r : Recent) (s : Seen) (rule : Rule) : Type 0 where
  pub broken : breaks f r s rule ≡ true
  pub lower : (q : Rule) → number q < number rule → breaks f r s q ≡ false

-- no rule of H1 to H16 is broken
abbrev pub IsLawful : Form → Recent → Seen → Type 0
IsLawful f r s = (q : Rule) → breaks f r s q ≡ false

-- bit i of the accumulators that a word writes is set exactly where it writes accumulator i
abbrev pub AccsAreBits : Type 0
AccsAreBits =
    (f : Form)
    → (has_acc (accs_written f) 0 ≡ writes_acc 0 f) × (has_acc (accs_written f) 1 ≡ writes_acc 1 f)
    × (has_acc (accs_written f) 2 ≡ writes_acc 2 f) × (has_acc (accs_written f) 3 ≡ writes_acc 3 f)
