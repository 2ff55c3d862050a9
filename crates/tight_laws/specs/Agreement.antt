-- The tests of tight code and the machine's restrictions say the same of a word. They are defined apart, since tight code is a matter of the words alone
-- and a restriction one of the words that were done.
use Rattle.std.specs.Prelude.{◌≡◌, ◌||◌, not, true, false, Some}
use Rattle.qpu_encode.specs.declared.form.Form.{Form}
use Rattle.qpu_encode.specs.WordFields.{is_in_profile}
use Rattle.qpu_rules.specs.declared.recent.Recent.{Recent}
use Rattle.qpu_rules.specs.Uses as uses
use Rattle.qpu_rules.specs.Uses.{file_written, accs_written, five_written, accesses, count_of}
use Rattle.qpu_rules.specs.Restrictions.{breaks_h1, breaks_h2, breaks_h3, is_nothing}
use Rattle.tight_words.specs.Registers.{clash, has_access, is_branch, is_end}

-- what is remembered right after a word
pub record IsAfter (before : Form) (r : Recent) : Type 0 where
  pub file_a : r.file_a ≡ file_written false before
  pub file_b : r.file_b ≡ file_written true before
  pub accs : r.accs ≡ accs_written before
  pub five : r.five ≡ five_written before

abbrev pub ClashesBreak : Type 0
ClashesBreak =
    (before f : Form) (r : Recent) → IsAfter before r → is_in_profile f ≡ true
    → clash (Some before) (Some f) ≡ (breaks_h1 f r || (breaks_h2 f r || breaks_h3 f r))

abbrev pub AccessesAgree : Type 0
AccessesAgree = (f : Form) → has_access f ≡ not (is_nothing (count_of (accesses f)))

abbrev pub KindsAgree : Type 0
KindsAgree = (f : Form) → (is_branch f ≡ uses.is_branch f) × (is_end f ≡ uses.is_end f)
