-- Tight code.
use Rattle.std.specs.Prelude.{◌≡◌, ◌⊎◌, ℕ, ◌+◌, ◌<◌, List, Bool, true, false, not, ◌&&◌, ◌||◌}
use Rattle.std.specs.declared.option.Option.{Option}
use Rattle.std.specs.declared.option.Option.TheVariants.{Some, None}
use Rattle.qpu_encode.specs.declared.form.Form.{Form}
use Rattle.qpu_encode.specs.WordFields.{is_in_profile}
use Rattle.tight_words.specs.Meaning.{meaning, apart, both}
use Rattle.tight_words.specs.Registers.{is_idle, is_half, goes_on, writes_setup, clash, other, is_free}
use Rattle.tight_words.specs.Code.{form_at, back, has, is_slot, branches_to, IsBefore, setup_near, is_target, clash_of_jumps}
use Rattle.tight_words.specs.Joint.{fit_forms}

-- a word as it stands, or in its other form
abbrev pub IsForm : Form → Form → Type 0
IsForm u x = (x ≡ u) ⊎ (other u ≡ Some x)

-- j does what x and y do, in one word
pub record IsJoint (x y j : Form) : Type 0 where
  pub fine : is_in_profile j ≡ true
  pub plain : goes_on j ≡ true
  pub apart : apart (meaning x) (meaning y) ≡ true
  pub means : meaning j ≡ both (meaning x) (meaning y)

-- whatever word runs just before it, this one keeps H1 to H3
abbrev pub IsClear : List ℕ → ℕ → Option Form → Type 0
IsClear code i f = (p : ℕ) → IsBefore code i p → clash (form_at code p) f ≡ false

pub record IsJoinable (code : List ℕ) (i : ℕ) : Type 0 where
  pub u : Form
  pub v : Form
  pub first : form_at code i ≡ Some u
  pub second : form_at code (i + 1) ≡ Some v
  pub halves : (is_half u && is_half v) ≡ true
  pub no_slots : (is_slot code i || is_slot code (i + 1)) ≡ false
  pub no_target : (b : ℕ) → branches_to code b (i + 1) ≡ false
  pub no_setup : (setup_near code i || writes_setup u) ≡ false
  pub x : Form
  pub y : Form
  pub first_form : IsForm u x
  pub second_form : IsForm v y
  pub free : is_free x y ≡ true
  pub j : Form
  pub joint : IsJoint x y j
  pub clear : IsClear code i (Some j)
  pub next : clash (Some j) (form_at code (i + 2)) ≡ false

pub record IsRemovable (code : List ℕ) (i : ℕ) : Type 0 where
  pub idle : has is_idle (form_at code i) ≡ true
  pub no_slot : is_slot code i ≡ false
  pub no_setup : setup_near code i ≡ false
  pub clear : IsClear code i (form_at code (i + 1))

abbrev pub IsLoose : List ℕ → ℕ → Type 0
IsLoose code i = IsJoinable code i ⊎ IsRemovable code i

abbrev pub IsTight : List ℕ → Type 0
IsTight code = (i : ℕ) → ¬ (IsLoose code i)

-- ---- the same as tests, the dear ones last

-- both have at most one operation, stand in no slot and have no read setup near
abbrev pub are_halves : List ℕ → ℕ → Form → Form → Bool
are_halves code i u v = (is_half u && is_half v) && (not (is_slot code i || is_slot code (i + 1)) && not (setup_near code i || writes_setup u))

abbrev pub may_join : List ℕ → ℕ → Form → Form → Bool
may_join code i u v = are_halves code i u v && (fit_forms code i u v && not (is_target code (i + 1)))

abbrev pub joins : List ℕ → ℕ → Option Form → Option Form → Bool
joins code i (Some u) (Some v) = may_join code i u v
joins code i (Some u) None = false
joins code i None v = false

unfoldable pub is_joinable : List ℕ → ℕ → Bool
is_joinable code i = joins code i (form_at code i) (form_at code (i + 1))

unfoldable pub is_removable : List ℕ → ℕ → Bool
is_removable code i =
    (has is_idle (form_at code i) && (not (is_slot code i) && not (setup_near code i)))
    && (not (clash (back code i 1) (form_at code (i + 1))) && not (clash_of_jumps code i (form_at code (i + 1))))

abbrev pub is_loose : List ℕ → ℕ → Bool
is_loose code i = is_joinable code i || is_removable code i

-- the least of the places that are loose
pub record IsLeast (code : List ℕ) (i : ℕ) : Type 0 where
  pub loose : IsLoose code i
  pub least : (k : ℕ) → k < i → ¬ (IsLoose code k)
