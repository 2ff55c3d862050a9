-- Places in the code: slots, branches to a place, and the words that may come before it.
use Rattle.std.specs.Prelude.{◌≡◌, ◌⊎◌, ℤ, pos, negsuc, ℕ, zero, suc, ◌+◌, ◌-◌, List, length, Bool, true, false, ◌&&◌, ◌||◌, ◌==◌, nat_le, if◌then◌else◌, slice_get}
use Rattle.std.specs.declared.option.Option.{Option}
use Rattle.std.specs.declared.option.Option.TheVariants.{Some, None}
use Rattle.qpu_encode.specs.declared.form.Form.{Form}
use Rattle.qpu_encode.specs.declared.form.Form.TheVariants.{Alu, Ldi, Bra}
use Rattle.qpu_encode.specs.WordFields.{form_of}
use Rattle.tight_words.specs.Registers.{is_branch, is_end, writes_setup, clash}

abbrev pub form_in : Option ℕ → Option Form
form_in None = None
form_in (Some word) = form_of word

-- the word at a place; None where none stands, or one outside the profile
unfoldable pub form_at : List ℕ → ℕ → Option Form
form_at code i = form_in (slice_get code i)

-- the word n places before
unfoldable pub back : List ℕ → ℕ → ℕ → Option Form
back code i n = if nat_le n i then form_at code (i - n) else None

abbrev pub has : (Form → Bool) → Option Form → Bool
has test None = false
has test (Some f) = test f

-- a delay slot: a branch has three of them, a program end two
unfoldable pub is_slot : List ℕ → ℕ → Bool
is_slot code i =
    ((has is_branch (back code i 1) || has is_branch (back code i 2)) || has is_branch (back code i 3))
    || (has is_end (back code i 1) || has is_end (back code i 2))

-- b + 4 + words is t
abbrev pub lands : ℤ → ℕ → ℕ → Bool
lands (pos n) b t = b + 4 + n == t
lands (negsuc n) b t = b + 4 == t + n + 1

abbrev pub leads : Option Form → ℕ → ℕ → Bool
leads (Some (Bra c words)) b t = lands words b t
leads (Some (Alu head unpack add mul flags swap ra rb)) b t = false
leads (Some (Ldi add_cond mul_cond swap add_dst mul_dst value)) b t = false
leads None b t = false

-- the word at b is a branch to t
unfoldable pub branches_to : List ℕ → ℕ → ℕ → Bool
branches_to code b t = leads (form_at code b) b t

-- the words after which word i may run: the one above it, and the last slot of a branch that leads to it
abbrev pub IsBefore : List ℕ → ℕ → ℕ → Type 0
IsBefore code i p = (p + 1 ≡ i) ⊎ ((b : ℕ) × (p ≡ b + 3) × (branches_to code b i ≡ true))

-- a test holds of some number below n
abbrev pub any_below : ℕ → (ℕ → Bool) → Bool
any_below zero test = false
any_below (suc n) test = any_below n test || test n

-- some branch leads to t
unfoldable pub is_target : List ℕ → ℕ → Bool
is_target code t = any_below (length code) (λ b. branches_to code b t)

-- a word breaks H1 to H3 after the third slot of some branch to i
unfoldable pub clash_of_jumps : List ℕ → ℕ → Option Form → Bool
clash_of_jumps code i f = any_below (length code) (λ b. branches_to code b i && clash (form_at code (b + 3)) f)

-- no read setup in the n words before i
unfoldable pub setup_near : List ℕ → ℕ → Bool
setup_near code i = (has writes_setup (back code i 1) || has writes_setup (back code i 2)) || has writes_setup (back code i 3)
