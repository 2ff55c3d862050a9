-- What the tests of the profile say, one by one.
use Rattle.std.specs.Prelude.{◌≡◌, ℕ, Bool, true, false, not, ◌&&◌, ◌==◌, nat_le, refl}
use Rattle.std.proofs.Common.{arith}
use Rattle.std.proofs.lemmas.Bool.Decides.{nat_tests}
use Rattle.qpu_encode.specs.declared.form.AddPart.{AddPart}
use Rattle.qpu_encode.specs.declared.form.MulPart.{MulPart}
use Rattle.qpu_encode.specs.declared.form.Head.{Head}
use Rattle.qpu_encode.specs.declared.form.Head.TheVariants.{Plain, End, Small}
use Rattle.qpu_encode.specs.declared.form.Form.TheVariants.{Alu}
use Rattle.qpu_encode.specs.Codes.{add_code, mul_code, cond_code, head_code}
use Rattle.qpu_encode.specs.WordFields.{is_in_profile, is_part, is_small as is_small_ok, is_unpack, is_source, is_target, is_flagged}
use Rattle.tight_words.specs.Meaning.{is_small}

pub parts : (a b : Bool) → (a && b) ≡ true → (a ≡ true) × (b ≡ true)
parts true b h = (refl, h)
parts false b h = absurd (cc)

pub eq_is : (m n : ℕ) → (m == n) ≡ true → m ≡ n
eq_is m n h = grind (arith, nat_tests)

both_true : (a b : Bool) → a ≡ true → b ≡ true → (a && b) ≡ true
both_true a b h i = rw (h, i) refl

abbrev Fine : Head → ℕ → AddPart → MulPart → Bool → Bool → ℕ → ℕ → Type 0
Fine head unpack add mul flags swap ra rb =
    (((is_part (add_code add.op) (cond_code add.cond) add.dst add.a add.b && is_part (mul_code mul.op) (cond_code mul.cond) mul.dst mul.a mul.b)
    && (is_target swap add.dst (cond_code add.cond) && is_target (not swap) mul.dst (cond_code mul.cond)))
    && ((not ((add.dst == mul.dst) && (nat_le 32 add.dst && nat_le add.dst 35)) && is_source ra)
    && (is_small_ok (head_code head == 13) rb (mul_code mul.op) flags add.a add.b mul.a mul.b
    && (is_unpack unpack (add_code add.op) add.a add.b ra mul.a mul.b
    && is_flagged flags (add_code add.op) (cond_code add.cond) (mul_code mul.op) (cond_code mul.cond))))) ≡ true

fine_is : (head : Head) (unpack : ℕ) (add : AddPart) (mul : MulPart) (flags swap : Bool) (ra rb : ℕ)
    → is_in_profile (Alu head unpack add mul flags swap ra rb) ≡ true → Fine head unpack add mul flags swap ra rb
unfolding is_in_profile
fine_is head unpack add mul flags swap ra rb h = h

in_profile_of : (head : Head) (unpack : ℕ) (add : AddPart) (mul : MulPart) (flags swap : Bool) (ra rb : ℕ)
    → Fine head unpack add mul flags swap ra rb → is_in_profile (Alu head unpack add mul flags swap ra rb) ≡ true
unfolding is_in_profile
in_profile_of head unpack add mul flags swap ra rb h = h

-- the parts of being in the profile
pub record Profile (head : Head) (unpack : ℕ) (add : AddPart) (mul : MulPart) (flags swap : Bool) (ra rb : ℕ) : Type 0 where
  pub add_part : is_part (add_code add.op) (cond_code add.cond) add.dst add.a add.b ≡ true
  pub mul_part : is_part (mul_code mul.op) (cond_code mul.cond) mul.dst mul.a mul.b ≡ true
  pub targets : (is_target swap add.dst (cond_code add.cond) && is_target (not swap) mul.dst (cond_code mul.cond)) ≡ true
  pub accs : not ((add.dst == mul.dst) && (nat_le 32 add.dst && nat_le add.dst 35)) ≡ true
  pub source : is_source ra ≡ true
  pub small : is_small_ok (head_code head == 13) rb (mul_code mul.op) flags add.a add.b mul.a mul.b ≡ true
  pub unpacks : is_unpack unpack (add_code add.op) add.a add.b ra mul.a mul.b ≡ true
  pub flagged : is_flagged flags (add_code add.op) (cond_code add.cond) (mul_code mul.op) (cond_code mul.cond) ≡ true

profile_of : (head : Head) (unpack : ℕ) (add : AddPart) (mul : MulPart) (flags swap : Bool) (ra rb : ℕ)
    → Fine head unpack add mul flags swap ra rb → Profile head unpack add mul flags swap ra rb
profile_of head unpack add mul flags swap ra rb h =
    let p = parts _ _ h in
    let q = parts _ _ p.0 in
    let r = parts _ _ q.0 in
    let s = parts _ _ p.1 in
    let t = parts _ _ s.0 in
    let u = parts _ _ s.1 in
    let v = parts _ _ u.1 in
    record { add_part = r.0; mul_part = r.1; targets = q.1; accs = t.0; source = t.1; small = u.0; unpacks = v.0; flagged = v.1 }

pub of_profile : (head : Head) (unpack : ℕ) (add : AddPart) (mul : MulPart) (flags swap : Bool) (ra rb : ℕ)
    → Profile head unpack add mul flags swap ra rb → is_in_profile (Alu head unpack add mul flags swap ra rb) ≡ true
of_profile head unpack add mul flags swap ra rb p =
    in_profile_of head unpack add mul flags swap ra rb
    (both_true _ _ (both_true _ _ (both_true _ _ p.add_part p.mul_part) p.targets)
    (both_true _ _ (both_true _ _ p.accs p.source) (both_true _ _ p.small (both_true _ _ p.unpacks p.flagged))))

pub profile : (head : Head) (unpack : ℕ) (add : AddPart) (mul : MulPart) (flags swap : Bool) (ra rb : ℕ)
    → is_in_profile (Alu head unpack add mul flags swap ra rb) ≡ true → Profile head unpack add mul flags swap ra rb
profile head unpack add mul flags swap ra rb h = profile_of head unpack add mul flags swap ra rb (fine_is head unpack add mul flags swap ra rb h)

pub head_small : (head : Head) → (head_code head == 13) ≡ is_small head
head_small Plain = refl
head_small End = refl
head_small Small = refl
