-- A word that breaks no rule leaves its QPU in range.
use Rattle.std.proofs.Common.{arith, ◌≡◌, ℕ, ◌+◌, ◌-◌, ◌*◌, ◌/◌, ◌%◌, ◌^◌, ◌<◌, ◌≤◌, Bool, true, false, ◌==◌, ◌&&◌, List, refl, sym, ◌∙◌}
use Rattle.std.proofs.Math.Nat.{mod-lt}
use Rattle.std.proofs.lemmas.Bool.Decides.{nat_tests}
use Rattle.std.proofs.lemmas.Nat.{pow_pos}
use Rattle.std.proofs.lemmas.Option.{IfSome_then}
use Rattle.std.specs.Prelude.{Option, Some, None, IfSome, nat_lt, slice_get}
use Rattle.std.specs.Int.{cast_unsigned, w32}
use Rattle.q_lane.specs.Vectors.{lanes, lane}
use Rattle.qpu_encode.specs.declared.form.Form.{Form}
use Rattle.qpu_encode.specs.declared.form.Form.TheVariants.{Alu, Ldi, Bra}
use Rattle.qpu_encode.specs.WordFields.{form_of, is_in_profile, field}
use Rattle.qpu_encode.proofs.RoundTrip.{by_signal-is, alu_sound, ldi_sound, bra_sound}
use Rattle.qpu_rules.specs.declared.recent.Recent.{Recent}
use Rattle.qpu_rules.specs.declared.registers.Target.{Target}
use Rattle.qpu_rules.specs.Restrictions.{least_rule, least_early, least_late, or_rule, breaks_h1, breaks_h2, breaks_h3}
use Rattle.qpu_rules.specs.Uses.{is_end, is_branch, is_written, goes_through, register, written_in, or_else, file_written, writes_acc, bit, accs_written, written_by, access_of, reads_uniform, add_target, mul_target}
use Rattle.qpu_rules.proofs.Early.{uniform_is_read, early_first}
use Rattle.vpm_words.specs.Access.{Site, incoming, older, set_read, set_write, next_row, accessed, ports_after}
use Rattle.vpm_words.specs.Rules.{first_of}
use Rattle.vpm_words.specs.Words.{is_rows, is_read_setup, is_write_setup, read_setup_of, write_setup_of}
use Rattle.vpm_words.specs.declared.setup.ReadSetup.{ReadSetup}
use Rattle.vpm_words.specs.declared.setup.ReadSetup.TheVariants.{Rows, Load}
use Rattle.vpm_words.specs.declared.setup.WriteSetup.{WriteSetup}
use Rattle.vpm_words.specs.declared.setup.WriteSetup.TheVariants.{Row, Store}
use Rattle.vpm_words.specs.declared.state.Access.{Access}
use Rattle.vpm_words.specs.declared.state.Access.TheVariants.{Uniform, ReadVpm, WriteVpm, ReadSet, WriteSet, LoadAddr, StoreAddr, WaitLoad, WaitStore, Lock, Unlock}
use Rattle.vpm_words.specs.declared.state.Ports.{Ports}
use Rattle.vpm_words.specs.declared.state.Rule.{Rule}
use Rattle.vpm_words.specs.declared.state.Rule.TheVariants.{H1, H2, H3, H4}
use Rattle.vpm_words.specs.declared.state.Seen.{Seen}
use Rattle.vpm_words.proofs.WordLaws.{read_is, write_is}
use Rattle.qpu_machine.specs.declared.registers.Results.{Results}
use Rattle.qpu_machine.specs.declared.state.Flow.{Flow}
use Rattle.qpu_machine.specs.declared.state.Qpu.{Qpu}
use Rattle.qpu_machine.specs.Operations.{outgoing}
use Rattle.qpu_machine.specs.IssueStep.{one_more, form_at, fetched, is_taken, target_after, flow_after, given, qpu_after}
use Rattle.qpu_machine.specs.Reachable.{AreWords, IsFlow, IsWritten, ArePorts, IsQpu}
use Rattle.qpu_machine.proofs.RangeRegs.{chosen, vector-of, AreResults, results-are, regs_after-keeps}

-- ---- the form of a word is in the profile

form_profile : (word : ℕ) (f : Form) → form_of word ≡ Some f → is_in_profile f ≡ true
unfolding form_of
form_profile word f e =
    let b44 : field 44 1 word < 2 = mod-lt (word / 2 ^ 44) (pow_pos 1) in
    let b45 : field 45 1 word < 2 = mod-lt (word / 2 ^ 45) (pow_pos 1) in
    let b3 : field 3 29 word < 2 ^ 29 = mod-lt (word / 2 ^ 3) (pow_pos 29) in
    by_signal-is (field 60 4 word) _ _ _ f (is_in_profile f ≡ true) e
    (λ t. (ldi_sound _ _ _ _ _ _ _ _ _ f b44 t).1)
    (λ t. (bra_sound _ _ _ _ _ _ _ _ _ _ _ f b3 t).1)
    (λ t. (alu_sound _ _ _ _ _ _ _ _ _ _ _ _ _ _ _ _ _ _ f b44 b45 t).1)

at_profile : (o : Option ℕ) (f : Form) → form_at o ≡ Some f → is_in_profile f ≡ true
at_profile None f e = absurd cc
at_profile (Some word) f e = form_profile word f e

pub fetched-profile : (code : List ℕ) (place : ℕ) (f : Form) → fetched code place ≡ Some f → is_in_profile f ≡ true
unfolding fetched
fetched-profile code place f e = at_profile (slice_get code place) f e

-- ---- where a QPU is

pub one_more-below : (count : ℕ) → one_more count < 2 ^ 64
one_more-below count = omega arith

wrapped-below : (x : ℕ) → x % 2 ^ 32 < 2 ^ 32
wrapped-below x = mod-lt x (pow_pos 32)

target-below : (f : Form) (taken : Bool) (place old : ℕ) → old < 2 ^ 32 → target_after f taken place old < 2 ^ 32
target-below (Alu head unpack add mul flags swap ra rb) taken place old h = h
target-below (Ldi add_cond mul_cond swap add_dst mul_dst value) taken place old h = h
target-below (Bra c words) true place old h = wrapped-below ((place + 4) % 2 ^ 32 + cast_unsigned w32 words)
target-below (Bra c words) false place old h = wrapped-below (place + 4)

flow-keeps : (f : Form) (taken : Bool) (flow : Flow) → IsFlow flow → IsFlow (flow_after f taken flow)
unfolding flow_after
flow-keeps f taken flow h =
    let slots = h.slots in
    let ending = h.ending in
    record {
      place = chosen (λ n. n < 2 ^ 32) (flow.slots == 1) flow.target ((flow.place + 1) % 2 ^ 32) (λ _. h.target) (λ _. wrapped-below (flow.place + 1));
      slots = chosen (λ n. n ≤ 3) (is_branch f) 3 (flow.slots - 1) (λ _. omega arith) (λ _. omega (arith, slots));
      target = target-below f taken flow.place flow.target h.target;
      ending = chosen (λ n. n ≤ 2) (is_end f) 2 (flow.ending - 1) (λ _. omega arith) (λ _. omega (arith, ending));
      issued = one_more-below flow.issued;
    }

-- ---- what a word writes

abbrev IsLow : Option ℕ → Type 0
IsLow o = IfSome o (λ x. x < 32)

register-low : (x : ℕ) → IsLow (register x)
register-low x = chosen IsLow (nat_lt x 32) (Some x) None (λ e. grind (arith, nat_tests)) (λ _. tt)

written_in-low : (through_b : Bool) (t : Target) → IsLow (written_in through_b t)
written_in-low through_b t = chosen IsLow (goes_through through_b t && is_written t) (register t.dst) None (λ _. register-low t.dst) (λ _. tt)

or_else-low : (o other : Option ℕ) → IsLow o → IsLow other → IsLow (or_else o other)
or_else-low None other h k = k
or_else-low (Some x) other h k = h

file_written-low : (through_b : Bool) (f : Form) → IsLow (file_written through_b f)
unfolding file_written
file_written-low through_b f =
    or_else-low (written_in through_b (add_target f)) (written_in through_b (mul_target f)) (written_in-low through_b (add_target f)) (written_in-low through_b (mul_target f))

bit-low : (b : Bool) → bit b ≤ 1
bit-low true = omega arith
bit-low false = omega arith

four-bits : (a b c d : ℕ) → a ≤ 1 → b ≤ 1 → c ≤ 1 → d ≤ 1 → a + 2 * b + 4 * c + 8 * d < 16
four-bits a b c d h k l m = omega arith

accs-below : (f : Form) → accs_written f < 16
unfolding accs_written
accs-below f =
    four-bits (bit (writes_acc 0 f)) (bit (writes_acc 1 f)) (bit (writes_acc 2 f)) (bit (writes_acc 3 f)) (bit-low (writes_acc 0 f)) (bit-low (writes_acc 1 f)) (bit-low (writes_acc 2 f)) (bit-low (writes_acc 3 f))

written-is : (f : Form) → IsWritten (written_by f)
unfolding written_by
written-is f = record { file_a = file_written-low false f; file_b = file_written-low true f; accs = accs-below f }

-- ---- the setups

older-keeps : (uniforms : ℕ) (p : Ports) → ArePorts uniforms p → ArePorts uniforms (older p)
older-keeps uniforms p h =
    record { taken = h.taken; read_row = h.read_row; rows_left = h.rows_left; age = omega arith; write_row = h.write_row; load = h.load; store = h.store }

rows_row : (row rows : ℕ) → is_rows row rows ≡ true → row < 64
rows_row row rows h = grind (arith, nat_tests)

rows_most : (row rows : ℕ) → is_rows row rows ≡ true → rows ≤ 16
rows_most row rows h = grind (arith, nat_tests)

row_low : (row : ℕ) → nat_lt row 64 ≡ true → row < 64
row_low row h = grind (arith, nat_tests)

set_read-keeps : (uniforms : ℕ) (p : Ports) (o : Option ReadSetup) → ArePorts uniforms p → IfSome o (λ s. is_read_setup s ≡ true) → ArePorts uniforms (set_read p o)
set_read-keeps uniforms p None h k = h
set_read-keeps uniforms p (Some (Rows row rows)) h k =
    record { taken = h.taken; read_row = rows_row row rows k; rows_left = rows_most row rows k; age = omega arith; write_row = h.write_row; load = h.load; store = h.store }
set_read-keeps uniforms p (Some (Load t)) h k =
    record { taken = h.taken; read_row = h.read_row; rows_left = h.rows_left; age = h.age; write_row = h.write_row; load = k; store = h.store }

set_write-keeps : (uniforms : ℕ) (p : Ports) (o : Option WriteSetup) → ArePorts uniforms p → IfSome o (λ s. is_write_setup s ≡ true) → ArePorts uniforms (set_write p o)
set_write-keeps uniforms p None h k = h
set_write-keeps uniforms p (Some (Row row)) h k =
    record { taken = h.taken; read_row = h.read_row; rows_left = h.rows_left; age = h.age; write_row = row_low row k; load = h.load; store = h.store }
set_write-keeps uniforms p (Some (Store t)) h k =
    record { taken = h.taken; read_row = h.read_row; rows_left = h.rows_left; age = h.age; write_row = h.write_row; load = h.load; store = k }

-- what is found of a word is in range
found_read : (w : ℕ) → IfSome (read_setup_of w) (λ s. is_read_setup s ≡ true)
found_read w = IfSome_then (read_setup_of w) (read_is w) (λ s h. h.0)

found_write : (w : ℕ) → IfSome (write_setup_of w) (λ s. is_write_setup s ≡ true)
found_write w = IfSome_then (write_setup_of w) (write_is w) (λ s h. h.0)

next-low : (o : Option ℕ) → IfSome (next_row o) (λ row. row < 64)
next-low None = tt
next-low (Some row) = mod-lt (row + 1) (pow_pos 6)

accessed-keeps : (uniforms : ℕ) (a : Option Access) (p : Ports) (value : ℕ) → ArePorts uniforms p → (a ≡ Some Uniform → p.taken < uniforms) → ArePorts uniforms (accessed a p value)
accessed-keeps uniforms None p value h l = h
accessed-keeps uniforms (Some Uniform) p value h l =
    let left : p.taken < uniforms = l refl in
    record { taken = omega (arith, left); read_row = h.read_row; rows_left = h.rows_left; age = h.age; write_row = h.write_row; load = h.load; store = h.store }
accessed-keeps uniforms (Some ReadVpm) p value h l =
    let rows = h.rows_left in
    record { taken = h.taken; read_row = mod-lt (p.read_row + 1) (pow_pos 6); rows_left = omega (arith, rows); age = h.age; write_row = h.write_row; load = h.load; store = h.store }
accessed-keeps uniforms (Some WriteVpm) p value h l =
    record { taken = h.taken; read_row = h.read_row; rows_left = h.rows_left; age = h.age; write_row = next-low p.write_row; load = h.load; store = h.store }
accessed-keeps uniforms (Some ReadSet) p value h l = set_read-keeps uniforms p (read_setup_of value) h (found_read value)
accessed-keeps uniforms (Some WriteSet) p value h l = set_write-keeps uniforms p (write_setup_of value) h (found_write value)
accessed-keeps uniforms (Some LoadAddr) p value h l = h
accessed-keeps uniforms (Some StoreAddr) p value h l = h
accessed-keeps uniforms (Some WaitLoad) p value h l = h
accessed-keeps uniforms (Some WaitStore) p value h l = h
accessed-keeps uniforms (Some Lock) p value h l = h
accessed-keeps uniforms (Some Unlock) p value h l = h

ports-keeps : (uniforms : ℕ) (a : Option Access) (p : Ports) (value : ℕ) → ArePorts uniforms p → (a ≡ Some Uniform → p.taken < uniforms) → ArePorts uniforms (ports_after a p value)
unfolding ports_after
ports-keeps uniforms a p value h l = accessed-keeps uniforms a (older p) value (older-keeps uniforms p h) l

-- ---- a uniform that is taken was left

past_first : (b : Bool) (rule : Rule) (o : Option Rule) → first_of b rule o ≡ None → (b ≡ false) × (o ≡ None)
past_first true rule o e = absurd cc
past_first false rule o e = (refl, e)

some_left : (b : Bool) (left : ℕ) → b ≡ true → (b && (left == 0)) ≡ false → 0 < left
some_left true left h e = grind (arith, nat_tests)
some_left false left h e = absurd cc

pub uniform-left : (f : Form) (r : Recent) (left : ℕ) → least_early f r left ≡ None → access_of f ≡ Some Uniform → 0 < left
unfolding least_early
uniform-left f r left e a =
    let first = past_first (breaks_h1 f r) H1 _ e in
    let second = past_first (breaks_h2 f r) H2 _ first.1 in
    let third = past_first (breaks_h3 f r) H3 _ second.1 in
    let fourth = past_first (reads_uniform f && (left == 0)) H4 _ third.1 in
    some_left (reads_uniform f) left (uniform_is_read f a) fourth.0

or_none : (x y : Option Rule) → or_rule x y ≡ None → x ≡ None
or_none None y e = refl
or_none (Some rule) y e = absurd cc

-- a word that breaks no rule breaks none by itself
pub none-early : (f : Form) (r : Recent) (s : Seen) → least_rule f r s ≡ None → least_early f r s.uniforms ≡ None
none-early f r s e = or_none (least_early f r s.uniforms) (least_late (access_of f) r.age s) (sym (early_first f r s) ∙ e)

pub taken-below : (taken uniforms : ℕ) → 0 < uniforms - taken → taken < uniforms
taken-below taken uniforms h = omega (arith, h)

-- ---- the QPU

incoming-words : (g : Site) (p : Ports) (row : List ℕ) (a : Option Access) → AreWords g.uniforms → AreWords row → (i : ℕ) → incoming g p row a i < 2 ^ 32
incoming-words g p row None u r i = omega arith
incoming-words g p row (Some Uniform) u r i = u p.taken
incoming-words g p row (Some ReadVpm) u r i = r i
incoming-words g p row (Some WriteVpm) u r i = omega arith
incoming-words g p row (Some ReadSet) u r i = omega arith
incoming-words g p row (Some WriteSet) u r i = omega arith
incoming-words g p row (Some LoadAddr) u r i = omega arith
incoming-words g p row (Some StoreAddr) u r i = omega arith
incoming-words g p row (Some WaitLoad) u r i = omega arith
incoming-words g p row (Some WaitStore) u r i = omega arith
incoming-words g p row (Some Lock) u r i = omega arith
incoming-words g p row (Some Unlock) u r i = omega arith

pub given-are : (uniforms : ℕ) (g : Site) (f : Form) (q : Qpu) (row : List ℕ) → is_in_profile f ≡ true → AreWords g.uniforms → g.number < 2 ^ 32 → IsQpu uniforms q → AreWords row
    → AreResults (given g f q row)
unfolding given
given-are uniforms g f q row p u n h r =
    results-are f q.regs g.number (lanes 16 (incoming g q.ports row (access_of f))) p h.regs n
    (vector-of (incoming g q.ports row (access_of f)) (λ i l. incoming-words g q.ports row (access_of f) u r i))

pub qpu-keeps : (uniforms : ℕ) (f : Form) (q : Qpu) (r : Results) → IsQpu uniforms q → AreResults r → (access_of f ≡ Some Uniform → q.ports.taken < uniforms) → IsQpu uniforms (qpu_after f q r)
unfolding qpu_after
qpu-keeps uniforms f q r h v l =
    record {
      regs = regs_after-keeps f r q.regs h.regs v;
      flow = flow-keeps f (is_taken f q.regs) q.flow h.flow;
      written = written-is f;
      ports = ports-keeps uniforms (access_of f) q.ports (lane (outgoing f r) 0) h.ports l;
    }
