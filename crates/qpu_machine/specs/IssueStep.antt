-- One issue: what the next word of one QPU does to that QPU, to what all QPUs share, and to the counts. It is one atomic step, and it never
-- touches the memory nor another QPU.
-- What branches, program ends and uniforms do is said by Broadcom's VideoCore IV 3D Architecture Reference Guide, in its chapter on the
-- QPU. The counts, and the stop at a broken restriction, are definitions of this project.
use Rattle.std.specs.Prelude.{ℕ, ◌+◌, ◌-◌, ◌%◌, ◌^◌, List, Bool, true, false, if◌then◌else◌, ◌==◌, min, slice_get}
use Rattle.std.specs.Int.{cast_unsigned, w32}
use Rattle.std.specs.declared.option.Option.{Option}
use Rattle.std.specs.declared.option.Option.TheVariants.{Some, None}
use Rattle.q_lane.specs.Vectors.{lanes, lane}
use Rattle.qpu_encode.specs.declared.form.Form.{Form}
use Rattle.qpu_encode.specs.declared.form.Form.TheVariants.{Alu, Ldi, Bra}
use Rattle.qpu_encode.specs.WordFields.{form_of}
use Rattle.qpu_encode.specs.Operations.{holds}
use Rattle.qpu_rules.specs.declared.recent.Recent.{Recent}
use Rattle.qpu_rules.specs.Uses.{is_end, is_branch, access_of, written_by}
use Rattle.qpu_rules.specs.Restrictions.{least_rule}
use Rattle.vpm_words.specs.Access.{Site, incoming, row_of, seen, demand, share, ports_after}
use Rattle.vpm_words.specs.Rules.{is_waiting}
use Rattle.vpm_words.specs.declared.state.Access.{Access}
use Rattle.vpm_words.specs.declared.state.Access.TheVariants.{LoadAddr, StoreAddr}
use Rattle.vpm_words.specs.declared.state.Rule.{Rule}
use Rattle.vpm_words.specs.declared.state.Rule.TheVariants.{H0}
use Rattle.vpm_words.specs.declared.state.Seen.{Seen}
use Rattle.vpm_words.specs.declared.state.Shared.{Shared}
use Rattle.qpu_machine.specs.declared.state.Effect.{Effect}
use Rattle.qpu_machine.specs.declared.state.Effect.TheVariants as effect
use Rattle.qpu_machine.specs.declared.state.Flow.{Flow}
use Rattle.qpu_machine.specs.declared.state.Qpu.{Qpu}
use Rattle.qpu_machine.specs.declared.state.Regs.{Regs}
use Rattle.qpu_machine.specs.declared.state.Counts.{Counts}
use Rattle.qpu_machine.specs.declared.registers.Results.{Results}
use Rattle.qpu_machine.specs.Operations.{results, outgoing, regs_after}

-- one more, but a count stays at its last value
abbrev pub one_more : ℕ → ℕ
one_more count = min (count + 1) (2 ^ 64 - 1)

-- the form of the word at a place: none where the place is outside the code, or the word outside the profile
abbrev pub form_at : Option ℕ → Option Form
form_at None = None
form_at (Some word) = form_of word

unfoldable pub fetched : List ℕ → ℕ → Option Form
fetched code place = form_at (slice_get code place)

-- ---- where a QPU is after a word

-- the word is a branch, and the flags meet its condition
unfoldable pub is_taken : Form → Regs → Bool
is_taken (Alu head unpack add mul flags swap ra rb) regs = false
is_taken (Ldi add_cond mul_cond swap add_dst mul_dst value) regs = false
is_taken (Bra c words) regs = holds c regs.zero regs.neg

-- where a branch goes after its three delay slots: as many words past the last of them as it says, or on. Places are word numbers modulo
-- 2 ^ 32, so that a place before the first word lies outside the code
abbrev pub target_after : Form → Bool → ℕ → ℕ → ℕ
target_after (Alu head unpack add mul flags swap ra rb) taken place old = old
target_after (Ldi add_cond mul_cond swap add_dst mul_dst value) taken place old = old
target_after (Bra c words) taken place old = if taken then ((place + 4) % 2 ^ 32 + cast_unsigned w32 words) % 2 ^ 32 else (place + 4) % 2 ^ 32

-- a branch opens three delay slots, taken or not; after the third the place is the target. After a program end two more words are done,
-- and then the QPU has ended
unfoldable pub flow_after : Form → Bool → Flow → Flow
flow_after f taken flow =
    record {
      place = if flow.slots == 1 then flow.target else (flow.place + 1) % 2 ^ 32;
      ended = flow.ending == 1;
      slots = if is_branch f then 3 else flow.slots - 1;
      target = target_after f taken flow.place flow.target;
      ending = if is_end f then 2 else flow.ending - 1;
      issued = one_more flow.issued;
    }

-- ---- one word

-- what the restrictions remember of the words before
unfoldable pub recent : Qpu → Recent
recent q =
    record {
      file_a = q.written.file_a;
      file_b = q.written.file_b;
      accs = q.written.accs;
      five = q.written.five;
      slots = q.flow.slots;
      ending = q.flow.ending;
      age = q.ports.age;
    }

-- what the two units give, where a read of the VPM finds this row
unfoldable pub given : Site → Form → Qpu → List ℕ → Results
given g f q row = results f q.regs g.number (lanes 16 (incoming g q.ports row (access_of f)))

-- what the restrictions and the stalls look at: of what is written to a setup or an address, element 0
unfoldable pub seen_by : Site → Form → Qpu → Shared → Results → Seen
seen_by g f q s r = seen g q.ports s (access_of f) (lane (outgoing f r) 0)

abbrev pub loads_after : Option Access → ℕ → ℕ
loads_after (Some LoadAddr) count = one_more count
loads_after _ count = count

abbrev pub stores_after : Option Access → ℕ → ℕ
stores_after (Some StoreAddr) count = one_more count
stores_after _ count = count

-- the counts after a word; a transfer counts when it is started
unfoldable pub counts_after : Option Access → Counts → Counts
counts_after access c =
    record c { issued = one_more c.issued; loads = loads_after access c.loads; stores = stores_after access c.stores }

-- the QPU after a word that is done
unfoldable pub qpu_after : Form → Qpu → Results → Qpu
qpu_after f q r =
    record {
      regs = regs_after f r q.regs;
      flow = flow_after f (is_taken f q.regs) q.flow;
      written = written_by f;
      ports = ports_after (access_of f) q.ports (lane (outgoing f r) 0);
    }

-- what is shared after it
unfoldable pub shared_after : Site → Form → Qpu → Shared → Results → Shared
shared_after g f q s r = share (demand g q.ports (access_of f) (lane (outgoing f r) 0) (outgoing f r)) g.number s

-- what an issue leaves of its QPU, of what is shared and of the counts, and what it did
pub record Local : Type 0 where
  pub qpu : Qpu
  pub shared : Shared
  pub counts : Counts
  pub effect : Effect

-- nothing is changed
abbrev pub idle : Qpu → Shared → Counts → Effect → Local
idle q s c what = record { qpu = q; shared = s; counts = c; effect = what }

-- the word is done
unfoldable pub done : Site → Form → Qpu → Shared → Counts → Results → Local
done g f q s c r =
    record { qpu = qpu_after f q r; shared = shared_after g f q s r; counts = counts_after (access_of f) c; effect = effect.Did }

-- the least broken restriction stops the run, and the place stays at the word; else the word may wait; else it is done
abbrev pub judged : Option Rule → Bool → ℕ → Qpu → Shared → Counts → Local → Local
judged (Some rule) waits k q s c after = idle q s c (effect.Broken rule k q.flow.place)
judged None true k q s c after = idle q s c effect.Stalled
judged None false k q s c after = after

-- the word of a form in the profile, with what its units give
unfoldable pub tried : Site → Form → Qpu → Shared → Counts → Results → Local
tried g f q s c r =
    judged (least_rule f (recent q) (seen_by g f q s r)) (is_waiting (access_of f) (seen_by g f q s r)) g.number q s c (done g f q s c r)

-- the word at the QPU's place; no word of the profile there breaks H0
unfoldable pub attempted : Site → Option Form → Qpu → Shared → Counts → Local
attempted g None q s c = idle q s c (effect.Broken H0 g.number q.flow.place)
attempted g (Some f) q s c = tried g f q s c (given g f q (row_of q.ports s.vpm))

-- an issue of one QPU: one that has ended does nothing
unfoldable pub local : List ℕ → Site → Qpu → Shared → Counts → Local
local code g q s c = if q.flow.ended then idle q s c effect.Nothing else attempted g (fetched code q.flow.place) q s c
