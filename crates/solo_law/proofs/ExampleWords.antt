-- What each word of the example wants of what is shared, and the QPU after it.
use Rattle.std.proofs.Common.{◌≡◌, ℕ, zero, suc, ◌+◌, ◌<◌, List, [], ◌∷◌, get_or, refl, arith}
use Rattle.std.specs.Prelude.{Bool, true, false, Option, Some, None}
use Rattle.q_lane.specs.Vectors.{lanes}
use Rattle.q_lane.specs.Numbers.{applied}
use Rattle.qpu_encode.specs.Codes.{add_op_at, mul_op_at, cond_at, head_at, bra_at}
use Rattle.qpu_encode.specs.Operations.{add_value, mul_value, passes, small_word, rotation}
use Rattle.qpu_encode.specs.declared.form.AddOp.TheVariants as add_op
use Rattle.qpu_encode.specs.WordFields.{is_target, is_source, is_part, is_small, is_unpack, is_flagged, is_in_profile, alu_from, ldi_from, bra_from, form_of}
use Rattle.qpu_rules.specs.Restrictions.{breaks_h1, breaks_h2, breaks_h3, breaks_h5, breaks_h6, breaks_h7, least_early}
use Rattle.qpu_rules.specs.Uses.{file_written, writes_acc, accs_written, five_written, written_by, access_of_read, access_of_write, accesses, access_of}
use Rattle.vpm_words.specs.Access.{Site, Private, Setup, Take, Give, WriteRow, StartStore, AwaitStore, fits, ports_after}
use Rattle.vpm_words.specs.Elements.{elements_of}
use Rattle.vpm_words.specs.Piece.{Piece}
use Rattle.vpm_words.specs.Words.{rows_word, load_word, row_word, store_word, read_setup_of, write_setup_of}
use Rattle.vpm_words.specs.declared.state.Element.{Element}
use Rattle.qpu_machine.specs.declared.state.Qpu.{Qpu}
use Rattle.qpu_machine.specs.declared.state.Regs.{Regs}
use Rattle.qpu_machine.specs.IssueStep.{fetched, is_taken, flow_after, recent, given, qpu_after}
use Rattle.qpu_machine.specs.Operations.{splat, read_a, read_b, operand, unpacked_each, add_result, mul_result, turned, results, outgoing, written, write_register, after_write, after_flags, regs_after}
use Rattle.qpu_machine.specs.Opening.{opening_qpu}
use Rattle.qpu_machine.specs.Planned.{no_region}
use Rattle.qpu_machine.specs.SoloRun.{Rests, Wants, want, done_alone}
use Rattle.solo_law.specs.Example.{example_words, buffer_of, place_of}

-- what QPU k has for itself
abbrev pub site : ℕ → Site
site k = record { number = k; uniforms = place_of k ∷ []; buffers = buffer_of 0 ∷ buffer_of 1 ∷ buffer_of 2 ∷ []; scratch = no_region }

-- the transfer that the store setup sets up, and its one element
abbrev pub piece : Piece
piece = record { mode = 0; len = 1; row = 0; col = 3 }

abbrev pub element : ℕ → Element
element k = record { address = place_of k; size = 4; row = 0; col = 3; low = 0 }

-- what QPU k writes to the VPM
abbrev pub row_words : ℕ → List ℕ
row_words k = lanes 16 (λ i. add_value add_op.Add i k)

-- the QPU before word n; taken are the uniforms that it took, and fresh says that the word before wrote r5
abbrev qpu_at : Regs → ℕ → ℕ → Bool → Option ℕ → Option Piece → ℕ → Bool → Qpu
qpu_at regs n taken fresh row store ending ended =
    record {
      regs = regs;
      flow = record { place = n; ended = ended; slots = 0; target = 0; ending = ending; issued = n };
      written = record { file_a = None; file_b = None; accs = 0; five = fresh };
      ports = record { taken = taken; read_row = 0; rows_left = 0; age = 3; write_row = row; load = None; store = store };
    }

-- ---- all that a word computes with

decodes : Unit {0}
unfolding fetched form_of alu_from ldi_from bra_from head_at add_op_at mul_op_at cond_at bra_at is_in_profile is_part is_target is_source is_small is_unpack is_flagged
decodes = tt

breaks_no_rule : Unit {0}
unfolding recent least_early breaks_h1 breaks_h2 breaks_h3 breaks_h5 breaks_h6 breaks_h7 file_written writes_acc accs_written five_written written_by
breaks_no_rule = tt

accesses_ports : Unit {0}
unfolding access_of_read access_of_write accesses access_of rows_word load_word row_word store_word read_setup_of write_setup_of elements_of fits ports_after
accesses_ports = tt

gives : Unit {0}
unfolding given results read_a read_b operand unpacked_each add_result mul_result turned outgoing lanes applied add_value mul_value passes small_word rotation
gives = tt

writes : Unit {0}
unfolding qpu_after regs_after written write_register after_write after_flags is_taken flow_after
writes = tt

computes : Unit {0}
unfolding example_words opening_qpu want done_alone decodes breaks_no_rule accesses_ports gives writes
computes = tt

-- the QPU before each word, and after the last
module _ (k : ℕ) (regs : Regs) where
  -- the registers from word 1 on: the address in r5
  abbrev pub addressed : Regs
  addressed = record regs { five = record { words = splat (place_of k) } }

  abbrev pub q0 : Qpu
  q0 = opening_qpu regs

  abbrev pub q1 : Qpu
  q1 = qpu_at addressed 1 1 true None None 0 false

  abbrev pub q2 : Qpu
  q2 = qpu_at addressed 2 1 false None None 0 false

  abbrev pub q3 : Qpu
  q3 = qpu_at addressed 3 1 false (Some 0) None 0 false

  abbrev pub q4 : Qpu
  q4 = qpu_at addressed 4 1 false (Some 1) None 0 false

  abbrev pub q5 : Qpu
  q5 = qpu_at addressed 5 1 false (Some 1) (Some piece) 0 false

  abbrev pub q6 : Qpu
  q6 = qpu_at addressed 6 1 false (Some 1) (Some piece) 0 false

  abbrev pub q7 : Qpu
  q7 = qpu_at addressed 7 1 false (Some 1) (Some piece) 0 false

  abbrev pub q8 : Qpu
  q8 = qpu_at addressed 8 1 false (Some 1) (Some piece) 0 false

  abbrev pub q9 : Qpu
  q9 = qpu_at addressed 9 1 false (Some 1) (Some piece) 2 false

  abbrev pub q10 : Qpu
  q10 = qpu_at addressed 10 1 false (Some 1) (Some piece) 1 false

  abbrev pub q11 : Qpu
  q11 = qpu_at addressed 11 1 false (Some 1) (Some piece) 0 true

  -- ---- what each word wants

  pub want0 : want example_words (site k) q0 ≡ Wants (Private None)
  unfolding computes
  want0 = refl

  pub want1 : want example_words (site k) q1 ≡ Wants Take
  unfolding computes
  want1 = refl

  pub want2 : want example_words (site k) q2 ≡ Wants (Setup None)
  unfolding computes
  want2 = refl

  pub want3 : want example_words (site k) q3 ≡ Wants (WriteRow (Some 0) (row_words k) None)
  unfolding computes
  want3 = refl

  pub want4 : want example_words (site k) q4 ≡ Wants (Setup None)
  unfolding computes
  want4 = refl

  pub want6 : want example_words (site k) q6 ≡ Wants AwaitStore
  unfolding computes
  want6 = refl

  pub want7 : want example_words (site k) q7 ≡ Wants Give
  unfolding computes
  want7 = refl

  pub want8 : want example_words (site k) q8 ≡ Wants (Private None)
  unfolding computes
  want8 = refl

  pub want9 : want example_words (site k) q9 ≡ Wants (Private None)
  unfolding computes
  want9 = refl

  pub want10 : want example_words (site k) q10 ≡ Wants (Private None)
  unfolding computes
  want10 = refl

  pub want11 : want example_words (site k) q11 ≡ Rests
  unfolding computes
  want11 = refl

  -- ---- the QPU after it

  pub done1 : done_alone example_words (site k) q1 [] ≡ q2
  unfolding computes
  done1 = refl

  pub done2 : done_alone example_words (site k) q2 [] ≡ q3
  unfolding computes
  done2 = refl

  pub done3 : done_alone example_words (site k) q3 [] ≡ q4
  unfolding computes
  done3 = refl

  pub done4 : done_alone example_words (site k) q4 [] ≡ q5
  unfolding computes
  done4 = refl

  pub done5 : done_alone example_words (site k) q5 [] ≡ q6
  unfolding computes
  done5 = refl

  pub done6 : done_alone example_words (site k) q6 [] ≡ q7
  unfolding computes
  done6 = refl

  pub done7 : done_alone example_words (site k) q7 [] ≡ q8
  unfolding computes
  done7 = refl

  pub done8 : done_alone example_words (site k) q8 [] ≡ q9
  unfolding computes
  done8 = refl

  pub done9 : done_alone example_words (site k) q9 [] ≡ q10
  unfolding computes
  done9 = refl

  pub done10 : done_alone example_words (site k) q10 [] ≡ q11
  unfolding computes
  done10 = refl

-- ---- the two words that compute with the address

pub done0 : (k : ℕ) → k < 3 → (regs : Regs) → done_alone example_words (site k) (q0 k regs) [] ≡ q1 k regs
unfolding computes
done0 zero l regs = refl
done0 (suc zero) l regs = refl
done0 (suc (suc zero)) l regs = refl
done0 (suc (suc (suc k))) l regs = absurd (omega arith)

pub want5 : (k : ℕ) → k < 3 → (regs : Regs) → want example_words (site k) (q5 k regs) ≡ Wants (StartStore (element k ∷ []) None)
unfolding computes
want5 zero l regs = refl
want5 (suc zero) l regs = refl
want5 (suc (suc zero)) l regs = refl
want5 (suc (suc (suc k))) l regs = absurd (omega arith)

-- what it stores of its row
pub stored_word : (k : ℕ) → k < 3 → get_or (row_words k) 3 0 ≡ k + 3
unfolding computes
stored_word zero l = refl
stored_word (suc zero) l = refl
stored_word (suc (suc zero)) l = refl
stored_word (suc (suc (suc k))) l = absurd (omega arith)
