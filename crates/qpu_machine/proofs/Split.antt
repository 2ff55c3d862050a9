-- An issue is what its word wants of what is shared, performed.
use Rattle.std.proofs.Common.{◌≡◌, ℕ, ◌-◌, List, [], length, refl, ap, ◌∙◌, Bool, true, false, ◌==◌, ◌||◌}
use Rattle.std.specs.Prelude.{if◌then◌else◌, not, nat_lt, Option, Some, None}
use Rattle.q_lane.specs.Vectors.{lanes, lane}
use Rattle.qpu_encode.specs.declared.form.Form.{Form}
use Rattle.qpu_rules.specs.Uses.{access_of}
use Rattle.qpu_rules.specs.Restrictions.{least_early, least_late, or_rule}
use Rattle.qpu_rules.proofs.Early.{early_first}
use Rattle.vpm_words.specs.Access.{Site, Demand, incoming, row_of, is_row_busy, owner_seen, seen, demand, share}
use Rattle.vpm_words.specs.Rules.{is_me, is_waiting, first_of, least_broken}
use Rattle.vpm_words.specs.declared.state.Access.{Access}
use Rattle.vpm_words.specs.declared.state.Access.TheVariants.{Uniform, ReadVpm, WriteVpm, ReadSet, WriteSet, LoadAddr, StoreAddr, WaitLoad, WaitStore, Lock, Unlock}
use Rattle.vpm_words.specs.declared.state.Owner.{Owner}
use Rattle.vpm_words.specs.declared.state.Owner.TheVariants.{Nobody, Me, Other}
use Rattle.vpm_words.specs.declared.state.Rule.{Rule}
use Rattle.vpm_words.specs.declared.state.Rule.TheVariants.{H9, H10, H13}
use Rattle.vpm_words.specs.declared.state.Shared.{Shared}
use Rattle.qpu_machine.specs.declared.state.Effect.TheVariants as effect
use Rattle.qpu_machine.specs.declared.state.Qpu.{Qpu}
use Rattle.qpu_machine.specs.declared.state.Counts.{Counts}
use Rattle.qpu_machine.specs.Operations.{results, outgoing}
use Rattle.qpu_machine.specs.IssueStep.{Local, idle, judged, done, tried, attempted, local, fetched, recent, given, seen_by, qpu_after, shared_after, counts_after, one_more}
use Rattle.qpu_machine.specs.SoloRun.{Want, Rests, Wants, or_breaks, wanted, want, done_by, done_alone, row_at, row_wanted, performed, StepSplits}

-- a rule that the QPU's own words and uniforms decide comes before what the access wants
picked : (g : Site) (q : Qpu) (s : Shared) (c : Counts) (early late : Option Rule) (waits : Bool) (after : Local) (d : Demand) (done_with : List ℕ → Qpu)
    → judged late waits g.number q s c after ≡ performed (Wants d) g.number q s c (done_with (row_wanted (Wants d) s.vpm))
    → judged (or_rule early late) waits g.number q s c after ≡ performed (or_breaks early (Wants d)) g.number q s c (done_with (row_wanted (or_breaks early (Wants d)) s.vpm))
picked g q s c (Some rule) late waits after d done_with h = refl
picked g q s c None late waits after d done_with h = h

module _ (g : Site) (q : Qpu) (s : Shared) (c : Counts) where
  -- where no row is left a rule is broken, and what is read counts for nothing
  no_row_left : (o : Owner) (busy : Bool) (x y : Local)
      → judged (first_of (not (is_me o)) H9 (first_of busy H10 (Some H13))) false g.number q s c x ≡ judged (first_of (not (is_me o)) H9 (first_of busy H10 (Some H13))) false g.number q s c y
  no_row_left Nobody busy x y = refl
  no_row_left Other busy x y = refl
  no_row_left Me true x y = refl
  no_row_left Me false x y = refl

  -- the row is read where one is left
  row_read : (none_left early : Bool) (left : List ℕ → Local)
      → judged (first_of (not (is_me (owner_seen s.owner g.number))) H9 (first_of (is_row_busy (if none_left then None else Some q.ports.read_row) s.loads s.stores) H10 (first_of (none_left || early) H13 None))) false g.number q s c (left (row_of q.ports s.vpm))
      ≡ judged (first_of (not (is_me (owner_seen s.owner g.number))) H9 (first_of (is_row_busy (if none_left then None else Some q.ports.read_row) s.loads s.stores) H10 (first_of (none_left || early) H13 None))) false g.number q s c (left (row_at (if none_left then None else Some q.ports.read_row) s.vpm))
  row_read true early left = no_row_left (owner_seen s.owner g.number) false (left (row_of q.ports s.vpm)) (left [])
  row_read false early left = refl

  -- what arrives, where the row that is read is this one
  abbrev arrives : Option Access → List ℕ → List ℕ
  arrives a row = lanes 16 (incoming g q.ports row a)

  abbrev left_by : Option Access → (List ℕ → List ℕ) → (List ℕ → Qpu) → List ℕ → Local
  left_by a out after row =
      record {
        qpu = after (arrives a row);
        shared = share (demand g q.ports a (lane (out (arrives a row)) 0) (out (arrives a row))) g.number s;
        counts = counts_after a c;
        effect = effect.Did;
      }

  -- the word, where its early rules are kept
  abbrev late_part : Option Access → (List ℕ → List ℕ) → (List ℕ → Qpu) → List ℕ → Local
  late_part a out after row =
      judged (least_late a q.ports.age (seen g q.ports s a (lane (out (arrives a row)) 0))) (is_waiting a (seen g q.ports s a (lane (out (arrives a row)) 0))) g.number q s c (left_by a out after row)

  abbrev wants_of : Option Access → (List ℕ → List ℕ) → Want
  wants_of a out = Wants (demand g q.ports a (lane (out (arrives a [])) 0) (out (arrives a [])))

  abbrev Agrees : Option Access → (List ℕ → List ℕ) → (List ℕ → Qpu) → Type 0
  Agrees a out after =
      late_part a out after (row_of q.ports s.vpm) ≡ performed (wants_of a out) g.number q s c (after (arrives a (row_wanted (wants_of a out) s.vpm)))

  access : (a : Option Access) (out : List ℕ → List ℕ) (after : List ℕ → Qpu) → Agrees a out after
  unfolding seen least_broken counts_after
  access None out after = refl
  access (Some Uniform) out after = refl
  access (Some ReadVpm) out after =
      row_read (q.ports.rows_left == 0) (nat_lt q.ports.age 3)
      (λ row. record { qpu = after (arrives (Some ReadVpm) row); shared = s; counts = record c { issued = one_more c.issued }; effect = effect.Did })
  access (Some WriteVpm) out after = refl
  access (Some ReadSet) out after = refl
  access (Some WriteSet) out after = refl
  access (Some LoadAddr) out after = refl
  access (Some StoreAddr) out after = refl
  access (Some WaitLoad) out after = refl
  access (Some WaitStore) out after = refl
  access (Some Lock) out after = refl
  access (Some Unlock) out after = refl

-- the word of a form
word : (g : Site) (f : Form) (q : Qpu) (s : Shared) (c : Counts) → tried g f q s c (given g f q (row_of q.ports s.vpm)) ≡ performed (wanted g (Some f) q) g.number q s c (done_by g (Some f) q (row_wanted (wanted g (Some f) q) s.vpm))
unfolding tried done shared_after seen_by given recent seen
word g f q s c =
    let a = access_of f in
    let r = given g f q (row_of q.ports s.vpm) in
    let view = seen_by g f q s r in
    ap (λ rule. judged rule (is_waiting a view) g.number q s c (done g f q s c r)) (early_first f (recent q) view)
    ∙ picked g q s c (least_early f (recent q) (length g.uniforms - q.ports.taken)) (least_late a q.ports.age view) (is_waiting a view) (done g f q s c r) _ (λ row. qpu_after f q (given g f q row))
    (access g q s c a (λ i. outgoing f (results f q.regs g.number i)) (λ i. qpu_after f q (results f q.regs g.number i)))

by_form : (g : Site) (o : Option Form) (q : Qpu) (s : Shared) (c : Counts) → attempted g o q s c ≡ performed (wanted g o q) g.number q s c (done_by g o q (row_wanted (wanted g o q) s.vpm))
unfolding attempted
by_form g None q s c = refl
by_form g (Some f) q s c = word g f q s c

pub step_splits : StepSplits
unfolding local want done_alone
step_splits code g q s c =
    let o = fetched code q.flow.place in
    elim q.flow.ended as (λ b. (if b then idle q s c effect.Nothing else attempted g o q s c) ≡ performed (if b then Rests else wanted g o q) g.number q s c (done_by g o q (row_wanted (if b then Rests else wanted g o q) s.vpm))) [
      | true ↦ refl
      | false ↦ by_form g o q s c
    ]
