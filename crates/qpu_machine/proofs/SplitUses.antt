-- What an issue does, by what its word wants: where it rests, breaks a rule, waits or is done, and what a start that breaks none starts.
use Rattle.std.proofs.Common.{◌≡◌, ◌≢◌, ℕ, ◌-◌, List, length, refl, sym, ap, ◌∙◌, Bool, true, false}
use Rattle.std.specs.Prelude.{if◌then◌else◌, not, slice_get, Option, Some, None, is_some}
use Rattle.q_lane.specs.Vectors.{lane}
use Rattle.qpu_encode.specs.declared.form.Form.{Form}
use Rattle.qpu_rules.specs.Uses.{access_of}
use Rattle.qpu_rules.specs.Restrictions.{least_early}
use Rattle.vpm_words.specs.Piece.{Piece}
use Rattle.vpm_words.specs.Elements.{elements_of}
use Rattle.vpm_words.specs.Access.{Site, Demand, StartLoad, StartStore, demand, breaks, stalls, share, started, fits, fits_if_set, is_busy, owner_seen}
use Rattle.vpm_words.specs.Rules.{is_me, first_of}
use Rattle.vpm_words.specs.declared.state.Access.{Access}
use Rattle.vpm_words.specs.declared.state.Access.TheVariants.{Uniform, ReadVpm, WriteVpm, ReadSet, WriteSet, LoadAddr, StoreAddr, WaitLoad, WaitStore, Lock, Unlock}
use Rattle.vpm_words.specs.declared.state.Element.{Element}
use Rattle.vpm_words.specs.declared.state.Ports.{Ports}
use Rattle.vpm_words.specs.declared.state.Rule.{Rule}
use Rattle.vpm_words.specs.declared.state.Rule.TheVariants.{H9, H11, H12, H15}
use Rattle.vpm_words.specs.declared.state.Shared.{Shared}
use Rattle.qpu_machine.specs.declared.state.Effect.TheVariants as effect
use Rattle.qpu_machine.specs.declared.state.Qpu.{Qpu}
use Rattle.qpu_machine.specs.declared.state.Counts.{Counts}
use Rattle.qpu_machine.specs.Planned.{Fixed}
use Rattle.qpu_machine.specs.IssueStep.{Local, idle, judged, local, fetched, recent}
use Rattle.qpu_machine.specs.MachineRun.{turn, turn_at}
use Rattle.qpu_machine.specs.SoloRun.{Want, Rests, Breaks, Wants, or_breaks, words_out, wanted, want, done_alone, row_wanted, counted, performed, broken_by}
use Rattle.qpu_machine.proofs.Split.{step_splits}

-- ---- a QPU rests exactly where it has ended

or_breaks_works : (early : Option Rule) (d : Demand) → or_breaks early (Wants d) ≢ Rests
or_breaks_works None d h = cc
or_breaks_works (Some rule) d h = cc

wanted_works : (g : Site) (o : Option Form) (q : Qpu) → wanted g o q ≢ Rests
wanted_works g None q h = cc
wanted_works g (Some f) q h = or_breaks_works (least_early f (recent q) (length g.uniforms - q.ports.taken)) _ h

pub ended_rests : (code : List ℕ) (g : Site) (q : Qpu) → q.flow.ended ≡ true → want code g q ≡ Rests
unfolding want
ended_rests code g q e = rw e refl

pub rests_ended : (code : List ℕ) (g : Site) (q : Qpu) → want code g q ≡ Rests → q.flow.ended ≡ true
unfolding want
rests_ended code g q =
    let other : Want = wanted g (fetched code q.flow.place) q in
    elim q.flow.ended as (λ b. (if b then Rests else other) ≡ Rests → b ≡ true) [
      | true ↦ λ h. refl
      | false ↦ λ h. absurd (wanted_works g (fetched code q.flow.place) q h)
    ]

pub going_works : (code : List ℕ) (g : Site) (q : Qpu) → q.flow.ended ≡ false → want code g q ≢ Rests
going_works code g q e h = let ended : q.flow.ended ≡ true = rests_ended code g q h in cc

pub going_wanted : (code : List ℕ) (g : Site) (q : Qpu) → q.flow.ended ≡ false → want code g q ≡ wanted g (fetched code q.flow.place) q
unfolding want
going_wanted code g q e = rw e refl

-- ---- what an issue leaves, by what the word wants

-- the issue of a QPU that is there
pub turn_is : (g : Fixed) (qpus : List Qpu) (s : Shared) (c : Counts) (k : ℕ) (q : Qpu) → slice_get qpus k ≡ Some q → turn g qpus s c k ≡ turn_at g qpus s c k (Some q)
unfolding turn
turn_is g qpus s c k q e = ap (turn_at g qpus s c k) e

-- a word that wants this is done
abbrev pub did : List ℕ → Site → Qpu → Shared → Counts → Demand → Local
did code g q s c d =
    record { qpu = done_alone code g q (row_wanted (Wants d) s.vpm); shared = share d g.number s; counts = counted d c; effect = effect.Did }

-- the same but for the counts
pub record AreSame (l m : Local) : Type 0 where
  pub qpu : l.qpu ≡ m.qpu
  pub shared : l.shared ≡ m.shared
  pub effect : l.effect ≡ m.effect

module _ (code : List ℕ) (g : Site) (q : Qpu) (s : Shared) (c : Counts) where
  abbrev performs : Want → Local
  performs w = performed w g.number q s c (done_alone code g q (row_wanted w s.vpm))

  -- the issue is this want performed
  pub local_is : (w : Want) → want code g q ≡ w → local code g q s c ≡ performs w
  local_is w e = step_splits code g q s c ∙ ap performs e

  pub local_rests : want code g q ≡ Rests → local code g q s c ≡ idle q s c effect.Nothing
  local_rests e = local_is Rests e

  -- where no rule is broken and it need not wait, the word is done
  pub local_done : (d : Demand) → want code g q ≡ Wants d → breaks d g.number s ≡ None → stalls d g.number s ≡ false → local code g q s c ≡ did code g q s c d
  local_done d e unbroken goes =
      local_is (Wants d) e
      ∙ ap (λ rule. judged rule (stalls d g.number s) g.number q s c (did code g q s c d)) unbroken
      ∙ ap (λ waits. judged None waits g.number q s c (did code g q s c d)) goes

  pub local_waits : (d : Demand) → want code g q ≡ Wants d → breaks d g.number s ≡ None → stalls d g.number s ≡ true → local code g q s c ≡ idle q s c effect.Stalled
  local_waits d e unbroken waits =
      local_is (Wants d) e
      ∙ ap (λ rule. judged rule (stalls d g.number s) g.number q s c (did code g q s c d)) unbroken
      ∙ ap (λ b. judged None b g.number q s c (did code g q s c d)) waits

  performs_broken : (w : Want) (rule : Rule) → broken_by w g.number s ≡ Some rule → performs w ≡ idle q s c (effect.Broken rule g.number q.flow.place)
  performs_broken Rests rule e = absurd cc
  performs_broken (Breaks first) rule e = let same : first ≡ rule = cc in ap (λ r. idle q s c (effect.Broken r g.number q.flow.place)) same
  performs_broken (Wants d) rule e = ap (λ o. judged o (stalls d g.number s) g.number q s c (did code g q s c d)) e

  -- where a rule is broken the run stops at it
  pub local_breaks : (rule : Rule) → broken_by (want code g q) g.number s ≡ Some rule → local code g q s c ≡ idle q s c (effect.Broken rule g.number q.flow.place)
  local_breaks rule e = step_splits code g q s c ∙ performs_broken (want code g q) rule e

  judged_unbroken : (d : Demand) (waits : Bool) (rule : Rule) (k place : ℕ) → (judged None waits g.number q s c (did code g q s c d)).effect ≢ effect.Broken rule k place
  judged_unbroken d true rule k place h = cc
  judged_unbroken d false rule k place h = cc

  performs_unbroken : (w : Want) (rule : Rule) (k place : ℕ) → broken_by w g.number s ≡ None → (performs w).effect ≢ effect.Broken rule k place
  performs_unbroken Rests rule k place e h = cc
  performs_unbroken (Breaks first) rule k place e h = absurd cc
  performs_unbroken (Wants d) rule k place e h =
      judged_unbroken d (stalls d g.number s) rule k place (sym (ap (λ o. (judged o (stalls d g.number s) g.number q s c (did code g q s c d)).effect) e) ∙ h)

  -- and only there
  pub local_unbroken : (rule : Rule) (k place : ℕ) → broken_by (want code g q) g.number s ≡ None → (local code g q s c).effect ≢ effect.Broken rule k place
  local_unbroken rule k place e h = performs_unbroken (want code g q) rule k place e (sym (ap (λ l. l.effect) (step_splits code g q s c)) ∙ h)

  judged_counts : (rule : Option Rule) (waits : Bool) (b : Counts) (d : Demand)
      → AreSame (judged rule waits g.number q s c (did code g q s c d)) (judged rule waits g.number q s b (did code g q s b d))
  judged_counts (Some rule) waits b d = record { qpu = refl; shared = refl; effect = refl }
  judged_counts None true b d = record { qpu = refl; shared = refl; effect = refl }
  judged_counts None false b d = record { qpu = refl; shared = refl; effect = refl }

  performs_counts : (w : Want) (b : Counts)
      → AreSame (performs w) (performed w g.number q s b (done_alone code g q (row_wanted w s.vpm)))
  performs_counts Rests b = record { qpu = refl; shared = refl; effect = refl }
  performs_counts (Breaks rule) b = record { qpu = refl; shared = refl; effect = refl }
  performs_counts (Wants d) b = judged_counts (breaks d g.number s) (stalls d g.number s) b d

  -- what the counts are doesn't matter
  pub local_counts : (b : Counts) → AreSame (local code g q s c) (local code g q s b)
  local_counts b = rw (step_splits code g q s c, step_splits code g q s b) (performs_counts (want code g q) b)

-- ---- what an unbroken start starts

-- the word at the QPU's place, none of whose early rules is broken, demands this
pub record IsWanted (code : List ℕ) (g : Site) (q : Qpu) (d : Demand) : Type 0 where
  pub form : Form
  pub there : fetched code q.flow.place ≡ Some form
  pub early : least_early form (recent q) (length g.uniforms - q.ports.taken) ≡ None
  pub demanded : demand g q.ports (access_of form) (lane (words_out g form q) 0) (words_out g form q) ≡ d

early_none : (o : Option Rule) (e d : Demand) → or_breaks o (Wants e) ≡ Wants d → o ≡ None
early_none None e d h = refl
early_none (Some rule) e d h = absurd cc

same_demand : (o : Option Rule) (e d : Demand) → or_breaks o (Wants e) ≡ Wants d → e ≡ d
same_demand None e d h = cc
same_demand (Some rule) e d h = absurd cc

wanted_is : (code : List ℕ) (g : Site) (q : Qpu) (d : Demand) (o : Option Form) → fetched code q.flow.place ≡ o → wanted g o q ≡ Wants d → IsWanted code g q d
wanted_is code g q d None e h = absurd cc
wanted_is code g q d (Some f) e h = record { form = f; there = e; early = early_none _ _ d h; demanded = same_demand (least_early f (recent q) (length g.uniforms - q.ports.taken)) _ d h }

pub wants_is : (code : List ℕ) (g : Site) (q : Qpu) (d : Demand) → want code g q ≡ Wants d → IsWanted code g q d
unfolding want
wants_is code g q d =
    let o = fetched code q.flow.place in
    elim q.flow.ended as (λ b. (if b then Rests else wanted g o q) ≡ Wants d → IsWanted code g q d) [
      | true ↦ λ h. absurd cc
      | false ↦ λ h. wanted_is code g q d o refl h
    ]

-- the elements of a transfer that has its setup, at an address that fits
pub record IsStart (g : Site) (o : Option Piece) (es : List Element) : Type 0 where
  pub piece : Piece
  pub address : ℕ
  pub set : o ≡ Some piece
  pub elements : es ≡ elements_of address piece
  pub fit : fits g piece address ≡ true

rest_none : (b : Bool) (rule : Rule) (o : Option Rule) → first_of b rule o ≡ None → o ≡ None
rest_none true rule o h = absurd cc
rest_none false rule o h = h

test_false : (b : Bool) (rule : Rule) (o : Option Rule) → first_of b rule o ≡ None → b ≡ false
test_false true rule o h = absurd cc
test_false false rule o h = refl

not_false : (b : Bool) → not b ≡ false → b ≡ true
not_false true h = refl
not_false false h = sym h

-- of a start, its rules on the QPU's own state
abbrev late_of : Site → Option Piece → ℕ → Option Rule
late_of g o value = first_of (not (fits_if_set g o value)) H12 (first_of (not (is_some o)) H15 None)

start_is : (g : Site) (o : Option Piece) (value : ℕ) (es : List Element) → started o value ≡ es → late_of g o value ≡ None → IsStart g o es
start_is g None value es e h = absurd (none_set h)
  where
    none_set : late_of g None value ≢ None
    none_set x = cc
start_is g (Some t) value es e h =
    record { piece = t; address = value; set = refl; elements = sym e; fit = not_false (fits g t value) (test_false (not (fits g t value)) H12 None h) }

load_demand : (g : Site) (p : Ports) (a : Option Access) (value : ℕ) (words : List ℕ) (es : List Element) (late : Option Rule)
    → demand g p a value words ≡ StartLoad es late → late ≡ None → IsStart g p.load es
load_demand g p None value words es late h n = absurd cc
load_demand g p (Some Uniform) value words es late h n = absurd cc
load_demand g p (Some ReadVpm) value words es late h n = absurd cc
load_demand g p (Some WriteVpm) value words es late h n = absurd cc
load_demand g p (Some ReadSet) value words es late h n = absurd cc
load_demand g p (Some WriteSet) value words es late h n = absurd cc
load_demand g p (Some LoadAddr) value words es late h n =
    let same : started p.load value ≡ es = cc in
    let rules : late_of g p.load value ≡ late = cc in
    start_is g p.load value es same (rules ∙ n)
load_demand g p (Some StoreAddr) value words es late h n = absurd cc
load_demand g p (Some WaitLoad) value words es late h n = absurd cc
load_demand g p (Some WaitStore) value words es late h n = absurd cc
load_demand g p (Some Lock) value words es late h n = absurd cc
load_demand g p (Some Unlock) value words es late h n = absurd cc

store_demand : (g : Site) (p : Ports) (a : Option Access) (value : ℕ) (words : List ℕ) (es : List Element) (late : Option Rule)
    → demand g p a value words ≡ StartStore es late → late ≡ None → IsStart g p.store es
store_demand g p None value words es late h n = absurd cc
store_demand g p (Some Uniform) value words es late h n = absurd cc
store_demand g p (Some ReadVpm) value words es late h n = absurd cc
store_demand g p (Some WriteVpm) value words es late h n = absurd cc
store_demand g p (Some ReadSet) value words es late h n = absurd cc
store_demand g p (Some WriteSet) value words es late h n = absurd cc
store_demand g p (Some LoadAddr) value words es late h n = absurd cc
store_demand g p (Some StoreAddr) value words es late h n =
    let same : started p.store value ≡ es = cc in
    let rules : late_of g p.store value ≡ late = cc in
    start_is g p.store value es same (rules ∙ n)
store_demand g p (Some WaitLoad) value words es late h n = absurd cc
store_demand g p (Some WaitStore) value words es late h n = absurd cc
store_demand g p (Some Lock) value words es late h n = absurd cc
store_demand g p (Some Unlock) value words es late h n = absurd cc

-- a load that breaks no rule has its setup, and its address fits
pub load_started : (code : List ℕ) (g : Site) (q : Qpu) (s : Shared) (es : List Element) (late : Option Rule)
    → want code g q ≡ Wants (StartLoad es late) → breaks (StartLoad es late) g.number s ≡ None → IsStart g q.ports.load es
load_started code g q s es late e unbroken =
    let w : IsWanted code g q (StartLoad es late) = wants_is code g q (StartLoad es late) e in
    load_demand g q.ports _ _ _ es late w.demanded
    (rest_none (is_busy s.loads) H11 late (rest_none (not (is_me (owner_seen s.owner g.number))) H9 (first_of (is_busy s.loads) H11 late) unbroken))

-- and a store
pub store_started : (code : List ℕ) (g : Site) (q : Qpu) (s : Shared) (es : List Element) (late : Option Rule)
    → want code g q ≡ Wants (StartStore es late) → breaks (StartStore es late) g.number s ≡ None → IsStart g q.ports.store es
store_started code g q s es late e unbroken =
    let w : IsWanted code g q (StartStore es late) = wants_is code g q (StartStore es late) e in
    store_demand g q.ports _ _ _ es late w.demanded
    (rest_none (is_busy s.stores) H11 late (rest_none (not (is_me (owner_seen s.owner g.number))) H9 (first_of (is_busy s.stores) H11 late) unbroken))
