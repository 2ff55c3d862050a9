-- One QPU alone: a word is what it wants of what is shared, what it makes of its QPU, and what it makes of what is shared. The solo run is
-- the machine's run of encoded words in which one QPU alone is there, each transfer is moved whole when it starts, and each acquire finds
-- given contents in the VPM and in the memory that QPUs share. It is this project's own.
use Rattle.std.specs.Prelude.{◌≡◌, ◌≢◌, ◌⊎◌, ℕ, suc, ◌+◌, ◌-◌, ◌%◌, ◌<◌, ◌≤◌, List, [], ◌∷◌, ◌++◌, length, Bool, false, if◌then◌else◌, ◌==◌, ◌&&◌, get_or, slice_get, IfSome, ⊤}
use Rattle.std.specs.declared.option.Option.{Option}
use Rattle.std.specs.declared.option.Option.TheVariants.{Some, None}
use Rattle.q_lane.specs.Numbers.{applied}
use Rattle.q_lane.specs.Vectors.{lane}
use Rattle.q_lane.specs.declared.operations.BinOp.{BinOp}
use Rattle.qpu_encode.specs.declared.form.Form.{Form}
use Rattle.qpu_rules.specs.Uses.{access_of}
use Rattle.qpu_rules.specs.Restrictions.{least_early}
use Rattle.vpm_words.specs.Access.{Site, Given, Alone, Demand, Private, Take, ReadRow, StartLoad, StartStore, AwaitLoad, AwaitStore, demand, breaks, stalls, share, at_once}
use Rattle.vpm_words.specs.Laws.{IsVpm}
use Rattle.vpm_words.specs.Moves.{number_at, bytes_out, store_all}
use Rattle.vpm_words.specs.declared.state.Access.{Access}
use Rattle.vpm_words.specs.declared.state.Access.TheVariants.{ReadSet, WriteSet}
use Rattle.vpm_words.specs.declared.state.Element.{Element}
use Rattle.vpm_words.specs.declared.state.Rule.{Rule}
use Rattle.vpm_words.specs.declared.state.Rule.TheVariants.{H0}
use Rattle.vpm_words.specs.declared.state.Shared.{Shared}
use Rattle.qpu_machine.specs.declared.state.Effect.TheVariants as effect
use Rattle.qpu_machine.specs.declared.state.Qpu.{Qpu}
use Rattle.qpu_machine.specs.declared.state.Counts.{Counts}
use Rattle.qpu_machine.specs.Planned.{site_of}
use Rattle.qpu_machine.specs.Operations.{outgoing}
use Rattle.qpu_machine.specs.IssueStep.{Local, idle, judged, local, fetched, recent, given, qpu_after, one_more}
use Rattle.qpu_machine.specs.MachineState.{MachineState}
use Rattle.qpu_machine.specs.MachineRun.{happens, is_effective}
use Rattle.qpu_machine.specs.declared.state.Step.{Step}
use Rattle.qpu_machine.specs.declared.state.Step.TheVariants.{Issue, Load, Store}
use Rattle.qpu_machine.specs.Reachable.{AreBytes}

-- ---- the split of a word

-- what the next word wants: nothing where the QPU has ended, a rule of H0 to H7 that it breaks by itself, or what its access demands
pub data Want : Type 0 where
  Rests : Want
  Breaks : Rule → Want
  Wants : Demand → Want

abbrev pub or_breaks : Option Rule → Want → Want
or_breaks None w = w
or_breaks (Some rule) w = Breaks rule

-- what goes to a peripheral; a word that writes to one reads none
abbrev pub words_out : Site → Form → Qpu → List ℕ
words_out g f q = outgoing f (given g f q [])

abbrev pub wanted : Site → Option Form → Qpu → Want
wanted g None q = Breaks H0
wanted g (Some f) q =
    or_breaks (least_early f (recent q) (length g.uniforms - q.ports.taken))
    (Wants (demand g q.ports (access_of f) (lane (words_out g f q) 0) (words_out g f q)))

-- what the next word of a QPU wants, by the QPU's own state
unfoldable pub want : List ℕ → Site → Qpu → Want
want code g q = if q.flow.ended then Rests else wanted g (fetched code q.flow.place) q

abbrev pub done_by : Site → Option Form → Qpu → List ℕ → Qpu
done_by g None q row = q
done_by g (Some f) q row = qpu_after f q (given g f q row)

-- the QPU after its next word, where the row of the VPM that it reads has these words
unfoldable pub done_alone : List ℕ → Site → Qpu → List ℕ → Qpu
done_alone code g q row = done_by g (fetched code q.flow.place) q row

abbrev pub row_at : Option ℕ → List (List ℕ) → List ℕ
row_at None vpm = []
row_at (Some row) vpm = get_or vpm row []

-- the row that a word reads: none where it reads none
abbrev pub row_wanted : Want → List (List ℕ) → List ℕ
row_wanted (Wants (ReadRow row late)) vpm = row_at row vpm
row_wanted _ vpm = []

-- the counts after a word
abbrev pub counted : Demand → Counts → Counts
counted (StartLoad es late) c = record c { issued = one_more c.issued; loads = one_more c.loads }
counted (StartStore es late) c = record c { issued = one_more c.issued; stores = one_more c.stores }
counted _ c = record c { issued = one_more c.issued }

-- what a word that wants this leaves of QPU k, where the last is the QPU after it
abbrev pub performed : Want → ℕ → Qpu → Shared → Counts → Qpu → Local
performed Rests k q s c after = idle q s c effect.Nothing
performed (Breaks rule) k q s c after = idle q s c (effect.Broken rule k q.flow.place)
performed (Wants d) k q s c after =
    judged (breaks d k s) (stalls d k s) k q s c (record { qpu = after; shared = share d k s; counts = counted d c; effect = effect.Did })

-- each issue is what its word wants, performed
abbrev pub StepSplits : Type 0
StepSplits =
    (code : List ℕ) (g : Site) (q : Qpu) (s : Shared) (c : Counts)
    → local code g q s c ≡ performed (want code g q) g.number q s c (done_alone code g q (row_wanted (want code g q) s.vpm))

-- ---- what QPUs share besides the VPM

-- a change of a word: an operation and its operand. No section changes a word yet; the operations that do, each of a group that goes on in
-- whatever order, come with the first that does
pub record Change : Type 0 where
  pub op : BinOp
  pub operand : ℕ

abbrev pub changed : Change → ℕ → ℕ
changed c word = applied c.op word c.operand

-- a section is what is done from an acquire to its release. The bytes of the words that QPUs share, and for each section of the QPU, in
-- order, the change that it makes of one of these words, if it is one that changes
pub record Sharing : Type 0 where
  pub is_shared : ℕ → Bool
  pub change : ℕ → Option Change

-- no word is shared and no section changes one
abbrev pub nothing_shared : Sharing
nothing_shared = record { is_shared = λ a. false; change = λ n. None }

-- ---- one QPU alone

-- the transfer that was started and not yet waited for
pub data Due : Type 0 where
  NoneDue : Due
  LoadDue : Due
  StoreDue : Due

abbrev pub due_after : Want → Due → Due
due_after (Wants (StartLoad es late)) d = LoadDue
due_after (Wants (StartStore es late)) d = StoreDue
due_after (Wants AwaitLoad) d = NoneDue
due_after (Wants AwaitStore) d = NoneDue
due_after _ d = d

-- what is seen of a word from outside: the QPU has ended, it works, or it starts a transfer of these elements
pub data Deed : Type 0 where
  Ended : Deed
  Works : Deed
  Loads : List Element → Deed
  Stores : List Element → Deed

abbrev pub deed : Want → Deed
deed Rests = Ended
deed (Wants (StartLoad es late)) = Loads es
deed (Wants (StartStore es late)) = Stores es
deed _ = Works

abbrev pub elements_started : Want → List Element
elements_started (Wants (StartLoad es late)) = es
elements_started (Wants (StartStore es late)) = es
elements_started _ = []

-- a word that was done: its place, and what was seen of it
pub record Note : Type 0 where
  pub place : ℕ
  pub deed : Deed

-- a transfer that was started: the elements of a load, or of a store with the bytes that it stores
pub data Start : Type 0 where
  LoadOf : List Element → Start
  StoreOf : List Element → List ℕ → Start

-- the bytes that a store of these elements stores
abbrev pub bytes_stored : List Element → List (List ℕ) → List ℕ
bytes_stored [] vpm = []
bytes_stored (e ∷ es) vpm = bytes_out e vpm ++ bytes_stored es vpm

abbrev pub starts_after : Want → List (List ℕ) → List Start → List Start
starts_after (Wants (StartLoad es late)) vpm starts = LoadOf es ∷ starts
starts_after (Wants (StartStore es late)) vpm starts = StoreOf es (bytes_stored es vpm) ∷ starts
starts_after _ vpm starts = starts

-- a change that was made of the word at an address
pub record Made : Type 0 where
  pub address : ℕ
  pub change : Change

-- how many sections were begun
abbrev pub sections_after : Want → ℕ → ℕ
sections_after (Wants Take) n = suc n
sections_after _ n = n

-- the change of the last section that was begun
abbrev pub change_after : Sharing → Want → ℕ → Option Change → Option Change
change_after x (Wants Take) n c = x.change n
change_after x _ n c = c

abbrev pub with_change : Option Change → List Element → List Made → List Made
with_change None es ms = ms
with_change (Some c) [] ms = ms
with_change (Some c) (e ∷ es) ms = record { address = e.address; change = c } ∷ ms

abbrev pub made_after : Want → Option Change → List Made → List Made
made_after (Wants (StartStore es late)) c ms = with_change c es ms
made_after _ c ms = ms

pub record Solo : Type 0 where
  pub qpu : Qpu
  pub shared : Shared
  pub memory : List ℕ
  pub due : Due
  -- the words that were done, the last one first
  pub notes : List Note
  -- the transfers that were started, the last one first
  pub starts : List Start
  -- how many elements were moved
  pub moved : ℕ
  -- how many sections were begun, the change of the last one, and the changes made
  pub sections : ℕ
  pub change : Option Change
  pub made : List Made

-- what is shared after what a word wants, at once
abbrev pub alone_after : Sharing → ℕ → Demand → Given → Solo → Alone
alone_after x k d v s = at_once x.is_shared d v (share d k s.shared) s.memory

-- one word alone, with what an acquire finds
abbrev pub does : Sharing → List ℕ → Site → Want → Given → Solo → Solo
does x code g Rests v s = s
does x code g (Breaks rule) v s = s
does x code g (Wants d) v s =
    record {
      qpu = done_alone code g s.qpu (row_wanted (Wants d) s.shared.vpm);
      shared = (alone_after x g.number d v s).shared;
      memory = (alone_after x g.number d v s).memory;
      due = due_after (Wants d) s.due;
      notes = record { place = s.qpu.flow.place; deed = deed (Wants d) } ∷ s.notes;
      starts = starts_after (Wants d) s.shared.vpm s.starts;
      moved = s.moved + length (elements_started (Wants d));
      sections = sections_after (Wants d) s.sections;
      change = change_after x (Wants d) s.sections s.change;
      made = made_after (Wants d) s.change s.made;
    }

-- before the first word of this QPU
abbrev pub alone : MachineState → Qpu → Solo
alone w q =
    record { qpu = q; shared = w.shared; memory = w.memory; due = NoneDue; notes = []; starts = []; moved = 0; sections = 0; change = None; made = [] }

-- the solo run, one word for each of the given contents, the last word's first. Contents count only where the word is an acquire
unfoldable pub solo : Sharing → List ℕ → Site → Solo → List Given → Solo
solo x code g start [] = start
solo x code g start (v ∷ vs) = does x code g (want code g (solo x code g start vs).qpu) v (solo x code g start vs)

-- ---- clean runs

-- contents that an acquire may find: a VPM, and a memory of bytes of this size
pub record IsGiven (size : ℕ) (v : Given) : Type 0 where
  pub vpm : IsVpm v.vpm
  pub many : length v.memory ≡ size
  pub bytes : AreBytes v.memory

abbrev pub AreGiven : ℕ → List Given → Type 0
AreGiven size [] = ⊤
AreGiven size (v ∷ vs) = IsGiven size v × AreGiven size vs

-- after a start, the next use of a setup, of an address, of the VPM, of a wait or of the mutex is the wait of that engine
abbrev pub IsInTurn : Want → Due → Type 0
IsInTurn Rests d = ⊤
IsInTurn (Breaks rule) d = ⊤
IsInTurn (Wants (Private late)) d = ⊤
IsInTurn (Wants AwaitLoad) d = d ≢ StoreDue
IsInTurn (Wants AwaitStore) d = d ≢ LoadDue
IsInTurn (Wants _) d = d ≡ NoneDue

-- the rule that the word breaks
abbrev pub broken_by : Want → ℕ → Shared → Option Rule
broken_by Rests k s = None
broken_by (Breaks rule) k s = Some rule
broken_by (Wants d) k s = breaks d k s

-- a byte of an element
abbrev pub CoversByte : Element → ℕ → Type 0
CoversByte e a = (e.address ≤ a) × (a < e.address + e.size)

abbrev pub AnyCovers : List Element → ℕ → Type 0
AnyCovers [] a = ⊥
AnyCovers (e ∷ es) a = CoversByte e a ⊎ AnyCovers es a

abbrev pub LoadsByte : Want → ℕ → Type 0
LoadsByte (Wants (StartLoad es late)) a = AnyCovers es a
LoadsByte _ a = ⊥

abbrev pub StoresByte : Want → ℕ → Type 0
StoresByte (Wants (StartStore es late)) a = AnyCovers es a
StoresByte _ a = ⊥

-- these elements are one whole aligned word
abbrev pub IsOneWord : List Element → Type 0
IsOneWord [] = ⊥
IsOneWord (e ∷ []) = (e.size ≡ 4) × (e.address % 4 ≡ 0)
IsOneWord (e ∷ (f ∷ es)) = ⊥

abbrev pub first_address : List Element → ℕ
first_address [] = 0
first_address (e ∷ es) = e.address

-- in a section that changes a word, a transfer is of one word, and a store makes of the word in memory what the change makes of it; in
-- another section a transfer touches no shared byte
abbrev pub KeepsApart : Sharing → Want → Solo → Option Change → Type 0
KeepsApart x (Wants (StartLoad es late)) s (Some c) = IsOneWord es
KeepsApart x (Wants (StartStore es late)) s (Some c) =
    IsOneWord es × (number_at 4 (store_all es s.shared.vpm s.memory) (first_address es) ≡ changed c (number_at 4 s.memory (first_address es)))
KeepsApart x w s (Some c) = ⊤
KeepsApart x w s None = (a : ℕ) → LoadsByte w a ⊎ StoresByte w a → x.is_shared a ≡ false

-- the next word breaks no rule and comes in turn, and a QPU that has ended doesn't own the mutex
pub record IsFine (x : Sharing) (k : ℕ) (w : Want) (s : Solo) : Type 0 where
  pub unbroken : broken_by w k s.shared ≡ None
  pub in_turn : IsInTurn w s.due
  pub freed : w ≡ Rests → s.shared.owner ≡ None
  pub apart : KeepsApart x w s s.change

-- the value that a word writes to a setup
abbrev pub setup_by : Site → Form → Qpu → Option Access → Option ℕ
setup_by g f q (Some ReadSet) = Some (lane (words_out g f q) 0)
setup_by g f q (Some WriteSet) = Some (lane (words_out g f q) 0)
setup_by g f q _ = None

abbrev pub setup_at : Site → Option Form → Qpu → Option ℕ
setup_at g None q = None
setup_at g (Some f) q = setup_by g f q (access_of f)

-- the same of the next word: none where the QPU has ended
unfoldable pub setup_value : List ℕ → Site → Qpu → Option ℕ
setup_value code g q = if q.flow.ended then None else setup_at g (fetched code q.flow.place) q

-- the solo run under two contents: the same places, setup values, elements of transfers and changes, and but for the shared bytes the same
-- memory
pub record AreAlike (x : Sharing) (code : List ℕ) (g : Site) (s t : Solo) : Type 0 where
  pub place : s.qpu.flow.place ≡ t.qpu.flow.place
  pub setup : setup_value code g s.qpu ≡ setup_value code g t.qpu
  pub deed : deed (want code g s.qpu) ≡ deed (want code g t.qpu)
  pub memory : (a : ℕ) → x.is_shared a ≡ false → get_or s.memory a 0 ≡ get_or t.memory a 0
  pub change : s.change ≡ t.change

-- the solo run from this state is clean: for all contents it breaks no rule, and it does the same; and it ends
pub record IsClean (x : Sharing) (code : List ℕ) (g : Site) (start : Solo) : Type 0 where
  pub fine : (vs : List Given) → AreGiven (length start.memory) vs → IsFine x g.number (want code g (solo x code g start vs).qpu) (solo x code g start vs)
  pub alike : (us vs : List Given) → AreGiven (length start.memory) us → AreGiven (length start.memory) vs → length us ≡ length vs
      → AreAlike x code g (solo x code g start us) (solo x code g start vs)
  pub ends : (vs : List Given) × AreGiven (length start.memory) vs × (want code g (solo x code g start vs).qpu ≡ Rests)

-- the solo run of QPU k from an opening is clean
abbrev pub IsCleanRun : Sharing → MachineState → ℕ → Type 0
IsCleanRun x w k = IfSome (slice_get w.qpus k) (λ q. IsClean x w.fixed.code (site_of w.fixed k) (alone w q))

-- ---- the bytes that its transfers read and write, and those that its sections change

pub record Reads (x : Sharing) (code : List ℕ) (g : Site) (start : Solo) (a : ℕ) : Type 0 where
  pub contents : List Given
  pub valid : AreGiven (length start.memory) contents
  pub plain : (solo x code g start contents).change ≡ None
  pub here : LoadsByte (want code g (solo x code g start contents).qpu) a

pub record Writes (x : Sharing) (code : List ℕ) (g : Site) (start : Solo) (a : ℕ) : Type 0 where
  pub contents : List Given
  pub valid : AreGiven (length start.memory) contents
  pub plain : (solo x code g start contents).change ≡ None
  pub here : StoresByte (want code g (solo x code g start contents).qpu) a

pub record Changes (x : Sharing) (code : List ℕ) (g : Site) (start : Solo) (a : ℕ) (c : Change) : Type 0 where
  pub contents : List Given
  pub valid : AreGiven (length start.memory) contents
  pub change : (solo x code g start contents).change ≡ Some c
  pub here : LoadsByte (want code g (solo x code g start contents).qpu) a ⊎ StoresByte (want code g (solo x code g start contents).qpu) a

abbrev pub Sets : Sharing → List ℕ → Site → Solo → ℕ → Type 0
Sets x code g start a = Writes x code g start a ⊎ ((c : Change) × Changes x code g start a c)

abbrev pub Touches : Sharing → List ℕ → Site → Solo → ℕ → Type 0
Touches x code g start a = Reads x code g start a ⊎ Sets x code g start a

-- the footprint of a solo run, as sets of addresses
pub record Footprint : Type 1 where
  pub reads : ℕ → Type 0
  pub writes : ℕ → Type 0
  pub changes : ℕ → Change → Type 0

unfoldable pub footprint : Sharing → List ℕ → Site → Solo → Footprint
footprint x code g start = record { reads = Reads x code g start; writes = Writes x code g start; changes = Changes x code g start }

-- ---- what a QPU does in the machine's run

-- one word of it more
abbrev pub noted : MachineState → ℕ → Option Qpu → List Note → List Note
noted s k None notes = notes
noted s k (Some q) notes = record { place = q.flow.place; deed = deed (want s.fixed.code (site_of s.fixed k) q) } ∷ notes

-- after a step, if it does a word of QPU k
abbrev pub notes_after : ℕ → MachineState → Step → List Note → List Note
notes_after k s (Issue j) notes = if (j == k) && is_effective (happens s (Issue j)).effect then noted s k (slice_get s.qpus k) notes else notes
notes_after k s (Load i) notes = notes
notes_after k s (Store i) notes = notes

-- the words that QPU k does in a run, the last one first, before those that it had done
unfoldable pub run_notes : ℕ → List Step → MachineState → List Note → List Note
run_notes k [] s notes = notes
run_notes k (step ∷ steps) s notes = run_notes k steps (happens s step).state (notes_after k s step notes)
