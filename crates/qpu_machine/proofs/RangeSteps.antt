-- One issue and one move leave all in range.
use Rattle.std.proofs.Common.{arith, ◌≡◌, ℕ, ◌-◌, ◌%◌, ◌^◌, ◌<◌, ◌≤◌, Bool, true, false, List, length, refl}
use Rattle.std.specs.Prelude.{Option, Some, None, IfSome, slice_get}
use Rattle.q_lane.specs.Vectors.{lane}
use Rattle.qpu_encode.specs.declared.form.Form.{Form}
use Rattle.qpu_encode.specs.WordFields.{is_in_profile}
use Rattle.qpu_rules.specs.Restrictions.{least_rule}
use Rattle.qpu_rules.specs.Uses.{access_of}
use Rattle.vpm_words.specs.Access.{Site, row_of, seen, demand, is_busy}
use Rattle.vpm_words.specs.Elements.{is_element}
use Rattle.vpm_words.specs.Rules.{is_waiting}
use Rattle.vpm_words.specs.declared.state.Access.{Access}
use Rattle.vpm_words.specs.declared.state.Access.TheVariants.{Uniform, ReadVpm, WriteVpm, ReadSet, WriteSet, LoadAddr, StoreAddr, WaitLoad, WaitStore, Lock, Unlock}
use Rattle.vpm_words.specs.declared.state.Element.{Element}
use Rattle.vpm_words.specs.declared.state.Rule.{Rule}
use Rattle.vpm_words.specs.declared.state.Shared.{Shared}
use Rattle.qpu_machine.specs.declared.registers.Results.{Results}
use Rattle.qpu_machine.specs.declared.state.Effect.TheVariants as effect
use Rattle.qpu_machine.specs.declared.state.Qpu.{Qpu}
use Rattle.qpu_machine.specs.declared.state.Counts.{Counts}
use Rattle.qpu_machine.specs.Operations.{outgoing}
use Rattle.qpu_machine.specs.IssueStep.{fetched, recent, given, seen_by, loads_after, stores_after, counts_after, shared_after, Local, idle, done, judged, tried, attempted, local}
use Rattle.qpu_machine.specs.MoveStep.{Moved, unmoved, one_moved, loaded, load_move, stored, store_move}
use Rattle.qpu_machine.specs.Reachable.{AreWords, IsQpu, IsShared, AreCounts}
use Rattle.qpu_machine.proofs.RangeRegs.{chosen, AreResults, outgoing-vector}
use Rattle.qpu_machine.proofs.RangeQpu.{fetched-profile, one_more-below, uniform-left, none-early, taken-below, given-are, qpu-keeps}
use Rattle.qpu_machine.proofs.RangeShared.{rest-are, load-keeps, IsMemory, store-keeps, IsDemand, demand-is, share-keeps}

-- ---- an issue

-- a QPU's number and uniforms, among so many QPUs
pub record IsSite (qpus : ℕ) (g : Site) : Type 0 where
  pub words : AreWords g.uniforms
  pub number : g.number < qpus
  pub few : qpus ≤ 12

pub site-number : (qpus : ℕ) (g : Site) → IsSite qpus g → g.number < 2 ^ 32
site-number qpus g h = let n = h.number in let few = h.few in omega (arith, n, few)

pub record IsLocal (uniforms qpus : ℕ) (l : Local) : Type 0 where
  pub qpu : IsQpu uniforms l.qpu
  pub shared : IsShared qpus l.shared
  pub counts : AreCounts l.counts

loads-below : (a : Option Access) (count : ℕ) → count < 2 ^ 64 → loads_after a count < 2 ^ 64
loads-below None count h = h
loads-below (Some Uniform) count h = h
loads-below (Some ReadVpm) count h = h
loads-below (Some WriteVpm) count h = h
loads-below (Some ReadSet) count h = h
loads-below (Some WriteSet) count h = h
loads-below (Some LoadAddr) count h = one_more-below count
loads-below (Some StoreAddr) count h = h
loads-below (Some WaitLoad) count h = h
loads-below (Some WaitStore) count h = h
loads-below (Some Lock) count h = h
loads-below (Some Unlock) count h = h

stores-below : (a : Option Access) (count : ℕ) → count < 2 ^ 64 → stores_after a count < 2 ^ 64
stores-below None count h = h
stores-below (Some Uniform) count h = h
stores-below (Some ReadVpm) count h = h
stores-below (Some WriteVpm) count h = h
stores-below (Some ReadSet) count h = h
stores-below (Some WriteSet) count h = h
stores-below (Some LoadAddr) count h = h
stores-below (Some StoreAddr) count h = one_more-below count
stores-below (Some WaitLoad) count h = h
stores-below (Some WaitStore) count h = h
stores-below (Some Lock) count h = h
stores-below (Some Unlock) count h = h

counts-keep : (a : Option Access) (c : Counts) → AreCounts c → AreCounts (counts_after a c)
unfolding counts_after
counts-keep a c h = record { issued = one_more-below c.issued; moved = h.moved; loads = loads-below a c.loads h.loads; stores = stores-below a c.stores h.stores }

-- what a word demands is in range
pub wants-is : (uniforms : ℕ) (g : Site) (f : Form) (q : Qpu) (r : Results) → IsQpu uniforms q → AreResults r
    → IsDemand (demand g q.ports (access_of f) (lane (outgoing f r) 0) (outgoing f r))
wants-is uniforms g f q r h v =
    let out = outgoing-vector f r v in
    demand-is uniforms g q.ports (access_of f) (lane (outgoing f r) 0) (outgoing f r) h.ports (out.words 0) out

done-keeps : (qpus : ℕ) (g : Site) (f : Form) (q : Qpu) (s : Shared) (c : Counts) (r : Results) → IsSite qpus g → IsQpu (length g.uniforms) q → IsShared qpus s → AreCounts c → AreResults r
    → least_rule f (recent q) (seen_by g f q s r) ≡ None → IsLocal (length g.uniforms) qpus (done g f q s c r)
unfolding done shared_after seen_by seen
done-keeps qpus g f q s c r i h t n v e =
    record {
      qpu = qpu-keeps (length g.uniforms) f q r h v (λ a. taken-below q.ports.taken (length g.uniforms) (uniform-left f (recent q) (length g.uniforms - q.ports.taken) (none-early f (recent q) (seen_by g f q s r) e) a));
      shared = share-keeps qpus (demand g q.ports (access_of f) (lane (outgoing f r) 0) (outgoing f r)) g.number s i.number (wants-is (length g.uniforms) g f q r h v) t;
      counts = counts-keep (access_of f) c n;
    }

judged-keeps : (uniforms qpus : ℕ) (rule : Option Rule) (waits : Bool) (k : ℕ) (q : Qpu) (s : Shared) (c : Counts) (after : Local)
    → IsQpu uniforms q → IsShared qpus s → AreCounts c → (rule ≡ None → IsLocal uniforms qpus after) → IsLocal uniforms qpus (judged rule waits k q s c after)
judged-keeps uniforms qpus (Some rule) waits k q s c after h t n d = record { qpu = h; shared = t; counts = n }
judged-keeps uniforms qpus None true k q s c after h t n d = record { qpu = h; shared = t; counts = n }
judged-keeps uniforms qpus None false k q s c after h t n d = d refl

tried-keeps : (qpus : ℕ) (g : Site) (f : Form) (q : Qpu) (s : Shared) (c : Counts) (r : Results) → IsSite qpus g → IsQpu (length g.uniforms) q → IsShared qpus s → AreCounts c → AreResults r
    → IsLocal (length g.uniforms) qpus (tried g f q s c r)
unfolding tried
tried-keeps qpus g f q s c r i h t n v =
    judged-keeps (length g.uniforms) qpus (least_rule f (recent q) (seen_by g f q s r)) (is_waiting (access_of f) (seen_by g f q s r)) g.number q s c (done g f q s c r) h t n
    (λ e. done-keeps qpus g f q s c r i h t n v e)

attempted-keeps : (qpus : ℕ) (g : Site) (o : Option Form) (q : Qpu) (s : Shared) (c : Counts) → ((f : Form) → o ≡ Some f → is_in_profile f ≡ true)
    → IsSite qpus g → IsQpu (length g.uniforms) q → IsShared qpus s → AreCounts c → IsLocal (length g.uniforms) qpus (attempted g o q s c)
unfolding attempted
attempted-keeps qpus g None q s c p i h t n = record { qpu = h; shared = t; counts = n }
attempted-keeps qpus g (Some f) q s c p i h t n =
    tried-keeps qpus g f q s c (given g f q (row_of q.ports s.vpm)) i h t n
    (given-are (length g.uniforms) g f q (row_of q.ports s.vpm) (p f refl) i.words (site-number qpus g i) h (λ x. t.vpm.word q.ports.read_row x))

pub local-keeps : (qpus : ℕ) (code : List ℕ) (g : Site) (q : Qpu) (s : Shared) (c : Counts) → IsSite qpus g → IsQpu (length g.uniforms) q → IsShared qpus s → AreCounts c
    → IsLocal (length g.uniforms) qpus (local code g q s c)
unfolding local
local-keeps qpus code g q s c i h t n =
    chosen (IsLocal (length g.uniforms) qpus) q.flow.ended (idle q s c effect.Nothing) (attempted g (fetched code q.flow.place) q s c)
    (λ _. record { qpu = h; shared = t; counts = n })
    (λ _. attempted-keeps qpus g (fetched code q.flow.place) q s c (fetched-profile code q.flow.place) i h t n)

-- ---- a move

pub record IsMoved (qpus size : ℕ) (m : Moved) : Type 0 where
  pub shared : IsShared qpus m.shared
  pub counts : AreCounts m.counts
  pub memory : IsMemory size m.memory

one_moved-keeps : (c : Counts) → AreCounts c → AreCounts (one_moved c)
one_moved-keeps c h = record { issued = h.issued; moved = one_more-below c.moved; loads = h.loads; stores = h.stores }

loaded-keeps : (qpus size : ℕ) (s : Shared) (c : Counts) (memory : List ℕ) (j : ℕ) (o : Option Element) → IfSome o (λ e. is_element e ≡ true) → IsShared qpus s → AreCounts c → IsMemory size memory
    → IsMoved qpus size (loaded s c memory j o)
loaded-keeps qpus size s c memory j None e h n m = record { shared = h; counts = n; memory = m }
loaded-keeps qpus size s c memory j (Some x) e h n m =
    record {
      shared = record { vpm = load-keeps x memory s.vpm e m.bytes h.vpm; owner = h.owner; loads = rest-are s.loads j h.loads; stores = h.stores };
      counts = one_moved-keeps c n;
      memory = m;
    }

pub load_move-keeps : (qpus size : ℕ) (s : Shared) (c : Counts) (memory : List ℕ) (i : ℕ) → IsShared qpus s → AreCounts c → IsMemory size memory → IsMoved qpus size (load_move s c memory i)
unfolding load_move
load_move-keeps qpus size s c memory i h n m =
    let j : ℕ = i % length s.loads in
    chosen (IsMoved qpus size) (is_busy s.loads) (loaded s c memory j (slice_get s.loads j)) (unmoved s c memory)
    (λ _. loaded-keeps qpus size s c memory j (slice_get s.loads j) (h.loads j) h n m)
    (λ _. record { shared = h; counts = n; memory = m })

stored-keeps : (qpus size : ℕ) (s : Shared) (c : Counts) (memory : List ℕ) (j : ℕ) (o : Option Element) → IsShared qpus s → AreCounts c → IsMemory size memory
    → IsMoved qpus size (stored s c memory j o)
stored-keeps qpus size s c memory j None h n m = record { shared = h; counts = n; memory = m }
stored-keeps qpus size s c memory j (Some x) h n m =
    record {
      shared = record { vpm = h.vpm; owner = h.owner; loads = h.loads; stores = rest-are s.stores j h.stores };
      counts = one_moved-keeps c n;
      memory = store-keeps size x s.vpm memory m;
    }

pub store_move-keeps : (qpus size : ℕ) (s : Shared) (c : Counts) (memory : List ℕ) (i : ℕ) → IsShared qpus s → AreCounts c → IsMemory size memory → IsMoved qpus size (store_move s c memory i)
unfolding store_move
store_move-keeps qpus size s c memory i h n m =
    let j : ℕ = i % length s.stores in
    chosen (IsMoved qpus size) (is_busy s.stores) (stored s c memory j (slice_get s.stores j)) (unmoved s c memory)
    (λ _. stored-keeps qpus size s c memory j (slice_get s.stores j) h n m)
    (λ _. record { shared = h; counts = n; memory = m })
