-- Every word of a solo run leaves it in range, whatever contents its acquires find.
use Rattle.std.proofs.Common.{arith, ◌≡◌, ℕ, ◌-◌, true, List, [], ◌∷◌, length, refl}
use Rattle.std.specs.Prelude.{Option, Some, None, ⊤}
use Rattle.q_lane.specs.Vectors.{lane}
use Rattle.qpu_encode.specs.declared.form.Form.{Form}
use Rattle.qpu_encode.specs.WordFields.{is_in_profile}
use Rattle.qpu_rules.specs.Restrictions.{least_early}
use Rattle.qpu_rules.specs.Uses.{access_of}
use Rattle.vpm_words.specs.Access.{Site, Given, Demand, Private, Setup, Take, Give, ReadRow, WriteRow, StartLoad, StartStore, AwaitLoad, AwaitStore, demand, share}
use Rattle.vpm_words.specs.Laws.{IsVpm}
use Rattle.vpm_words.specs.declared.state.Rule.{Rule}
use Rattle.qpu_machine.specs.declared.state.Qpu.{Qpu}
use Rattle.qpu_machine.specs.IssueStep.{fetched, recent, given}
use Rattle.qpu_machine.specs.SoloRun.{Want, Rests, Breaks, Wants, or_breaks, words_out, wanted, want, done_by, done_alone, row_at, row_wanted, Sharing, Solo, does, alone_after, solo, AreGiven, IsGiven}
use Rattle.qpu_machine.specs.Laws.{IsSoloInRange, SoloInRange}
use Rattle.qpu_machine.specs.Reachable.{AreWords, IsQpu}
use Rattle.qpu_machine.proofs.RangeRegs.{chosen}
use Rattle.qpu_machine.proofs.RangeQpu.{fetched-profile, uniform-left, taken-below, given-are, qpu-keeps}
use Rattle.qpu_machine.proofs.RangeShared.{IsDemand, share-keeps, IsAlone, at_once-keeps}
use Rattle.qpu_machine.proofs.RangeSteps.{IsSite, site-number, wants-is}

-- ---- what a word wants is in range, and the QPU after it

-- of a word that is done: what it demands, and the QPU after it, whatever words are in the row that it reads
pub record IsStep (g : Site) (q : Qpu) (o : Option Form) (d : Demand) : Type 0 where
  pub demand : IsDemand d
  pub after : (row : List ℕ) → AreWords row → IsQpu (length g.uniforms) (done_by g o q row)

abbrev pub Steps : Site → Qpu → Option Form → Want → Type 0
Steps g q o Rests = ⊤
Steps g q o (Breaks rule) = ⊤
Steps g q o (Wants d) = IsStep g q o d

or_breaks-steps : (g : Site) (q : Qpu) (o : Option Form) (rule : Option Rule) (w : Want) → (rule ≡ None → Steps g q o w) → Steps g q o (or_breaks rule w)
or_breaks-steps g q o None w h = h refl
or_breaks-steps g q o (Some rule) w h = tt

no-words : AreWords []
no-words i = omega arith

wanted-steps : (qpus : ℕ) (g : Site) (q : Qpu) (o : Option Form) → ((f : Form) → o ≡ Some f → is_in_profile f ≡ true) → IsSite qpus g → IsQpu (length g.uniforms) q
    → Steps g q o (wanted g o q)
wanted-steps qpus g q None p i h = tt
wanted-steps qpus g q (Some f) p i h =
    or_breaks-steps g q (Some f) (least_early f (recent q) (length g.uniforms - q.ports.taken)) (Wants (demand g q.ports (access_of f) (lane (words_out g f q) 0) (words_out g f q)))
    (λ e. record {
      demand = wants-is (length g.uniforms) g f q (given g f q []) h (given-are (length g.uniforms) g f q [] (p f refl) i.words (site-number qpus g i) h no-words);
      after = λ row r. qpu-keeps (length g.uniforms) f q (given g f q row) h (given-are (length g.uniforms) g f q row (p f refl) i.words (site-number qpus g i) h r)
          (λ a. taken-below q.ports.taken (length g.uniforms) (uniform-left f (recent q) (length g.uniforms - q.ports.taken) e a));
    })

want-steps : (qpus : ℕ) (code : List ℕ) (g : Site) (q : Qpu) → IsSite qpus g → IsQpu (length g.uniforms) q → Steps g q (fetched code q.flow.place) (want code g q)
unfolding want
want-steps qpus code g q i h =
    chosen (Steps g q (fetched code q.flow.place)) q.flow.ended Rests (wanted g (fetched code q.flow.place) q) (λ _. tt)
    (λ _. wanted-steps qpus g q (fetched code q.flow.place) (fetched-profile code q.flow.place) i h)

row_at-words : (o : Option ℕ) (vpm : List (List ℕ)) → IsVpm vpm → AreWords (row_at o vpm)
row_at-words None vpm h i = omega arith
row_at-words (Some row) vpm h i = h.word row i

row-words : (d : Demand) (vpm : List (List ℕ)) → IsVpm vpm → AreWords (row_wanted (Wants d) vpm)
row-words (Private late) vpm h = no-words
row-words (Setup late) vpm h = no-words
row-words Take vpm h = no-words
row-words Give vpm h = no-words
row-words (ReadRow row late) vpm h = row_at-words row vpm h
row-words (WriteRow row words late) vpm h = no-words
row-words (StartLoad es late) vpm h = no-words
row-words (StartStore es late) vpm h = no-words
row-words AwaitLoad vpm h = no-words
row-words AwaitStore vpm h = no-words

-- ---- one word, and the run

does-keeps : (qpus size : ℕ) (x : Sharing) (code : List ℕ) (g : Site) (w : Want) (v : Given) (s : Solo) → IsSite qpus g → IsGiven size v
    → Steps g s.qpu (fetched code s.qpu.flow.place) w → IsSoloInRange qpus g size s → IsSoloInRange qpus g size (does x code g w v s)
unfolding done_alone
does-keeps qpus size x code g Rests v s i n p h = h
does-keeps qpus size x code g (Breaks rule) v s i n p h = h
does-keeps qpus size x code g (Wants d) v s i n p h =
    let after : IsAlone qpus size (alone_after x g.number d v s) =
    at_once-keeps qpus size x.is_shared d v (share d g.number s.shared) s.memory n.vpm n.bytes (share-keeps qpus d g.number s.shared i.number p.demand h.shared) (record { many = h.many; bytes = h.memory }) in
    record {
      qpu = p.after (row_wanted (Wants d) s.shared.vpm) (row-words d s.shared.vpm h.shared.vpm);
      shared = after.shared;
      memory = after.memory.bytes;
      many = after.memory.many;
    }

run-keeps : (qpus size : ℕ) (x : Sharing) (code : List ℕ) (g : Site) (start : Solo) (vs : List Given) → IsSite qpus g → AreGiven size vs → IsSoloInRange qpus g size start
    → IsSoloInRange qpus g size (solo x code g start vs)
unfolding solo
run-keeps qpus size x code g start [] i n h = h
run-keeps qpus size x code g start (v ∷ vs) i n h =
    let before : IsSoloInRange qpus g size (solo x code g start vs) = run-keeps qpus size x code g start vs i n.1 h in
    does-keeps qpus size x code g (want code g (solo x code g start vs).qpu) v (solo x code g start vs) i n.0
    (want-steps qpus code g (solo x code g start vs).qpu i before.qpu) before

pub solo_in_range : SoloInRange
solo_in_range qpus x code g start vs w few number n h = run-keeps qpus (length start.memory) x code g start vs (record { words = w; number = number; few = few }) n h
