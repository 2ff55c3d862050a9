-- The lines of the QPUs, one after another.
use Rattle.std.proofs.Common.{◌≡◌, ℕ, ◌+◌, ◌<◌, ◌≤◌, List, [], ◌∷◌, ◌++◌, length, drop, ap, sym, ◌∙◌, refl, arith, suc, zero, add-one, subst}
use Rattle.std.specs.Prelude.{Option, Some, None, option_map, IfSome, slice_get}
use Rattle.std.proofs.lemmas.List.{append-nil, drop_all}
use Rattle.q_io.specs.declared.Put.{Put}
use Rattle.q_io.specs.declared.Put.TheVariants.{Done}
use Rattle.q_io.specs.SinkMeaning.{SinkState, SinkCountsStay, Gains, PutsAll}
use Rattle.qpu_machine.specs.declared.state.Qpu.{Qpu}
use Rattle.qpu_machine.specs.declared.state.QpuView.{QpuView}
use Rattle.qpu_machine.specs.MachineState.{view_of}
use Rattle.q_io.proofs.Steps.{puts_then, puts_more}
use Rattle.commands.specs.Report.{qpu_lines, all_qpu_lines}

-- the lines from QPU k on are those of QPU k and then the later ones
lines_from : (qpus : List Qpu) (k n : ℕ) (view : QpuView) → k < length qpus → IfSome (slice_get qpus k) (λ q. view ≡ view_of q)
    → all_qpu_lines n (drop k qpus) ≡ qpu_lines n view ++ all_qpu_lines (n + 1) (drop (suc k) qpus)
unfolding all_qpu_lines
lines_from [] k n view within is = absurd (omega arith)
lines_from (q ∷ qpus) zero n view within is = ap (λ v. qpu_lines n v ++ all_qpu_lines (n + 1) qpus) (sym is)
lines_from (q ∷ qpus) (suc k) n view within is = lines_from qpus k n view (omega arith) is

pub lines_at : (qpus : List Qpu) (k : ℕ) (view : QpuView) → k < length qpus → IfSome (slice_get qpus k) (λ q. view ≡ view_of q)
    → all_qpu_lines k (drop k qpus) ≡ qpu_lines k view ++ all_qpu_lines (k + 1) (drop (k + 1) qpus)
lines_at qpus k view within is = lines_from qpus k k view within is ∙ ap (λ n. qpu_lines k view ++ all_qpu_lines (k + 1) (drop n qpus)) (sym (add-one k))

pub no_lines : (qpus : List Qpu) (k : ℕ) → length qpus ≤ k → all_qpu_lines k (drop k qpus) ≡ []
unfolding all_qpu_lines
no_lines qpus k past = ap (all_qpu_lines k) (drop_all k qpus past)

nothing_more : (told : Option (List ℕ)) → told ≡ option_map (λ taken. taken ++ []) told
nothing_more None = refl
nothing_more (Some taken) = ap Some (sym (append-nil taken))

-- nothing is left to put
pub puts_none : (now : SinkState) (piece : List ℕ) → piece ≡ [] → PutsAll now now piece Done
puts_none now piece none = subst (λ p. Gains now now p) (sym none) (record { told = nothing_more now.told })

-- the lines of QPU k were put, and then the later ones
pub puts_next : (before mid now : SinkState) (qpus : List Qpu) (k : ℕ) (view : QpuView) (put : Put)
    → k < length qpus → IfSome (slice_get qpus k) (λ q. view ≡ view_of q)
    → SinkCountsStay before mid → Gains before mid (qpu_lines k view)
    → PutsAll mid now (all_qpu_lines (k + 1) (drop (k + 1) qpus)) put → PutsAll before now (all_qpu_lines k (drop k qpus)) put
puts_next before mid now qpus k view put within is counts first rest =
    rw (lines_at qpus k view within is) (puts_then before mid now (qpu_lines k view) _ put counts first rest)

-- the lines of QPU k were not all put
pub puts_stopped : (before now : SinkState) (qpus : List Qpu) (k : ℕ) (view : QpuView) (put : Put)
    → k < length qpus → IfSome (slice_get qpus k) (λ q. view ≡ view_of q)
    → (put ≡ Done → ⊥) → PutsAll before now (qpu_lines k view) put → PutsAll before now (all_qpu_lines k (drop k qpus)) put
puts_stopped before now qpus k view put within is not_done h =
    rw (lines_at qpus k view within is) (puts_more before now (qpu_lines k view) _ put not_done h)
