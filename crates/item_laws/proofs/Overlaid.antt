-- The memory of a rerun, written out.
use Rattle.std.proofs.Common.{◌≡◌, ℕ, List, ◌++◌, inl, inr, sym, ap, ◌∙◌}
use Rattle.std.specs.Prelude.{if◌then◌else◌}
use Rattle.std.proofs.Math.Path.{fun_ext}
use Rattle.std.proofs.lemmas.Bool.{cases_Bool}
use Rattle.std.proofs.lemmas.List.{append_cancel_right}
use Rattle.item_ir.specs.IrMeaning.{World, Touch, State, Flow, Run, Ends, run_all}
use Rattle.item_laws.specs.Locality.{writes, uses, IsSame, IsRerun, IsLocal, overlaid, RerunsAreOverlaid}
use Rattle.item_laws.proofs.Statements.{runs_local}

rerun_memory : (go : State → Run) (f : Flow) (s t : State) (new : List Touch) (other : ℕ → ℕ) (r : IsRerun go f s t new other) → r.mem ≡ overlaid new t.mem other
rerun_memory go f s t new other r = fun_ext byte
  where
    byte : (a : ℕ) → r.mem a ≡ overlaid new t.mem other a
    byte a =
        elim (cases_Bool (writes new a)) [
          | inl y ↦ r.written a y ∙ sym (ap (λ b. if b then t.mem a else other a) y)
          | inr n ↦ r.rest a n ∙ sym (ap (λ b. if b then t.mem a else other a) n)
        ]

pub rerun_overlaid : (go : State → Run) (f : Flow) (s t : State) (new : List Touch) (other : ℕ → ℕ) → IsRerun go f s t new other
    → go (record s { mem = other }) ≡ Ends f (record t { mem = overlaid new t.mem other })
rerun_overlaid go f s t new other r = r.ends ∙ ap (λ m. Ends f (record t { mem = m })) (rerun_memory go f s t new other r)

pub local_overlaid : (w : World) (go : State → Run) (f : Flow) (s t : State) (new : List Touch) (other : ℕ → ℕ) → IsLocal w go f s t → t.touches ≡ new ++ s.touches → IsSame new s.mem other
    → go (record s { mem = other }) ≡ Ends f (record t { mem = overlaid new t.mem other })
local_overlaid w go f s t new other h e same =
    let one : h.new ≡ new = append_cancel_right h.new new s.touches (sym h.kept.touches ∙ e) in
    rerun_overlaid go f s t h.new other (h.again other (λ a q. same a (ap (λ l. uses l a) (sym one) ∙ q))) ∙ ap (λ l. Ends f (record t { mem = overlaid l t.mem other })) one

pub reruns_overlaid : RerunsAreOverlaid
reruns_overlaid w body s f t new other ends touches same = local_overlaid w (run_all w body) f s t new other (runs_local w body s f t ends) touches same
