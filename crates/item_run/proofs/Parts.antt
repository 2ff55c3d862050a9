-- What the answers of parts say of the whole.
use Rattle.std.proofs.Common.{◌≡◌, ℕ, zero, suc, ◌+◌, ◌<◌, ◌≤◌, Bool, true, false, Option, Some, None, Result, Ok, Err, refl, sym, ap, ◌∙◌, subst, arith}
use Rattle.std.specs.Result.{IsErrAnd}
use Rattle.item_meaning.specs.declared.values.Value.{Value}
use Rattle.item_meaning.specs.declared.values.Value.TheVariants.{Num, Null, At}
use Rattle.item_meaning.specs.ItemState.{State, Run, Goes, Bounds, Spent, then_do, after_turn, node, nodes, by_truth}
use Rattle.item_values.specs.declared.stop.Stop.{Stop}
use Rattle.item_values.specs.declared.stop.Stop.TheVariants as st
use Rattle.item_values.specs.Answers.{StopsSo, Stops, Gives}
use Rattle.item_run.specs.Settings.{truth_in}

-- after a part that goes on
pub goes : {A B : Type 0} {r : Run A} {a : A} {t : State} (go : A → State → Run B) → r ≡ Goes a t → then_do r go ≡ go a t
goes go h = ap (λ z. then_do z go) h

stops_so : {A B : Type 0} (r : Run A) (e : Stop) (go : A → State → Run B) → StopsSo r e → StopsSo (then_do r go) e
stops_so r (st.Bounds at) go h = ap (λ z. then_do z go) h
stops_so r st.Spent go h = ap (λ z. then_do z go) h
stops_so r st.Memory go h = tt

-- what ends a part ends the whole
pub stops : {A B : Type 0} {r : Run A} {e : Stop} (go : A → State → Run B) → Stops r e → Stops (then_do r go) e
stops {r = r} {e = e} go h = record { is = stops_so r e go h.is }

along_so : {A : Type 0} (r q : Run A) (e : Stop) → r ≡ q → StopsSo q e → StopsSo r e
along_so r q (st.Bounds at) p h = p ∙ h
along_so r q st.Spent p h = p ∙ h
along_so r q st.Memory p h = tt

pub along : {A : Type 0} {r q : Run A} {e : Stop} → r ≡ q → Stops q e → Stops r e
along {r = r} {q = q} {e = e} p h = record { is = along_so r q e p h.is }

-- an answer along an equation of the meaning
pub same : {A : Type 0} (r q : Run A) (x : Result A Stop) (t : State) → r ≡ q → Gives q x t → Gives r x t
same r q (Ok a) t p h = p ∙ h
same r q (Err e) t p h = along p h

-- an error that is handed on
pub handed : {A : Type 0} (r : Run A) (x : Result A Stop) (e : Stop) (t : State) → IsErrAnd x (λ y. y ≡ e) → Stops r e → Gives r x t
handed r (Ok a) e t h g = absurd h
handed r (Err y) e t h g = subst (λ z. Stops r z) (sym h) g

spent_so : {A : Type 0} (r : Run A) (e : Stop) → r ≡ Spent → e ≡ st.Spent → Stops r e
spent_so r e h p = subst (λ z. Stops r z) (sym p) (record { is = h })

-- a turn was taken, or none is left
pub turned : {B : Type 0} (s t : State) (go : State → Run B) → (s.left ≡ suc t.left) × (t ≡ record s { left = t.left }) → node s go ≡ go t
turned s t go h = ap (λ n. after_turn n s go) h.0 ∙ ap go (sym h.1)

pub no_turn : {B : Type 0} (s : State) (e : Stop) (go : State → Run B) → (s.left ≡ 0) × (e ≡ st.Spent) → Stops (node s go) e
no_turn s e go h = spent_so (node s go) e (ap (λ n. after_turn n s go) h.0) h.1

-- several turns
nodes_taken : {B : Type 0} (n : ℕ) (s t : State) (go : State → Run B) → s.left ≡ n + t.left → t ≡ record s { left = t.left } → nodes n s go ≡ go t
nodes_taken zero s t go e h = let q : s.left ≡ t.left = omega (arith, e) in ap go (ap (λ k. record s { left = k }) q ∙ sym h)
nodes_taken (suc n) s t go e h =
    let q : s.left ≡ suc (n + t.left) = omega (arith, e) in
    ap (λ k. after_turn k s (λ u. nodes n u go)) q ∙ nodes_taken n (record s { left = n + t.left }) t go refl h

missing : {B : Type 0} (n k : ℕ) (s : State) (go : State → Run B) → ((u : State) → u.left < n → nodes n u go ≡ Spent) → k < suc n → after_turn k s (λ u. nodes n u go) ≡ Spent
missing n zero s go h l = refl
missing n (suc k) s go h l = h (record s { left = k }) (omega arith)

nodes_missing : {B : Type 0} (n : ℕ) (s : State) (go : State → Run B) → s.left < n → nodes n s go ≡ Spent
nodes_missing zero s go h = absurd (omega arith)
nodes_missing (suc n) s go h = missing n s.left s go (λ u l. nodes_missing n u go l) h

pub all_turned : {B : Type 0} (n : ℕ) (s t : State) (go : State → Run B) → (s.left ≡ n + t.left) × (t ≡ record s { left = t.left }) → nodes n s go ≡ go t
all_turned n s t go h = nodes_taken n s t go h.0 h.1

pub too_few_turns : {B : Type 0} (n : ℕ) (s : State) (e : Stop) (go : State → Run B) → (s.left < n) × (e ≡ st.Spent) → Stops (nodes n s go) e
too_few_turns n s e go h = spent_so (nodes n s go) e (nodes_missing n s go h.0) h.1

-- a number's truth
pub by_true : {A : Type 0} (v : Value) (p q : Run A) → truth_in v ≡ Some true → by_truth v p q ≡ p
by_true (Num zero) p q h = absurd (cc)
by_true (Num (suc n)) p q h = refl
by_true Null p q h = absurd (cc)
by_true (At k o) p q h = absurd (cc)

pub by_false : {A : Type 0} (v : Value) (p q : Run A) → truth_in v ≡ Some false → by_truth v p q ≡ q
by_false (Num zero) p q h = refl
by_false (Num (suc n)) p q h = absurd (cc)
by_false Null p q h = absurd (cc)
by_false (At k o) p q h = absurd (cc)

no_truth : {A : Type 0} (v : Value) (p q : Run A) → truth_in v ≡ None → by_truth v p q ≡ Spent
no_truth (Num zero) p q h = absurd (cc)
no_truth (Num (suc n)) p q h = absurd (cc)
no_truth Null p q h = refl
no_truth (At k o) p q h = refl

pub by_none : {A : Type 0} (v : Value) (e : Stop) (p q : Run A) → (truth_in v ≡ None) × (e ≡ st.Spent) → Stops (by_truth v p q) e
by_none v e p q h = spent_so (by_truth v p q) e (no_truth v p q h.0) h.1

-- want of memory says nothing
pub forgotten : {A : Type 0} (r : Run A) (e : Stop) → e ≡ st.Memory → Stops r e
forgotten r e p = subst (λ z. Stops r z) (sym p) (record { is = tt })
