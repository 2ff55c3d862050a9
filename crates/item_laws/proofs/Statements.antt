-- Statements and lists of them are local.
use Rattle.std.proofs.Common.{ℕ, zero, suc, List, [], ◌∷◌, refl, arith}
use Rattle.item_ir.specs.IrMeaning.{World, State, Next, Broke, Again, Gone, Run, Ends, plainly_then, after_body, after_round, at_zero, with_var, cleared, rounds, run, run_row, run_all}
use Rattle.item_ir.specs.declared.form.Stmt.{Stmt, Row_of-Stmt, end_of-Stmt, more_of-Stmt}
use Rattle.item_ir.specs.declared.form.Stmt.TheVariants.{Let, Set, Store, SetElement, Clear, If', Loop', Scope', Leave, Break, Continue}
use Rattle.item_laws.specs.Locality.{RunsAreLocal}
use Rattle.item_laws.proofs.Runs.{Local, ended, quiet, spent, depending, ends, and_then_local, plainly_then_local, after_body_local, left_scope_local, after_round_local}
use Rattle.item_laws.proofs.Accesses.{defines_local, stores_local, sets_local}

module _ (w : World) where
  zero_local : (n : ℕ) (go other : State → Run) → Local w go → Local w other → Local w (λ s. at_zero n (go s) (other s))
  zero_local zero go other h k = h
  zero_local (suc n) go other h k = k

  choice_local : (c : ℕ) (go other : State → Run) → Local w go → Local w other → Local w (λ s. at_zero (s.vals c) (go s) (other s))
  choice_local c go other h k = depending w (λ s. s.vals c) (λ n s. at_zero n (go s) (other s)) (λ s m. refl) (λ n. zero_local n go other h k)

  rounds_local : (n : ℕ) (head : State → Run) (c : ℕ) (body step : State → Run) → Local w head → Local w body → Local w step → Local w (rounds n head c body step)
  rounds_local zero head c body step h b t = spent w
  rounds_local (suc n) head c body step h b t = round_local head c body step (rounds n head c body step) h b t (rounds_local n head c body step h b t)
    where
      round_local : (head : State → Run) (c : ℕ) (body step others : State → Run) → Local w head → Local w body → Local w step → Local w others
          → Local w (λ s. plainly_then (head s) (λ t. at_zero (t.vals c) (Ends Next t) (after_round t.left t (λ u. after_body (body u) (λ x. plainly_then (step x) others)))))
      round_local head c body step others h b t o =
          plainly_then_local w head (λ s. at_zero (s.vals c) (Ends Next s) (after_round s.left s (λ u. after_body (body u) (λ x. plainly_then (step x) others)))) h
          (choice_local c (λ s. Ends Next s) (λ s. after_round s.left s (λ u. after_body (body u) (λ x. plainly_then (step x) others))) (ends w Next)
          (after_round_local w (λ u. after_body (body u) (λ x. plainly_then (step x) others))
          (after_body_local w body (λ x. plainly_then (step x) others) b (plainly_then_local w step others t o))))

  mutual
    pub run_local : (a : Stmt) → Local w (run w a)
    run_local (Let v e) = defines_local w v.0 e
    run_local (Set v x) = quiet w Next (λ s. with_var v (s.vals x.0) s) (λ s. refl) (λ s. refl) (λ s. omega arith) (λ s m. refl)
    run_local (Store t a x) = stores_local w t a.0 x.0
    run_local (SetElement a i x) = sets_local w a i.0 x.0
    run_local (Clear a) = quiet w Next (λ s. cleared a s) (λ s. refl) (λ s. refl) (λ s. omega arith) (λ s m. refl)
    run_local (If' c k a l b) = choice_local c.0 (run_row w b) (run_row w a) (row_local b) (row_local a)
    run_local (Loop' h head c b body t step) =
        depending w (λ s. s.left) (λ n. rounds (suc n) (run_row w head) c.0 (run_row w body) (run_row w step)) (λ s m. refl)
        (λ n. rounds_local (suc n) (run_row w head) c.0 (run_row w body) (run_row w step) (row_local head) (row_local body) (row_local step))
    run_local (Scope' k body) = left_scope_local w (run_row w body) (row_local body)
    run_local Leave = ends w Gone
    run_local Break = ends w Broke
    run_local Continue = ends w Again

    pub row_local : {n : _} (r : Row_of-Stmt n) → Local w (run_row w r)
    row_local end_of-Stmt = ends w Next
    row_local (more_of-Stmt a rest) = and_then_local w (run w a) (run_row w rest) (run_local a) (row_local rest)

  pub all_local : (l : List Stmt) → Local w (run_all w l)
  all_local [] = ends w Next
  all_local (a ∷ rest) = and_then_local w (run w a) (run_all w rest) (run_local a) (all_local rest)

pub runs_local : RunsAreLocal
runs_local w body s f t e = ended w (run_all w body) (all_local w body) s f t e
