-- Small pieces of code with loops.
use Rattle.std.proofs.Common.{◌≡◌, ℕ, suc, List, [], ◌∷◌, refl, ap}
use Rattle.q_lane.specs.Numbers.{applied}
use Rattle.q_functions.specs.declared.work.Work.{Work}
use Rattle.item_ir.specs.IrMeaning.{State, Run, and_then, at_zero, left_scope, rounds, run, run_all}
use Rattle.item_ir.specs.declared.form.Stmt.{Stmt}
use Rattle.item_ir.specs.declared.form.Stmt.TheVariants.{Set, If, Scope, Leave, Break, Continue}
use Rattle.item_laws.specs.Rows.{world, state, told, v, does, test, less, counting, endless, with_four, RoundsAreCounted, LoopsAreLeft, ChoicesAreThose}
use Rattle.item_laws.proofs.Forms.{Does, if_runs, loop_runs, first_runs, loop_does, scope_does}

-- what is told of a statement in a state, where it does this
by : (work : Work) (a : Stmt) (rest : List Stmt) (vals vars : List ℕ) (f : State → Run) → run (world work) a ≡ f
    → told (does work (a ∷ rest) vals vars) ≡ told (and_then (f (state vals vars 5)) (run_all (world work) rest))
by work a rest vals vars f e = ap (λ (g : State → Run). told (and_then (g (state vals vars 5)) (run_all (world work) rest))) e

pub counted : RoundsAreCounted
unfolding applied
counted work =
    let w = world work in
    let f : Does w = λ s. rounds (suc s.left) (run_all w test) 1 (run_all w []) (run_all w less) s in
    let e : run w (counting []) ≡ f = loop_runs w test (v 1) [] less in (
      by work (counting []) [] [] (2 ∷ []) f e,
      by work (counting []) [] [] (0 ∷ []) f e,
      by work (counting []) [] [] (5 ∷ []) f e,
      ap (λ (g : State → Run). and_then (g (state [] (6 ∷ []) 5)) (run_all w [])) e,
    )

pub left : LoopsAreLeft
unfolding applied
left work =
    let w = world work in
    let set : ℕ → Stmt = λ u. Set u (v 8) in
    let one : List Stmt = set 1 ∷ Continue ∷ set 2 ∷ [] in
    let f : Does w = λ s. rounds (suc s.left) (run_all w test) 1 (run_all w one) (run_all w less) s in
    let inner : List Stmt = Break ∷ set 2 ∷ [] in
    let g : Does w = λ s. rounds (suc s.left) (run_all w []) 8 (run_all w inner) (run_all w []) s in
    let g2 : Does w = λ s. and_then (g s) (run_all w (set 1 ∷ [])) in
    let g3 : Does w = λ s. rounds (suc s.left) (run_all w test) 1 g2 (run_all w less) s in
    let two : List Stmt = endless inner ∷ set 1 ∷ [] in
    let gone : List Stmt = Leave ∷ [] in
    let h : Does w = λ s. rounds (suc s.left) (run_all w []) 8 (run_all w gone) (run_all w []) s in
    let h2 : Does w = λ s. and_then (h s) (run_all w []) in
    let h3 : Does w = λ s. rounds (suc s.left) (run_all w test) 1 h2 (run_all w less) s in
    let h4 : Does w = λ s. and_then (h3 s) (run_all w (set 2 ∷ [])) in
    let h5 : Does w = λ s. left_scope (h4 s) in
    let three : List Stmt = counting (endless gone ∷ []) ∷ set 2 ∷ [] in (
      by work (counting one) [] with_four (2 ∷ []) f (loop_runs w test (v 1) one less),
      by work (counting two) [] with_four (2 ∷ []) g3 (loop_does w test (v 1) two less g2 (first_runs w (endless inner) (set 1 ∷ []) g (loop_runs w [] (v 8) inner []))),
      by work (Scope three) (set 1 ∷ []) with_four (2 ∷ []) h5
          (scope_does w three h4 (first_runs w (counting (endless gone ∷ [])) (set 2 ∷ []) h3
          (loop_does w test (v 1) (endless gone ∷ []) less h2 (first_runs w (endless gone) [] h (loop_runs w [] (v 8) gone []))))),
    )

pub choices : ChoicesAreThose
choices work =
    let w = world work in
    let a : List Stmt = Set 0 (v 1) ∷ [] in
    let b : List Stmt = Set 1 (v 2) ∷ [] in
    let f : Does w = λ s. at_zero (s.vals 0) (run_all w b s) (run_all w a s) in
    (refl, refl, by work (If (v 0) a b) [] (0 ∷ 7 ∷ 8 ∷ []) [] f (if_runs w (v 0) a b), by work (If (v 0) a b) [] (2 ∷ 7 ∷ 8 ∷ []) [] f (if_runs w (v 0) a b))
