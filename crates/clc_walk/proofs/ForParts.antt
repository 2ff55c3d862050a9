-- The parts of a `for`, one after another.
use Rattle.std.proofs.Common.{◌≡◌, ℕ, Bool, true, List, Option, refl, sym, ap, subst, Result, Ok, Err}
use Rattle.clc_tree.specs.declared.statements.Stmt.{Stmt}
use Rattle.clc_tree.specs.declared.statements.For.{For, out-For}
use Rattle.clc_tree.specs.declared.statements.BlockPart.TheFolds.{fold_out-For}
use Rattle.clc_types.specs.declared.typed.TExpr.{TExpr}
use Rattle.clc_types.specs.declared.typed.TStmt.{TStmt}
use Rattle.clc_types.specs.declared.typed.TStmt.TheVariants as st
use Rattle.clc_types.specs.declared.typed.TypeFault.{TypeFault}
use Rattle.clc_types.specs.declared.scope.State.{State}
use Rattle.clc_types.specs.InternalSteps.{View, Stepped, PieceWalk, seq, made, opened, past, looping, skipped, entered, Stands, view_of, for_start_walk, maybe_condition, maybe_value, walk_stmt, walk_for, block_part_walk, stmt_walk, block_walk, do_walk, else_walk, for_walk, if_walk, while_walk}
use Rattle.clc_walk.proofs.Listed.{seq_stop, seq_stops, opened_stops}

module _ (x : For) (l : Bool) (v : View) where
  abbrev tail : PieceWalk (Option TExpr × TStmt)
  tail = seq (past 1 (maybe_value (out-For x).step)) (past 1 (looping (walk_stmt (out-For x).body)))

  abbrev parts : PieceWalk (List TStmt × (Option TExpr × (Option TExpr × TStmt)))
  parts = seq (for_start_walk (out-For x).start) (seq (maybe_condition (out-For x).test) tail)

  abbrev made_of : List TStmt × (Option TExpr × (Option TExpr × TStmt)) → TStmt
  made_of y = st.For y.0 y.1.0 y.1.1.0 y.1.1.1

  for_is : walk_for x l v ≡ opened 2 (made made_of parts) l v
  for_is = ap (λ w. w l v) (fold_out-For (PieceWalk (List TStmt)) (PieceWalk TStmt) (PieceWalk (List TStmt)) (PieceWalk TStmt) (PieceWalk TStmt) (PieceWalk TStmt) (PieceWalk TStmt) (PieceWalk TStmt) block_part_walk stmt_walk block_walk do_walk else_walk for_walk if_walk while_walk x)

  stops : (e : TypeFault) (new : State) → Stands (parts l (skipped 2 (entered v))) (Err e) new → Stands (walk_for x l v) (Err e) new
  stops e new h = subst (λ s. Stands s (Err e) new) (sym for_is) (opened_stops made_of parts 2 l v e new h)

  module _ (i : List TStmt) (begun : State) (first : Stands (for_start_walk (out-For x).start l (skipped 2 (entered v))) (Ok i) begun) where
    later : (e : TypeFault) (new : State) → Stands (seq (maybe_condition (out-For x).test) tail l (view_of begun)) (Err e) new → Stands (walk_for x l v) (Err e) new
    later e new h = stops e new (seq_stop (for_start_walk (out-For x).start) (seq (maybe_condition (out-For x).test) tail) l (skipped 2 (entered v)) i begun e new first h)

    pub test_stops : (e : TypeFault) (new : State) → Stands (maybe_condition (out-For x).test l (view_of begun)) (Err e) new → Stands (walk_for x l v) (Err e) new
    test_stops e new h = later e new (seq_stops (maybe_condition (out-For x).test) tail l (view_of begun) e new h)

    pub step_stops : (t : Option TExpr) (mid : State) (e : TypeFault) (new : State) → Stands (maybe_condition (out-For x).test l (view_of begun)) (Ok t) mid
        → Stands (maybe_value (out-For x).step l (skipped 1 (view_of mid))) (Err e) new → Stands (walk_for x l v) (Err e) new
    step_stops t mid e new g h =
        later e new (seq_stop (maybe_condition (out-For x).test) tail l (view_of begun) t mid e new g
        (seq_stops (past 1 (maybe_value (out-For x).step)) (past 1 (looping (walk_stmt (out-For x).body))) l (view_of mid) e new h))

    pub body_stops : (t : Option TExpr) (mid : State) (y : Option TExpr) (late : State) (e : TypeFault) (new : State) → Stands (maybe_condition (out-For x).test l (view_of begun)) (Ok t) mid
        → Stands (maybe_value (out-For x).step l (skipped 1 (view_of mid))) (Ok y) late → Stands (walk_stmt (out-For x).body true (skipped 1 (view_of late))) (Err e) new → Stands (walk_for x l v) (Err e) new
    body_stops t mid y late e new g k h =
        later e new (seq_stop (maybe_condition (out-For x).test) tail l (view_of begun) t mid e new g
        (seq_stop (past 1 (maybe_value (out-For x).step)) (past 1 (looping (walk_stmt (out-For x).body))) l (view_of mid) y late e new k h))
