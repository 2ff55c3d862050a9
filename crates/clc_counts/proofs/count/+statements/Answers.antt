use Rattle.std.proofs.Common.{◌≡◌, List, sym, ap, ◌∙◌}
use Rattle.std.specs.Prelude.{map}
use Rattle.clc_types.specs.declared.typed.TStmt.{TStmt}
use Rattle.clc_types.specs.declared.typed.TStmt.TheOpen as s
use Rattle.clc_types.specs.declared.typed.TStmt.TheVariants as v
use Rattle.clc_types.specs.declared.typed.TStmt.TheFolds.{fold-roll-TStmt}
use Rattle.clc_counts.specs.declared.tally.Tally.{Tally}
use Rattle.clc_counts.specs.Counts.{Counted, so_many, plus, begins_summed, maybe_count, stmt_count, stmt_counts}
use Rattle.clc_counts.proofs.count.+statements.Goals as goal

pub statement-returns-in-For : goal.statement-returns-in-For
statement-returns-in-For t c =
    let ts = c.args.tallies.now in
    let count : TStmt → Counted = stmt_counts plus ts in
    let begins : c.beginnings-start.result ≡ begins_summed plus (so_many 1) (map count c.in-For.init) =
    c.beginnings-start.ensures ∙ ap (λ (z : Tally). begins_summed plus z (map count c.as_slice-in-For.result.now)) c.nodes-in-For.ensures
    ∙ ap (λ (l : List TStmt). begins_summed plus (so_many 1) (map count l)) c.as_slice-in-For.ensures in
    let body : c.plus-two-in-For.result ≡ plus (maybe_count plus ts c.in-For.step) (count c.in-For.body).whole =
    c.plus-two-in-For.ensures ∙ ap (λ (z : Tally). plus z c.statement-in-For.result) c.maybe-in-For.ensures
    ∙ ap (plus (maybe_count plus ts c.in-For.step)) (c.statement-in-For.ensures ∙ ap (λ (z : TStmt). (count z).whole) c.get-in-For.ensures) in
    let rest : c.plus-in-For.result ≡ plus (maybe_count plus ts c.in-For.cond) (plus (maybe_count plus ts c.in-For.step) (count c.in-For.body).whole) =
    c.plus-in-For.ensures ∙ ap (λ (z : Tally). plus z c.plus-two-in-For.result) c.maybe-in-For-2.ensures ∙ ap (plus (maybe_count plus ts c.in-For.cond)) body in
    c.plus-in-For-2.ensures
    ∙ ap (λ (z : Tally). plus z c.plus-in-For.result) begins
    ∙ ap (plus (begins_summed plus (so_many 1) (map count c.in-For.init))) rest
    ∙ sym (ap (λ (z : TStmt). (count z).whole) (c.in-For.is ∙ sym (v.rolls-For c.in-For.init c.in-For.cond c.in-For.step c.in-For.body))
    ∙ ap (λ (z : Counted). z.whole) (fold-roll-TStmt Counted (stmt_count plus ts) (s.For c.in-For.init c.in-For.cond c.in-For.step c.in-For.body)))
