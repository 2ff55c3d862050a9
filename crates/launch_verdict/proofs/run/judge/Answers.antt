use Rattle.std.proofs.Common.{◌≡◌, ℕ, ◌+◌, ◌<◌, [], ◌∷◌, ◌++◌, sym, subst, arith, rules}
use Rattle.launch_verdict.specs.Ran.{Ran}
use Rattle.launch_verdict.proofs.RunLaws.{ran_more, ran_all}
use Rattle.launch_verdict.proofs.run.judge.Goals as goal

pub loop-item-preserved : goal.loop-item-preserved
loop-item-preserved g c =
    let item = g.W.WorkItems.item c.args.work.now in
    let r = c.loop-item.invariant in
    let one = c.in-Ends.ended in
    let small : one.turns < 4294967296 = search rules in
    let used : c.from-all.result ≡ one.turns = c.from-all.ensures in (
      r.0 ++ one ∷ [],
      subst (λ (k : ℕ). Ran item c.args.turns c.args.buffers (c.loop-item.item + 1) (r.0 ++ one ∷ []) one.buffers c.in_ok-touches-in-Ends.touches (c.loop-item.all + k)) (sym used)
          (ran_more item c.args.turns c.args.buffers c.loop-item.item r.0 c.loop-item.left c.loop-item.touches c.in_ok-touches-in-Ends.touches c.loop-item.all one
          r.1 c.in_ok-ended.field-0 c.in-Ends.is c.in_ok-ended.ensures small (c.in_ok-touches-in-Ends.ensures r.0 r.1.many r.1.tells)),
    )

pub returns : goal.returns
returns g c =
    let item = g.W.WorkItems.item c.args.work.now in
    let r = c.loop-item.invariant in
    ran_all item c.args.turns c.args.buffers c.loop-item.item c.args.items r.0 c.loop-item.left c.loop-item.touches c.loop-item.all c.least_race.result c.verdict.result
    r.1 (let high = c.loop-item-test.false in omega arith) (c.least_race.ensures r.0 r.1.tells) c.verdict.ensures
