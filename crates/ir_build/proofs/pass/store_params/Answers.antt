use Rattle.std.proofs.Common.{◌∙◌, arith}
use Rattle.ir_build.proofs.Rows.{param_stored}
use Rattle.ir_build.proofs.pass.store_params.Goals as goal

pub loop-param-preserved : goal.loop-param-preserved
loop-param-preserved c =
    let e = c.in_ok-value.ensures.2 in
    let h = c.loop-param.invariant.next in
    record {
      stmts =
          param_stored c.args.params c.loop-param.param c.loop-param.next c.in_ok-value.value c.loop-param.out.items _ c.push.new.self.items
          c.loop-param-test.true c.in_ok-value.ensures c.in_ok-push.ensures.items
          ∙ c.loop-param.invariant.stmts;
      next = omega (arith, h, e);
    }
