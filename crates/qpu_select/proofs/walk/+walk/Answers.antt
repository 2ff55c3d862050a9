use Rattle.std.proofs.Common.{◌++◌, ◌∷◌, [], sym, ap, ◌∙◌, subst, map, arith}
use Rattle.qpu_encode.specs.declared.form.BraCond.TheVariants.{AnyNz}
use Rattle.vpm_dma_lower.specs.Accesses.{code_from}
use Rattle.qpu_select.specs.Code.{asks, emit, emit_all}
use Rattle.qpu_select.specs.Emitting.{start_of, Adds}
use Rattle.qpu_select.proofs.Loops.{Looped, loop_adds, emit-WhileAny}
use Rattle.qpu_select.proofs.walk.+walk.Goals as goal

pub put_statement-returns-in_ok-put_back-in-WhileAny : goal.put_statement-returns-in_ok-put_back-in-WhileAny
put_statement-returns-in_ok-put_back-in-WhileAny t c =
    let h = c.args.h in
    let cs = map code_from c.args.list.now in
    let old = c.args.out.now in
    let first = c.in_ok-first-in-WhileAny in
    let aside = c.in_ok-test-in-WhileAny in
    let back = c.in_ok-put_back-in-WhileAny in
    let loop = c.in-WhileAny in
    let a = c.open.new.out in
    let b = c.put_all.new.out in
    let holed = c.set_aside.new.out in
    let d = c.put_all-in-WhileAny.new.out in
    let new = c.put_back.new.out in
    let steps : Looped (asks loop.mask.0) AnyNz (emit_all h cs loop.head) (emit_all h cs loop.body) old a b holed d new first.first c.len-at.result aside.test.items
    = record {
      number = first.ensures.number;
      opens = first.ensures.closed;
      ops_a = first.ensures.ops;
      next_a = first.ensures.next;
      heads = subst (λ l. Adds (emit_all h cs l (start_of a)) a b) c.as_slice.ensures c.in_ok-put_all-in-WhileAny.ensures;
      place = omega (arith, c.len-at.ensures, b.closed.ok.0);
      tests = aside.ensures.aside ∙ ap (λ test. b.ops.items ++ test ∷ []) c.asks.ensures;
      holes = aside.ensures.closed;
      ops_c = aside.ensures.ops;
      next_c = aside.ensures.next;
      bodies = subst (λ l. Adds (emit_all h cs l (start_of holed)) holed d) c.as_slice-in-WhileAny.ensures c.in_ok-put_all-in-WhileAny-2.ensures;
      backs = back.ensures.closed;
      ops_new = back.ensures.ops;
      next_new = back.ensures.next;
    } in
    let is = ap (λ s. emit h cs s (start_of old)) loop.is ∙ emit-WhileAny h cs loop.head loop.mask loop.body (start_of old) in
    subst (λ q. Adds q old new) (sym is) (loop_adds _ _ (emit_all h cs loop.head) (emit_all h cs loop.body) old a b holed d new _ _ _ steps)
