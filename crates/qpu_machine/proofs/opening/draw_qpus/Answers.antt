use Rattle.std.proofs.Common.{◌≡◌, ℕ, ◌+◌, ◌*◌, ◌∷◌, ◌++◌, [], ◌∙◌, ap, sym, map, arith}
use Rattle.std.specs.List.{range_with_len}
use Rattle.std.proofs.lemmas.List.FromFn.{map-range_with_len_more}
use Rattle.std.proofs.lemmas.Simd.{map-map}
use Rattle.qpu_machine.specs.Schedules.{seed_after}
use Rattle.qpu_machine.specs.Opening.{opening_qpu, drawn_regs, numbers_each}
use Rattle.qpu_machine.proofs.Seeds.{seed_after-none, seed_after-add, drawn_regs-after}
use Rattle.qpu_machine.proofs.opening.draw_qpus.Goals as goal

pub loop-index-init : goal.loop-index-init
loop-index-init c = (sym (seed_after-none c.args.generator.now.state), c.in_ok-qpus.ensures.items)

pub loop-index-preserved : goal.loop-index-preserved
loop-index-preserved c =
    let x = c.args.generator.now.state in
    let k = c.loop-index._index in
    let done = c.loop-index.invariant in
    let regs : c.draw_regs.result ≡ drawn_regs x (numbers_each * k) =
    c.draw_regs.ensures.regs ∙ ap (λ s. drawn_regs s 0) done.0 ∙ drawn_regs-after x (numbers_each * k) 0 (numbers_each * k) (omega arith)
    in (
      c.draw_regs.ensures.state ∙ ap (λ s. seed_after s numbers_each) done.0 ∙ seed_after-add x (numbers_each * k) numbers_each (numbers_each * (k + 1)) (omega arith),
      c.in_ok-push.ensures.items
          ∙ ap (λ q. c.loop-index.qpus.items ++ q ∷ []) (c.qpu_with-q.ensures ∙ ap opening_qpu regs)
          ∙ ap (λ qpus. qpus ++ opening_qpu (drawn_regs x (numbers_each * k)) ∷ []) done.1
          ∙ sym (map-range_with_len_more (λ (i : ℕ). opening_qpu (drawn_regs x (numbers_each * i))) 0 k k (omega arith)),
    )

pub returns-clause-qpus : goal.returns-clause-qpus
returns-clause-qpus c =
    let x = c.args.generator.now.state in
    let all : c.loop-index._index ≡ c.args.count = omega (arith, c.loop-index-test.false, c.loop-index.auto._index-end) in
    c.loop-index.invariant.1
    ∙ ap (λ n. map (λ (k : ℕ). opening_qpu (drawn_regs x (numbers_each * k))) (range_with_len 0 n)) all
    ∙ sym (map-map opening_qpu (λ (k : ℕ). drawn_regs x (numbers_each * k)) (range_with_len 0 c.args.count))
