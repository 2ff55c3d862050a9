use Rattle.std.proofs.Common.{sym, ◌∙◌, ap}
use Rattle.std.specs.Prelude.{bytes_eq}
use Rattle.clc_check.proofs.Entries.{kernel_here}
use Rattle.clc_check.proofs.programs.kernel.Goals as goal

pub returns-then-eq : goal.returns-then-eq
returns-then-eq c =
    let x = c.args.name.now in
    let f = c.function-item.result in
    let e = rw c.as_slice-function-items.ensures at c.function-item.is in
    let h = rw c.as_slice-function-items.ensures at c.loop-number-test.true in
    kernel_here c.args.typed.now.functions c.loop-number.number f x e h c.if-function.true (sym (ap (λ z. bytes_eq z x) c.as_bytes.ensures) ∙ sym c.eq.ensures ∙ c.if-eq.true) ∙ c.loop-number.invariant
