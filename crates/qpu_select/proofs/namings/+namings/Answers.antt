use Rattle.std.proofs.Common.{◌≡◌, [], ◌∷◌, ◌++◌, ap, ◌∙◌, arith}
use Rattle.std.proofs.lemmas.Grind.{common_steps}
use Rattle.qpu_select.specs.Clears.{wholly, namings, namings_all}
use Rattle.qpu_select.proofs.Lists.{namings-WhileAny}
use Rattle.qpu_select.proofs.namings.+namings.Goals as goal

pub put_namings-returns-in_ok-put_whole-in-WhileAny : goal.put_namings-returns-in_ok-put_whole-in-WhileAny
put_namings-returns-in_ok-put_whole-in-WhileAny t c =
    let h = c.args.h in
    let m = c.in-WhileAny.mask in
    let e : namings h c.args.stmt.now ≡ namings_all h c.in-WhileAny.head ++ (wholly m.0 ∷ namings_all h c.in-WhileAny.body)
    = ap (namings h) c.in-WhileAny.is ∙ namings-WhileAny h c.in-WhileAny.head m c.in-WhileAny.body in
    let first : c.put_all_namings.new.out.items ≡ c.args.out.now.items ++ namings_all h c.in-WhileAny.head
    = rw c.as_slice.ensures at c.in_ok-put_all_namings-in-WhileAny.ensures in
    let second : c.put_whole-in-WhileAny.new.out.items ≡ c.put_all_namings.new.out.items ++ wholly m.0 ∷ [] = c.in_ok-put_whole-in-WhileAny.ensures in
    grind (arith, common_steps, e, first, second, rw c.as_slice-in-WhileAny.ensures at c.put_all_namings-in-WhileAny.ensures)
