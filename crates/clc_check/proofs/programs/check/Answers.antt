use Rattle.std.proofs.Common.{Err, Ok}
use Rattle.clc_types.specs.Programs.{program}
use Rattle.clc_walk_exact.proofs.ProgramMet.{judges}
use Rattle.clc_well_typed.proofs.Programs.{well_typed}
use Rattle.clc_check.proofs.Checked.{handed_on, found_fine}
use Rattle.clc_check.proofs.programs.check.Goals as goal

pub returns-in_err-functions : goal.returns-in_err-functions
returns-in_err-functions c =
    let e = c.in_err-functions.field-0.0 in
    let h = rw (c.new.ensures, c.new-2.ensures, c.new-3.ensures, c.new-4.ensures.empty, c.new-5.ensures, c.as_slice.ensures) at c.in_err-functions.ensures in
    handed_on (program c.args.tree.now) c.from_residual.result e c.from_residual.ensures.1 (judges c.args.tree.now (Err e) c.functions.new.state c.requires.fits h)

pub returns : goal.returns
returns c =
    let h = rw (c.new.ensures, c.new-2.ensures, c.new-3.ensures, c.new-4.ensures.empty, c.new-5.ensures, c.as_slice.ensures) at c.in_ok-functions.ensures in
    judges c.args.tree.now (Ok c.in_ok-functions.functions) c.functions.new.state c.requires.fits h

pub invariant_of-result : goal.invariant_of-result
invariant_of-result c =
    let tree = c.args.tree.now in
    let functions = c.in_ok-functions.functions in
    let h = rw (c.new.ensures, c.new-2.ensures, c.new-3.ensures, c.new-4.ensures.empty, c.new-5.ensures, c.as_slice.ensures) at c.in_ok-functions.ensures in
    record { well_typed = well_typed tree functions c.requires.proper (found_fine (program tree) functions (judges tree (Ok functions) c.functions.new.state c.requires.fits h)) }
