use Rattle.std.proofs.Common.{rules, arith, ◌≡◌, ◌+◌, ◌-◌, ◌*◌, ◌%◌, ◌^◌, ◌<◌, ◌≤◌, ◌/◌, ℕ}
use Rattle.std.proofs.Math.Nat.{mod-lt}
use Rattle.std.proofs.lemmas.Nat.{shl_whole, pow_pos}
use Rattle.qpu_encode.specs.WordFields.{field}
use Rattle.qpu_encode.proofs.Replace.{replaced, replaced_here, replaced_below, replaced_above, replaced_fits}
use Rattle.qpu_encode.proofs.field.Field.put.Goals as goal

-- both shifts lose nothing
same : (lo w n v f : ℕ) → lo + w ≤ 64 → v < 2 ^ w → f ≡ field lo w n → n - f * 2 ^ lo % 2 ^ 64 + v * 2 ^ lo % 2 ^ 64 ≡ replaced lo w n v
same lo w n v f r h e =
    let small : f < 2 ^ w = rw e (mod-lt (n / 2 ^ lo) (pow_pos w)) in
    let r2 : w + lo ≤ 64 = omega arith in
    rw (shl_whole f w lo 64 small r2, shl_whole v w lo 64 h r2, e)

pub overflow_add-result : goal.overflow_add-result
overflow_add-result g c =
    rw (same g.row.LO g.row.W c.args.word c.args.value c.get.result c.requires.within c.requires.fits c.get.ensures)
    (search (rules, replaced_fits g.row.LO g.row.W 64 c.args.word c.args.value (omega arith) c.requires.within c.requires.fits))

pub returns-clause-here : goal.returns-clause-here
returns-clause-here g c =
    rw (same g.row.LO g.row.W c.args.word c.args.value c.get.result c.requires.within c.requires.fits c.get.ensures)
    (replaced_here g.row.LO g.row.W c.args.word c.args.value c.requires.fits)

pub returns-clause-below : goal.returns-clause-below
returns-clause-below g c =
    rw (same g.row.LO g.row.W c.args.word c.args.value c.get.result c.requires.within c.requires.fits c.get.ensures)
    (replaced_below g.row.LO g.row.W c.args.word c.args.value)

pub returns-clause-above : goal.returns-clause-above
returns-clause-above g c =
    rw (same g.row.LO g.row.W c.args.word c.args.value c.get.result c.requires.within c.requires.fits c.get.ensures)
    (replaced_above g.row.LO g.row.W c.args.word c.args.value c.requires.fits)
