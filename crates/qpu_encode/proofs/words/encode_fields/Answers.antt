use Rattle.std.proofs.Common.{rules, ◌≡◌, true, ℤ, w32}
use Rattle.std.proofs.lemmas.Int.{to_z-of_z}
use Rattle.qpu_encode.specs.declared.form.BraCond.{BraCond}
use Rattle.qpu_encode.specs.declared.form.Form.TheVariants.{Bra}
use Rattle.qpu_encode.specs.WordFields.{is_in_profile, is_distance}
use Rattle.qpu_encode.proofs.RoundTrip.{alu_fits, ldi_fits}
use Rattle.qpu_encode.proofs.words.encode_fields.Goals as goal

pub alu_word-requires : goal.alu_word-requires
alu_word-requires c = alu_fits _ _ _ _ _ _ _ _ (rw c.in-Alu.is at c.requires)

pub ldi_word-requires : goal.ldi_word-requires
ldi_word-requires c = ldi_fits _ _ _ _ _ _ (rw c.in-Ldi.is at c.requires)

of_branch : (b : BraCond) (z : ℤ) → is_in_profile (Bra b z) ≡ true → is_distance z ≡ true
unfolding is_in_profile
of_branch b z h = h

pub bra_word-requires : goal.bra_word-requires
bra_word-requires c = rw (to_z-of_z w32 c.in-Bra.words (search rules)) (of_branch c.in-Bra.cond c.in-Bra.words (rw c.in-Bra.is at c.requires))
