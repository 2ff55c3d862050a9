-- Which pairs one word says.
use Rattle.std.specs.Prelude.{ℕ, Bool, true, false, not, ◌&&◌, ◌==◌, Option, Some, None}
use Rattle.qpu_encode.specs.declared.form.AddOp.{AddOp}
use Rattle.qpu_encode.specs.declared.form.AddOp.TheVariants as add_op
use Rattle.qpu_encode.specs.declared.form.Form.{Form}
use Rattle.qpu_encode.specs.declared.form.Form.TheVariants.{Alu, Ldi, Bra}
use Rattle.qpu_encode.specs.WordFields.{is_in_profile}
use Rattle.vop_ir.specs.declared.form.Op.{Op}
use Rattle.vop_ir.specs.declared.form.Op.TheVariants as op
use Rattle.phys_ir.specs.declared.form.PSrc.{PSrc}
use Rattle.phys_ir.specs.declared.form.PSrc.TheVariants as psrc
use Rattle.phys_ir.specs.declared.form.Pop.{Pop}
use Rattle.phys_ir.specs.declared.form.Pair.{Pair}
use Rattle.tight_words.specs.Meaning.{meaning, same_meaning}
use Rattle.pair_words.specs.PairForm.{form_of_pair}
use Rattle.pair_words.specs.PairMeaning.{meaning_of_pair, is_in_place}

abbrev pub is_word : PSrc → ℕ → Bool
is_word (psrc.Word other) value = other == value
is_word _ value = false

abbrev pub is_or_op : AddOp → Bool
is_or_op add_op.Or = true
is_or_op _ = false

abbrev pub is_or : Op → Bool
is_or (op.Add x) = is_or_op x
is_or _ = false

-- the operation loads this word into all elements, and does nothing besides
abbrev pub loads : Pop → ℕ → Bool
loads o value = (is_or o.op && not o.flags) && ((is_word o.a value && is_word o.b value) && (o.unpack == 0))

abbrev pub loads_alone : Option Pop → Option Pop → ℕ → Bool
loads_alone None mul value = false
loads_alone (Some o) None value = loads o value
loads_alone (Some o) (Some other) value = false

abbrev pub says : Pair → Form → Bool
says p (Alu head unpack add mul flags swap ra rb) = same_meaning (meaning (Alu head unpack add mul flags swap ra rb)) (meaning_of_pair p)
says p (Ldi add_cond mul_cond swap add_dst mul_dst value) = loads_alone p.add p.mul value
says p (Bra c words) = false

-- each part suits its unit, and the pair's word is in the profile and means what the pair means
unfoldable pub is_pair : Pair → Bool
is_pair p = is_in_place p && (is_in_profile (form_of_pair p) && says p (form_of_pair p))
