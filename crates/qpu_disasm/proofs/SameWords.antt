-- No two words have the same text.
use Rattle.std.proofs.Common.{◌≡◌, ◌∙◌, ℕ, ◌<◌, ◌^◌, refl, sym}
use Rattle.std.specs.Prelude.{codes}
use Rattle.std.specs.declared.option.Option.{Option}
use Rattle.std.specs.declared.option.Option.TheVariants.{Some, None}
use Rattle.std.specs.Int.{w64, to_be_bytes}
use Rattle.std.proofs.lemmas.List.{append_cancel_left}
use Rattle.hex.specs.Hex.{encode_lower}
use Rattle.qpu_encode.specs.declared.form.Form.{Form}
use Rattle.qpu_encode.specs.WordFields.{form_of}
use Rattle.qpu_encode.proofs.RoundTrip.{form_sound}
use Rattle.qpu_disasm.specs.Listing.{text_by, text}
use Rattle.qpu_disasm.specs.Laws.{TextsDiffer}
use Rattle.qpu_disasm.proofs.Digits.{same_sixteen}
use Rattle.qpu_disasm.proofs.SameForms.{same_form, no_word}

same_by : (w v : ℕ) (p q : Option Form) → w < 2 ^ 64 → v < 2 ^ 64 → form_of w ≡ p → form_of v ≡ q → text_by p w ≡ text_by q v → w ≡ v
unfolding text_by
same_by w v (Some f) (Some g) h k a b e =
    let s = form_sound w f h a in
    let t = form_sound v g k b in
    sym s.0 ∙ same_form f g s.1 t.1 e ∙ t.0
same_by w v (Some f) None h k a b e = absurd (no_word f _ e)
same_by w v None (Some g) h k a b e = absurd (no_word g _ (sym e))
same_by w v None None h k a b e =
    same_sixteen w v h k (append_cancel_left (codes ".word ") (encode_lower (to_be_bytes w64 w)) (encode_lower (to_be_bytes w64 v)) e)

pub texts_differ : TextsDiffer
unfolding text
texts_differ w v h k e = same_by w v (form_of w) (form_of v) h k refl refl e
