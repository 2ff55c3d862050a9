-- Only `nop` has the number 0.
use Rattle.std.proofs.Common.{◌≡◌, ◌==◌, false, refl}
use Rattle.qpu_encode.specs.declared.form.AddOp.{AddOp}
use Rattle.qpu_encode.specs.declared.form.AddOp.TheVariants as add_op
use Rattle.qpu_encode.specs.declared.form.MulOp.{MulOp}
use Rattle.qpu_encode.specs.declared.form.MulOp.TheVariants as mul_op
use Rattle.qpu_encode.specs.Codes.{add_code, mul_code}

pub add_acts : (op : AddOp) → (op ≡ add_op.Nop → ⊥) → (add_code op == 0) ≡ false
add_acts op = elim op as (λ o. (o ≡ add_op.Nop → ⊥) → (add_code o == 0) ≡ false) [ add_op.Nop ↦ λ other. absurd (other refl) | _ ↦ λ other. refl ]

pub mul_acts : (op : MulOp) → (op ≡ mul_op.Nop → ⊥) → (mul_code op == 0) ≡ false
mul_acts op = elim op as (λ o. (o ≡ mul_op.Nop → ⊥) → (mul_code o == 0) ≡ false) [ mul_op.Nop ↦ λ other. absurd (other refl) | _ ↦ λ other. refl ]
