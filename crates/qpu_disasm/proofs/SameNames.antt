-- Names tell what they name, and hold no mark.
use Rattle.std.proofs.Common.{◌≡◌, true, refl}
use Rattle.std.specs.Prelude.{Some}
use Rattle.qpu_encode.specs.declared.form.AddOp.{AddOp}
use Rattle.qpu_encode.specs.declared.form.AddOp.TheVariants as add_op
use Rattle.qpu_encode.specs.declared.form.MulOp.{MulOp}
use Rattle.qpu_encode.specs.declared.form.MulOp.TheVariants as mul_op
use Rattle.qpu_encode.specs.declared.form.Cond.{Cond}
use Rattle.qpu_encode.specs.declared.form.Cond.TheVariants.{Never}
use Rattle.qpu_encode.specs.declared.form.BraCond.{BraCond}
use Rattle.qpu_encode.specs.declared.form.BraCond.TheVariants as bra
use Rattle.qpu_encode.specs.declared.form.Head.{Head}
use Rattle.qpu_encode.specs.declared.form.Head.TheVariants.{Plain}
use Rattle.qpu_encode.specs.Codes.{add_ops, mul_ops, conds, bra_conds, heads}
use Rattle.qpu_disasm.specs.Listing.{add_name, mul_name, cond_name, bra_name, head_name}
use Rattle.qpu_disasm.proofs.Cuts.{is_whole}
use Rattle.qpu_disasm.proofs.Tables.{with_text, same_value}

pub add_whole : (o : AddOp) → is_whole (add_name o) ≡ true
add_whole o = elim o as (λ k. is_whole (add_name k) ≡ true) [ add_op.Nop ↦ refl | _ ↦ refl ]

pub mul_whole : (o : MulOp) → is_whole (mul_name o) ≡ true
mul_whole o = elim o as (λ k. is_whole (mul_name k) ≡ true) [ mul_op.Nop ↦ refl | _ ↦ refl ]

pub cond_whole : (o : Cond) → is_whole (cond_name o) ≡ true
cond_whole o = elim o as (λ k. is_whole (cond_name k) ≡ true) [ Never ↦ refl | _ ↦ refl ]

pub bra_whole : (o : BraCond) → is_whole (bra_name o) ≡ true
bra_whole o = elim o as (λ k. is_whole (bra_name k) ≡ true) [ bra.AllZ ↦ refl | _ ↦ refl ]

pub head_whole : (o : Head) → is_whole (head_name o) ≡ true
head_whole o = elim o as (λ k. is_whole (head_name k) ≡ true) [ Plain ↦ refl | _ ↦ refl ]

add_back : (o : AddOp) → with_text add_name add_ops (add_name o) ≡ Some o
unfolding with_text
add_back o = elim o as (λ k. with_text add_name add_ops (add_name k) ≡ Some k) [ add_op.Nop ↦ refl | _ ↦ refl ]

pub same_add : (o p : AddOp) → add_name o ≡ add_name p → o ≡ p
same_add o p e = same_value add_name add_ops o p (add_back o) (add_back p) e

mul_back : (o : MulOp) → with_text mul_name mul_ops (mul_name o) ≡ Some o
unfolding with_text
mul_back o = elim o as (λ k. with_text mul_name mul_ops (mul_name k) ≡ Some k) [ mul_op.Nop ↦ refl | _ ↦ refl ]

pub same_mul : (o p : MulOp) → mul_name o ≡ mul_name p → o ≡ p
same_mul o p e = same_value mul_name mul_ops o p (mul_back o) (mul_back p) e

cond_back : (o : Cond) → with_text cond_name conds (cond_name o) ≡ Some o
unfolding with_text
cond_back o = elim o as (λ k. with_text cond_name conds (cond_name k) ≡ Some k) [ Never ↦ refl | _ ↦ refl ]

pub same_cond : (o p : Cond) → cond_name o ≡ cond_name p → o ≡ p
same_cond o p e = same_value cond_name conds o p (cond_back o) (cond_back p) e

bra_back : (o : BraCond) → with_text bra_name bra_conds (bra_name o) ≡ Some o
unfolding with_text
bra_back o = elim o as (λ k. with_text bra_name bra_conds (bra_name k) ≡ Some k) [ bra.AllZ ↦ refl | _ ↦ refl ]

pub same_bra : (o p : BraCond) → bra_name o ≡ bra_name p → o ≡ p
same_bra o p e = same_value bra_name bra_conds o p (bra_back o) (bra_back p) e

head_back : (o : Head) → with_text head_name heads (head_name o) ≡ Some o
unfolding with_text
head_back o = elim o as (λ k. with_text head_name heads (head_name k) ≡ Some k) [ Plain ↦ refl | _ ↦ refl ]

pub same_head : (o p : Head) → head_name o ≡ head_name p → o ≡ p
same_head o p e = same_value head_name heads o p (head_back o) (head_back p) e
