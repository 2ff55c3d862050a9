-- What a valid program over registers gives: its exits lead to its blocks, and each register that it names is there.
use Rattle.std.proofs.Common.{◌≡◌, ℕ, ◌<◌, true, false, List, [], ◌∷◌, map, length, refl, sym, ◌∙◌, subst, arith}
use Rattle.std.specs.Prelude.{◌&&◌, not, nat_lt, ◌==◌, None}
use Rattle.std.proofs.lemmas.Bool.{and_from, and_parts, ltb-true, lt-ltb, eqb-true, true≢false}
use Rattle.std.proofs.lemmas.List.{length-map}
use Rattle.vop_ir.specs.declared.form.Src.{Src}
use Rattle.vop_ir.specs.declared.form.Src.TheVariants as src
use Rattle.vop_ir.specs.declared.form.Dst.{Dst}
use Rattle.vop_ir.specs.declared.form.Dst.TheVariants as dst
use Rattle.vop_ir.specs.declared.form.Exit.{Exit}
use Rattle.vop_ir.specs.declared.form.Vop.{Vop}
use Rattle.vop_ir.specs.declared.form.VopBlock.{VopBlock}
use Rattle.vop_ir.specs.OneWord.{is_vop, is_or, is_always, is_turn}
use Rattle.vop_ir.specs.Runs.{block_from}
use Rattle.vop_ir.specs.Valid.{is_below_src, is_below_dst, writes, is_op, are_ops, are_sections, is_exit, is_block, are_blocks, is_uniform, sets_scratch, is_first, is_program, is_valid}
use Rattle.phys_ir.specs.Leads.{are_exits, is_closed}
use Rattle.regfile_alloc.specs.Picks.{IsSrcBelow, IsDstBelow, IsBelow, AreBelow, AllBelow}
use Rattle.regfile_alloc.specs.Outcome.{exit_from}

src_from : (n : ℕ) (x : Src) → is_below_src n x ≡ true → IsSrcBelow n x
src_from n (src.Reg r) h = ltb-true r n h
src_from n (src.Small i) h = tt
src_from n (src.Word w) h = tt
src_from n src.Uniform h = tt
src_from n src.Elem h = tt
src_from n src.Qpu h = tt
src_from n src.Vpm h = tt

dst_from : (n : ℕ) (x : Dst) → is_below_dst n x ≡ true → IsDstBelow n x
dst_from n (dst.Reg r) h = ltb-true r n h
dst_from n dst.Five h = tt
dst_from n dst.Nowhere h = tt
dst_from n dst.Vpm h = tt
dst_from n dst.ReadSet h = tt
dst_from n dst.WriteSet h = tt
dst_from n dst.LoadAddr h = tt
dst_from n dst.StoreAddr h = tt
dst_from n dst.Unlock h = tt

op_from : (n s : ℕ) (o : Vop) → is_op n s o ≡ true → IsBelow n o
op_from n s o h =
    let most = (and_parts (is_vop o) (is_below_src n o.a && (is_below_src n o.b && (is_below_dst n o.dst && not (writes s o.dst)))) h).1 in
    let a = and_parts (is_below_src n o.a) (is_below_src n o.b && (is_below_dst n o.dst && not (writes s o.dst))) most in
    let b = and_parts (is_below_src n o.b) (is_below_dst n o.dst && not (writes s o.dst)) a.1 in
    let d = and_parts (is_below_dst n o.dst) (not (writes s o.dst)) b.1 in
    record { a = src_from n o.a a.0; b = src_from n o.b b.0; dst = dst_from n o.dst d.0 }

ops_from : (n s : ℕ) (os : List Vop) → are_ops n s os ≡ true → AreBelow n os
ops_from n s [] h = tt
ops_from n s (o ∷ os) h = let p = and_parts (is_op n s o) (are_ops n s os) h in (op_from n s o p.0, ops_from n s os p.1)

-- what the first operation reads is a uniform, and it writes the register of the scratch
uniform_below : (n : ℕ) (x : Src) → is_uniform x ≡ true → IsSrcBelow n x
uniform_below n (src.Reg r) h = absurd (true≢false (sym h))
uniform_below n (src.Small i) h = tt
uniform_below n (src.Word w) h = tt
uniform_below n src.Uniform h = tt
uniform_below n src.Elem h = tt
uniform_below n src.Qpu h = tt
uniform_below n src.Vpm h = tt

scratch_below : (n s : ℕ) (x : Dst) → s < n → writes s x ≡ true → IsDstBelow n x
scratch_below n s (dst.Reg r) l h = subst (λ z. z < n) (sym (eqb-true r s h)) l
scratch_below n s dst.Five l h = tt
scratch_below n s dst.Nowhere l h = tt
scratch_below n s dst.Vpm l h = tt
scratch_below n s dst.ReadSet l h = tt
scratch_below n s dst.WriteSet l h = tt
scratch_below n s dst.LoadAddr l h = tt
scratch_below n s dst.StoreAddr l h = tt
scratch_below n s dst.Unlock l h = tt

first_from : (n s : ℕ) (o : Vop) → s < n → sets_scratch s o ≡ true → IsBelow n o
first_from n s o l h =
    let last = not (is_turn o.turn) && o.unpack == 0 in
    let p = and_parts (is_vop o) (is_or o.op && (is_always o.cond && (writes s o.dst && (is_uniform o.a && (is_uniform o.b && last))))) h in
    let q = and_parts (is_or o.op) (is_always o.cond && (writes s o.dst && (is_uniform o.a && (is_uniform o.b && last)))) p.1 in
    let r = and_parts (is_always o.cond) (writes s o.dst && (is_uniform o.a && (is_uniform o.b && last))) q.1 in
    let w = and_parts (writes s o.dst) (is_uniform o.a && (is_uniform o.b && last)) r.1 in
    let a = and_parts (is_uniform o.a) (is_uniform o.b && last) w.1 in
    let b = and_parts (is_uniform o.b) last a.1 in
    record { a = uniform_below n o.a a.0; b = uniform_below n o.b b.0; dst = scratch_below n s o.dst l w.0 }

module _ (regs s n : ℕ) where
  blocks_below : (bs : List VopBlock) → are_blocks regs s n bs ≡ true → AllBelow regs (map block_from bs)
  blocks_below [] h = tt
  blocks_below (b ∷ bs) h =
      let p = and_parts (is_block regs s n b) (are_blocks regs s n bs) h in
      (ops_from regs s b.ops.items (and_parts (are_ops regs s b.ops.items) (are_sections None b.ops.items && is_exit n b.exit) p.0).0, blocks_below bs p.1)

  blocks_lead : (bs : List VopBlock) → are_blocks regs s n bs ≡ true → are_exits n (map exit_from bs) ≡ true
  blocks_lead [] h = refl
  blocks_lead (b ∷ bs) h =
      let p = and_parts (is_block regs s n b) (are_blocks regs s n bs) h in
      let q = and_parts (are_ops regs s b.ops.items) (are_sections None b.ops.items && is_exit n b.exit) p.0 in
      and_from (is_exit n b.exit) (are_exits n (map exit_from bs)) (and_parts (are_sections None b.ops.items) (is_exit n b.exit) q.1).1 (blocks_lead bs p.1)

  first_ops : (os : List Vop) (e : Exit) → s < regs → is_first regs s n os e ≡ true → AreBelow regs os
  first_ops [] e l h = absurd (true≢false (sym h))
  first_ops (o ∷ os) e l h =
      let p = and_parts (sets_scratch s o) (are_ops regs s os && (are_sections None os && is_exit n e)) h in
      (first_from regs s o l p.0, ops_from regs s os (and_parts (are_ops regs s os) (are_sections None os && is_exit n e) p.1).0)

  first_leads : (os : List Vop) (e : Exit) → is_first regs s n os e ≡ true → is_exit n e ≡ true
  first_leads [] e h = absurd (true≢false (sym h))
  first_leads (o ∷ os) e h =
      let p = and_parts (sets_scratch s o) (are_ops regs s os && (are_sections None os && is_exit n e)) h in
      let q = and_parts (are_ops regs s os) (are_sections None os && is_exit n e) p.1 in
      (and_parts (are_sections None os) (is_exit n e) q.1).1

pub below_from : (regs s : ℕ) (blocks : List VopBlock) → is_valid regs s blocks ≡ true → AllBelow regs (map block_from blocks)
unfolding is_valid
below_from regs s [] h = tt
below_from regs s (b ∷ bs) h =
    let n = length (b ∷ bs) in
    let p = and_parts (nat_lt s regs) (is_program regs s n (b ∷ bs)) h in
    let q = and_parts (is_first regs s n b.ops.items b.exit) (are_blocks regs s n bs) p.1 in
    (first_ops regs s n b.ops.items b.exit (ltb-true s regs p.0) q.0, blocks_below regs s n bs q.1)

pub closed_from : (regs s : ℕ) (blocks : List VopBlock) → is_valid regs s blocks ≡ true → is_closed (map exit_from blocks) ≡ true
unfolding is_valid is_closed
closed_from regs s [] h = absurd (true≢false (sym (and_parts (nat_lt s regs) false h).1))
closed_from regs s (b ∷ bs) h =
    let n = length (b ∷ bs) in
    let es = map exit_from (b ∷ bs) in
    let p = and_parts (nat_lt s regs) (is_program regs s n (b ∷ bs)) h in
    let q = and_parts (is_first regs s n b.ops.items b.exit) (are_blocks regs s n bs) p.1 in
    and_from (nat_lt 0 (length es)) (are_exits (length es) es) (lt-ltb 0 (length es) (omega arith))
    ((λ i. are_exits (length-map (b ∷ bs) exit_from i) es)
    ∙ and_from (is_exit n b.exit) (are_exits n (map exit_from bs)) (first_leads regs s n b.ops.items b.exit q.0) (blocks_lead regs s n bs q.1))
