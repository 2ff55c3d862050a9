-- The operations of definitions and statements are one word each, name registers that are there, and leave the scratch's register as it is.
use Rattle.std.proofs.Common.{◌≡◌, ℕ, ◌+◌, ◌-◌, ◌^◌, ◌<◌, true, false, List, [], ◌∷◌, refl, arith}
use Rattle.std.specs.Prelude.{◌&&◌, nat_lt, nat_le, ◌==◌, if◌then◌else◌, negsuc}
use Rattle.std.proofs.lemmas.Bool.{and_parts, lt-ltb, ltb-true, le-leb, leb-true, eq-eqb, ne_eqb, cond_both}
use Rattle.q_lane.specs.declared.operations.BinOp.{BinOp}
use Rattle.q_lane.specs.declared.operations.BinOp.TheVariants as bin
use Rattle.q_lane.specs.declared.operations.UnOp.{UnOp}
use Rattle.q_lane.specs.declared.operations.UnOp.TheVariants as one
use Rattle.q_functions.specs.declared.functions.WorkFunction.{WorkFunction}
use Rattle.q_functions.specs.declared.functions.WorkFunction.TheVariants.{WorkDim, GlobalSize, LocalSize}
use Rattle.item_ir.specs.declared.form.Val.{Val}
use Rattle.item_ir.specs.declared.form.Def.{Def}
use Rattle.item_ir.specs.declared.form.Def.TheVariants as def
use Rattle.lane_ir.specs.Valid.{Counts, is_val, is_def, is_size, counted}
use Rattle.qpu_encode.specs.declared.form.AddOp.TheVariants as add_op
use Rattle.vop_ir.specs.declared.form.Op.TheVariants as op
use Rattle.vop_ir.specs.declared.form.Src.TheVariants as src
use Rattle.vop_ir.specs.declared.form.Dst.TheVariants as dst
use Rattle.vop_ir.specs.declared.form.Vop.{Vop}
use Rattle.vop_ir.specs.Operations.{plain, copy, small}
use Rattle.vpm_dma_lower.proofs.Fine.{FineOp, FineOps, fine, either_way, if_fine, Own, Below, small_fine, asks_fine, moves_fine}
use Rattle.qpu_select.specs.Code.{Shape, all_regs, batch_reg, items_reg, temporary, param_reg, dims_reg, global_reg, local_reg, var_reg, constant, moves, asks, compares, move_where_zero, move_where_set, unit_op, two_ops, one_ops, choose_ops, size_ops, work_ops, flat_ops, let_ops, put_ops}

module _ (regs s : ℕ) where
  where_zero_fine : (d a : ℕ) → Own regs s d → Below regs s a → FineOp regs s (move_where_zero d a)
  where_zero_fine d a o h = fine regs s (move_where_zero d a) (either_way regs s (a == a)) h h o.0 o.1 refl refl

  where_set_fine : (d a : ℕ) → Own regs s d → Below regs s a → FineOp regs s (move_where_set d a)
  where_set_fine d a o h = fine regs s (move_where_set d a) (either_way regs s (a == a)) h h o.0 o.1 refl refl

  negative_fine : (d x : ℕ) → Own regs s d → nat_le x 15 ≡ true → FineOp regs s (copy (dst.Reg d) (src.Small (negsuc x)))
  negative_fine d x o h = fine regs s (copy (dst.Reg d) (src.Small (negsuc x))) (rw (eq-eqb x x refl, h) refl) refl refl o.0 o.1 refl refl

  word_fine : (d x : ℕ) → Own regs s d → FineOp regs s (copy (dst.Reg d) (src.Word x))
  word_fine d x o = fine regs s (copy (dst.Reg d) (src.Word x)) (rw (eq-eqb x x refl) refl) refl refl o.0 o.1 refl refl

  constant_fine : (d x : ℕ) → Own regs s d → x < 2 ^ 32 → FineOp regs s (copy (dst.Reg d) (constant x))
  constant_fine d x o h =
      cond_both (nat_lt x 16) (small x) (if nat_le (2 ^ 32 - 16) x then src.Small (negsuc (2 ^ 32 - 1 - x)) else src.Word x) (λ a. FineOp regs s (copy (dst.Reg d) a))
      (λ e. let p = ltb-true x 16 e in small_fine regs s d x o (le-leb x 15 (omega (arith, p))))
      (λ _. cond_both (nat_le (2 ^ 32 - 16) x) (src.Small (negsuc (2 ^ 32 - 1 - x))) (src.Word x) (λ a. FineOp regs s (copy (dst.Reg d) a))
      (λ e. let p = leb-true (2 ^ 32 - 16) x e in negative_fine d (2 ^ 32 - 1 - x) o (le-leb (2 ^ 32 - 1 - x) 15 (omega (arith, p))))
      (λ _. word_fine d x o))

  two_fine : (v : ℕ) (o : BinOp) (a b : ℕ) → Own regs s v → Below regs s a → Below regs s b → FineOps regs s (two_ops v (unit_op o) a b)
  two_fine v bin.Add a b o h g = (fine regs s _ (either_way regs s (a == b)) h g o.0 o.1 refl refl, tt)
  two_fine v bin.Sub a b o h g = (fine regs s _ (either_way regs s (a == b)) h g o.0 o.1 refl refl, tt)
  two_fine v bin.Mul a b o h g = (fine regs s _ (either_way regs s (a == b)) h g o.0 o.1 refl refl, tt)
  two_fine v (bin.MulHi true) a b o h g = (fine regs s _ (either_way regs s (a == b)) h g o.0 o.1 refl refl, tt)
  two_fine v (bin.MulHi false) a b o h g = (fine regs s _ (either_way regs s (a == b)) h g o.0 o.1 refl refl, tt)
  two_fine v bin.And a b o h g = (fine regs s _ (either_way regs s (a == b)) h g o.0 o.1 refl refl, tt)
  two_fine v bin.Or a b o h g = (fine regs s _ (either_way regs s (a == b)) h g o.0 o.1 refl refl, tt)
  two_fine v bin.Xor a b o h g = (fine regs s _ (either_way regs s (a == b)) h g o.0 o.1 refl refl, tt)
  two_fine v bin.Shl a b o h g = (fine regs s _ (either_way regs s (a == b)) h g o.0 o.1 refl refl, tt)
  two_fine v bin.Shr a b o h g = (fine regs s _ (either_way regs s (a == b)) h g o.0 o.1 refl refl, tt)
  two_fine v bin.Sar a b o h g = (fine regs s _ (either_way regs s (a == b)) h g o.0 o.1 refl refl, tt)
  two_fine v (bin.Min true) a b o h g = (fine regs s _ (either_way regs s (a == b)) h g o.0 o.1 refl refl, tt)
  two_fine v (bin.Max true) a b o h g = (fine regs s _ (either_way regs s (a == b)) h g o.0 o.1 refl refl, tt)
  two_fine v bin.Mul24 a b o h g = (fine regs s _ (either_way regs s (a == b)) h g o.0 o.1 refl refl, tt)
  two_fine v (bin.Min false) a b o h g = tt
  two_fine v (bin.Max false) a b o h g = tt
  two_fine v (bin.Div t) a b o h g = tt
  two_fine v (bin.Rem t) a b o h g = tt
  two_fine v (bin.Less t) a b o h g = tt
  two_fine v bin.Equal a b o h g = tt

  one_fine : (v : ℕ) (x : UnOp) (a : ℕ) → Own regs s v → Below regs s a → FineOps regs s (one_ops v x a)
  one_fine v one.Not a o h = (fine regs s _ (either_way regs s (a == a)) h h o.0 o.1 refl refl, tt)
  one_fine v one.Neg a o h = (fine regs s _ refl refl h o.0 o.1 refl refl, tt)
  one_fine v one.Clz a o h = (fine regs s _ (either_way regs s (a == a)) h h o.0 o.1 refl refl, tt)
  one_fine v one.Popcount a o h = tt
  one_fine v (one.Narrow t) a o h = tt

  choose_fine : (v c a b : ℕ) → Own regs s v → Below regs s c → Below regs s a → Below regs s b → FineOps regs s (choose_ops v c a b)
  choose_fine v c a b o hc ha hb =
      if_fine regs s (b == v) (asks c ∷ move_where_set v a ∷ []) (if a == v then asks c ∷ move_where_zero v b ∷ [] else asks c ∷ moves v b ∷ move_where_set v a ∷ [])
      (asks_fine regs s c hc, (where_set_fine v a o ha, tt))
      (if_fine regs s (a == v) (asks c ∷ move_where_zero v b ∷ []) (asks c ∷ moves v b ∷ move_where_set v a ∷ [])
      (asks_fine regs s c hc, (where_zero_fine v b o hb, tt))
      (asks_fine regs s c hc, (moves_fine regs s v b o hb, (where_set_fine v a o ha, tt))))

  size_fine : (t first v d : ℕ) → Own regs s t → Below regs s first → Below regs s (first + 1) → Below regs s (first + 2) → Own regs s v → Below regs s d → FineOps regs s (size_ops t first v d)
  size_fine t first v d ot h0 h1 h2 ov hd = (
    small_fine regs s t 1 ot refl,
    (
      asks_fine regs s d hd,
      (
        where_zero_fine t first ot h0,
        (
          fine regs s (compares d 1) refl hd refl refl refl refl refl,
          (
            where_zero_fine t (first + 1) ot h1,
            (
              fine regs s (compares d 2) refl hd refl refl refl refl refl,
              (
                where_zero_fine t (first + 2) ot h2,
                (moves_fine regs s v t ov ot.0, tt),
              ),
            ),
          ),
        ),
      ),
    ),
  )

-- the registers of a shape
module _ (h : Shape) where
  abbrev pub Fine : List Vop → Type 0
  Fine = FineOps (all_regs h) h.vals

  pub low_own : (r : ℕ) → r < h.vals → Own (all_regs h) h.vals r
  low_own r p = (lt-ltb r (all_regs h) (omega (arith, p)), ne_eqb r h.vals (λ e. omega (arith, e, p)))

  pub high_own : (r : ℕ) → h.vals < r → r < all_regs h → Own (all_regs h) h.vals r
  high_own r p q = (lt-ltb r (all_regs h) q, ne_eqb r h.vals (λ e. omega (arith, e, p)))

  pub val_own : (v : ℕ) → nat_lt v h.vals ≡ true → Own (all_regs h) h.vals v
  val_own v e = low_own v (ltb-true v h.vals e)

  pub var_own : (u : ℕ) → nat_lt u h.vars ≡ true → Own (all_regs h) h.vals (var_reg h u)
  var_own u e = let p = ltb-true u h.vars e in high_own (var_reg h u) (omega arith) (omega (arith, p))

  work_fine : (v : ℕ) (which : WorkFunction) (d : ℕ) → Own (all_regs h) h.vals v → Below (all_regs h) h.vals d → Fine (work_ops h v which d)
  work_fine v WorkDim d ov hd = (moves_fine (all_regs h) h.vals v (dims_reg h) ov (lt-ltb (dims_reg h) (all_regs h) (omega arith)), tt)
  work_fine v GlobalSize d ov hd =
      size_fine (all_regs h) h.vals (temporary h) (global_reg h) v d (high_own (temporary h) (omega arith) (omega arith))
      (lt-ltb (global_reg h) (all_regs h) (omega arith)) (lt-ltb (global_reg h + 1) (all_regs h) (omega arith)) (lt-ltb (global_reg h + 2) (all_regs h) (omega arith)) ov hd
  work_fine v LocalSize d ov hd =
      size_fine (all_regs h) h.vals (temporary h) (local_reg h) v d (high_own (temporary h) (omega arith) (omega arith))
      (lt-ltb (local_reg h) (all_regs h) (omega arith)) (lt-ltb (local_reg h + 1) (all_regs h) (omega arith)) (lt-ltb (local_reg h + 2) (all_regs h) (omega arith)) ov hd
  work_fine v which d ov hd = tt

  flat_fine : (v : ℕ) → Own (all_regs h) h.vals v → Fine (flat_ops h v)
  flat_fine v ov = (
    fine (all_regs h) h.vals (plain (op.Add add_op.Shl) (dst.Reg v) (src.Reg (batch_reg h)) (small 4)) refl (lt-ltb (batch_reg h) (all_regs h) (omega arith)) refl ov.0 ov.1 refl refl,
    (fine (all_regs h) h.vals (plain (op.Add add_op.Add) (dst.Reg v) (src.Reg v) src.Elem) refl ov.0 refl ov.0 ov.1 refl refl, tt),
  )

  module _ (arrays : ℕ) where
    abbrev counts : Counts
    counts = counted h.vals h.vars arrays h.params

    pub let_fine : (v : Val) (d : Def) → is_val counts v ≡ true → is_def counts d ≡ true → Fine (let_ops h v.0 d)
    let_fine v (def.Const x) hv g = (constant_fine (all_regs h) h.vals v.0 x (val_own v.0 hv) (ltb-true x (2 ^ 32) g), tt)
    let_fine v (def.Param p) hv g =
        let q = ltb-true p h.params g in
        (moves_fine (all_regs h) h.vals v.0 (param_reg h p) (val_own v.0 hv) (lt-ltb (param_reg h p) (all_regs h) (omega (arith, q))), tt)
    let_fine v (def.Work which d) hv g =
        let q = and_parts (is_size which) (is_val counts d) g in
        work_fine v.0 which d.0 (val_own v.0 hv) (val_own d.0 q.1).0
    let_fine v (def.Get u) hv g = (moves_fine (all_regs h) h.vals v.0 (var_reg h u) (val_own v.0 hv) (var_own u g).0, tt)
    let_fine v (def.Bin o a b) hv g =
        let q = and_parts (is_val counts a) (is_val counts b) g in
        two_fine (all_regs h) h.vals v.0 o a.0 b.0 (val_own v.0 hv) (val_own a.0 q.0).0 (val_own b.0 q.1).0
    let_fine v (def.One o a) hv g = one_fine (all_regs h) h.vals v.0 o a.0 (val_own v.0 hv) (val_own a.0 g).0
    let_fine v (def.Built which t args) hv g = tt
    let_fine v (def.Choose c a b) hv g =
        let p = and_parts (is_val counts c) (is_val counts a && is_val counts b) g in
        let q = and_parts (is_val counts a) (is_val counts b) p.1 in
        choose_fine (all_regs h) h.vals v.0 c.0 a.0 b.0 (val_own v.0 hv) (val_own c.0 p.0).0 (val_own a.0 q.0).0 (val_own b.0 q.1).0
    let_fine v (def.Load t a) hv g = tt
    let_fine v (def.Element r i) hv g = tt
    let_fine v def.Flat hv g = flat_fine v.0 (val_own v.0 hv)
    let_fine v def.Items hv g = (moves_fine (all_regs h) h.vals v.0 (items_reg h) (val_own v.0 hv) (lt-ltb (items_reg h) (all_regs h) (omega arith)), tt)

    pub put_fine : (u : ℕ) (x m : Val) → nat_lt u h.vars ≡ true → is_val counts x ≡ true → is_val counts m ≡ true → Fine (put_ops h u x.0 m.0)
    put_fine u x m hu hx hm =
        (asks_fine (all_regs h) h.vals m.0 (val_own m.0 hm).0, (where_set_fine (all_regs h) h.vals (var_reg h u) x.0 (var_own u hu) (val_own x.0 hx).0, tt))
