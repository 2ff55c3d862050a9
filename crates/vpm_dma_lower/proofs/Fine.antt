-- Operations that are one word each, name registers that are there, and leave one register and the mutex as they are.
use Rattle.std.proofs.Common.{◌≡◌, ℕ, Bool, true, false, List, [], ◌∷◌, ◌++◌, refl, ◌∙◌}
use Rattle.std.specs.Prelude.{not, ◌&&◌, ◌||◌, nat_lt, nat_le, ◌==◌, if◌then◌else◌, Some, None}
use Rattle.std.proofs.lemmas.Bool.{and_from, not_from_false, eq-eqb}
use Rattle.qpu_encode.specs.declared.form.AddOp.TheVariants as add_op
use Rattle.vop_ir.specs.declared.form.Op.TheVariants as op
use Rattle.vop_ir.specs.declared.form.Src.TheVariants as src
use Rattle.vop_ir.specs.declared.form.Dst.TheVariants as dst
use Rattle.vop_ir.specs.declared.form.Vop.{Vop}
use Rattle.vop_ir.specs.Operations.{flagged, copy, small}
use Rattle.vop_ir.specs.OneWord.{is_vop}
use Rattle.vop_ir.specs.Runs.{acquires, releases}
use Rattle.vop_ir.specs.Valid.{is_below_src, is_below_dst, writes, is_op, are_ops, are_sections}

-- over these registers, and it leaves register s and the mutex
pub record FineOp (regs s : ℕ) (o : Vop) : Type 0 where
  pub word : is_vop o ≡ true
  pub left : is_below_src regs o.a ≡ true
  pub right : is_below_src regs o.b ≡ true
  pub to : is_below_dst regs o.dst ≡ true
  pub keeps : writes s o.dst ≡ false
  pub no_acquire : acquires o.op ≡ false
  pub no_release : releases o.dst ≡ false

abbrev pub FineOps : ℕ → ℕ → List Vop → Type 0
FineOps regs s [] = Unit {0}
FineOps regs s (o ∷ os) = FineOp regs s o × FineOps regs s os

module _ (regs s : ℕ) where
  is_op_fine : (o : Vop) → FineOp regs s o → is_op regs s o ≡ true
  is_op_fine o f =
      and_from (is_vop o) (is_below_src regs o.a && (is_below_src regs o.b && (is_below_dst regs o.dst && not (writes s o.dst)))) f.word
      (and_from (is_below_src regs o.a) (is_below_src regs o.b && (is_below_dst regs o.dst && not (writes s o.dst))) f.left
      (and_from (is_below_src regs o.b) (is_below_dst regs o.dst && not (writes s o.dst)) f.right
      (and_from (is_below_dst regs o.dst) (not (writes s o.dst)) f.to (not_from_false (writes s o.dst) f.keeps))))

  pub are_ops_fine : (os : List Vop) → FineOps regs s os → are_ops regs s os ≡ true
  are_ops_fine [] f = refl
  are_ops_fine (o ∷ os) f = and_from (is_op regs s o) (are_ops regs s os) (is_op_fine o f.0) (are_ops_fine os f.1)

  pub no_sections : (os : List Vop) → FineOps regs s os → are_sections None os ≡ true
  no_sections [] f = refl
  no_sections (o ∷ os) f =
      (λ i. if f.0.no_acquire i then are_sections (Some []) os else (not (f.0.no_release i) && are_sections None os)) ∙ no_sections os f.1

  pub fine_append : (xs ys : List Vop) → FineOps regs s xs → FineOps regs s ys → FineOps regs s (xs ++ ys)
  fine_append [] ys f g = g
  fine_append (x ∷ xs) ys f g = (f.0, fine_append xs ys f.1 g)

  pub if_fine : (t : Bool) (xs ys : List Vop) → FineOps regs s xs → FineOps regs s ys → FineOps regs s (if t then xs else ys)
  if_fine true xs ys f g = f
  if_fine false xs ys f g = g

  pub fine : (o : Vop) → is_vop o ≡ true → is_below_src regs o.a ≡ true → is_below_src regs o.b ≡ true → is_below_dst regs o.dst ≡ true → writes s o.dst ≡ false
      → acquires o.op ≡ false → releases o.dst ≡ false → FineOp regs s o
  fine o word left right to keeps no_acquire no_release =
      record { word = word; left = left; right = right; to = to; keeps = keeps; no_acquire = no_acquire; no_release = no_release }

  -- a test on a number that doesn't matter
  pub either_way : (t : Bool) → ((t || true) && true) ≡ true
  either_way true = refl
  either_way false = refl

  abbrev pub Below : ℕ → Type 0
  Below r = nat_lt r regs ≡ true

  -- it may be written
  abbrev pub Own : ℕ → Type 0
  Own r = (nat_lt r regs ≡ true) × ((r == s) ≡ false)

  pub asks_fine : (r : ℕ) → Below r → FineOp regs s (flagged (op.Add add_op.Or) dst.Nowhere (src.Reg r) (src.Reg r))
  asks_fine r h = fine (flagged (op.Add add_op.Or) dst.Nowhere (src.Reg r) (src.Reg r)) (either_way (r == r)) h h refl refl refl refl

  pub moves_fine : (d a : ℕ) → Own d → Below a → FineOp regs s (copy (dst.Reg d) (src.Reg a))
  moves_fine d a o h = fine (copy (dst.Reg d) (src.Reg a)) (either_way (a == a)) h h o.0 o.1 refl refl

  pub small_fine : (d x : ℕ) → Own d → nat_le x 15 ≡ true → FineOp regs s (copy (dst.Reg d) (small x))
  small_fine d x o h = fine (copy (dst.Reg d) (small x)) (rw (eq-eqb x x refl, h) refl) refl refl o.0 o.1 refl refl

  pub zero_fine : (d : ℕ) → Own d → FineOp regs s (copy (dst.Reg d) (small 0))
  zero_fine d o = small_fine d 0 o refl
