-- The blocks of a piece name only what is there, and their exits lead to blocks from 1 to the one that is still open.
use Rattle.std.proofs.Common.{◌≡◌, ◌≢◌, ℕ, zero, suc, ◌+◌, ◌≤◌, true, List, [], ◌∷◌, ◌++◌, refl, arith, map, length, length-append}
use Rattle.std.specs.Prelude.{not, ◌&&◌, nat_le, ◌==◌, None, slice_get}
use Rattle.std.proofs.lemmas.Bool.{and_parts, leb-true, not-true, eqb-false}
use Rattle.std.proofs.lemmas.List.{length-map}
use Rattle.qpu_encode.specs.declared.form.BraCond.{BraCond}
use Rattle.vop_ir.specs.declared.form.Exit.{Exit}
use Rattle.vop_ir.specs.declared.form.Exit.TheVariants.{Jump, Branch, Stop}
use Rattle.vop_ir.specs.declared.form.Vop.{Vop}
use Rattle.vop_ir.specs.Runs.{Block, vops}
use Rattle.vop_ir.specs.Valid.{are_ops, are_sections}
use Rattle.vpm_dma_lower.specs.Code.{shifted, shifted_exit}
use Rattle.vpm_dma_lower.specs.Accesses.{Code}
use Rattle.qpu_select.specs.Code.{Start, Piece, after, opened, body_at, blocks_of, enters, loop_blocks, around, then_row, nothing, adds}
use Rattle.vpm_dma_lower.specs.Valid.{leads_within, is_part, are_parts}
use Rattle.vpm_dma_lower.proofs.CodesFine.{are_codes}
use Rattle.vpm_dma_lower.proofs.Fine.{FineOps, are_ops_fine, no_sections, fine_append}

-- to blocks from 1 to this one
abbrev pub Leads : ℕ → Exit → Type 0
Leads top (Jump b) = (1 ≤ b) × (b ≤ top)
Leads top (Branch c hit miss) = (1 ≤ hit) × (hit ≤ top) × (1 ≤ miss) × (miss ≤ top) × (hit ≢ miss)
Leads top Stop = Unit {0}

pub record FineBlock (regs s top : ℕ) (b : Block vops) : Type 0 where
  pub ops : are_ops regs s b.ops ≡ true
  pub sections : are_sections None b.ops ≡ true
  pub leads : Leads top b.exit

abbrev pub FineBlocks : ℕ → ℕ → ℕ → List (Block vops) → Type 0
FineBlocks regs s top [] = Unit {0}
FineBlocks regs s top (b ∷ bs) = FineBlock regs s top b × FineBlocks regs s top bs

pub record FinePiece (regs s : ℕ) (t : Start) (q : Piece) : Type 0 where
  pub closed : FineBlocks regs s (t.block + length q.closed) q.closed
  pub ops : FineOps regs s q.ops

-- a loop's blocks after the first
abbrev pub loop_rest : Start → Vop → BraCond → Piece → Piece → List (Block vops)
loop_rest t test holds head q =
    head.closed
    ++ (record { ops = head.ops ++ test ∷ []; exit = Branch holds (body_at t head).block ((body_at t head).block + length q.closed + 1) }
    ∷ (q.closed ++ record { ops = q.ops; exit = Jump (t.block + 1) } ∷ []))

leads_more : (top more : ℕ) (x : Exit) → top ≤ more → Leads top x → Leads more x
leads_more top more (Jump b) h l = (l.0, omega (arith, h, l.1))
leads_more top more (Branch c hit miss) h l = (l.0, omega (arith, h, l.1), l.2, omega (arith, h, l.3), l.4)
leads_more top more Stop h l = tt

module _ (regs s : ℕ) where
  pub own_block : (top : ℕ) (ops : List Vop) (x : Exit) → FineOps regs s ops → Leads top x → FineBlock regs s top (record { ops = ops; exit = x })
  own_block top ops x f l = record { ops = are_ops_fine regs s ops f; sections = no_sections regs s ops f; leads = l }

  pub blocks_more : (top more : ℕ) (bs : List (Block vops)) → top ≤ more → FineBlocks regs s top bs → FineBlocks regs s more bs
  blocks_more top more [] h f = tt
  blocks_more top more (b ∷ bs) h f =
      (record { ops = f.0.ops; sections = f.0.sections; leads = leads_more top more b.exit h f.0.leads }, blocks_more top more bs h f.1)

  pub blocks_append : (top : ℕ) (xs ys : List (Block vops)) → FineBlocks regs s top xs → FineBlocks regs s top ys → FineBlocks regs s top (xs ++ ys)
  blocks_append top [] ys f g = g
  blocks_append top (x ∷ xs) ys f g = (f.0, blocks_append top xs ys f.1 g)

  pub nothing_fine : (t : Start) → FineOps regs s t.ops → FinePiece regs s t (nothing t)
  nothing_fine t f = record { closed = tt; ops = f }

  pub adds_fine : (t : Start) (ops : List Vop) → FineOps regs s t.ops → FineOps regs s ops → FinePiece regs s t (adds t ops)
  adds_fine t ops f g = record { closed = tt; ops = fine_append regs s t.ops ops f g }

  pub then_fine : (t : Start) (q : Piece) (p : Start → Piece) → FinePiece regs s t q → FinePiece regs s (after t q) (p (after t q)) → FinePiece regs s t (then_row t q p)
  then_fine t q p f g =
      let more = (p (after t q)).closed in
      let top = t.block + length (q.closed ++ more) in
      let n = length-append q.closed more in
      record {
        closed =
            blocks_append top q.closed more
            (blocks_more (t.block + length q.closed) top q.closed (omega (arith, n)) f.closed)
            (blocks_more (t.block + length q.closed + length more) top more (omega (arith, n)) g.closed);
        ops = g.ops;
      }

  -- ---- accesses

  shifted_leads : (e n : ℕ) (x : Exit) → 1 ≤ e → leads_within n x ≡ true → Leads (e + n) (shifted_exit e x)
  shifted_leads e n (Jump b) h l = let p = leb-true b n l in (omega (arith, h), omega (arith, p))
  shifted_leads e n (Branch c hit miss) h l =
      let p = and_parts (nat_le hit n) (nat_le miss n && not (hit == miss)) l in
      let q = and_parts (nat_le miss n) (not (hit == miss)) p.1 in
      let a = leb-true hit n p.0 in
      let b = leb-true miss n q.0 in
      (omega (arith, h), omega (arith, a), omega (arith, h), omega (arith, b), λ same. eqb-false hit miss (not-true (hit == miss) q.1) (omega (arith, same)))
  shifted_leads e n Stop h l = tt

  parts_fine : (e n : ℕ) (bs : List (Block vops)) → 1 ≤ e → are_parts regs s n bs ≡ true → FineBlocks regs s (e + n) (map (shifted e) bs)
  parts_fine e n [] h f = tt
  parts_fine e n (b ∷ bs) h f =
      let p = and_parts (is_part regs s n b) (are_parts regs s n bs) f in
      let q = and_parts (are_ops regs s b.ops) (are_sections None b.ops && leads_within n b.exit) p.0 in
      let r = and_parts (are_sections None b.ops) (leads_within n b.exit) q.1 in
      (record { ops = q.0; sections = r.0; leads = shifted_leads e n b.exit h r.1 }, parts_fine e n bs h p.1)

  parts_at : (cs : List Code) (k : ℕ) → are_codes regs s cs ≡ true → are_parts regs s (length (blocks_of (slice_get cs k))) (blocks_of (slice_get cs k)) ≡ true
  parts_at [] k h = refl
  parts_at (c ∷ cs) zero h = (and_parts (are_parts regs s (length c.blocks) c.blocks) (are_codes regs s cs) h).0
  parts_at (c ∷ cs) (suc k) h = parts_at cs k (and_parts (are_parts regs s (length c.blocks) c.blocks) (are_codes regs s cs) h).1

  pub enters_fine : (cs : List Code) (t : Start) → are_codes regs s cs ≡ true → FineOps regs s t.ops → FinePiece regs s t (enters cs t)
  enters_fine cs t h f =
      let bs = blocks_of (slice_get cs t.next) in
      let e = t.block + 1 in
      let top = t.block + length (enters cs t).closed in
      let n = length-map bs (shifted e) in
      record {
        closed = (
          own_block top t.ops (Jump e) f (omega arith, omega (arith, n)),
          blocks_more (e + length bs) top (map (shifted e) bs) (omega (arith, n)) (parts_fine e (length bs) bs (omega arith) (parts_at cs t.next h)),
        );
        ops = tt;
      }

  -- ---- loops

  -- the blocks of a loop after the first
  pub loop_fine : (t : Start) (test : Vop) (holds : BraCond) (head q : Piece)
      → FineOps regs s (test ∷ []) → FinePiece regs s (opened t) head → FinePiece regs s (body_at t head) q
      → FineBlocks regs s (t.block + length (loop_blocks t test holds head q)) (loop_rest t test holds head q)
  loop_fine t test holds head q g first second =
      let top = t.block + length (loop_blocks t test holds head q) in
      let back : Block vops = record { ops = q.ops; exit = Jump (t.block + 1) } in
      let hit = (body_at t head).block in
      let tested : Block vops = record { ops = head.ops ++ test ∷ []; exit = Branch holds hit (hit + length q.closed + 1) } in
      let m = length-append head.closed (tested ∷ (q.closed ++ back ∷ [])) in
      let n = length-append q.closed (back ∷ []) in
      blocks_append top head.closed (tested ∷ (q.closed ++ back ∷ []))
      (blocks_more (t.block + 1 + length head.closed) top head.closed (omega (arith, m, n)) first.closed) (
        own_block top (head.ops ++ test ∷ []) tested.exit (fine_append regs s head.ops (test ∷ []) first.ops g)
            (omega arith, omega (arith, m, n), omega arith, omega (arith, m, n), λ same. omega (arith, same)),
        blocks_append top q.closed (back ∷ [])
            (blocks_more (hit + length q.closed) top q.closed (omega (arith, m, n)) second.closed)
            (own_block top q.ops (Jump (t.block + 1)) second.ops (omega arith, omega (arith, m, n)), tt),
      )

  pub around_fine : (t : Start) (test : Vop) (holds : BraCond) (head : Piece) (body : Start → Piece)
      → FineOps regs s t.ops → FineOps regs s (test ∷ []) → FinePiece regs s (opened t) head → FinePiece regs s (body_at t head) (body (body_at t head))
      → FinePiece regs s t (around t test holds head body)
  around_fine t test holds head body f g first second =
      let q = body (body_at t head) in
      let top = t.block + length (loop_blocks t test holds head q) in
      record {
        closed = (own_block top t.ops (Jump (t.block + 1)) f (omega arith, omega arith), loop_fine t test holds head q g first second);
        ops = tt;
      }
