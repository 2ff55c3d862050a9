-- The program of a valid batch names only what is there, where the code of its accesses does.
use Rattle.std.proofs.Common.{◌≡◌, ℕ, zero, suc, ◌+◌, ◌<◌, ◌≤◌, Bool, true, false, List, [], ◌∷◌, ◌++◌, refl, sym, ap, ◌∙◌, arith, map, length, length-append}
use Rattle.std.specs.Prelude.{not, ◌&&◌, nat_le, nat_lt, ◌==◌, None}
use Rattle.std.specs.List.{range_with_len}
use Rattle.std.proofs.lemmas.Bool.{and_from, le-leb, lt-ltb, eq-eqb, ne_eqb, not_from_false}
use Rattle.std.proofs.lemmas.List.{length-map}
use Rattle.qpu_encode.specs.declared.form.BraCond.TheVariants.{AnyN}
use Rattle.lane_ir.specs.Valid.{counted, is_body}
use Rattle.lane_ir.specs.declared.form.LaneStmt.{LaneStmt}
use Rattle.vop_ir.specs.declared.form.Exit.{Exit}
use Rattle.vop_ir.specs.declared.form.Exit.TheVariants.{Jump, Branch, Stop}
use Rattle.vop_ir.specs.declared.form.Vop.{Vop}
use Rattle.vop_ir.specs.declared.form.VopBlock.{VopBlock}
use Rattle.vop_ir.specs.Runs.{Block, vops, block_from}
use Rattle.vop_ir.specs.Valid.{is_target, is_exit, are_ops, are_sections, is_block, are_blocks, is_first, is_program, is_valid, sets_scratch}
use Rattle.vpm_dma_lower.specs.Accesses.{Code}
use Rattle.qpu_select.specs.Code.{Shape, Start, Piece, all_regs, batch_reg, step_reg, batches_reg, items_reg, dims_reg, global_reg, local_reg, opened, after, body_at, loop_blocks, nothing, adds}
use Rattle.qpu_select.specs.Clears.{emit_body}
use Rattle.qpu_select.specs.Whole.{takes, uniform_regs, more_batches, next_batch, opening, batch, program}
use Rattle.vpm_dma_lower.proofs.CodesFine.{are_codes}
use Rattle.vpm_dma_lower.proofs.Fine.{FineOp, FineOps, fine, either_way, are_ops_fine, no_sections}
use Rattle.qpu_select.proofs.Operations.{high_own}
use Rattle.qpu_select.proofs.Pieces.{Leads, FineBlocks, FinePiece, loop_rest, own_block, blocks_more, blocks_append, nothing_fine, adds_fine, then_fine, loop_fine}
use Rattle.qpu_select.proofs.Statements.{body_fine}

-- ---- what is asked of blocks, said of their meanings

abbrev good_blocks : ℕ → ℕ → ℕ → List (Block vops) → Bool
good_blocks regs s n [] = true
good_blocks regs s n (b ∷ bs) = (are_ops regs s b.ops && (are_sections None b.ops && is_exit n b.exit)) && good_blocks regs s n bs

abbrev good_program : ℕ → ℕ → ℕ → List (Block vops) → Bool
good_program regs s n [] = false
good_program regs s n (b ∷ bs) = is_first regs s n b.ops b.exit && good_blocks regs s n bs

module _ (regs s n : ℕ) where
  same_blocks : (bs : List VopBlock) → are_blocks regs s n bs ≡ good_blocks regs s n (map block_from bs)
  same_blocks [] = refl
  same_blocks (b ∷ bs) = ap (λ x. is_block regs s n b && x) (same_blocks bs)

  same_program : (bs : List VopBlock) → is_program regs s n bs ≡ good_program regs s n (map block_from bs)
  same_program [] = refl
  same_program (b ∷ bs) = ap (λ x. is_first regs s n b.ops.items b.exit && x) (same_blocks bs)

target_fine : (top b : ℕ) → 1 ≤ b → b ≤ top → is_target (top + 1) b ≡ true
target_fine top b h g = and_from (nat_le 1 b) (nat_lt b (top + 1)) (le-leb 1 b h) (lt-ltb b (top + 1) (omega (arith, g)))

exit_fine : (top : ℕ) (x : Exit) → Leads top x → is_exit (top + 1) x ≡ true
exit_fine top (Jump b) l = target_fine top b l.0 l.1
exit_fine top (Branch c hit miss) l =
    and_from (is_target (top + 1) hit) (is_target (top + 1) miss && not (hit == miss)) (target_fine top hit l.0 l.1)
    (and_from (is_target (top + 1) miss) (not (hit == miss)) (target_fine top miss l.2 l.3) (not_from_false (hit == miss) (ne_eqb hit miss l.4)))
exit_fine top Stop l = refl

blocks_good : (regs s top : ℕ) (bs : List (Block vops)) → FineBlocks regs s top bs → good_blocks regs s (top + 1) bs ≡ true
blocks_good regs s top [] f = refl
blocks_good regs s top (b ∷ bs) f =
    and_from (are_ops regs s b.ops && (are_sections None b.ops && is_exit (top + 1) b.exit)) (good_blocks regs s (top + 1) bs)
    (and_from (are_ops regs s b.ops) (are_sections None b.ops && is_exit (top + 1) b.exit) f.0.ops
    (and_from (are_sections None b.ops) (is_exit (top + 1) b.exit) f.0.sections (exit_fine top b.exit f.0.leads)))
    (blocks_good regs s top bs f.1)

-- ---- the opening

module _ (h : Shape) where
  abbrev Fine : List Vop → Type 0
  Fine = FineOps (all_regs h) h.vals

  takes_fine : (r : ℕ) → h.vals < r → r < all_regs h → FineOp (all_regs h) h.vals (takes r)
  takes_fine r p q = let o = high_own h r p q in fine (all_regs h) h.vals (takes r) refl refl refl o.0 o.1 refl refl

  range_fine : (a n : ℕ) → h.vals < a → a + n ≤ all_regs h → Fine (map takes (range_with_len a n))
  range_fine a zero p q = tt
  range_fine a (suc n) p q = (takes_fine a p (omega (arith, q)), range_fine (a + 1) n (omega (arith, p)) (omega (arith, q)))

  -- the uniforms after the first
  abbrev others : List Vop
  others =
      takes (batch_reg h) ∷ takes (step_reg h) ∷ takes (batches_reg h) ∷ takes (items_reg h) ∷ takes (dims_reg h)
      ∷ takes (global_reg h) ∷ takes (global_reg h + 1) ∷ takes (global_reg h + 2) ∷ takes (local_reg h) ∷ takes (local_reg h + 1) ∷ takes (local_reg h + 2)
      ∷ map takes (range_with_len (h.vals + 13) h.params)

  others_fine : Fine others
  others_fine = (
    takes_fine (batch_reg h) (omega arith) (omega arith),
    (
      takes_fine (step_reg h) (omega arith) (omega arith),
      (
        takes_fine (batches_reg h) (omega arith) (omega arith),
        (
          takes_fine (items_reg h) (omega arith) (omega arith),
          (
            takes_fine (dims_reg h) (omega arith) (omega arith),
            (
              takes_fine (global_reg h) (omega arith) (omega arith),
              (
                takes_fine (global_reg h + 1) (omega arith) (omega arith),
                (
                  takes_fine (global_reg h + 2) (omega arith) (omega arith),
                  (
                    takes_fine (local_reg h) (omega arith) (omega arith),
                    (
                      takes_fine (local_reg h + 1) (omega arith) (omega arith),
                      (
                        takes_fine (local_reg h + 2) (omega arith) (omega arith),
                        range_fine (h.vals + 13) h.params (omega arith) (omega arith),
                      ),
                    ),
                  ),
                ),
              ),
            ),
          ),
        ),
      ),
    ),
  )

  sets_it : sets_scratch h.vals (takes h.vals) ≡ true
  sets_it = rw (eq-eqb h.vals h.vals refl) refl

  first_fine : (top : ℕ) → 1 ≤ top → is_first (all_regs h) h.vals (top + 1) (map takes (uniform_regs h)) (Jump 1) ≡ true
  first_fine top p =
      and_from (sets_scratch h.vals (takes h.vals)) (are_ops (all_regs h) h.vals others && (are_sections None others && is_exit (top + 1) (Jump 1))) sets_it
      (and_from (are_ops (all_regs h) h.vals others) (are_sections None others && is_exit (top + 1) (Jump 1)) (are_ops_fine (all_regs h) h.vals others others_fine)
      (and_from (are_sections None others) (is_exit (top + 1) (Jump 1)) (no_sections (all_regs h) h.vals others others_fine)
      (exit_fine top (Jump 1) (omega arith, p))))

  test_fine : Fine (more_batches h ∷ [])
  test_fine = (
    fine (all_regs h) h.vals (more_batches h) (either_way (all_regs h) h.vals (batch_reg h == batches_reg h))
        (lt-ltb (batch_reg h) (all_regs h) (omega arith)) (lt-ltb (batches_reg h) (all_regs h) (omega arith)) refl refl refl refl,
    tt,
  )

  next_fine : Fine (next_batch h ∷ [])
  next_fine =
      let o = high_own h (batch_reg h) (omega arith) (omega arith) in
      (fine (all_regs h) h.vals (next_batch h) (either_way (all_regs h) h.vals (batch_reg h == step_reg h)) o.0 (lt-ltb (step_reg h) (all_regs h) (omega arith)) o.0 o.1 refl refl, tt)

  module _ (cs : List Code) (arrays : ℕ) (body : List LaneStmt) (codes : are_codes (all_regs h) h.vals cs ≡ true)
      (ok : is_body (counted h.vals h.vars arrays h.params) body ≡ true) where
    abbrev start : Start
    start = opening h

    abbrev head : Piece
    head = nothing (opened start)

    abbrev at : Start
    at = body_at start head

    batch_fine : FinePiece (all_regs h) h.vals at (batch h cs body at)
    batch_fine =
        let whole = body_fine h cs arrays codes [] body at ok tt in
        then_fine (all_regs h) h.vals at (emit_body h cs [] body at) (λ t. adds t (next_batch h ∷ [])) whole
        (adds_fine (all_regs h) h.vals (after at (emit_body h cs [] body at)) (next_batch h ∷ []) whole.ops next_fine)

    abbrev blocks : List (Block vops)
    blocks = loop_blocks start (more_batches h) AnyN head (batch h cs body at)

    abbrev end : Block vops
    end = record { ops = []; exit = Stop }

    program_good : good_program (all_regs h) h.vals (length (program h cs body)) (program h cs body) ≡ true
    program_good =
        let rest = loop_rest start (more_batches h) AnyN head (batch h cs body at) in
        let n : length (program h cs body) ≡ length blocks + 1 = length-append blocks (end ∷ []) in
        let fine_rest = loop_fine (all_regs h) h.vals start (more_batches h) AnyN head (batch h cs body at) test_fine (nothing_fine (all_regs h) h.vals (opened start) tt) batch_fine in
        let fine_end = own_block (all_regs h) h.vals (length blocks) [] Stop tt tt in
        ap (λ k. good_program (all_regs h) h.vals k (program h cs body)) n
        ∙ and_from (is_first (all_regs h) h.vals (length blocks + 1) (map takes (uniform_regs h)) (Jump 1)) (good_blocks (all_regs h) h.vals (length blocks + 1) (rest ++ end ∷ []))
        (first_fine (length blocks) (omega arith))
        (blocks_good (all_regs h) h.vals (length blocks) (rest ++ end ∷ [])
        (blocks_append (all_regs h) h.vals (length blocks) rest (end ∷ []) (blocks_more (all_regs h) h.vals (0 + length blocks) (length blocks) rest (omega arith) fine_rest) (fine_end, tt)))

    pub program_valid : (bs : List VopBlock) → map block_from bs ≡ program h cs body → is_program (all_regs h) h.vals (length bs) bs ≡ true
    program_valid bs e =
        let n : length bs ≡ length (program h cs body) = sym (length-map bs block_from) ∙ ap length e in
        same_program (all_regs h) h.vals (length bs) bs ∙ (λ i. good_program (all_regs h) h.vals (n i) (e i)) ∙ program_good

pub is_valid_from : (regs s : ℕ) (blocks : List VopBlock) → s < regs → is_program regs s (length blocks) blocks ≡ true → is_valid regs s blocks ≡ true
unfolding is_valid
is_valid_from regs s blocks h f = and_from (nat_lt s regs) (is_program regs s (length blocks) blocks) (lt-ltb s regs h) f
