-- The code of the accesses of valid statements names only what is there, over eight registers more than there are values.
use Rattle.std.proofs.Common.{◌≡◌, ℕ, ◌+◌, ◌-◌, ◌*◌, ◌^◌, ◌<◌, ◌≤◌, Bool, true, false, List, [], ◌∷◌, ◌++◌, refl, ap, ◌∙◌, arith, length}
use Rattle.std.specs.Prelude.{not, ◌&&◌, nat_le, nat_lt, ◌==◌, if◌then◌else◌, Some, None, get_or}
use Rattle.std.proofs.lemmas.Bool.{and_from, and_parts, le-leb, lt-ltb, ltb-true, eq-eqb, ne_eqb}
use Rattle.q_lane.specs.declared.kinds.Scalar.{Scalar}
use Rattle.q_lane.specs.declared.kinds.Scalar.TheVariants.{Char, Uchar, Short, Ushort, Int, Uint}
use Rattle.qpu_encode.specs.declared.form.AddOp.TheVariants as add_op
use Rattle.qpu_encode.specs.declared.form.BraCond.TheVariants.{AllZ, AllNz, AnyNz}
use Rattle.item_ir.specs.declared.form.Val.{Val}
use Rattle.lane_ir.specs.Valid.{Counts, is_val, is_stmt, is_row, is_body}
use Rattle.lane_ir.specs.declared.form.LaneStmt.{LaneStmt, Row_of-LaneStmt, end_of-LaneStmt, more_of-LaneStmt}
use Rattle.lane_ir.specs.declared.form.LaneStmt.TheVariants.{Let, Put, Load, Store, GetElement, PutElement, Clear, WhileAny'}
use Rattle.vop_ir.specs.declared.form.Exit.{Exit}
use Rattle.vop_ir.specs.declared.form.Exit.TheVariants.{Jump, Branch}
use Rattle.vop_ir.specs.declared.form.Op.TheVariants as op
use Rattle.vop_ir.specs.declared.form.Src.{Src}
use Rattle.vop_ir.specs.declared.form.Src.TheVariants as src
use Rattle.vop_ir.specs.declared.form.Dst.{Dst}
use Rattle.vop_ir.specs.declared.form.Dst.TheVariants as dst
use Rattle.vop_ir.specs.declared.form.Vop.{Vop}
use Rattle.vop_ir.specs.Operations.{plain, flagged, where_zero, where_set, copy, small}
use Rattle.vop_ir.specs.OneWord.{is_vop}
use Rattle.vop_ir.specs.Runs.{Block, vops}
use Rattle.vop_ir.specs.Valid.{are_ops, are_sections, is_op, holds, also_src, also_dst, named}
use Rattle.vpm_dma_lower.specs.Elements.{size_src, take_op, take_by, load_base, store_base}
use Rattle.vpm_dma_lower.specs.Code.{lock, unlock, wait_load, wait_store, idle, turned, turned_by, find, asks, steps_on, masks, compares, sums, load_length, store_length, core, load_core, store_core, own, brings_in, brings_back, load_blocks, store_blocks, finds_element, get_blocks, put_blocks, clear_first, clear_next, clear_blocks}
use Rattle.vpm_dma_lower.specs.Accesses.{Code, code_over, first_row, codes, codes_row, codes_all}
use Rattle.vpm_dma_lower.specs.Valid.{leads_within, is_part, are_parts, is_access, are_accesses}
use Rattle.vpm_dma_lower.proofs.Fine.{FineOp, FineOps, Own, Below, fine, either_way, are_ops_fine, no_sections, fine_append, asks_fine, moves_fine, zero_fine}

-- each code names only what is there, over these registers, and leaves register s as it is
abbrev pub are_codes : ℕ → ℕ → List Code → Bool
are_codes regs s [] = true
are_codes regs s (c ∷ cs) = are_parts regs s (length c.blocks) c.blocks && are_codes regs s cs

-- ---- sections

abbrev count_src : Src → ℕ
count_src (src.Reg r) = 1
count_src _ = 0

abbrev count_dst : Dst → ℕ
count_dst (dst.Reg r) = 1
count_dst _ = 0

-- how many registers are named, at most
abbrev count_op : Vop → ℕ
count_op o = count_dst o.dst + (count_src o.b + count_src o.a)

abbrev count_ops : List Vop → ℕ
count_ops [] = 0
count_ops (o ∷ os) = count_op o + count_ops os

one_also : (t : Bool) (r : ℕ) (xs : List ℕ) → length (if t then xs else r ∷ xs) ≤ 1 + length xs
one_also true r xs = omega arith
one_also false r xs = omega arith

few_src : (a : Src) (xs : List ℕ) → length (also_src a xs) ≤ count_src a + length xs
few_src (src.Reg r) xs = one_also (holds r xs) r xs
few_src (src.Small i) xs = omega arith
few_src (src.Word w) xs = omega arith
few_src src.Uniform xs = omega arith
few_src src.Elem xs = omega arith
few_src src.Qpu xs = omega arith
few_src src.Vpm xs = omega arith

few_dst : (d : Dst) (xs : List ℕ) → length (also_dst d xs) ≤ count_dst d + length xs
few_dst (dst.Reg r) xs = one_also (holds r xs) r xs
few_dst dst.Five xs = omega arith
few_dst dst.Nowhere xs = omega arith
few_dst dst.Vpm xs = omega arith
few_dst dst.ReadSet xs = omega arith
few_dst dst.WriteSet xs = omega arith
few_dst dst.LoadAddr xs = omega arith
few_dst dst.StoreAddr xs = omega arith
few_dst dst.Unlock xs = omega arith

few_named : (o : Vop) (xs : List ℕ) → length (named o xs) ≤ count_op o + length xs
few_named o xs =
    let p = few_src o.a xs in
    let q = few_src o.b (also_src o.a xs) in
    let r = few_dst o.dst (also_src o.b (also_src o.a xs)) in
    omega (arith, p, q, r)

module _ (regs s : ℕ) where
  section_ends : (xs : List ℕ) (os : List Vop) → FineOps regs s os → count_ops os + length xs ≤ 16 → are_sections (Some xs) (os ++ unlock ∷ []) ≡ true
  section_ends xs [] f h = and_from (nat_le (length xs) 16) true (le-leb (length xs) 16 (omega (arith, h))) refl
  section_ends xs (o ∷ os) f h =
      let p = few_named o xs in
      (λ i. not (f.0.no_acquire i)
      && (nat_le (length (named o xs)) 16 && are_sections (if f.0.no_release i then None else Some (named o xs)) (os ++ unlock ∷ [])))
      ∙ and_from (nat_le (length (named o xs)) 16) (are_sections (Some (named o xs)) (os ++ unlock ∷ [])) (le-leb (length (named o xs)) 16 (omega (arith, p, h)))
      (section_ends (named o xs) os f.1 (omega (arith, p, h)))

  before_section : (xs ys : List Vop) → FineOps regs s xs → are_sections None ys ≡ true → are_sections None (xs ++ ys) ≡ true
  before_section [] ys f h = h
  before_section (x ∷ xs) ys f h =
      (λ i. if f.0.no_acquire i then are_sections (Some []) (xs ++ ys) else (not (f.0.no_release i) && are_sections None (xs ++ ys))) ∙ before_section xs ys f.1 h

  ops_append : (xs ys : List Vop) → are_ops regs s xs ≡ true → are_ops regs s ys ≡ true → are_ops regs s (xs ++ ys) ≡ true
  ops_append [] ys h g = g
  ops_append (x ∷ xs) ys h g = let p = and_parts (is_op regs s x) (are_ops regs s xs) h in and_from (is_op regs s x) (are_ops regs s (xs ++ ys)) p.0 (ops_append xs ys p.1 g)

  plain_part : (n : ℕ) (ops : List Vop) (x : Exit) → FineOps regs s ops → leads_within n x ≡ true → is_part regs s n (record { ops = ops; exit = x }) ≡ true
  plain_part n ops x f l =
      and_from (are_ops regs s ops) (are_sections None ops && leads_within n x) (are_ops_fine regs s ops f)
      (and_from (are_sections None ops) (leads_within n x) (no_sections regs s ops f) l)

  section_part : (n : ℕ) (before inner : List Vop) (x : Exit) → FineOps regs s before → FineOps regs s inner → count_ops inner ≤ 16 → leads_within n x ≡ true
      → is_part regs s n (record { ops = before ++ (lock ∷ (inner ++ unlock ∷ [])); exit = x }) ≡ true
  section_part n before inner x f g few l =
      let section = lock ∷ (inner ++ unlock ∷ []) in
      and_from (are_ops regs s (before ++ section)) (are_sections None (before ++ section) && leads_within n x)
      (ops_append before section (are_ops_fine regs s before f) (ops_append inner (unlock ∷ []) (are_ops_fine regs s inner g) refl))
      (and_from (are_sections None (before ++ section)) (leads_within n x) (before_section before section f (section_ends [] inner g (omega (arith, few)))) l)

  more_parts : (n : ℕ) (b : Block vops) (bs : List (Block vops)) → is_part regs s n b ≡ true → are_parts regs s n bs ≡ true → are_parts regs s n (b ∷ bs) ≡ true
  more_parts n b bs h g = and_from (is_part regs s n b) (are_parts regs s n bs) h g

  parts_append : (n : ℕ) (xs ys : List (Block vops)) → are_parts regs s n xs ≡ true → are_parts regs s n ys ≡ true → are_parts regs s n (xs ++ ys) ≡ true
  parts_append n [] ys h g = g
  parts_append n (x ∷ xs) ys h g =
      let p = and_parts (is_part regs s n x) (are_parts regs s n xs) h in more_parts n x (xs ++ ys) p.0 (parts_append n xs ys p.1 g)

  codes_append : (xs ys : List Code) → are_codes regs s xs ≡ true → are_codes regs s ys ≡ true → are_codes regs s (xs ++ ys) ≡ true
  codes_append [] ys h g = g
  codes_append (c ∷ xs) ys h g =
      let p = and_parts (are_parts regs s (length c.blocks) c.blocks) (are_codes regs s xs) h in
      and_from (are_parts regs s (length c.blocks) c.blocks) (are_codes regs s (xs ++ ys)) p.0 (codes_append xs ys p.1 g)

-- ---- the code of an access

module _ (regs vals : ℕ) (room : vals + 8 ≤ regs) where
  abbrev F : Vop → Type 0
  F = FineOp regs vals

  abbrev Fs : List Vop → Type 0
  Fs = FineOps regs vals

  abbrev Mine : ℕ → Type 0
  Mine = Own regs vals

  mine : (k : ℕ) → 1 ≤ k → k < 8 → Mine (vals + k)
  mine k h g = (lt-ltb (vals + k) regs (omega (arith, room, g)), ne_eqb (vals + k) vals (λ e. omega (arith, e, h)))

  addr : Mine (vals + 1)
  addr = mine 1 (omega arith) (omega arith)

  value : Mine (vals + 2)
  value = mine 2 (omega arith) (omega arith)

  mask : Mine (vals + 3)
  mask = mine 3 (omega arith) (omega arith)

  lane : Mine (vals + 4)
  lane = mine 4 (omega arith) (omega arith)

  test : Mine (vals + 5)
  test = mine 5 (omega arith) (omega arith)

  at : Mine (vals + 6)
  at = mine 6 (omega arith) (omega arith)

  rows : Mine (vals + 7)
  rows = mine 7 (omega arith) (omega arith)

  scratch : Below regs vals vals
  scratch = lt-ltb vals regs (omega (arith, room))

  low : (v : ℕ) → v < vals → Mine v
  low v h = (lt-ltb v regs (omega (arith, room, h)), ne_eqb v vals (λ e. omega (arith, e, h)))

  add_regs : (d a b : ℕ) → Mine d → Mine a → Mine b → F (plain (op.Add add_op.Add) (dst.Reg d) (src.Reg a) (src.Reg b))
  add_regs d a b od oa ob = fine regs vals _ (either_way regs vals (a == b)) oa.0 ob.0 od.0 od.1 refl refl

  sub_regs : (d a b : ℕ) → Mine d → Mine a → Mine b → F (plain (op.Add add_op.Sub) (dst.Reg d) (src.Reg a) (src.Reg b))
  sub_regs d a b od oa ob = fine regs vals _ (either_way regs vals (a == b)) oa.0 ob.0 od.0 od.1 refl refl

  or_regs : (d a b : ℕ) → Mine d → Mine a → Mine b → F (plain (op.Add add_op.Or) (dst.Reg d) (src.Reg a) (src.Reg b))
  or_regs d a b od oa ob = fine regs vals _ (either_way regs vals (a == b)) oa.0 ob.0 od.0 od.1 refl refl

  add_word : (d a w : ℕ) → Mine d → Mine a → F (plain (op.Add add_op.Add) (dst.Reg d) (src.Reg a) (src.Word w))
  add_word d a w od oa = fine regs vals _ refl oa.0 refl od.0 od.1 refl refl

  add_small : (d a : ℕ) → Mine d → Mine a → F (plain (op.Add add_op.Add) (dst.Reg d) (src.Reg a) (small 1))
  add_small d a od oa = fine regs vals _ refl oa.0 refl od.0 od.1 refl refl

  to_five : F (plain (op.Add add_op.Sub) dst.Five (small 0) (src.Reg (vals + 4)))
  to_five = fine regs vals _ refl refl lane.0 refl refl refl refl

  turns : F (turned (dst.Reg (vals + 6)) (src.Reg (vals + 1)))
  turns = fine regs vals _ (either_way regs vals (vals + 1 == vals + 1)) addr.0 addr.0 at.0 at.1 refl refl

  turns_by : (d a n : ℕ) → Mine d → Mine a → (nat_le 1 n && nat_le n 15) ≡ true → F (turned_by (dst.Reg d) (src.Reg a) n)
  turns_by d a n od oa h = fine regs vals _ (rw (h, eq-eqb a a refl) refl) oa.0 oa.0 od.0 od.1 refl refl

  reads_word : (w a : ℕ) → Mine a → F (plain (op.Add add_op.Add) dst.ReadSet (src.Word w) (src.Reg a))
  reads_word w a oa = fine regs vals _ refl refl oa.0 refl refl refl refl

  writes_word : (w a : ℕ) → Mine a → F (plain (op.Add add_op.Add) dst.WriteSet (src.Word w) (src.Reg a))
  writes_word w a oa = fine regs vals _ refl refl oa.0 refl refl refl refl

  starts_load : (a : ℕ) → Mine a → F (copy dst.LoadAddr (src.Reg a))
  starts_load a oa = fine regs vals _ (either_way regs vals (a == a)) oa.0 oa.0 refl refl refl refl

  starts_store : (a : ℕ) → Mine a → F (copy dst.StoreAddr (src.Reg a))
  starts_store a oa = fine regs vals _ (either_way regs vals (a == a)) oa.0 oa.0 refl refl refl refl

  to_vpm : F (copy dst.Vpm (src.Reg (vals + 2)))
  to_vpm = fine regs vals _ (either_way regs vals (vals + 2 == vals + 2)) value.0 value.0 refl refl refl refl

  waits_load : F wait_load
  waits_load = fine regs vals wait_load refl refl refl refl refl refl refl

  waits_store : F wait_store
  waits_store = fine regs vals wait_store refl refl refl refl refl refl refl

  reads_row : F (copy dst.ReadSet (src.Word 1055232))
  reads_row = fine regs vals (copy dst.ReadSet (src.Word 1055232)) refl refl refl refl refl refl refl

  writes_row : F (copy dst.WriteSet (src.Word 6656))
  writes_row = fine regs vals (copy dst.WriteSet (src.Word 6656)) refl refl refl refl refl refl refl

  idles : F idle
  idles = fine regs vals idle refl refl refl refl refl refl refl

  finds_nowhere : F (find (own vals) dst.Nowhere)
  finds_nowhere = fine regs vals (find (own vals) dst.Nowhere) refl refl lane.0 refl refl refl refl

  masks_fine : F (masks (own vals))
  masks_fine = asks_fine regs vals (vals + 3) mask.0

  take_word_zero : (t : Scalar) → is_vop (where_zero (op.Add (take_op t)) (dst.Reg (vals + 2)) src.Vpm (take_by t)) ≡ true
  take_word_zero Char = refl
  take_word_zero Uchar = refl
  take_word_zero Short = refl
  take_word_zero Ushort = refl
  take_word_zero Int = refl
  take_word_zero Uint = refl

  take_word_set : (t : Scalar) → is_vop (where_set (op.Add (take_op t)) (dst.Reg (vals + 2)) src.Vpm (take_by t)) ≡ true
  take_word_set Char = refl
  take_word_set Uchar = refl
  take_word_set Short = refl
  take_word_set Ushort = refl
  take_word_set Int = refl
  take_word_set Uint = refl

  size_word : (t : Scalar) → is_vop (plain (op.Add add_op.Sub) (dst.Reg (vals + 5)) (src.Reg (vals + 5)) (size_src t)) ≡ true
  size_word Char = refl
  size_word Uchar = refl
  size_word Short = refl
  size_word Ushort = refl
  size_word Int = refl
  size_word Uint = refl

  -- lists of them
  asks_lane : Fs (asks (own vals))
  asks_lane = (
    fine regs vals (find (own vals) (dst.Reg (vals + 5))) refl refl lane.0 test.0 test.1 refl refl,
    (
      fine regs vals _ (either_way regs vals (vals + 3 == vals + 3)) mask.0 mask.0 test.0 test.1 refl refl,
      (fine regs vals _ (either_way regs vals (vals + 5 == vals + 5)) test.0 test.0 refl refl refl refl, tt),
    ),
  )

  steps_fine : Fs (steps_on (own vals))
  steps_fine = (add_small (vals + 4) (vals + 4) lane lane, (fine regs vals _ refl lane.0 refl refl refl refl refl, tt))

  compares_fine : (t : Scalar) → Fs (compares t (own vals))
  compares_fine t = (
    masks_fine,
    (
      zero_fine regs vals (vals + 4) lane,
      (
        fine regs vals _ refl refl refl lane.0 lane.1 refl refl,
        (
          turns_by (vals + 6) (vals + 4) 1 at lane refl,
          (
            fine regs vals _ refl refl at.0 at.0 at.1 refl refl,
            (
              turns_by (vals + 5) (vals + 1) 1 test addr refl,
              (
                sub_regs (vals + 5) (vals + 1) (vals + 5) test addr test,
                (
                  fine regs vals _ (size_word t) test.0 refl test.0 test.1 refl refl,
                  (
                    or_regs (vals + 5) (vals + 5) (vals + 6) test test at,
                    (
                      fine regs vals _ refl refl refl test.0 test.1 refl refl,
                      (
                        fine regs vals _ refl refl refl refl refl refl refl,
                        (
                          fine regs vals _ refl refl refl test.0 test.1 refl refl,
                          (fine regs vals _ (either_way regs vals (vals + 5 == vals + 5)) test.0 test.0 refl refl refl refl, tt),
                        ),
                      ),
                    ),
                  ),
                ),
              ),
            ),
          ),
        ),
      ),
    ),
  )

  sums_fine : Fs (sums (own vals))
  sums_fine = (
    turns_by (vals + 6) (vals + 4) 8 at lane refl,
    (
      add_regs (vals + 4) (vals + 4) (vals + 6) lane lane at,
      (
        turns_by (vals + 6) (vals + 4) 4 at lane refl,
        (
          add_regs (vals + 4) (vals + 4) (vals + 6) lane lane at,
          (
            turns_by (vals + 6) (vals + 4) 2 at lane refl,
            (
              add_regs (vals + 4) (vals + 4) (vals + 6) lane lane at,
              (
                turns_by (vals + 6) (vals + 4) 1 at lane refl,
                (add_regs (vals + 4) (vals + 4) (vals + 6) lane lane at, tt),
              ),
            ),
          ),
        ),
      ),
    ),
  )

  load_length_fine : Fs (load_length (own vals))
  load_length_fine = (fine regs vals _ refl lane.0 refl at.0 at.1 refl refl, (fine regs vals _ refl at.0 refl at.0 at.1 refl refl, tt))

  store_length_fine : Fs (store_length (own vals))
  store_length_fine = (fine regs vals _ refl lane.0 refl at.0 at.1 refl refl, tt)

  -- what stands in the sections, without the acquire and the release
  abbrev joined_loading : Scalar → List Vop
  joined_loading t =
      plain (op.Add add_op.Add) dst.ReadSet (src.Word (load_base t)) (src.Reg (vals + 6))
      ∷ copy dst.LoadAddr (src.Reg (vals + 1))
      ∷ wait_load
      ∷ copy dst.ReadSet (src.Word 1055232)
      ∷ idle
      ∷ idle
      ∷ masks (own vals)
      ∷ where_set (op.Add (take_op t)) (dst.Reg (vals + 2)) src.Vpm (take_by t)
      ∷ []

  joined_loading_fine : (t : Scalar) → Fs (joined_loading t)
  joined_loading_fine t = (
    reads_word (load_base t) (vals + 6) at,
    (
      starts_load (vals + 1) addr,
      (
        waits_load,
        (
          reads_row,
          (
            idles,
            (
              idles,
              (
                masks_fine,
                (fine regs vals _ (take_word_set t) refl refl value.0 value.1 refl refl, tt),
              ),
            ),
          ),
        ),
      ),
    ),
  )

  abbrev joined_storing : Scalar → List Vop
  joined_storing t =
      copy dst.WriteSet (src.Word 6656)
      ∷ copy dst.Vpm (src.Reg (vals + 2))
      ∷ plain (op.Add add_op.Add) dst.WriteSet (src.Word (store_base t)) (src.Reg (vals + 6))
      ∷ copy dst.StoreAddr (src.Reg (vals + 1))
      ∷ wait_store
      ∷ []

  joined_storing_fine : (t : Scalar) → Fs (joined_storing t)
  joined_storing_fine t = (writes_row, (to_vpm, (writes_word (store_base t) (vals + 6) at, (starts_store (vals + 1) addr, (waits_store, tt)))))

  abbrev loading : Scalar → List Vop
  loading t =
      plain (op.Add add_op.Add) dst.ReadSet (src.Word (load_base t + 2 ^ 20)) (src.Reg (vals + 4))
      ∷ copy dst.LoadAddr (src.Reg (vals + 6))
      ∷ wait_load
      ∷ copy dst.ReadSet (src.Word 1055232)
      ∷ idle
      ∷ idle
      ∷ find (own vals) dst.Nowhere
      ∷ where_zero (op.Add (take_op t)) (dst.Reg (vals + 2)) src.Vpm (take_by t)
      ∷ []

  loading_fine : (t : Scalar) → Fs (loading t)
  loading_fine t = (
    reads_word (load_base t + 2 ^ 20) (vals + 4) lane,
    (
      starts_load (vals + 6) at,
      (
        waits_load,
        (
          reads_row,
          (
            idles,
            (
              idles,
              (
                finds_nowhere,
                (fine regs vals _ (take_word_zero t) refl refl value.0 value.1 refl refl, tt),
              ),
            ),
          ),
        ),
      ),
    ),
  )

  abbrev storing : Scalar → List Vop
  storing t =
      copy dst.WriteSet (src.Word 6656)
      ∷ copy dst.Vpm (src.Reg (vals + 2))
      ∷ plain (op.Add add_op.Add) dst.WriteSet (src.Word (store_base t + 2 ^ 16)) (src.Reg (vals + 5))
      ∷ copy dst.StoreAddr (src.Reg (vals + 6))
      ∷ wait_store
      ∷ []

  storing_fine : (t : Scalar) → Fs (storing t)
  storing_fine t = (writes_row, (to_vpm, (writes_word (store_base t + 2 ^ 16) (vals + 5) test, (starts_store (vals + 6) at, (waits_store, tt)))))

  abbrev load_before : List Vop
  load_before = plain (op.Add add_op.Sub) dst.Five (small 0) (src.Reg (vals + 4)) ∷ turned (dst.Reg (vals + 6)) (src.Reg (vals + 1)) ∷ []

  abbrev store_before : List Vop
  store_before =
      plain (op.Add add_op.Sub) dst.Five (small 0) (src.Reg (vals + 4))
      ∷ turned (dst.Reg (vals + 6)) (src.Reg (vals + 1))
      ∷ plain (op.Add add_op.Shl) (dst.Reg (vals + 5)) (src.Reg (vals + 4)) (small 3)
      ∷ []

  load_before_fine : Fs load_before
  load_before_fine = (to_five, (turns, tt))

  store_before_fine : Fs store_before
  store_before_fine = (to_five, (turns, (fine regs vals _ refl lane.0 refl test.0 test.1 refl refl, tt)))

  -- the exits of an access's seven blocks lead to one of n blocks, or right after them
  pub record Exits (n e out : ℕ) : Type 0 where
    some_lane : leads_within n (Branch AnyNz (e + 1) out) ≡ true
    one_transfer : leads_within n (Branch AllZ (e + 2) (e + 3)) ≡ true
    done : leads_within n (Jump out) ≡ true
    begins : leads_within n (Jump (e + 3 + 1)) ≡ true
    this_lane : leads_within n (Branch AllNz (e + 3 + 2) (e + 3 + 3)) ≡ true
    steps : leads_within n (Jump (e + 3 + 3)) ≡ true
    next_lane : leads_within n (Branch AnyNz (e + 3 + 1) out) ≡ true

  core_fine : (n e out : ℕ) (t : Scalar) (first before inner before_each each : List Vop) → Exits n e out → Fs first → Fs before → Fs inner → count_ops inner ≤ 16
      → Fs before_each → Fs each → count_ops each ≤ 16
      → are_parts regs vals n (core e out t (own vals) first (before ++ (lock ∷ (inner ++ unlock ∷ []))) (before_each ++ (lock ∷ (each ++ unlock ∷ [])))) ≡ true
  core_fine n e out t first before inner before_each each x a b c few d g few_each =
      let fourth : Block vops = record { ops = copy (dst.Reg (vals + 4)) (small 0) ∷ []; exit = Jump (e + 3 + 1) } in
      let fifth : Block vops = record { ops = asks (own vals); exit = Branch AllNz (e + 3 + 2) (e + 3 + 3) } in
      let sixth : Block vops = record { ops = before_each ++ (lock ∷ (each ++ unlock ∷ [])); exit = Jump (e + 3 + 3) } in
      let seventh : Block vops = record { ops = steps_on (own vals); exit = Branch AnyNz (e + 3 + 1) out } in
      let second : Block vops = record { ops = compares t (own vals); exit = Branch AllZ (e + 2) (e + 3) } in
      let third : Block vops = record { ops = sums (own vals) ++ (before ++ (lock ∷ (inner ++ unlock ∷ []))); exit = Jump out } in
      more_parts regs vals n (record { ops = first ++ masks (own vals) ∷ []; exit = Branch AnyNz (e + 1) out }) (second ∷ third ∷ fourth ∷ fifth ∷ sixth ∷ seventh ∷ [])
      (plain_part regs vals n (first ++ masks (own vals) ∷ []) (Branch AnyNz (e + 1) out) (fine_append regs vals first (masks (own vals) ∷ []) a (masks_fine, tt)) x.some_lane)
      (more_parts regs vals n second (third ∷ fourth ∷ fifth ∷ sixth ∷ seventh ∷ [])
      (plain_part regs vals n (compares t (own vals)) (Branch AllZ (e + 2) (e + 3)) (compares_fine t) x.one_transfer)
      (more_parts regs vals n third (fourth ∷ fifth ∷ sixth ∷ seventh ∷ [])
      (section_part regs vals n (sums (own vals) ++ before) inner (Jump out) (fine_append regs vals (sums (own vals)) before sums_fine b) c few x.done)
      (more_parts regs vals n fourth (fifth ∷ sixth ∷ seventh ∷ [])
      (plain_part regs vals n (copy (dst.Reg (vals + 4)) (small 0) ∷ []) (Jump (e + 3 + 1)) (zero_fine regs vals (vals + 4) lane, tt) x.begins)
      (more_parts regs vals n fifth (sixth ∷ seventh ∷ [])
      (plain_part regs vals n (asks (own vals)) (Branch AllNz (e + 3 + 2) (e + 3 + 3)) asks_lane x.this_lane)
      (more_parts regs vals n sixth (seventh ∷ [])
      (section_part regs vals n before_each each (Jump (e + 3 + 3)) d g few_each x.steps)
      (more_parts regs vals n seventh []
      (plain_part regs vals n (steps_on (own vals)) (Branch AnyNz (e + 3 + 1) out) steps_fine x.next_lane) refl))))))

  load_core_fine : (n e out : ℕ) (t : Scalar) (first : List Vop) → Exits n e out → Fs first → are_parts regs vals n (load_core e out t (own vals) first) ≡ true
  load_core_fine n e out t first x a =
      core_fine n e out t first (load_length (own vals)) (joined_loading t) load_before (loading t) x a load_length_fine (joined_loading_fine t) (omega arith)
      load_before_fine (loading_fine t) (omega arith)

  store_core_fine : (n e out : ℕ) (t : Scalar) (first : List Vop) → Exits n e out → Fs first → are_parts regs vals n (store_core e out t (own vals) first) ≡ true
  store_core_fine n e out t first x a =
      core_fine n e out t first (store_length (own vals)) (joined_storing t) store_before (storing t) x a store_length_fine (joined_storing_fine t) (omega arith)
      store_before_fine (storing_fine t) (omega arith)

  exits_of_load : Exits 8 0 7
  exits_of_load = record { some_lane = refl; one_transfer = refl; done = refl; begins = refl; this_lane = refl; steps = refl; next_lane = refl }

  exits_of_store : Exits 7 0 7
  exits_of_store = record { some_lane = refl; one_transfer = refl; done = refl; begins = refl; this_lane = refl; steps = refl; next_lane = refl }

  exits_of_clear : Exits 9 1 8
  exits_of_clear = record { some_lane = refl; one_transfer = refl; done = refl; begins = refl; this_lane = refl; steps = refl; next_lane = refl }

  brings_in_fine : (a x m : ℕ) → Mine a → Mine x → Mine m → Fs (brings_in vals a x m)
  brings_in_fine a x m oa ox om =
      (moves_fine regs vals (vals + 1) a addr oa.0, (moves_fine regs vals (vals + 2) x value ox.0, (moves_fine regs vals (vals + 3) m mask om.0, tt)))

  abbrev lane_addresses : ℕ → List Vop
  lane_addresses first =
      plain (op.Add add_op.Shl) (dst.Reg (vals + 1)) src.Elem (small 2)
      ∷ plain (op.Add add_op.Add) (dst.Reg (vals + 1)) (src.Reg (vals + 1)) (src.Reg vals)
      ∷ plain (op.Add add_op.Add) (dst.Reg (vals + 1)) (src.Reg (vals + 1)) (src.Word (64 * first))
      ∷ []

  lane_addresses_fine : (first : ℕ) → Fs (lane_addresses first)
  lane_addresses_fine first = (
    fine regs vals _ refl refl refl addr.0 addr.1 refl refl,
    (
      fine regs vals _ (either_way regs vals (vals + 1 == vals)) addr.0 scratch addr.0 addr.1 refl refl,
      (add_word (vals + 1) (vals + 1) (64 * first) addr addr, tt),
    ),
  )

  finds_element_fine : (first j x m : ℕ) → Mine j → Mine x → Mine m → Fs (finds_element vals first j x m)
  finds_element_fine first j x m oj ox om =
      fine_append regs vals (lane_addresses first)
      (plain (op.Add add_op.Shl) (dst.Reg (vals + 2)) (src.Reg j) (small 6)
      ∷ plain (op.Add add_op.Add) (dst.Reg (vals + 1)) (src.Reg (vals + 1)) (src.Reg (vals + 2))
      ∷ copy (dst.Reg (vals + 2)) (src.Reg x)
      ∷ copy (dst.Reg (vals + 3)) (src.Reg m)
      ∷ [])
      (lane_addresses_fine first) (
        fine regs vals _ refl oj.0 refl value.0 value.1 refl refl,
        (
          add_regs (vals + 1) (vals + 1) (vals + 2) addr addr value,
          (moves_fine regs vals (vals + 2) x value ox.0, (moves_fine regs vals (vals + 3) m mask om.0, tt)),
        ),
      )

  back_fine : (d : ℕ) → Mine d → are_parts regs vals 8 (brings_back vals d 8 ∷ []) ≡ true
  back_fine d od =
      more_parts regs vals 8 (brings_back vals d 8) []
      (plain_part regs vals 8 (copy (dst.Reg d) (src.Reg (vals + 2)) ∷ []) (Jump 8) (moves_fine regs vals d (vals + 2) od value.0, tt) refl) refl

  load_fine : (t : Scalar) (d a m : ℕ) → Mine d → Mine a → Mine m → are_parts regs vals 8 (load_blocks 0 vals t d a m) ≡ true
  load_fine t d a m od oa om =
      parts_append regs vals 8 (load_core 0 7 t (own vals) (brings_in vals a d m)) (brings_back vals d 8 ∷ [])
      (load_core_fine 8 0 7 t (brings_in vals a d m) exits_of_load (brings_in_fine a d m oa od om)) (back_fine d od)

  store_fine : (t : Scalar) (a x m : ℕ) → Mine a → Mine x → Mine m → are_parts regs vals 7 (store_blocks 0 vals t a x m) ≡ true
  store_fine t a x m oa ox om = store_core_fine 7 0 7 t (brings_in vals a x m) exits_of_store (brings_in_fine a x m oa ox om)

  get_fine : (first d j m : ℕ) → Mine d → Mine j → Mine m → are_parts regs vals 8 (get_blocks 0 vals first d j m) ≡ true
  get_fine first d j m od oj om =
      parts_append regs vals 8 (load_core 0 7 Int (own vals) (finds_element vals first j d m)) (brings_back vals d 8 ∷ [])
      (load_core_fine 8 0 7 Int (finds_element vals first j d m) exits_of_load (finds_element_fine first j d m oj od om)) (back_fine d od)

  put_fine : (first j x m : ℕ) → Mine j → Mine x → Mine m → are_parts regs vals 7 (put_blocks 0 vals first j x m) ≡ true
  put_fine first j x m oj ox om = store_core_fine 7 0 7 Int (finds_element vals first j x m) exits_of_store (finds_element_fine first j x m oj ox om)

  clear_first_fine : (first len m : ℕ) → Mine m → Fs (clear_first vals first len m)
  clear_first_fine first len m om =
      fine_append regs vals (lane_addresses first)
      (copy (dst.Reg (vals + 2)) (small 0)
      ∷ copy (dst.Reg (vals + 3)) (src.Reg m)
      ∷ copy (dst.Reg (vals + 7)) (small 0)
      ∷ flagged (op.Add add_op.Sub) dst.Nowhere (src.Reg (vals + 7)) (src.Word len)
      ∷ [])
      (lane_addresses_fine first) (
        zero_fine regs vals (vals + 2) value,
        (
          moves_fine regs vals (vals + 3) m mask om.0,
          (zero_fine regs vals (vals + 7) rows, (fine regs vals _ refl rows.0 refl refl refl refl refl, tt)),
        ),
      )

  clear_next_fine : (len : ℕ) → Fs (clear_next vals len)
  clear_next_fine len = (
    add_word (vals + 1) (vals + 1) 64 addr addr,
    (
      add_small (vals + 7) (vals + 7) rows rows,
      (fine regs vals _ refl rows.0 refl refl refl refl refl, tt),
    ),
  )

  clear_fine : (first len m : ℕ) → Mine m → are_parts regs vals 9 (clear_blocks 0 vals first len m) ≡ true
  clear_fine first len m om =
      let next : Block vops = record { ops = clear_next vals len; exit = Branch AnyNz 1 9 } in
      more_parts regs vals 9 (record { ops = clear_first vals first len m; exit = Branch AnyNz 1 9 }) (store_core 1 8 Int (own vals) [] ++ next ∷ [])
      (plain_part regs vals 9 (clear_first vals first len m) (Branch AnyNz 1 9) (clear_first_fine first len m om) refl)
      (parts_append regs vals 9 (store_core 1 8 Int (own vals) []) (next ∷ []) (store_core_fine 9 1 8 Int [] exits_of_clear tt)
      (more_parts regs vals 9 next [] (plain_part regs vals 9 (clear_next vals len) (Branch AnyNz 1 9) (clear_next_fine len) refl) refl))

  -- ---- statements

  module _ (c : Counts) (lens : List ℕ) (same : c.vals ≡ vals) where
    val_mine : (v : Val) → is_val c v ≡ true → Mine v.0
    val_mine v h = let p = ltb-true v.0 c.vals h in low v.0 (omega (arith, p, same))

    single : (k : ℕ) (blocks : List (Block vops)) → length blocks ≡ k → are_parts regs vals k blocks ≡ true → are_codes regs vals (code_over vals blocks ∷ []) ≡ true
    single k blocks e h = and_from (are_parts regs vals (length blocks) blocks) true (ap (λ n. are_parts regs vals n blocks) e ∙ h) refl

    three_mine : (a b d : Val) → (is_val c a && (is_val c b && is_val c d)) ≡ true → Mine a.0 × Mine b.0 × Mine d.0
    three_mine a b d h =
        let p = and_parts (is_val c a) (is_val c b && is_val c d) h in
        let q = and_parts (is_val c b) (is_val c d) p.1 in
        (val_mine a p.0, val_mine b q.0, val_mine d q.1)

    mutual
      codes_fine : (a : LaneStmt) → is_stmt c a ≡ true → are_codes regs vals (codes vals lens a) ≡ true
      codes_fine (Let v d) ok = refl
      codes_fine (Put u x m) ok = refl
      codes_fine (Load t d a m) ok = let o = three_mine d a m ok in single 8 (load_blocks 0 vals t d.0 a.0 m.0) refl (load_fine t d.0 a.0 m.0 o.0 o.1 o.2)
      codes_fine (Store t a x m) ok = let o = three_mine a x m ok in single 7 (store_blocks 0 vals t a.0 x.0 m.0) refl (store_fine t a.0 x.0 m.0 o.0 o.1 o.2)
      codes_fine (GetElement k d j m) ok =
          let o = three_mine d j m (and_parts (nat_lt k c.arrays) (is_val c d && (is_val c j && is_val c m)) ok).1 in
          single 8 (get_blocks 0 vals (first_row lens k) d.0 j.0 m.0) refl (get_fine (first_row lens k) d.0 j.0 m.0 o.0 o.1 o.2)
      codes_fine (PutElement k j x m) ok =
          let o = three_mine j x m (and_parts (nat_lt k c.arrays) (is_val c j && (is_val c x && is_val c m)) ok).1 in
          single 7 (put_blocks 0 vals (first_row lens k) j.0 x.0 m.0) refl (put_fine (first_row lens k) j.0 x.0 m.0 o.0 o.1 o.2)
      codes_fine (Clear k m) ok =
          single 9 (clear_blocks 0 vals (first_row lens k) (get_or lens k 0) m.0) refl
          (clear_fine (first_row lens k) (get_or lens k 0) m.0 (val_mine m (and_parts (nat_lt k c.arrays) (is_val c m) ok).1))
      codes_fine (WhileAny' i head m j body) ok =
          let p = and_parts (is_val c m) (is_row c head && is_row c body) ok in
          let q = and_parts (is_row c head) (is_row c body) p.1 in
          codes_append regs vals (codes_row vals lens head) (codes_row vals lens body) (row_fine head q.0) (row_fine body q.1)

      row_fine : {k : _} (a : Row_of-LaneStmt k) → is_row c a ≡ true → are_codes regs vals (codes_row vals lens a) ≡ true
      row_fine end_of-LaneStmt ok = refl
      row_fine (more_of-LaneStmt a rest) ok =
          let p = and_parts (is_stmt c a) (is_row c rest) ok in
          codes_append regs vals (codes vals lens a) (codes_row vals lens rest) (codes_fine a p.0) (row_fine rest p.1)

    pub all_fine : (body : List LaneStmt) → is_body c body ≡ true → are_codes regs vals (codes_all vals lens body) ≡ true
    all_fine [] ok = refl
    all_fine (a ∷ rest) ok =
        let p = and_parts (is_stmt c a) (is_body c rest) ok in
        codes_append regs vals (codes vals lens a) (codes_all vals lens rest) (codes_fine a p.0) (all_fine rest p.1)

-- ---- the list

abbrev AllOver : ℕ → List Code → Type 0
AllOver r [] = Unit {0}
AllOver r (c ∷ cs) = (c.regs ≡ r) × AllOver r cs

over_append : (r : ℕ) (cs ds : List Code) → AllOver r cs → AllOver r ds → AllOver r (cs ++ ds)
over_append r [] ds p q = q
over_append r (c ∷ cs) ds p q = (p.0, over_append r cs ds p.1 q)

module _ (vals : ℕ) (lens : List ℕ) where
  mutual
    codes_over : (a : LaneStmt) → AllOver (vals + 8) (codes vals lens a)
    codes_over (Let v d) = tt
    codes_over (Put u x m) = tt
    codes_over (Load t d a m) = (refl, tt)
    codes_over (Store t a x m) = (refl, tt)
    codes_over (GetElement k d j m) = (refl, tt)
    codes_over (PutElement k j x m) = (refl, tt)
    codes_over (Clear k m) = (refl, tt)
    codes_over (WhileAny' i head m j body) = over_append (vals + 8) (codes_row vals lens head) (codes_row vals lens body) (row_over head) (row_over body)

    row_over : {k : _} (a : Row_of-LaneStmt k) → AllOver (vals + 8) (codes_row vals lens a)
    row_over end_of-LaneStmt = tt
    row_over (more_of-LaneStmt a rest) = over_append (vals + 8) (codes vals lens a) (codes_row vals lens rest) (codes_over a) (row_over rest)

  all_over : (body : List LaneStmt) → AllOver (vals + 8) (codes_all vals lens body)
  all_over [] = tt
  all_over (a ∷ rest) = over_append (vals + 8) (codes vals lens a) (codes_all vals lens rest) (codes_over a) (all_over rest)

from_codes : (vals : ℕ) (cs : List Code) → AllOver (vals + 8) cs → are_codes (vals + 8) vals cs ≡ true → are_accesses cs ≡ true
from_codes vals [] p h = refl
from_codes vals (c ∷ cs) p h =
    let q = and_parts (are_parts (vals + 8) vals (length c.blocks) c.blocks) (are_codes (vals + 8) vals cs) h in
    let r = c.regs in
    let e : r ≡ vals + 8 = p.0 in
    let s : r - 8 ≡ vals = omega (arith, e) in
    and_from (is_access c) (are_accesses cs)
    (and_from (nat_le 8 r) (are_parts r (r - 8) (length c.blocks) c.blocks) (le-leb 8 r (omega (arith, e)))
    ((λ i. are_parts (e i) (s i) (length c.blocks) c.blocks) ∙ q.0))
    (from_codes vals cs p.1 q.1)

-- the code of the accesses of a valid batch
pub list_valid : (c : Counts) (lens : List ℕ) (body : List LaneStmt) → is_body c body ≡ true → are_accesses (codes_all c.vals lens body) ≡ true
list_valid c lens body ok =
    from_codes c.vals (codes_all c.vals lens body) (all_over c.vals lens body) (all_fine (c.vals + 8) c.vals (omega arith) c lens refl body ok)
