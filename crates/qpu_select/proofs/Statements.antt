-- The code of valid statements names only what is there, where the code of accesses does.
use Rattle.std.proofs.Common.{◌≡◌, ℕ, Bool, true, false, List, [], ◌∷◌, ◌++◌, refl, map}
use Rattle.std.specs.Prelude.{not, ◌&&◌, nat_lt, if◌then◌else◌}
use Rattle.std.proofs.lemmas.Bool.{and_parts, false≢true}
use Rattle.qpu_encode.specs.declared.form.BraCond.TheVariants.{AnyNz}
use Rattle.lane_ir.specs.Valid.{Counts, counted, is_val, is_def, is_stmt, is_row, is_body}
use Rattle.lane_ir.specs.declared.form.LaneStmt.{LaneStmt, Row_of-LaneStmt, end_of-LaneStmt, more_of-LaneStmt}
use Rattle.lane_ir.specs.declared.form.LaneStmt.TheVariants.{Let, Put, Load, Store, GetElement, PutElement, Clear, WhileAny'}
use Rattle.vop_ir.specs.Valid.{holds}
use Rattle.vpm_dma_lower.specs.Accesses.{Code}
use Rattle.qpu_select.specs.Code.{Shape, Start, Piece, after, opened, body_at, all_regs, then_row, adds, asks, let_ops, put_ops, emit, emit_row}
use Rattle.qpu_select.specs.Clears.{Naming, clear, wholly, reads, namings, namings_row, cleared, seen_after, emit_body}
use Rattle.vpm_dma_lower.proofs.CodesFine.{are_codes}
use Rattle.vpm_dma_lower.proofs.Fine.{FineOps, Own, asks_fine, zero_fine}
use Rattle.qpu_select.proofs.Operations.{val_own, var_own, let_fine, put_fine}
use Rattle.qpu_select.proofs.Pieces.{FinePiece, nothing_fine, adds_fine, then_fine, enters_fine, around_fine}

module _ (h : Shape) (cs : List Code) (arrays : ℕ) (codes : are_codes (all_regs h) h.vals cs ≡ true) where
  abbrev counts : Counts
  counts = counted h.vals h.vars arrays h.params

  abbrev pub Fine : Start → Piece → Type 0
  Fine = FinePiece (all_regs h) h.vals

  abbrev pub Begun : Start → Type 0
  Begun t = FineOps (all_regs h) h.vals t.ops

  mutual
    pub emit_fine : (a : LaneStmt) (t : Start) → is_stmt counts a ≡ true → Begun t → Fine t (emit h cs a t)
    emit_fine (Let v d) t ok f =
        let p = and_parts (is_val counts v) (is_def counts d) ok in
        adds_fine (all_regs h) h.vals t (let_ops h v.0 d) f (let_fine h arrays v d p.0 p.1)
    emit_fine (Put u x m) t ok f =
        let p = and_parts (nat_lt u h.vars) (is_val counts x && is_val counts m) ok in
        let q = and_parts (is_val counts x) (is_val counts m) p.1 in
        adds_fine (all_regs h) h.vals t (put_ops h u x.0 m.0) f (put_fine h arrays u x m p.0 q.0 q.1)
    emit_fine (Load k d a m) t ok f = enters_fine (all_regs h) h.vals cs t codes f
    emit_fine (Store k a x m) t ok f = enters_fine (all_regs h) h.vals cs t codes f
    emit_fine (GetElement r d j m) t ok f = enters_fine (all_regs h) h.vals cs t codes f
    emit_fine (PutElement r j x m) t ok f = enters_fine (all_regs h) h.vals cs t codes f
    emit_fine (Clear r m) t ok f = enters_fine (all_regs h) h.vals cs t codes f
    emit_fine (WhileAny' i head m j body) t ok f =
        let p = and_parts (is_val counts m) (is_row counts head && is_row counts body) ok in
        let q = and_parts (is_row counts head) (is_row counts body) p.1 in
        let first = row_fine head (opened t) q.0 tt in
        around_fine (all_regs h) h.vals t (asks m.0) AnyNz (emit_row h cs head (opened t)) (emit_row h cs body) f
        (asks_fine (all_regs h) h.vals m.0 (val_own h m.0 p.0).0, tt) first
        (row_fine body (body_at t (emit_row h cs head (opened t))) q.1 tt)

    row_fine : {k : _} (r : Row_of-LaneStmt k) (t : Start) → is_row counts r ≡ true → Begun t → Fine t (emit_row h cs r t)
    row_fine end_of-LaneStmt t ok f = nothing_fine (all_regs h) h.vals t f
    row_fine (more_of-LaneStmt a rest) t ok f =
        let p = and_parts (is_stmt counts a) (is_row counts rest) ok in
        let first = emit_fine a t p.0 f in
        then_fine (all_regs h) h.vals t (emit h cs a t) (emit_row h cs rest) first (row_fine rest (after t (emit h cs a t)) p.1 first.ops)

  -- ---- clears

  -- what is written in some lanes only is a value or a variable
  abbrev NeedsOwn : Naming → Type 0
  NeedsOwn n = n.in_part ≡ true → Own (all_regs h) h.vals n.reg

  abbrev AllOwn : List Naming → Type 0
  AllOwn [] = Unit {0}
  AllOwn (n ∷ ns) = NeedsOwn n × AllOwn ns

  own_append : (xs ys : List Naming) → AllOwn xs → AllOwn ys → AllOwn (xs ++ ys)
  own_append [] ys f g = g
  own_append (x ∷ xs) ys f g = (f.0, own_append xs ys f.1 g)

  whole_own : (r : ℕ) → NeedsOwn (wholly r)
  whole_own r e = absurd (false≢true e)

  wholes_own : (rs : List ℕ) → AllOwn (map wholly rs)
  wholes_own [] = tt
  wholes_own (r ∷ rs) = (whole_own r, wholes_own rs)

  mutual
    namings_own : (a : LaneStmt) → is_stmt counts a ≡ true → AllOwn (namings h a)
    namings_own (Let v d) ok = own_append (map wholly (reads h d)) (wholly v.0 ∷ []) (wholes_own (reads h d)) (whole_own v.0, tt)
    namings_own (Put u x m) ok =
        let p = (and_parts (nat_lt u h.vars) (is_val counts x && is_val counts m) ok).0 in
        (whole_own x.0, (whole_own m.0, (λ _. var_own h u p, tt)))
    namings_own (Load k d a m) ok =
        let p = (and_parts (is_val counts d) (is_val counts a && is_val counts m) ok).0 in
        (whole_own a.0, (whole_own m.0, (λ _. val_own h d.0 p, tt)))
    namings_own (Store k a x m) ok = wholes_own (a.0 ∷ x.0 ∷ m.0 ∷ [])
    namings_own (GetElement r d j m) ok =
        let p = and_parts (nat_lt r arrays) (is_val counts d && (is_val counts j && is_val counts m)) ok in
        let q = (and_parts (is_val counts d) (is_val counts j && is_val counts m) p.1).0 in
        (whole_own j.0, (whole_own m.0, (λ _. val_own h d.0 q, tt)))
    namings_own (PutElement r j x m) ok = wholes_own (j.0 ∷ x.0 ∷ m.0 ∷ [])
    namings_own (Clear r m) ok = wholes_own (m.0 ∷ [])
    namings_own (WhileAny' i head m j body) ok =
        let p = and_parts (is_val counts m) (is_row counts head && is_row counts body) ok in
        let q = and_parts (is_row counts head) (is_row counts body) p.1 in
        own_append (namings_row h head) (wholly m.0 ∷ namings_row h body) (namings_row_own head q.0) (whole_own m.0, namings_row_own body q.1)

    namings_row_own : {k : _} (r : Row_of-LaneStmt k) → is_row counts r ≡ true → AllOwn (namings_row h r)
    namings_row_own end_of-LaneStmt ok = tt
    namings_row_own (more_of-LaneStmt a rest) ok =
        let p = and_parts (is_stmt counts a) (is_row counts rest) ok in
        own_append (namings h a) (namings_row h rest) (namings_own a p.0) (namings_row_own rest p.1)

  more_clears : (t : Bool) (r : ℕ) (rest : List ℕ) → (t ≡ true → Own (all_regs h) h.vals r) → FineOps (all_regs h) h.vals (map clear rest)
      → FineOps (all_regs h) h.vals (map clear ((if t then r ∷ [] else []) ++ rest))
  more_clears true r rest o f = (zero_fine (all_regs h) h.vals r (o refl), f)
  more_clears false r rest o f = f

  clears_fine : (seen : List ℕ) (ns : List Naming) → AllOwn ns → FineOps (all_regs h) h.vals (map clear (cleared seen ns))
  clears_fine seen [] o = tt
  clears_fine seen (n ∷ ns) o =
      let is_new = not (holds n.reg seen) in
      more_clears (n.in_part && is_new) n.reg (cleared (n.reg ∷ seen) ns) (λ e. o.0 (and_parts n.in_part is_new e).0) (clears_fine (n.reg ∷ seen) ns o.1)

  pub body_fine : (seen : List ℕ) (body : List LaneStmt) (t : Start) → is_body counts body ≡ true → Begun t → Fine t (emit_body h cs seen body t)
  body_fine seen [] t ok f = nothing_fine (all_regs h) h.vals t f
  body_fine seen (a ∷ rest) t ok f =
      let p = and_parts (is_stmt counts a) (is_body counts rest) ok in
      let more = map clear (cleared seen (namings h a)) in
      let u = after t (adds t more) in
      let first = adds_fine (all_regs h) h.vals t more f (clears_fine seen (namings h a) (namings_own a p.0)) in
      let second = emit_fine a u p.0 first.ops in
      let left = emit_body h cs (seen_after seen (namings h a)) rest in
      then_fine (all_regs h) h.vals t (adds t more) (λ x. then_row x (emit h cs a x) left) first
      (then_fine (all_regs h) h.vals u (emit h cs a u) left second (body_fine (seen_after seen (namings h a)) rest (after u (emit h cs a u)) p.1 second.ops))
