-- A valid item fits the masks.
use Rattle.std.proofs.Common.{◌≡◌, ℕ, ◌+◌, ◌⊎◌, inl, inr, Bool, true, false, List, [], ◌∷◌, refl}
use Rattle.std.specs.Prelude.{not, ◌&&◌, ◌||◌, ◌==◌, nat_lt}
use Rattle.std.proofs.lemmas.Bool.{and_parts, ltb-true, eqb-true, eq-eqb, or_left, or_right}
use Rattle.item_ir.specs.declared.form.Val.{Val}
use Rattle.item_ir.specs.declared.form.Def.{Def}
use Rattle.item_ir.specs.declared.form.Def.TheVariants as d
use Rattle.item_ir.specs.declared.form.Stmt.{Stmt, Row_of-Stmt, end_of-Stmt, more_of-Stmt}
use Rattle.item_ir.specs.declared.form.Stmt.TheVariants.{Let, Set, Store, SetElement, Clear, If', Loop', Scope', Leave, Break, Continue}
use Rattle.item_ir.specs.Valid.{Counts, Around, Known, none_known, with_known, are_known, is_def, known_after as known_past, known_row as row_past, is_stmt, is_row, are_stmts, in_scope as scope_around, in_loop as loop_around, at_edge}
use Rattle.mask_law.specs.Stacks.{Entry, branch, in_scope, in_loop, in_round}
use Rattle.mask_law.specs.Lanes.{AllIn, Names, known_after, known_row, Fits, FitsRow, FitsAll, Open}
use Rattle.mask_law.specs.Flows.{ValidFits}

pub open_edge : (st : List Entry) → Open at_edge st
open_edge st = record { loop = λ e. cc; round = λ e. cc; scope = λ e. cc }

pub open_scope : (v : ℕ) (st : List Entry) → Open scope_around (in_scope v st)
open_scope v st = record { loop = λ e. cc; round = λ e. cc; scope = λ e. refl }

pub open_branch : (v : ℕ) (r : Around) (st : List Entry) → Open r st → Open r (branch v st)
open_branch v r st o = record { loop = o.loop; round = o.round; scope = o.scope }

pub open_round : (v : ℕ) (r : Around) (st : List Entry) → Open r st → Open (loop_around r) (in_round v st)
open_round v r st o = record { loop = λ e. refl; round = λ e. refl; scope = o.scope }

-- the values that the test and the law know are the same
pub record Alike (known : Known) (D : ℕ → Type 0) : Type 0 where
  pub up : (j : ℕ) → known j ≡ true → D j
  pub down : (j : ℕ) → D j → known j ≡ true

or_true : (a b : Bool) → (a || b) ≡ true → (a ≡ true) ⊎ (b ≡ true)
or_true true b h = inl refl
or_true false b h = inr h

alike_with : (x : ℕ) (known : Known) (D : ℕ → Type 0) → Alike known D → Alike (with_known x known) (λ j. D j ⊎ (j ≡ x))
alike_with x known D k = record {
  up = λ j e. elim (or_true (j == x) (known j) e) [ inl q ↦ inr (eqb-true j x q) | inr q ↦ inl (k.up j q) ];
  down = λ j e. elim e [ inl q ↦ or_right (j == x) (known j) (k.down j q) | inr q ↦ or_left (j == x) (known j) (eq-eqb j x q) ];
}

alike_after : (known : Known) (D : ℕ → Type 0) (a : Stmt) → Alike known D → Alike (known_past known a) (λ j. known_after D a j)
alike_after known D (Let x e) k = alike_with x.0 known D k
alike_after known D (Set u x) k = k
alike_after known D (Store t a x) k = k
alike_after known D (SetElement a i x) k = k
alike_after known D (Clear a) k = k
alike_after known D (If' c n a m b) k = k
alike_after known D (Loop' n h c m b i s) k = k
alike_after known D (Scope' n a) k = k
alike_after known D Leave k = k
alike_after known D Break k = k
alike_after known D Continue k = k

alike_row : {n : _} (known : Known) (D : ℕ → Type 0) (r : Row_of-Stmt n) → Alike known D → Alike (row_past known r) (λ j. known_row D r j)
alike_row known D end_of-Stmt k = k
alike_row known D (more_of-Stmt a rest) k = alike_row (known_past known a) (known_after D a) rest (alike_after known D a k)

not_known : (b : Bool) → not b ≡ true → b ≡ true → ⊥
not_known true h g = cc
not_known false h g = cc

all_in : (known : Known) (D : ℕ → Type 0) (args : List Val) → Alike known D → are_known known args ≡ true → AllIn D args
all_in known D [] k h = tt
all_in known D (a ∷ rest) k h = let p = and_parts (known a.0) (are_known known rest) h in (k.up a.0 p.0, all_in known D rest k p.1)

names : (c : Counts) (known : Known) (D : ℕ → Type 0) (e : Def) → Alike known D → is_def c known e ≡ true → Names c.vars D e
names c known D (d.Const x) k h = tt
names c known D (d.Param p) k h = tt
names c known D (d.Work which dim) k h = k.up dim.0 h
names c known D (d.Get u) k h = ltb-true u c.vars h
names c known D (d.Bin op a b) k h = let p = and_parts (known a.0) (known b.0) h in (k.up a.0 p.0, k.up b.0 p.1)
names c known D (d.One op a) k h = k.up a.0 h
names c known D (d.Built which t args) k h = all_in known D args k h
names c known D (d.Choose a b x) k h =
    let p = and_parts (known a.0) (known b.0 && known x.0) h in
    let q = and_parts (known b.0) (known x.0) p.1 in
    (k.up a.0 p.0, k.up b.0 q.0, k.up x.0 q.1)
names c known D (d.Load t a) k h = k.up a.0 h
names c known D (d.Element r i) k h = k.up i.0 (and_parts (nat_lt r c.arrays) (known i.0) h).1
names c known D d.Flat k h = cc
names c known D d.Items k h = cc

mutual
  fits : (c : Counts) (r : Around) (known : Known) (D : ℕ → Type 0) (v : ℕ) (st : List Entry) (a : Stmt) → Alike known D → Open r st → is_stmt c r known a ≡ true → Fits c.vars c.vals v st D a
  fits c r known D v st (Let x e) k o h =
      let p = and_parts (nat_lt x.0 c.vals) (not (known x.0) && is_def c known e) h in
      let q = and_parts (not (known x.0)) (is_def c known e) p.1 in
      (ltb-true x.0 c.vals p.0, λ g. not_known (known x.0) q.0 (k.down x.0 g), names c known D e k q.1)
  fits c r known D v st (Set u x) k o h = let p = and_parts (nat_lt u c.vars) (known x.0) h in (ltb-true u c.vars p.0, k.up x.0 p.1)
  fits c r known D v st (Store t a x) k o h = let p = and_parts (known a.0) (known x.0) h in (k.up a.0 p.0, k.up x.0 p.1)
  fits c r known D v st (SetElement a i x) k o h =
      let p = and_parts (nat_lt a c.arrays) (known i.0 && known x.0) h in
      let q = and_parts (known i.0) (known x.0) p.1 in
      (k.up i.0 q.0, k.up x.0 q.1)
  fits c r known D v st (Clear a) k o h = tt
  fits c r known D v st (If' x n a m b) k o h =
      let p = and_parts (known x.0) (is_row c r known a && is_row c r known b) h in
      let q = and_parts (is_row c r known a) (is_row c r known b) p.1 in (
        k.up x.0 p.0,
        fits_row c r known D (v + 1) (branch v st) a k (open_branch v r st o) q.0,
        fits_row c r known D (v + 1) (branch v st) b k (open_branch v r st o) q.1,
      )
  fits c r known D v st (Loop' n head x m body i step) k o h =
      let past : Known = row_past known head in
      let p = and_parts (is_row c at_edge known head) (past x.0 && (is_row c (loop_around r) past body && is_row c at_edge past step)) h in
      let q = and_parts (past x.0) (is_row c (loop_around r) past body && is_row c at_edge past step) p.1 in
      let g = and_parts (is_row c (loop_around r) past body) (is_row c at_edge past step) q.1 in
      let k2 = alike_row known D head k in (
        fits_row c at_edge known D (v + 2) (in_loop v st) head k (open_edge (in_loop v st)) p.0,
        k2.up x.0 q.0,
        fits_row c (loop_around r) past (known_row D head) (v + 2) (in_round v st) body k2 (open_round v r st o) g.0,
        fits_row c at_edge past (known_row D head) (v + 2) (in_loop v st) step k2 (open_edge (in_loop v st)) g.1,
      )
  fits c r known D v st (Scope' n a) k o h = fits_row c scope_around known D (v + 1) (in_scope v st) a k (open_scope v st) h
  fits c r known D v st Leave k o h = o.scope h
  fits c r known D v st Break k o h = o.loop h
  fits c r known D v st Continue k o h = o.round h

  pub fits_row : {n : _} (c : Counts) (r : Around) (known : Known) (D : ℕ → Type 0) (v : ℕ) (st : List Entry) (a : Row_of-Stmt n) → Alike known D → Open r st → is_row c r known a ≡ true → FitsRow c.vars c.vals v st D a
  fits_row c r known D v st end_of-Stmt k o h = tt
  fits_row c r known D v st (more_of-Stmt a rest) k o h =
      let p = and_parts (is_stmt c r known a) (is_row c r (known_past known a) rest) h in
      (fits c r known D v st a k o p.0, fits_row c r (known_past known a) (known_after D a) v st rest (alike_after known D a k) o p.1)

fits_all : (c : Counts) (r : Around) (known : Known) (D : ℕ → Type 0) (v : ℕ) (st : List Entry) (a : List Stmt) → Alike known D → Open r st → are_stmts c r known a ≡ true → FitsAll c.vars c.vals v st D a
fits_all c r known D v st [] k o h = tt
fits_all c r known D v st (a ∷ rest) k o h =
    let p = and_parts (is_stmt c r known a) (are_stmts c r (known_past known a) rest) h in
    (fits c r known D v st a k o p.0, fits_all c r (known_past known a) (known_after D a) v st rest (alike_after known D a k) o p.1)

none_alike : Alike none_known (λ j. ⊥)
none_alike = record { up = λ j e. cc; down = λ j e. absurd e }

pub valid_fits : ValidFits
valid_fits c body h = fits_all c scope_around none_known (λ j. ⊥) (c.vars + 1) (in_scope c.vars []) body none_alike (open_scope c.vars []) h
