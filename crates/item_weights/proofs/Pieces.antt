-- The code of operators, of assignments and of choices.
use Rattle.std.proofs.Common.{◌≡◌, ℕ, zero, suc, ◌+◌, ◌*◌, ◌≤◌, Bool, true, false, List, [], ◌∷◌, ◌++◌, refl, arith}
use Rattle.clc_lexer.specs.declared.marks.Mark.{Mark}
use Rattle.clc_lexer.specs.declared.marks.Mark.TheVariants as m
use Rattle.q_lane.specs.declared.kinds.Scalar.TheVariants.{Int}
use Rattle.clc_types.specs.declared.typed.Ty.{Ty}
use Rattle.clc_types.specs.declared.typed.Ty.TheVariants as ty
use Rattle.clc_counts.specs.Counts.{weight}
use Rattle.item_meaning.specs.Operators.{operator_in}
use Rattle.item_meaning.specs.NodeMeanings.{mark_of_step}
use Rattle.item_ir.specs.declared.form.Stmt.TheVariants.{Set}
use Rattle.ir_build.specs.Code.{v, Code, PlaceCode, into, behind, cell, no_place, with_code, truth_code, converted_code, get_code, put_stmts, put_code, read_code, after_place, combined_code, and_code, or_code, into_var, choice_code, conditional_code, operator_code, assign_code, compound_code, assigned_code, stepped_code, valued_at, step_code}
use Rattle.item_weights.proofs.Sums.{rows, rows_append, rows-If}
use Rattle.item_weights.proofs.Marks.{Fits, some_weight, inner_weight, combined_fits, moves_fit}

-- an expression of n nodes leaves 14 of their rows over
abbrev pub Small : (n k : ℕ) → Code → Type 0
Small n k c = (rows c.stmts + 14 ≤ 15 * n) × (c.next ≤ k + rows c.stmts)

pub converted_fits : (t : Ty) (x k : ℕ) → Fits 5 k (converted_code t x k)
converted_fits (ty.Value s) x k = (omega arith, omega arith)
converted_fits (ty.Pointer e c) x k = (omega arith, omega arith)
converted_fits ty.Void x k = (omega arith, omega arith)

-- ---- places

-- what reads a place of n nodes and what stores in it leave 9 of their rows over
pub record IsPlace (n k : ℕ) (p : PlaceCode) : Type 0 where
  pub used : (t u : Ty) (l x : ℕ) → rows p.stmts + (rows (get_code t p.to l).stmts + rows (put_stmts u p.to x)) + 9 ≤ 15 * n
  pub read : (t : Ty) (l : ℕ) → rows p.stmts + rows (get_code t p.to l).stmts + 14 ≤ 15 * n
  pub taken : (t : Ty) (l : ℕ) → (get_code t p.to l).next ≤ l + rows (get_code t p.to l).stmts
  pub next : p.next ≤ k + rows p.stmts

pub into_is : (n u k : ℕ) → 1 ≤ n → IsPlace n k (into u k)
into_is n u k h = record { used = λ t w l x. omega (arith, h); read = λ t l. omega (arith, h); taken = λ t l. omega arith; next = omega arith }

pub no_place_is : (n k : ℕ) → 1 ≤ n → IsPlace n k (no_place k)
no_place_is n k h = record { used = λ t w l x. omega (arith, h); read = λ t l. omega (arith, h); taken = λ t l. omega arith; next = omega arith }

pub behind_is : (n k : ℕ) (c : Code) → rows c.stmts + 29 ≤ 15 * n → c.next ≤ k + rows c.stmts → IsPlace n k (behind c)
behind_is n k c h i = record { used = λ t w l x. omega (arith, h); read = λ t l. omega (arith, h); taken = λ t l. omega arith; next = i }

pub cell_is : (n k u : ℕ) (c : Code) → rows c.stmts + 29 ≤ 15 * n → c.next ≤ k + rows c.stmts → IsPlace n k (cell u c)
cell_is n k u c h i = record { used = λ t w l x. omega (arith, h); read = λ t l. omega (arith, h); taken = λ t l. omega arith; next = i }

pub read_small : (n k : ℕ) (t : Ty) (p : PlaceCode) → IsPlace n k p → Small n k (read_code t p)
read_small n k t p h =
    let g = get_code t p.to p.next in
    let e = rows_append p.stmts g.stmts in
    let a = h.read t p.next in let b = h.taken t p.next in let c = h.next in
    (omega (arith, e, a), omega (arith, e, b, c))

-- a value is stored in a variable
pub stored_fits : (t : Ty) (u x k : ℕ) → Fits 7 k (put_code t (into u k).to x k)
stored_fits t u x k =
    let c = converted_code t x k in
    let e = rows_append c.stmts (put_stmts t (into u k).to c.val) in
    let p = converted_fits t x k in let p0 = p.0 in let p1 = p.1 in (omega (arith, e, p0), omega (arith, e, p1))

-- ---- choices

-- the operand's code, its truth, and that into r
truth_rows : (r : ℕ) (c : Code) → rows (into_var r (with_code c truth_code)) ≡ rows c.stmts + 7
truth_rows r c =
    let t = truth_code c.val c.next in
    let a = rows_append (c.stmts ++ t.stmts) (Set r (v t.val) ∷ []) in
    let b = rows_append c.stmts t.stmts in omega (arith, a, b)

and_fits : (i k w n : ℕ) (f : ℕ → Code) → 1 ≤ w → ((l : ℕ) → Small n l (f l)) → Fits (15 * (w + n)) k (and_code i k f)
and_fits i k w n f g h =
    let c = truth_code i k in
    let r = c.next in
    let e = f (suc r) in
    let a = truth_rows r e in
    let b = rows-If (v c.val) (into_var r (with_code e truth_code)) [] in
    let p = h (suc r) in let p0 = p.0 in let p1 = p.1 in (omega (arith, a, b, p0, g), omega (arith, a, b, p1))

or_fits : (i k w n : ℕ) (f : ℕ → Code) → 1 ≤ w → ((l : ℕ) → Small n l (f l)) → Fits (15 * (w + n)) k (or_code i k f)
or_fits i k w n f g h =
    let c = truth_code i k in
    let r = c.next in
    let e = f (suc r) in
    let a = truth_rows r e in
    let b = rows-If (v c.val) [] (into_var r (with_code e truth_code)) in
    let p = h (suc r) in let p0 = p.0 in let p1 = p.1 in (omega (arith, a, b, p0, g), omega (arith, a, b, p1))

plain_fits : (a : Ty) (o : Mark) (c : Ty) (i k n : ℕ) (f : ℕ → Code) → ((l : ℕ) → Small n l (f l)) → Fits (15 * (weight o + n)) k (with_code (f k) (λ y l. combined_code a o c i y l))
plain_fits a o c i k n f h =
    let e = rows_append (f k).stmts (combined_code a o c i (f k).val (f k).next).stmts in
    let p = h k in let p0 = p.0 in let p1 = p.1 in
    let q = combined_fits a o c i (f k).val (f k).next in let q0 = q.0 in let q1 = q.1 in (omega (arith, e, p0, q0), omega (arith, e, p1, q1))

operator_by : (P : Code → Type 0) (a : Ty) (o : Mark) (c : Ty) (x k : ℕ) (f : ℕ → Code) → P (and_code x k f) → P (or_code x k f) → P (f k)
    → P (with_code (f k) (λ y l. combined_code a o c x y l)) → P (operator_code a o c x k f)
operator_by P a m.ShiftLeftAssign c x k f p q r s = s
operator_by P a m.ShiftRightAssign c x k f p q r s = s
operator_by P a m.PlusPlus c x k f p q r s = s
operator_by P a m.MinusMinus c x k f p q r s = s
operator_by P a m.ShiftLeft c x k f p q r s = s
operator_by P a m.ShiftRight c x k f p q r s = s
operator_by P a m.LessEqual c x k f p q r s = s
operator_by P a m.GreaterEqual c x k f p q r s = s
operator_by P a m.EqualEqual c x k f p q r s = s
operator_by P a m.BangEqual c x k f p q r s = s
operator_by P a m.AndAnd c x k f p q r s = p
operator_by P a m.OrOr c x k f p q r s = q
operator_by P a m.PlusAssign c x k f p q r s = s
operator_by P a m.MinusAssign c x k f p q r s = s
operator_by P a m.StarAssign c x k f p q r s = s
operator_by P a m.SlashAssign c x k f p q r s = s
operator_by P a m.PercentAssign c x k f p q r s = s
operator_by P a m.AndAssign c x k f p q r s = s
operator_by P a m.OrAssign c x k f p q r s = s
operator_by P a m.XorAssign c x k f p q r s = s
operator_by P a m.LeftParen c x k f p q r s = s
operator_by P a m.RightParen c x k f p q r s = s
operator_by P a m.LeftBrace c x k f p q r s = s
operator_by P a m.RightBrace c x k f p q r s = s
operator_by P a m.LeftBracket c x k f p q r s = s
operator_by P a m.RightBracket c x k f p q r s = s
operator_by P a m.Semicolon c x k f p q r s = s
operator_by P a m.Comma c x k f p q r s = r
operator_by P a m.Question c x k f p q r s = s
operator_by P a m.Colon c x k f p q r s = s
operator_by P a m.Plus c x k f p q r s = s
operator_by P a m.Minus c x k f p q r s = s
operator_by P a m.Star c x k f p q r s = s
operator_by P a m.Slash c x k f p q r s = s
operator_by P a m.Percent c x k f p q r s = s
operator_by P a m.Ampersand c x k f p q r s = s
operator_by P a m.Bar c x k f p q r s = s
operator_by P a m.Caret c x k f p q r s = s
operator_by P a m.Tilde c x k f p q r s = s
operator_by P a m.Bang c x k f p q r s = s
operator_by P a m.Less c x k f p q r s = s
operator_by P a m.Greater c x k f p q r s = s
operator_by P a m.Assign c x k f p q r s = s

pub operator_fits : (a : Ty) (o : Mark) (c : Ty) (x k n : ℕ) (f : ℕ → Code) → ((l : ℕ) → Small n l (f l)) → Fits (15 * (weight o + n)) k (operator_code a o c x k f)
operator_fits a o c x k n f h =
    let w = some_weight o in let p = h k in let p0 = p.0 in
    operator_by (Fits (15 * (weight o + n)) k) a o c x k f (and_fits x k (weight o) n f w h) (or_fits x k (weight o) n f w h) (omega (arith, p0), p.1) (plain_fits a o c x k n f h)

pub into_rows : (r : ℕ) (c : Code) → rows (into_var r c) ≡ rows c.stmts + 2
into_rows r c = let a = rows_append c.stmts (Set r (v c.val) ∷ []) in omega (arith, a)

pub conditional_small : (l n q k : ℕ) (c : Code) (f g : ℕ → Code) → Small l k c → ((i : ℕ) → Small n i (f i)) → ((i : ℕ) → Small q i (g i)) → Small (1 + (l + (n + q))) k (conditional_code c f g)
conditional_small l n q k c f g hc hf hg =
    let r = c.next in
    let a = f (suc r) in
    let z = g a.next in
    let t = choice_code c.val r (into_var r a) (into_var r z) z.next in
    let e = rows_append c.stmts t.stmts in
    let b = rows-If (v c.val) (into_var r a) (into_var r z) in
    let x = into_rows r a in let y = into_rows r z in
    let c0 = hc.0 in let c1 = hc.1 in
    let p = hf (suc r) in let p0 = p.0 in let p1 = p.1 in
    let s = hg a.next in let s0 = s.0 in let s1 = s.1 in
    (omega (arith, e, b, x, y, c0, p0, s0), omega (arith, e, b, x, y, c1, p1, s1))

-- ---- assignments

-- what is done with a place, after the code that finds it
abbrev AfterPlace : (n k : ℕ) → PlaceCode → Code → Type 0
AfterPlace n k p c = (rows p.stmts + rows c.stmts + 14 ≤ 15 * n) × (c.next ≤ k + (rows p.stmts + rows c.stmts))

after_small : (n k : ℕ) (p : PlaceCode) (c : Code) (r : Code) → r.stmts ≡ p.stmts ++ c.stmts → r.next ≡ c.next → AfterPlace n k p c → Small n k r
after_small n k p c r s t h =
    let e = rows_append p.stmts c.stmts in
    let q = Rattle.std.proofs.Common.ap rows s in
    let h0 = h.0 in let h1 = h.1 in (omega (arith, e, q, h0), omega (arith, e, q, t, h1))

assign_after : (t : Ty) (w a n k : ℕ) (p : PlaceCode) (f : ℕ → Code) → 1 ≤ w → IsPlace a k p → ((l : ℕ) → Small n l (f l)) → AfterPlace (w + (a + n)) k p (assign_code t f p.to p.next)
assign_after t w a n k p f g h i =
    let c = f p.next in
    let d = converted_code t c.val c.next in
    let z = put_code t p.to c.val c.next in
    let x = rows_append c.stmts z.stmts in
    let y = rows_append d.stmts (put_stmts t p.to d.val) in
    let d1 = converted_fits t c.val c.next in let d2 = d1.0 in let d3 = d1.1 in
    let b = i p.next in let b0 = b.0 in let b1 = b.1 in
    let u = h.used t t p.next d.val in let e = h.next in
    (omega (arith, x, y, d2, b0, u, g), omega (arith, x, y, d3, b1, e))

compound_after : (t : Ty) (o : Mark) (from : Ty) (a n k : ℕ) (p : PlaceCode) (f : ℕ → Code) → IsPlace a k p → ((l : ℕ) → Small n l (f l)) → AfterPlace (weight o + (a + n)) k p (compound_code t o from f p.to p.next)
compound_after t o from a n k p f h i =
    let g = get_code t p.to p.next in
    let c = f g.next in
    let b = combined_code t (operator_in o) from g.val c.val c.next in
    let d = converted_code t b.val b.next in
    let z = put_code t p.to b.val b.next in
    let x1 = rows_append g.stmts (c.stmts ++ (b.stmts ++ z.stmts)) in
    let x2 = rows_append c.stmts (b.stmts ++ z.stmts) in
    let x3 = rows_append b.stmts z.stmts in
    let x4 = rows_append d.stmts (put_stmts t p.to d.val) in
    let d1 = converted_fits t b.val b.next in let d2 = d1.0 in let d3 = d1.1 in
    let j = i g.next in let j0 = j.0 in let j1 = j.1 in
    let l = combined_fits t (operator_in o) from g.val c.val c.next in let l0 = l.0 in let l1 = l.1 in
    let w = inner_weight o in
    let u = h.used t t p.next d.val in let s = h.taken t p.next in let e = h.next in
    (omega (arith, x1, x2, x3, x4, d2, j0, l0, w, u), omega (arith, x1, x2, x3, x4, d3, j1, l1, s, e))

assigned_by : (P : Code → Type 0) (t : Ty) (o : Mark) (from : Ty) (f : ℕ → Code) (p : PlaceCode) → P (assign_code t f p.to p.next) → P (compound_code t o from f p.to p.next) → P (assigned_code t o from f p.to p.next)
assigned_by P t m.ShiftLeftAssign from f p a b = b
assigned_by P t m.ShiftRightAssign from f p a b = b
assigned_by P t m.PlusPlus from f p a b = b
assigned_by P t m.MinusMinus from f p a b = b
assigned_by P t m.ShiftLeft from f p a b = b
assigned_by P t m.ShiftRight from f p a b = b
assigned_by P t m.LessEqual from f p a b = b
assigned_by P t m.GreaterEqual from f p a b = b
assigned_by P t m.EqualEqual from f p a b = b
assigned_by P t m.BangEqual from f p a b = b
assigned_by P t m.AndAnd from f p a b = b
assigned_by P t m.OrOr from f p a b = b
assigned_by P t m.PlusAssign from f p a b = b
assigned_by P t m.MinusAssign from f p a b = b
assigned_by P t m.StarAssign from f p a b = b
assigned_by P t m.SlashAssign from f p a b = b
assigned_by P t m.PercentAssign from f p a b = b
assigned_by P t m.AndAssign from f p a b = b
assigned_by P t m.OrAssign from f p a b = b
assigned_by P t m.XorAssign from f p a b = b
assigned_by P t m.LeftParen from f p a b = b
assigned_by P t m.RightParen from f p a b = b
assigned_by P t m.LeftBrace from f p a b = b
assigned_by P t m.RightBrace from f p a b = b
assigned_by P t m.LeftBracket from f p a b = b
assigned_by P t m.RightBracket from f p a b = b
assigned_by P t m.Semicolon from f p a b = b
assigned_by P t m.Comma from f p a b = b
assigned_by P t m.Question from f p a b = b
assigned_by P t m.Colon from f p a b = b
assigned_by P t m.Plus from f p a b = b
assigned_by P t m.Minus from f p a b = b
assigned_by P t m.Star from f p a b = b
assigned_by P t m.Slash from f p a b = b
assigned_by P t m.Percent from f p a b = b
assigned_by P t m.Ampersand from f p a b = b
assigned_by P t m.Bar from f p a b = b
assigned_by P t m.Caret from f p a b = b
assigned_by P t m.Tilde from f p a b = b
assigned_by P t m.Bang from f p a b = b
assigned_by P t m.Less from f p a b = b
assigned_by P t m.Greater from f p a b = b
assigned_by P t m.Assign from f p a b = a

pub assigned_small : (t : Ty) (o : Mark) (from : Ty) (a n k : ℕ) (p : PlaceCode) (f : ℕ → Code) → IsPlace a k p → ((l : ℕ) → Small n l (f l)) → Small (weight o + (a + n)) k (after_place p (assigned_code t o from f))
assigned_small t o from a n k p f h i =
    after_small (weight o + (a + n)) k p (assigned_code t o from f p.to p.next) (after_place p (assigned_code t o from f)) refl refl
    (assigned_by (AfterPlace (weight o + (a + n)) k p) t o from f p (assign_after t (weight o) a n k p f (some_weight o) h i) (compound_after t o from a n k p f h i))

valued_rows : (post : Bool) (x : ℕ) (c : Code) → rows (valued_at post x c).stmts ≡ rows c.stmts
valued_rows true x c = refl
valued_rows false x c = refl

valued_next : (post : Bool) (x : ℕ) (c : Code) → (valued_at post x c).next ≡ c.next
valued_next true x c = refl
valued_next false x c = refl

step_after : (t : Ty) (up post : Bool) (a k : ℕ) (p : PlaceCode) → IsPlace a k p → AfterPlace (1 + a) k p (step_code t up post p.to p.next)
step_after t up post a k p h =
    let g = get_code t p.to p.next in
    let b = combined_code t (mark_of_step up) (ty.Value Int) g.val g.next (suc g.next) in
    let e = stepped_code t up g.val g.next in
    let d = converted_code t e.val e.next in
    let z = put_code t p.to e.val e.next in
    let w = with_code e (put_code t p.to) in
    let x1 = rows_append g.stmts (valued_at post g.val w).stmts in
    let x2 = valued_rows post g.val w in
    let x3 = valued_next post g.val w in
    let x4 = rows_append e.stmts z.stmts in
    let x5 = rows_append d.stmts (put_stmts t p.to d.val) in
    let d1 = converted_fits t e.val e.next in let d2 = d1.0 in let d3 = d1.1 in
    let m1 = moves_fit t up Int g.val g.next (suc g.next) in let m2 = m1.0 in let m3 = m1.1 in
    let u = h.used t t p.next d.val in let s = h.taken t p.next in let y = h.next in
    (omega (arith, x1, x2, x4, x5, d2, m2, u), omega (arith, x1, x2, x3, x4, x5, d3, m3, s, y))

pub step_small : (t : Ty) (up post : Bool) (a k : ℕ) (p : PlaceCode) → IsPlace a k p → Small (1 + a) k (after_place p (step_code t up post))
step_small t up post a k p h =
    after_small (1 + a) k p (step_code t up post p.to p.next) (after_place p (step_code t up post)) refl refl (step_after t up post a k p h)
