-- Code that names only what is there, piece by piece.
use Rattle.std.proofs.Common.{◌≡◌, ℕ, suc, ◌<◌, ◌≤◌, Bool, true, false, List, [], ◌∷◌, ◌++◌, refl, sym, ap, ◌∙◌, subst, arith}
use Rattle.std.specs.Prelude.{◌&&◌, ◌||◌, ◌==◌, not, nat_lt}
use Rattle.std.proofs.lemmas.Bool.{and_from, and_parts, or_left, or_right, lt-ltb, eqb-true, eq-eqb, not_from_false, false_from_ne_true}
use Rattle.item_ir.specs.Valid.{Counts, counted, Around, in_scope, in_loop, at_edge, Known, with_known, are_known, is_def, known_after, known_row, is_stmt, is_row, are_stmts}
use Rattle.item_ir.specs.declared.form.Val.{Val}
use Rattle.item_ir.specs.declared.form.Def.{Def}
use Rattle.item_ir.specs.declared.form.Stmt.{Stmt, Row_of-Stmt, end_of-Stmt, more_of-Stmt, items-the_row-Stmt, items_hidden-the_row-Stmt-0}
use Rattle.item_ir.specs.declared.form.Stmt.TheBlock.{hidden-the_row-Stmt-0}
use Rattle.item_ir.specs.declared.form.Stmt.TheVariants.{Let, If, Loop, Scope}
use Rattle.ir_build.specs.declared.places.Target.{Target}
use Rattle.ir_build.specs.declared.places.Target.TheVariants.{Into, Cell, Behind, Nowhere}
use Rattle.ir_build.specs.Code.{v, Code, PlaceCode, ArgsCode, Stmts, one, none, with_code, after_place, after_args, both}

-- the known values are below k
abbrev pub Low : ℕ → Known → Type 0
Low k known = (j : ℕ) → known j ≡ true → j < k

-- what is known stays known
abbrev pub Keeps : Known → Known → Type 0
Keeps a b = (j : ℕ) → a j ≡ true → b j ≡ true

abbrev pub known_in : Known → List Stmt → Known
known_in known [] = known
known_in known (a ∷ rest) = known_in (known_after known a) rest

pub known_append : (known : Known) (a b : List Stmt) → known_in known (a ++ b) ≡ known_in (known_in known a) b
known_append known [] b = refl
known_append known (x ∷ a) b = known_append (known_after known x) a b

pub low_more : (k m : ℕ) (known : Known) → k ≤ m → Low k known → Low m known
low_more k m known le low j e = let p = low j e in omega (arith, p, le)

low_with : (k : ℕ) (known : Known) → Low k known → Low (suc k) (with_known k known)
low_with k known low j e = by (j == k) refl e
  where
    by : (b : Bool) → (j == k) ≡ b → (b || known j) ≡ true → j < suc k
    by true q g = let p = eqb-true j k q in omega (arith, p)
    by false q g = let p = low j g in omega (arith, p)

-- rows are lists
known_items : {k : _} (known : Known) (a : Row_of-Stmt k) → known_row known a ≡ known_in known (items-the_row-Stmt k a)
known_items known end_of-Stmt = refl
known_items known (more_of-Stmt a rest) = known_items (known_after known a) rest

pub known_list : (known : Known) (l : List Stmt) → known_row known (hidden-the_row-Stmt-0 l) ≡ known_in known l
known_list known l = known_items known (hidden-the_row-Stmt-0 l) ∙ ap (known_in known) (items_hidden-the_row-Stmt-0 l)

module _ (has : Counts) where
  row_items : {k : _} (r : Around) (known : Known) (a : Row_of-Stmt k) → is_row has r known a ≡ are_stmts has r known (items-the_row-Stmt k a)
  row_items r known end_of-Stmt = refl
  row_items r known (more_of-Stmt a rest) = ap (λ x. is_stmt has r known a && x) (row_items r (known_after known a) rest)

  row_list : (r : Around) (known : Known) (l : List Stmt) → is_row has r known (hidden-the_row-Stmt-0 l) ≡ are_stmts has r known l
  row_list r known l = row_items r known (hidden-the_row-Stmt-0 l) ∙ ap (are_stmts has r known) (items_hidden-the_row-Stmt-0 l)

  pub valid-If : (r : Around) (known : Known) (x : Val) (a b : List Stmt) → is_stmt has r known (If x a b) ≡ (known x.0 && (are_stmts has r known a && are_stmts has r known b))
  valid-If r known x a b = λ i. known x.0 && (row_list r known a i && row_list r known b i)

  pub valid-Loop : (r : Around) (known : Known) (head : List Stmt) (x : Val) (body step : List Stmt)
      → is_stmt has r known (Loop head x body step)
      ≡ (are_stmts has at_edge known head && (known_in known head x.0 && (are_stmts has (in_loop r) (known_in known head) body && are_stmts has at_edge (known_in known head) step)))
  valid-Loop r known head x body step =
      λ i. row_list at_edge known head i && (known_list known head i x.0 && (turned (in_loop r) body i && turned at_edge step i))
    where
      turned : (q : Around) (l : List Stmt) → is_row has q (known_row known (hidden-the_row-Stmt-0 head)) (hidden-the_row-Stmt-0 l) ≡ are_stmts has q (known_in known head) l
      turned q l = row_list q (known_row known (hidden-the_row-Stmt-0 head)) l ∙ ap (λ z. are_stmts has q z l) (known_list known head)

  pub valid-Scope : (r : Around) (known : Known) (a : List Stmt) → is_stmt has r known (Scope a) ≡ are_stmts has in_scope known a
  valid-Scope r known a = row_list in_scope known a

  pub valid_append : (r : Around) (known : Known) (a b : List Stmt) → are_stmts has r known a ≡ true → are_stmts has r (known_in known a) b ≡ true → are_stmts has r known (a ++ b) ≡ true
  valid_append r known [] b h g = g
  valid_append r known (x ∷ a) b h g =
      let p = and_parts (is_stmt has r known x) (are_stmts has r (known_after known x) a) h in
      and_from (is_stmt has r known x) (are_stmts has r (known_after known x) (a ++ b)) p.0 (valid_append r (known_after known x) a b p.1 g)

pub known_more : (a b : Known) → Keeps a b → (l : List Val) → are_known a l ≡ true → are_known b l ≡ true
known_more a b keeps [] h = refl
known_more a b keeps (x ∷ l) h =
    let p = and_parts (a x.0) (are_known a l) h in
    and_from (b x.0) (are_known b l) (keeps x.0 p.0) (known_more a b keeps l p.1)

-- so many values, and as many variables, of which the body's own are n; arrays and parameters
pub record Bounds : Type 0 where
  pub vals : ℕ
  pub arrays : ℕ
  pub params : ℕ
  pub n : ℕ
  pub all : n ≤ vals
  pub cells : n ≤ arrays

module _ (on : Bounds) where
  abbrev pub has : Counts
  has = counted on.vals on.vals on.arrays on.params

  -- statements with numbers from k to m
  pub record Fine (r : Around) (known : Known) (k : ℕ) (l : List Stmt) (m : ℕ) : Type 0 where
    pub up : k ≤ m
    pub valid : m ≤ on.vals → are_stmts has r known l ≡ true
    pub low : Low m (known_in known l)
    pub kept : Keeps known (known_in known l)

  pub fine_nil : (r : Around) (known : Known) (k m : ℕ) → k ≤ m → Low k known → Fine r known k [] m
  fine_nil r known k m le low = record { up = le; valid = λ h. refl; low = low_more k m known le low; kept = λ j e. e }

  pub fine_append : (r : Around) (known : Known) (k m l : ℕ) (a b : List Stmt) → Fine r known k a m → Fine r (known_in known a) m b l → Fine r known k (a ++ b) l
  fine_append r known k m l a b f g =
      let p = f.up in
      let q = g.up in
      record {
        up = omega (arith, p, q);
        valid = λ h. valid_append has r known a b (f.valid (omega (arith, h, q))) (g.valid h);
        low = subst (Low l) (sym (known_append known a b)) g.low;
        kept = subst (Keeps known) (sym (known_append known a b)) (λ j e. g.kept j (f.kept j e));
      }

  pub fine_let : (r : Around) (known : Known) (k : ℕ) (e : Def) → Low k known → (suc k ≤ on.vals → is_def has known e ≡ true) → Fine r known k (Let (v k) e ∷ []) (suc k)
  fine_let r known k e low h =
      let fresh : known k ≡ false = false_from_ne_true (known k) (λ q. let p = low k q in omega (arith, p)) in
      record {
        up = omega arith;
        valid = λ le. and_from (is_stmt has r known (Let (v k) e)) true
            (and_from (nat_lt k on.vals) (not (known k) && is_def has known e) (lt-ltb k on.vals (omega (arith, le))) (and_from (not (known k)) (is_def has known e) (not_from_false (known k) fresh) (h le))) refl;
        low = low_with k known low;
        kept = λ j q. or_right (j == k) (known j) q;
      }

  -- a statement that defines no value
  pub fine_only : (r : Around) (known : Known) (k m : ℕ) (a : Stmt) → k ≤ m → Low k known → known_after known a ≡ known → (m ≤ on.vals → is_stmt has r known a ≡ true) → Fine r known k (a ∷ []) m
  fine_only r known k m a le low same h =
      record {
        up = le;
        valid = λ q. and_from (is_stmt has r known a) true (h q) refl;
        low = subst (Low m) (sym same) (low_more k m known le low);
        kept = subst (Keeps known) (sym same) (λ j e. e);
      }

  -- code whose value is known after it
  abbrev pub Good : Around → Known → ℕ → Code → Type 0
  Good r known k c = Fine r known k c.stmts c.next × (known_in known c.stmts c.val ≡ true)

  abbrev pub is_place : Known → Target → Bool
  is_place known (Into u) = nat_lt u on.n
  is_place known (Cell a i) = nat_lt a on.n && known i.0
  is_place known (Behind p) = known p.0
  is_place known Nowhere = true

  abbrev pub GoodPlace : Around → Known → ℕ → PlaceCode → Type 0
  GoodPlace r known k p = Fine r known k p.stmts p.next × (is_place (known_in known p.stmts) p.to ≡ true)

  abbrev pub GoodArgs : Around → Known → ℕ → ArgsCode → Type 0
  GoodArgs r known k a = Fine r known k a.stmts a.next × (are_known (known_in known a.stmts) a.vals ≡ true)

  abbrev pub FineStmts : Around → Known → ℕ → Stmts → Type 0
  FineStmts r known k a = Fine r known k a.stmts a.next

  pub place_more : (a b : Known) (to : Target) → Keeps a b → is_place a to ≡ true → is_place b to ≡ true
  place_more a b (Into u) keeps h = h
  place_more a b (Cell r i) keeps h = let p = and_parts (nat_lt r on.n) (a i.0) h in and_from (nat_lt r on.n) (b i.0) p.0 (keeps i.0 p.1)
  place_more a b (Behind p) keeps h = keeps p.0 h
  place_more a b Nowhere keeps h = h

  pub good_none : (r : Around) (known : Known) (x k : ℕ) → Low k known → known x ≡ true → Good r known k (none x k)
  good_none r known x k low h = (fine_nil r known k k (omega arith) low, h)

  pub good_one : (r : Around) (known : Known) (k : ℕ) (e : Def) → Low k known → (suc k ≤ on.vals → is_def has known e ≡ true) → Good r known k (one k e)
  good_one r known k e low h = (fine_let r known k e low h, or_left (k == k) (known k) (eq-eqb k k refl))

  pub good_with : (r : Around) (known : Known) (k : ℕ) (a : Code) (f : ℕ → ℕ → Code) → Good r known k a
      → ((w : Known) → Low a.next w → Keeps known w → w a.val ≡ true → Good r w a.next (f a.val a.next)) → Good r known k (with_code a f)
  good_with r known k a f g h =
      let w : Known = known_in known a.stmts in
      let b : Code = f a.val a.next in
      let q = h w g.0.low g.0.kept g.1 in
      (fine_append r known k a.next b.next a.stmts b.stmts g.0 q.0, ap (λ (z : Known). z b.val) (known_append known a.stmts b.stmts) ∙ q.1)

  pub good_after_place : (r : Around) (known : Known) (k : ℕ) (a : PlaceCode) (f : Target → ℕ → Code) → GoodPlace r known k a
      → ((w : Known) → Low a.next w → Keeps known w → is_place w a.to ≡ true → Good r w a.next (f a.to a.next)) → Good r known k (after_place a f)
  good_after_place r known k a f g h =
      let w : Known = known_in known a.stmts in
      let b : Code = f a.to a.next in
      let q = h w g.0.low g.0.kept g.1 in
      (fine_append r known k a.next b.next a.stmts b.stmts g.0 q.0, ap (λ (z : Known). z b.val) (known_append known a.stmts b.stmts) ∙ q.1)

  pub good_after_args : (r : Around) (known : Known) (k : ℕ) (a : ArgsCode) (f : List Val → ℕ → Code) → GoodArgs r known k a
      → ((w : Known) → Low a.next w → Keeps known w → are_known w a.vals ≡ true → Good r w a.next (f a.vals a.next)) → Good r known k (after_args a f)
  good_after_args r known k a f g h =
      let w : Known = known_in known a.stmts in
      let b : Code = f a.vals a.next in
      let q = h w g.0.low g.0.kept g.1 in
      (fine_append r known k a.next b.next a.stmts b.stmts g.0 q.0, ap (λ (z : Known). z b.val) (known_append known a.stmts b.stmts) ∙ q.1)

  pub fine_both : (r : Around) (known : Known) (k : ℕ) (a : Stmts) (f : ℕ → Stmts) → FineStmts r known k a
      → ((w : Known) → Low a.next w → Keeps known w → FineStmts r w a.next (f a.next)) → FineStmts r known k (both a f)
  fine_both r known k a f g h =
      fine_append r known k a.next (f a.next).next a.stmts (f a.next).stmts g (h (known_in known a.stmts) g.low g.kept)

  -- ---- branches, loops and scopes keep their values to themselves

  pub fine_if : (r : Around) (known : Known) (k l m : ℕ) (x : Val) (a b : List Stmt) → Low k known → known x.0 ≡ true → Fine r known k a l → Fine r known l b m → Fine r known k (If x a b ∷ []) m
  fine_if r known k l m x a b low e f g =
      let p = f.up in
      let q = g.up in
      fine_only r known k m (If x a b) (omega (arith, p, q)) low refl (λ h.
      valid-If has r known x a b ∙ and_from (known x.0) (are_stmts has r known a && are_stmts has r known b) e
      (and_from (are_stmts has r known a) (are_stmts has r known b) (f.valid (omega (arith, h, q))) (g.valid h)))

  pub fine_loop : (r : Around) (known : Known) (k l m o : ℕ) (x : Val) (head body step : List Stmt) → Low k known → Fine at_edge known k head l → known_in known head x.0 ≡ true
      → Fine (in_loop r) (known_in known head) l body m → Fine at_edge (known_in known head) m step o → Fine r known k (Loop head x body step ∷ []) o
  fine_loop r known k l m o x head body step low f e g h =
      let p = f.up in
      let q = g.up in
      let s = h.up in
      let w : Known = known_in known head in
      fine_only r known k o (Loop head x body step) (omega (arith, p, q, s)) low refl (λ le.
      valid-Loop has r known head x body step
      ∙ and_from (are_stmts has at_edge known head) (w x.0 && (are_stmts has (in_loop r) w body && are_stmts has at_edge w step)) (f.valid (omega (arith, le, q, s)))
      (and_from (w x.0) (are_stmts has (in_loop r) w body && are_stmts has at_edge w step) e
      (and_from (are_stmts has (in_loop r) w body) (are_stmts has at_edge w step) (g.valid (omega (arith, le, s))) (h.valid le))))

  pub fine_scope : (r : Around) (known : Known) (k m : ℕ) (a : List Stmt) → Low k known → Fine in_scope known k a m → Fine r known k (Scope a ∷ []) m
  fine_scope r known k m a low f = fine_only r known k m (Scope a) f.up low refl (λ h. valid-Scope has r known a ∙ f.valid h)
