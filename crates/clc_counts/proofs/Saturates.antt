-- A count that stays at the greatest number at every step is the true count, cut once.
use Rattle.std.proofs.Common.{◌≡◌, ℕ, zero, suc, ◌+◌, ◌≤◌, List, [], ◌∷◌, ◌++◌, Option, Some, None, Bool, true, false, refl, sym, ap, ◌∙◌, subst, arith}
use Rattle.std.specs.Prelude.{map, slice_index_or}
use Rattle.clc_lexer.specs.declared.marks.Mark.{Mark}
use Rattle.clc_types.specs.declared.typed.TExpr.{TExpr, roll-TExpr}
use Rattle.clc_types.specs.declared.typed.Node.{Node, roll-Node}
use Rattle.clc_types.specs.declared.typed.Node.TheOpen as e
use Rattle.clc_types.specs.declared.typed.Node.TheOpen.{Node-F, TExpr-F}
use Rattle.clc_types.specs.declared.typed.Node.TheFolds.{fold-Node, fold-roll-TExpr, fold-roll-Node, ind-TExpr, map-TExpr, map-Node}
use Rattle.clc_types.specs.declared.typed.TStmt.{TStmt, roll-TStmt}
use Rattle.clc_types.specs.declared.typed.TStmt.TheOpen as s
use Rattle.clc_types.specs.declared.typed.TStmt.TheOpen.{TStmt-F}
use Rattle.clc_types.specs.declared.typed.TStmt.TheFolds.{fold-roll-TStmt, ind-TStmt, map-TStmt}
use Rattle.clc_types.specs.declared.typed.TFunction.{TFunction}
use Rattle.clc_counts.specs.declared.tally.Tally.{Tally}
use Rattle.clc_counts.specs.Counts.{so_many, none, sum, cut, cap, plus, weight, is_quotient, weight_if, array_tally, Counted, summed, operands_summed, wholes_summed, begins_summed, one_and, node_count, expr_count, maybe_count, stmt_count, stmt_counts, function_count, counted_after, tally_of}

-- ---- tallies

same : (a b : Tally) → a.nodes ≡ b.nodes → a.elements ≡ b.elements → a ≡ b
same a b p q = λ i. record { nodes = p i; elements = q i }

pair : (a b : Counted) → a.whole ≡ b.whole → a.begun ≡ b.begun → a ≡ b
pair a b p q = λ i. record { whole = p i; begun = q i }

cut_sum : (a b : ℕ) → cut (cut a + cut b) ≡ cut (a + b)
cut_sum a b = omega arith

capped : (a b : Tally) → plus (cap a) (cap b) ≡ cap (sum a b)
capped a b = same _ _ (cut_sum a.nodes b.nodes) (cut_sum a.elements b.elements)

both : (x y a b : Tally) → x ≡ cap a → y ≡ cap b → plus x y ≡ cap (sum a b)
both x y a b p q = ap (λ z. plus z y) p ∙ ap (plus (cap a)) q ∙ capped a b

few : (n : ℕ) → n ≤ 16 → so_many n ≡ cap (so_many n)
few n h = same _ _ (omega (arith, h)) refl

weighs : (b : Bool) → weight_if b ≤ 16
weighs true = omega arith
weighs false = omega arith

one_more : (x a : Tally) → x ≡ cap a → one_and plus x ≡ cap (one_and sum a)
one_more x a h = both (so_many 1) x (so_many 1) a (few 1 (omega arith)) h

-- ---- sums

summed_cap : (n : Tally) (xs : List Tally) → summed plus (cap n) (map cap xs) ≡ cap (summed sum n xs)
summed_cap n [] = refl
summed_cap n (x ∷ xs) = ap (λ z. summed plus z (map cap xs)) (capped n x) ∙ summed_cap (sum n x) xs

abbrev cap_second : Mark × Tally → Mark × Tally
cap_second x = (x.0, cap x.1)

operands_cap : (n : Tally) (xs : List (Mark × Tally)) → operands_summed plus (cap n) (map cap_second xs) ≡ cap (operands_summed sum n xs)
operands_cap n [] = refl
operands_cap n (x ∷ xs) =
    ap (λ z. operands_summed plus z (map cap_second xs))
    (both (cap n) (plus (so_many (weight x.0)) (cap x.1)) n (sum (so_many (weight x.0)) x.1) refl (both (so_many (weight x.0)) (cap x.1) (so_many (weight x.0)) x.1 (few (weight x.0) (weighs (is_quotient x.0))) refl))
    ∙ operands_cap (sum n (sum (so_many (weight x.0)) x.1)) xs

abbrev cap_both : Counted → Counted
cap_both x = record { whole = cap x.whole; begun = cap x.begun }

wholes_cap : (n : Tally) (xs : List Counted) → wholes_summed plus (cap n) (map cap_both xs) ≡ cap (wholes_summed sum n xs)
wholes_cap n [] = refl
wholes_cap n (x ∷ xs) = ap (λ z. wholes_summed plus z (map cap_both xs)) (capped n x.whole) ∙ wholes_cap (sum n x.whole) xs

begins_cap : (n : Tally) (xs : List Counted) → begins_summed plus (cap n) (map cap_both xs) ≡ cap (begins_summed sum n xs)
begins_cap n [] = refl
begins_cap n (x ∷ xs) = ap (λ z. begins_summed plus z (map cap_both xs)) (capped n x.begun) ∙ begins_cap (sum n x.begun) xs

at_cap : (xs : List Tally) (k : ℕ) → slice_index_or (map cap xs) k none ≡ cap (slice_index_or xs k none)
at_cap [] k = few 0 (omega arith)
at_cap (x ∷ xs) zero = refl
at_cap (x ∷ xs) (suc k) = at_cap xs k

module _ (cs : List Tally) where
  -- ---- expressions

  abbrev exact : TExpr → Tally
  exact x = expr_count sum cs x

  abbrev short : TExpr → Tally
  short x = expr_count plus (map cap cs) x

  abbrev exact_node : Node → Tally
  exact_node x = fold-Node Tally Tally (node_count sum cs) (λ y. y.node) x

  abbrev short_node : Node → Tally
  short_node x = fold-Node Tally Tally (node_count plus (map cap cs)) (λ y. y.node) x

  abbrev CappedExpr : TExpr → Type 0
  CappedExpr x = short x ≡ cap (exact x)

  abbrev CappedNode : Node → Type 0
  CappedNode x = short_node x ≡ cap (exact_node x)

  abbrev Part : Type 0
  Part = (x : TExpr) × CappedExpr x

  abbrev NodePart : Type 0
  NodePart = (x : Node) × CappedNode x

  rows : (xs : List Part) → map short (map (λ x. x.0) xs) ≡ map cap (map exact (map (λ x. x.0) xs))
  rows [] = refl
  rows (x ∷ xs) = ap (λ z. z ∷ map short (map (λ y. y.0) xs)) x.1 ∙ ap (λ z. cap (exact x.0) ∷ z) (rows xs)

  abbrev first_of : Mark × Part → Mark × TExpr
  first_of x = (x.0, x.1.0)

  abbrev short_second : Mark × TExpr → Mark × Tally
  short_second x = (x.0, short x.1)

  abbrev exact_second : Mark × TExpr → Mark × Tally
  exact_second x = (x.0, exact x.1)

  steps : (xs : List (Mark × Part)) → map short_second (map first_of xs) ≡ map cap_second (map exact_second (map first_of xs))
  steps [] = refl
  steps (x ∷ xs) =
      ap (λ z. let y : Mark × Tally = (x.0, z) in y ∷ map short_second (map first_of xs)) x.1.1
      ∙ ap (λ z. let y : Mark × Tally = (x.0, cap (exact x.1.0)) in y ∷ z) (steps xs)

  two : (x y : Part) → plus (short x.0) (short y.0) ≡ cap (sum (exact x.0) (exact y.0))
  two x y = both (short x.0) (short y.0) (exact x.0) (exact y.0) x.1 y.1

  one : (x : Part) → one_and plus (short x.0) ≡ cap (one_and sum (exact x.0))
  one x = one_more (short x.0) (exact x.0) x.1

  layer : (y : Node-F NodePart Part)
      → node_count plus (map cap cs) (map-Node _ _ _ _ short_node short (map-Node _ _ _ _ (λ x. x.0) (λ x. x.0) y))
      ≡ cap (node_count sum cs (map-Node _ _ _ _ exact_node exact (map-Node _ _ _ _ (λ x. x.0) (λ x. x.0) y)))
  layer (e.Number w) = few 1 (omega arith)
  layer (e.Name v) = few 1 (omega arith)
  layer (e.Index a b) = one_more (plus (short a.0) (short b.0)) (sum (exact a.0) (exact b.0)) (two a b)
  layer (e.Element v b) = both (so_many 2) (short b.0) (so_many 2) (exact b.0) (few 2 (omega arith)) b.1
  layer (e.Deref a) = one a
  layer (e.Prefix o a) = one a
  layer (e.Step a u p) = one a
  layer (e.Cast a) = one a
  layer (e.Paren a) = a.1
  layer (e.Chain a xs) =
      ap (λ z. operands_summed plus z (map short_second (map first_of xs))) a.1
      ∙ ap (operands_summed plus (cap (exact a.0))) (steps xs)
      ∙ operands_cap (exact a.0) (map exact_second (map first_of xs))
  layer (e.Cond a b d) =
      one_more (plus (short a.0) (plus (short b.0) (short d.0))) (sum (exact a.0) (sum (exact b.0) (exact d.0)))
      (both (short a.0) (plus (short b.0) (short d.0)) (exact a.0) (sum (exact b.0) (exact d.0)) a.1 (two b d))
  layer (e.Assign a o b) =
      both (so_many (weight o)) (plus (short a.0) (short b.0)) (so_many (weight o)) (sum (exact a.0) (exact b.0)) (few (weight o) (weighs (is_quotient o))) (two a b)
  layer (e.Call f xs) =
      ap (λ z. summed plus z (map short (map (λ x. x.0) xs))) (one_more (slice_index_or (map cap cs) f none) (slice_index_or cs f none) (at_cap cs f))
      ∙ ap (summed plus (cap (one_and sum (slice_index_or cs f none)))) (rows xs)
      ∙ summed_cap (one_and sum (slice_index_or cs f none)) (map exact (map (λ x. x.0) xs))
  layer (e.Builtin f w xs) =
      ap (λ z. summed plus z (map short (map (λ x. x.0) xs))) (few 16 (omega arith))
      ∙ ap (summed plus (cap (so_many 16))) (rows xs)
      ∙ summed_cap (so_many 16) (map exact (map (λ x. x.0) xs))

  node_capped : (x : Node-F Node TExpr) (y : Node-F NodePart Part) → map-Node _ _ _ _ (λ z. z.0) (λ z. z.0) y ≡ x → CappedNode (roll-Node x)
  node_capped x y is =
      subst (λ z. CappedNode (roll-Node z)) is
      (fold-roll-Node Tally Tally (node_count plus (map cap cs)) (λ z. z.node) (map-Node _ _ _ _ (λ z. z.0) (λ z. z.0) y) ∙ layer y
      ∙ ap cap (sym (fold-roll-Node Tally Tally (node_count sum cs) (λ z. z.node) (map-Node _ _ _ _ (λ z. z.0) (λ z. z.0) y))))

  expr_capped : (x : TExpr) → CappedExpr x
  expr_capped =
      ind-TExpr CappedNode CappedExpr node_capped
      (λ x y is. subst (λ z. CappedExpr (roll-TExpr z)) is
      (fold-roll-TExpr Tally Tally (node_count plus (map cap cs)) (λ z. z.node) (map-TExpr _ _ _ _ (λ z. z.0) (λ z. z.0) y) ∙ y.node.1
      ∙ ap cap (sym (fold-roll-TExpr Tally Tally (node_count sum cs) (λ z. z.node) (map-TExpr _ _ _ _ (λ z. z.0) (λ z. z.0) y)))))

  maybe_capped : (x : Option TExpr) → maybe_count plus (map cap cs) x ≡ cap (maybe_count sum cs x)
  maybe_capped None = few 0 (omega arith)
  maybe_capped (Some x) = expr_capped x

  -- ---- statements

  abbrev exactly : TStmt → Counted
  exactly x = stmt_counts sum cs x

  abbrev shortly : TStmt → Counted
  shortly x = stmt_counts plus (map cap cs) x

  abbrev CappedStmt : TStmt → Type 0
  CappedStmt x = shortly x ≡ cap_both (exactly x)

  abbrev StmtPart : Type 0
  StmtPart = (x : TStmt) × CappedStmt x

  stmt_rows : (xs : List StmtPart) → map shortly (map (λ x. x.0) xs) ≡ map cap_both (map exactly (map (λ x. x.0) xs))
  stmt_rows [] = refl
  stmt_rows (x ∷ xs) = ap (λ z. z ∷ map shortly (map (λ y. y.0) xs)) x.1 ∙ ap (λ z. cap_both (exactly x.0) ∷ z) (stmt_rows xs)

  whole : (x : StmtPart) → (shortly x.0).whole ≡ cap (exactly x.0).whole
  whole x = ap (λ z. z.whole) x.1

  nothing : none ≡ cap none
  nothing = few 0 (omega arith)

  single : so_many 1 ≡ cap (so_many 1)
  single = few 1 (omega arith)

  stmt_layer : (y : TStmt-F StmtPart)
      → stmt_count plus (map cap cs) (map-TStmt _ _ shortly (map-TStmt _ _ (λ x. x.0) y)) ≡ cap_both (stmt_count sum cs (map-TStmt _ _ exactly (map-TStmt _ _ (λ x. x.0) y)))
  stmt_layer (s.Block xs) =
      pair _ _
      (ap (λ z. wholes_summed plus z (map shortly (map (λ x. x.0) xs))) single ∙ ap (wholes_summed plus (cap (so_many 1))) (stmt_rows xs) ∙ wholes_cap (so_many 1) (map exactly (map (λ x. x.0) xs)))
      nothing
  stmt_layer (s.Declare v i) =
      let h : one_and plus (maybe_count plus (map cap cs) i) ≡ cap (one_and sum (maybe_count sum cs i)) = one_more (maybe_count plus (map cap cs) i) (maybe_count sum cs i) (maybe_capped i) in
      pair _ _ h h
  stmt_layer (s.Eval x) = pair _ _ (one_more (short x) (exact x) (expr_capped x)) (expr_capped x)
  stmt_layer s.Empty = pair _ _ single nothing
  stmt_layer (s.If x a None) =
      pair _ _
      (one_more (plus (short x) (plus (shortly a.0).whole none)) (sum (exact x) (sum (exactly a.0).whole none))
      (both (short x) (plus (shortly a.0).whole none) (exact x) (sum (exactly a.0).whole none) (expr_capped x) (both (shortly a.0).whole none (exactly a.0).whole none (whole a) nothing)))
      nothing
  stmt_layer (s.If x a (Some b)) =
      pair _ _
      (one_more (plus (short x) (plus (shortly a.0).whole (shortly b.0).whole)) (sum (exact x) (sum (exactly a.0).whole (exactly b.0).whole))
      (both (short x) (plus (shortly a.0).whole (shortly b.0).whole) (exact x) (sum (exactly a.0).whole (exactly b.0).whole) (expr_capped x)
      (both (shortly a.0).whole (shortly b.0).whole (exactly a.0).whole (exactly b.0).whole (whole a) (whole b))))
      nothing
  stmt_layer (s.While x a) =
      pair _ _
      (one_more (plus (short x) (shortly a.0).whole) (sum (exact x) (exactly a.0).whole) (both (short x) (shortly a.0).whole (exact x) (exactly a.0).whole (expr_capped x) (whole a)))
      nothing
  stmt_layer (s.Do a x) =
      pair _ _
      (one_more (plus (shortly a.0).whole (short x)) (sum (exactly a.0).whole (exact x)) (both (shortly a.0).whole (short x) (exactly a.0).whole (exact x) (whole a) (expr_capped x)))
      nothing
  stmt_layer (s.For xs x y a) =
      let begins : begins_summed plus (so_many 1) (map shortly (map (λ z. z.0) xs)) ≡ cap (begins_summed sum (so_many 1) (map exactly (map (λ z. z.0) xs))) =
      ap (λ z. begins_summed plus z (map shortly (map (λ w. w.0) xs))) single ∙ ap (begins_summed plus (cap (so_many 1))) (stmt_rows xs) ∙ begins_cap (so_many 1) (map exactly (map (λ z. z.0) xs)) in
      pair _ _
      (both (begins_summed plus (so_many 1) (map shortly (map (λ z. z.0) xs))) (plus (maybe_count plus (map cap cs) x) (plus (maybe_count plus (map cap cs) y) (shortly a.0).whole))
      (begins_summed sum (so_many 1) (map exactly (map (λ z. z.0) xs))) (sum (maybe_count sum cs x) (sum (maybe_count sum cs y) (exactly a.0).whole))
      begins
      (both (maybe_count plus (map cap cs) x) (plus (maybe_count plus (map cap cs) y) (shortly a.0).whole) (maybe_count sum cs x) (sum (maybe_count sum cs y) (exactly a.0).whole)
      (maybe_capped x)
      (both (maybe_count plus (map cap cs) y) (shortly a.0).whole (maybe_count sum cs y) (exactly a.0).whole (maybe_capped y) (whole a))))
      nothing
  stmt_layer s.Break = pair _ _ single nothing
  stmt_layer s.Continue = pair _ _ single nothing
  stmt_layer (s.Return x) = pair _ _ (one_more (maybe_count plus (map cap cs) x) (maybe_count sum cs x) (maybe_capped x)) nothing

  stmt_capped : (x : TStmt) → CappedStmt x
  stmt_capped =
      ind-TStmt CappedStmt
      (λ x y is. subst (λ z. CappedStmt (roll-TStmt z)) is
      (fold-roll-TStmt Counted (stmt_count plus (map cap cs)) (map-TStmt _ _ (λ z. z.0) y) ∙ stmt_layer y
      ∙ ap cap_both (sym (fold-roll-TStmt Counted (stmt_count sum cs) (map-TStmt _ _ (λ z. z.0) y)))))

-- ---- functions

-- an added tally may be cut first
capped_right : (a b : Tally) → plus (cap a) b ≡ cap (sum a b)
capped_right a b = same _ _ (right a.nodes b.nodes) (right a.elements b.elements)
  where
    right : (x y : ℕ) → cut (cut x + y) ≡ cut (x + y)
    right x y = omega arith

arrays_cap : (n : Tally) (xs : List Tally) → summed plus (cap n) xs ≡ cap (summed sum n xs)
arrays_cap n [] = refl
arrays_cap n (x ∷ xs) = ap (λ z. summed plus z xs) (capped_right n x) ∙ arrays_cap (sum n x) xs

function_capped : (cs : List Tally) (f : TFunction) → function_count plus (map cap cs) f ≡ cap (function_count sum cs f)
function_capped cs f =
    ap (λ (z : Counted). summed plus z.whole (map array_tally f.vars)) (stmt_capped cs f.body) ∙ arrays_cap (stmt_counts sum cs f.body).whole (map array_tally f.vars)

map_end : (xs : List Tally) (x : Tally) → map cap (xs ++ x ∷ []) ≡ map cap xs ++ cap x ∷ []
map_end [] x = refl
map_end (y ∷ ys) x = ap (λ z. cap y ∷ z) (map_end ys x)

pub saturates : (cs : List Tally) (fs : List TFunction) → counted_after plus (map cap cs) fs ≡ map cap (counted_after sum cs fs)
saturates cs [] = refl
saturates cs (f ∷ fs) =
    ap (λ z. counted_after plus (map cap cs ++ z ∷ []) fs) (function_capped cs f)
    ∙ ap (λ z. counted_after plus z fs) (sym (map_end cs (function_count sum cs f)))
    ∙ saturates (cs ++ function_count sum cs f ∷ []) fs

pub kernel_capped : (fs : List TFunction) (k : ℕ) → slice_index_or (counted_after plus [] fs) k none ≡ cap (tally_of fs k)
kernel_capped fs k = ap (λ (z : List Tally). slice_index_or z k none) (saturates [] fs) ∙ at_cap (counted_after sum [] fs) k
