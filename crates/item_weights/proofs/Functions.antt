-- The bodies of well-typed functions, from the first on, have the nodes that are counted.
use Rattle.std.proofs.Common.{◌≡◌, ℕ, zero, suc, ◌<◌, ◌⊎◌, inl, inr, Bool, true, false, List, [], ◌∷◌, ◌++◌, Option, Some, map, length, refl, sym, ap, ◌∙◌, subst, arith, nat_eq}
use Rattle.std.specs.Prelude.{slice_get, slice_index_or, ◌&&◌, not, is_some, nat_le, take, if◌then◌else◌}
use Rattle.std.proofs.lemmas.Bool.{and_parts}
use Rattle.std.proofs.lemmas.Bool.Decides.{nat_tests}
use Rattle.clc_types.specs.declared.typed.Var.{Var}
use Rattle.clc_types.specs.declared.typed.TStmt.{out-TStmt}
use Rattle.clc_types.specs.declared.typed.TFunction.{TFunction}
use Rattle.clc_types.specs.WellTyped.{no_arrays, counts, declared, is_block, stmt_fits, function_fits, functions_fit}
use Rattle.clc_counts.specs.declared.tally.Tally.{Tally}
use Rattle.clc_counts.specs.Counts.{none, sum, summed, array_tally, stmt_counts, function_count, counted_after}
use Rattle.clc_types.specs.declared.typed.Var.TheVariants as var
use Rattle.clc_inline.specs.declared.body.TStmt.{TStmt}
use Rattle.clc_inline.specs.Inlining.{Made, body_of, bodies_below, stmt_made, kernel_made}
use Rattle.item_weights.specs.Nodes.{count_stmt}
use Rattle.item_weights.specs.Agreement.{NodesAreCounted}
use Rattle.item_weights.proofs.Expressions.{CallsAreCounted}
use Rattle.item_weights.proofs.Statements.{stmt_good}

-- ---- lists

pub get_below : (xs : List TFunction) (k : ℕ) (g : TFunction) → slice_get xs k ≡ Some g → k < length xs
get_below [] k g h = absurd (cc)
get_below (x ∷ xs) zero g h = omega arith
get_below (x ∷ xs) (suc k) g h = let p = get_below xs k g h in omega (arith, p)

pub get_before : (xs ys : List TFunction) (k : ℕ) (g : TFunction) → slice_get xs k ≡ Some g → slice_get (xs ++ ys) k ≡ Some g
get_before [] ys k g h = absurd (cc)
get_before (x ∷ xs) ys zero g h = h
get_before (x ∷ xs) ys (suc k) g h = get_before xs ys k g h

pub get_at : (xs : List TFunction) (f : TFunction) (ys : List TFunction) → slice_get (xs ++ f ∷ ys) (length xs) ≡ Some f
get_at [] f ys = refl
get_at (x ∷ xs) f ys = get_at xs f ys

pub get_end : (xs : List TFunction) (f g : TFunction) (k : ℕ) → slice_get (xs ++ f ∷ []) k ≡ Some g → (slice_get xs k ≡ Some g) ⊎ (k ≡ length xs)
get_end [] f g zero h = inr refl
get_end [] f g (suc k) h = absurd (cc)
get_end (x ∷ xs) f g zero h = inl h
get_end (x ∷ xs) f g (suc k) h = by (get_end xs f g k h)
  where
    by : (slice_get xs k ≡ Some g) ⊎ (k ≡ length xs) → (slice_get xs k ≡ Some g) ⊎ (suc k ≡ suc (length xs))
    by (inl p) = inl p
    by (inr p) = inr (ap suc p)

pub index_before : (ts : List Tally) (t : Tally) (k : ℕ) → k < length ts → slice_index_or (ts ++ t ∷ []) k none ≡ slice_index_or ts k none
index_before [] t k h = absurd (omega (arith, h))
index_before (x ∷ ts) t zero h = refl
index_before (x ∷ ts) t (suc k) h = index_before ts t k (omega (arith, h))

pub index_at : (ts : List Tally) (t : Tally) → slice_index_or (ts ++ t ∷ []) (length ts) none ≡ t
index_at [] t = refl
index_at (x ∷ ts) t = index_at ts t

pub length_end : {A : Type 0} (xs : List A) (x : A) → length (xs ++ x ∷ []) ≡ suc (length xs)
length_end [] x = refl
length_end (y ∷ xs) x = ap suc (length_end xs x)

pub one_more : (xs : List TFunction) (f : TFunction) (ys : List TFunction) → (xs ++ f ∷ []) ++ ys ≡ xs ++ f ∷ ys
one_more [] f ys = refl
one_more (x ∷ xs) f ys = ap (λ z. x ∷ z) (one_more xs f ys)

pub none_more : (xs : List TFunction) → xs ++ [] ≡ xs
none_more [] = refl
none_more (x ∷ xs) = ap (λ z. x ∷ z) (none_more xs)

-- ---- bodies

equal : (a b : ℕ) → nat_eq a b ≡ true → a ≡ b
equal a b e = grind (arith, nat_tests)

below : (a b : ℕ) → a < suc b → nat_eq a b ≡ false → a < b
below a b l e = grind (arith, nat_tests)

if_cases : {A : Type 0} (b : Bool) (x y z : A) → (b ≡ true → x ≡ z) → (b ≡ false → y ≡ z) → (if b then x else y) ≡ z
if_cases true x y z f g = f refl
if_cases false x y z f g = g refl

module _ (fs : List TFunction) (k base : ℕ) (vars : List Var) where
  one_called : (n : ℕ) → k < n → bodies_below fs n k base vars ≡ body_of fs (bodies_below fs k) (slice_get fs k) base vars
  one_called zero h = absurd (omega (arith, h))
  one_called (suc n) h =
      if_cases (nat_eq k n) (body_of fs (bodies_below fs n) (slice_get fs k) base vars) (bodies_below fs n k base vars) (body_of fs (bodies_below fs k) (slice_get fs k) base vars)
      (λ e. ap (λ m. body_of fs (bodies_below fs m) (slice_get fs k) base vars) (sym (equal k n e)))
      (λ e. one_called n (below k n h e))

  pub body_called : (n : ℕ) (f : TFunction) → k < n → slice_get fs k ≡ Some f → bodies_below fs n k base vars ≡ stmt_made fs (bodies_below fs k) base f.body vars
  body_called n f h e = one_called n h ∙ ap (λ (o : Option TFunction). body_of fs (bodies_below fs k) o base vars) e

-- ---- functions

one_array : (v : Var) → (array_tally v).nodes ≡ 0
one_array (var.Value t) = refl
one_array (var.Pointer t c) = refl
one_array (var.Array t n) = refl

arrays_are_none : (m : Tally) (vs : List Var) → (summed sum m (map array_tally vs)).nodes ≡ m.nodes
arrays_are_none m [] = refl
arrays_are_none m (v ∷ vs) = let p = arrays_are_none (sum m (array_tally v)) vs in let q = one_array v in omega (arith, p, q)

body_fits : (before : List TFunction) (f : TFunction) → function_fits before f ≡ true → stmt_fits f.vars before f.result f.body false ≡ true
body_fits before f h =
    (and_parts
    (nat_le f.params 16 && nat_le f.params (length f.vars) && no_arrays (take f.params f.vars) && not (f.kernel && is_some f.result)
    && counts f.params (length f.vars) (declared f.body) && is_block (out-TStmt f.body))
    (stmt_fits f.vars before f.result f.body false) h).1

module _ (fs : List TFunction) where
  -- those before have the nodes that are counted, whoever calls them
  abbrev Counted : (before : List TFunction) → List Tally → Type 0
  Counted before cs =
      (k : ℕ) (g : TFunction) → slice_get before k ≡ Some g → (n : ℕ) → k < n → (b : ℕ) (vars : List Var) → count_stmt (bodies_below fs n k b vars).made ≡ (slice_index_or cs k none).nodes

  calls_counted : (before : List TFunction) (cs : List Tally) (more : List TFunction) → fs ≡ before ++ more → Counted before cs → CallsAreCounted fs (bodies_below fs (length before)) cs before
  calls_counted before cs more is c k g e =
      (subst (λ (l : List TFunction). slice_get l k ≡ Some g) (sym is) (get_before before more k g e), λ b vars. c k g e (length before) (get_below before k g e) b vars)

  -- the next one
  next_counted : (before : List TFunction) (cs : List Tally) (f : TFunction) (more : List TFunction) → fs ≡ before ++ f ∷ more → Counted before cs → function_fits before f ≡ true
      → (n : ℕ) → length before < n → (b : ℕ) (vars : List Var) → count_stmt (bodies_below fs n (length before) b vars).made ≡ (function_count sum cs f).nodes
  next_counted before cs f more is c h n l b vars =
      let k = length before in
      let at : slice_get fs k ≡ Some f = subst (λ (z : List TFunction). slice_get z k ≡ Some f) (sym is) (get_at before f more) in
      let e = body_called fs k b vars n f l at in
      let p = (stmt_good fs (bodies_below fs k) b cs f.vars before f.result (calls_counted before cs (f ∷ more) is c) f.body false (body_fits before f h) vars).0 in
      ap (λ (z : Made TStmt). count_stmt z.made) e ∙ p ∙ sym (arrays_are_none (stmt_counts sum cs f.body).whole f.vars)

  and_next : (before : List TFunction) (cs : List Tally) (f : TFunction) (more : List TFunction) → fs ≡ before ++ f ∷ more → length cs ≡ length before → Counted before cs → function_fits before f ≡ true
      → Counted (before ++ f ∷ []) (cs ++ function_count sum cs f ∷ [])
  and_next before cs f more is len c h k g e n l b vars = by (get_end before f g k e)
    where
      by : (slice_get before k ≡ Some g) ⊎ (k ≡ length before) → count_stmt (bodies_below fs n k b vars).made ≡ (slice_index_or (cs ++ function_count sum cs f ∷ []) k none).nodes
      by (inl p) =
          let q = get_below before k g p in
          c k g p n l b vars ∙ ap (λ (t : Tally). t.nodes) (sym (index_before cs (function_count sum cs f) k (omega (arith, q, len))))
      by (inr p) =
          let m : length before < n = omega (arith, p, l) in
          let i : k ≡ length cs = p ∙ sym len in
          ap (λ z. count_stmt (bodies_below fs n z b vars).made) p ∙ next_counted before cs f more is c h n m b vars
          ∙ ap (λ (t : Tally). t.nodes) (sym (ap (λ z. slice_index_or (cs ++ function_count sum cs f ∷ []) z none) i ∙ index_at cs (function_count sum cs f)))

  all_counted : (more before : List TFunction) (cs : List Tally) → fs ≡ before ++ more → length cs ≡ length before → Counted before cs → functions_fit before more ≡ true → Counted fs (counted_after sum cs more)
  all_counted [] before cs is len c h = subst (λ (l : List TFunction). Counted l cs) (sym (is ∙ none_more before)) c
  all_counted (f ∷ more) before cs is len c h =
      let p = and_parts (function_fits before f) (functions_fit (before ++ f ∷ []) more) h in
      all_counted more (before ++ f ∷ []) (cs ++ function_count sum cs f ∷ []) (is ∙ sym (one_more before f more))
      (length_end cs (function_count sum cs f) ∙ ap suc len ∙ sym (length_end before f)) (and_next before cs f more is len c p.0) p.1

pub nodes_are_counted : NodesAreCounted
nodes_are_counted fs k f h e =
    let c = all_counted fs fs [] [] refl refl (λ j g i. absurd (cc)) h in
    ap (λ (o : Option TFunction). count_stmt (kernel_made fs k o).made) e
    ∙ sym (ap (λ (z : Made TStmt). count_stmt z.made) (body_called fs k 0 f.vars (suc k) f (omega arith) e))
    ∙ c k f e (suc k) (omega arith) 0 f.vars
