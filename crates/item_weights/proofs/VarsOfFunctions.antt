-- What the bodies of well-typed functions add to the variables, from the first function on.
use Rattle.std.proofs.Common.{◌≡◌, ℕ, suc, ◌+◌, ◌<◌, ◌≤◌, ◌⊎◌, inl, inr, true, false, List, [], ◌∷◌, ◌++◌, Option, Some, None, map, length, refl, sym, ap, ◌∙◌, subst, arith}
use Rattle.std.specs.Prelude.{slice_get, slice_index_or, ◌&&◌, not, eqb, is_some, nat_le, take}
use Rattle.std.proofs.lemmas.Bool.{and_parts, eqb-true}
use Rattle.std.proofs.lemmas.Bool.Decides.{nat_tests}
use Rattle.clc_types.specs.declared.typed.Var.{Var}
use Rattle.clc_types.specs.declared.typed.Var.TheVariants as var
use Rattle.clc_types.specs.declared.typed.TStmt.{out-TStmt}
use Rattle.clc_types.specs.declared.typed.TFunction.{TFunction}
use Rattle.clc_types.specs.WellTyped.{no_arrays, counts, declared, is_block, stmt_fits, function_fits, functions_fit}
use Rattle.clc_counts.specs.declared.tally.Tally.{Tally}
use Rattle.clc_counts.specs.Counts.{none, sum, summed, array_tally, stmt_counts, function_count, counted_after, tally_of}
use Rattle.clc_inline.specs.Inlining.{Made, bodies_below, inlined, kernel_made}
use Rattle.item_weights.specs.Law.{elements_of}
use Rattle.clc_plain.specs.Plain.{plain_in, are_plain}
use Rattle.item_weights.specs.Agreement.{ElementsAreCounted, VariablesAreFew}
use Rattle.item_weights.proofs.Functions.{get_below, get_before, get_at, get_end, index_before, index_at, length_end, one_more, none_more, body_called}
use Rattle.item_weights.proofs.VarsOfExpressions.{Adds, CallsAdd}
use Rattle.item_weights.proofs.VarsOfStatements.{stmt_good}

at_most : (a b : ℕ) → nat_le a b ≡ true → a ≤ b
at_most a b h = grind (arith, nat_tests)

one_array : (v : Var) → (array_tally v).nodes ≡ 0
one_array (var.Value t) = refl
one_array (var.Pointer t c) = refl
one_array (var.Array t n) = refl

arrays_sum : (m : Tally) (vs : List Var) → ((summed sum m (map array_tally vs)).nodes ≡ m.nodes) × ((summed sum m (map array_tally vs)).elements ≡ m.elements + elements_of vs)
arrays_sum m [] = (refl, omega arith)
arrays_sum m (v ∷ vs) =
    let p = arrays_sum (sum m (array_tally v)) vs in let p0 = p.0 in let p1 = p.1 in
    let q = one_array v in (omega (arith, p0, q), omega (arith, p1))

counts_length : (n m : ℕ) (l : List ℕ) → counts n m l ≡ true → m ≡ n + length l
counts_length n m [] h = let p = eqb-true n m h in omega (arith, p)
counts_length n m (v ∷ l) h = let p = counts_length (suc n) m l (and_parts (eqb v n) (counts (suc n) m l) h).1 in omega (arith, p)

-- what is known of a function's variables and of its body
abbrev Knows : (before : List TFunction) → TFunction → Type 0
Knows before f = (f.params ≤ length f.vars) × (length f.vars ≡ f.params + length (declared f.body)) × (stmt_fits f.vars before f.result f.body false ≡ true)

knows : (before : List TFunction) (f : TFunction) → function_fits before f ≡ true → Knows before f
knows before f h =
    let a = nat_le f.params 16 in
    let b = nat_le f.params (length f.vars) in
    let c = no_arrays (take f.params f.vars) in
    let d = not (f.kernel && is_some f.result) in
    let e = counts f.params (length f.vars) (declared f.body) in
    let i = is_block (out-TStmt f.body) in
    let p1 = and_parts (a && b && c && d && e && i) (stmt_fits f.vars before f.result f.body false) h in
    let p2 = and_parts (a && b && c && d && e) i p1.0 in
    let p3 = and_parts (a && b && c && d) e p2.0 in
    let p4 = and_parts (a && b && c) d p3.0 in
    let p5 = and_parts (a && b) c p4.0 in
    (at_most f.params (length f.vars) (and_parts a b p5.0).1, counts_length f.params (length f.vars) (declared f.body) p3.1, p1.1)

module _ (fs : List TFunction) where
  -- what those before add, whoever calls them
  abbrev Known : (before : List TFunction) → List Tally → Type 0
  Known before cs =
      (k : ℕ) (g : TFunction) → slice_get before k ≡ Some g → (g.params ≤ length g.vars) × ((n : ℕ) → k < n → (b : ℕ) (vars : List Var) → Adds (bodies_below fs n k b vars).vars vars g (slice_index_or cs k none))

  calls_add : (before : List TFunction) (cs : List Tally) (more : List TFunction) → fs ≡ before ++ more → Known before cs → CallsAdd fs (bodies_below fs (length before)) cs before
  calls_add before cs more is c k g e =
      (subst (λ (l : List TFunction). slice_get l k ≡ Some g) (sym is) (get_before before more k g e), (c k g e).0, λ b vars. (c k g e).1 (length before) (get_below before k g e) b vars)

  next_adds : (before : List TFunction) (cs : List Tally) (f : TFunction) (more : List TFunction) → fs ≡ before ++ f ∷ more → Known before cs → function_fits before f ≡ true → (plain_in f.body).whole ≡ true
      → (n : ℕ) → length before < n → (b : ℕ) (vars : List Var) → Adds (bodies_below fs n (length before) b vars).vars vars f (function_count sum cs f)
  next_adds before cs f more is c h w n l b vars =
      let k = length before in
      let at : slice_get fs k ≡ Some f = subst (λ (z : List TFunction). slice_get z k ≡ Some f) (sym is) (get_at before f more) in
      let e = body_called fs k b vars n f l at in
      let q = knows before f h in let q1 = q.1 in
      let p = (stmt_good fs (bodies_below fs k) b cs f.vars before f.result (calls_add before cs (f ∷ more) is c) f.body false q.2 vars).0 w in let p0 = p.0 in let p1 = p.1 in
      let a = arrays_sum (stmt_counts sum cs f.body).whole f.vars in let a0 = a.0 in let a1 = a.1 in
      subst (λ (z : Made Rattle.clc_inline.specs.declared.body.TStmt.TStmt). Adds z.vars vars f (function_count sum cs f)) (sym e)
      (omega (arith, p0, a1), omega (arith, p1, a0, q1))

  and_next : (before : List TFunction) (cs : List Tally) (f : TFunction) (more : List TFunction) → fs ≡ before ++ f ∷ more → length cs ≡ length before → Known before cs → function_fits before f ≡ true
      → (plain_in f.body).whole ≡ true → Known (before ++ f ∷ []) (cs ++ function_count sum cs f ∷ [])
  and_next before cs f more is len c h w k g e = by (get_end before f g k e)
    where
      by : (slice_get before k ≡ Some g) ⊎ (k ≡ length before)
          → (g.params ≤ length g.vars) × ((n : ℕ) → k < n → (b : ℕ) (vars : List Var) → Adds (bodies_below fs n k b vars).vars vars g (slice_index_or (cs ++ function_count sum cs f ∷ []) k none))
      by (inl p) =
          let q = get_below before k g p in
          ((c k g p).0, λ n l b vars. subst (λ (t : Tally). Adds (bodies_below fs n k b vars).vars vars g t) (sym (index_before cs (function_count sum cs f) k (omega (arith, q, len)))) ((c k g p).1 n l b vars))
      by (inr p) =
          let same : Some f ≡ Some g = sym (get_at before f []) ∙ sym (ap (slice_get (before ++ f ∷ [])) p) ∙ e in
          let i : k ≡ length cs = p ∙ sym len in
          let t = ap (λ z. slice_index_or (cs ++ function_count sum cs f ∷ []) z none) i ∙ index_at cs (function_count sum cs f) in
          subst Kept same (
            (knows before f h).0,
            λ n l b vars.
                subst (λ (z : Tally). Adds (bodies_below fs n k b vars).vars vars f z) (sym t)
                (subst (λ z. Adds (bodies_below fs n z b vars).vars vars f (function_count sum cs f)) (sym p) (next_adds before cs f more is c h w n (subst (λ z. z < n) p l) b vars)),
          )
        where
          Kept : Option TFunction → Type 0
          Kept None = Unit {0}
          Kept (Some x) = (x.params ≤ length x.vars) × ((n : ℕ) → k < n → (b : ℕ) (vars : List Var) → Adds (bodies_below fs n k b vars).vars vars x (slice_index_or (cs ++ function_count sum cs f ∷ []) k none))

  all_known : (more before : List TFunction) (cs : List Tally) → fs ≡ before ++ more → length cs ≡ length before → Known before cs → functions_fit before more ≡ true → are_plain more ≡ true
      → Known fs (counted_after sum cs more)
  all_known [] before cs is len c h w = subst (λ (l : List TFunction). Known l cs) (sym (is ∙ none_more before)) c
  all_known (f ∷ more) before cs is len c h w =
      let p = and_parts (function_fits before f) (functions_fit (before ++ f ∷ []) more) h in
      let q = and_parts (plain_in f.body).whole (are_plain more) w in
      all_known more (before ++ f ∷ []) (cs ++ function_count sum cs f ∷ []) (is ∙ sym (one_more before f more))
      (length_end cs (function_count sum cs f) ∙ ap suc len ∙ sym (length_end before f)) (and_next before cs f more is len c p.0 q.0) p.1 q.1

kernel_adds : (fs : List TFunction) (k : ℕ) (f : TFunction) → functions_fit [] fs ≡ true → are_plain fs ≡ true → slice_get fs k ≡ Some f → Adds (inlined fs k).vars f.vars f (tally_of fs k)
kernel_adds fs k f h w e =
    let c = all_known fs fs [] [] refl refl (λ j g i. absurd (cc)) h w in
    let m = ap (λ (o : Option TFunction). kernel_made fs k o) e ∙ sym (body_called fs k 0 f.vars (suc k) f (omega arith) e) in
    subst (λ (z : Made Rattle.clc_inline.specs.declared.body.TStmt.TStmt). Adds z.vars f.vars f (tally_of fs k)) (sym m) ((c k f e).1 (suc k) (omega arith) 0 f.vars)

pub elements_are_counted : ElementsAreCounted
elements_are_counted fs k f h w e = let p = (kernel_adds fs k f h w e).0 in omega (arith, p)

pub variables_are_few : VariablesAreFew
variables_are_few fs k f h w e = let p = (kernel_adds fs k f h w e).1 in omega (arith, p)
