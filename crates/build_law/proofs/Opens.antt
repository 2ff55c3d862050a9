-- The whole form of a body does what the body does.
use Rattle.std.proofs.Common.{◌≡◌, ℕ, zero, suc, ◌+◌, ◌-◌, ◌<◌, ◌≤◌, ◌≢◌, ◌⊎◌, inl, inr, List, [], ◌∷◌, ◌++◌, None, length, take, replicate, refl, sym, ap, ◌∙◌, subst, arith, length-append}
use Rattle.std.proofs.lemmas.Bool.{and_parts}
use Rattle.std.proofs.lemmas.Bool.Decides.{leb_tells, nat_tests}
use Rattle.std.specs.Prelude.{slice_index_or, nat_le, nat_lt, not, true, false}
use Rattle.clc_types.specs.declared.typed.Var.{Var}
use Rattle.item_meaning.specs.declared.values.Value.{Value}
use Rattle.item_meaning.specs.declared.values.Value.TheVariants.{Null}
use Rattle.item_meaning.specs.Places.{array_of}
use Rattle.item_meaning.specs.ItemMeaning.{as_params}
use Rattle.clc_inline.specs.declared.whole.Body.{Body}
use Rattle.body_meaning.specs.BodyMeaning.{body_run, opening}
use Rattle.item_ir.specs.IrMeaning.{World, State as Item, Ends, Next, and_then, with_val, with_var, run_all}
use Rattle.ir_build.specs.Code.{stmt_code}
use Rattle.ir_build.specs.Build.{params_code}
use Rattle.build_law.specs.Keeps.{Ground, Same, Related, Follows, same_flow}
use Rattle.build_law.specs.Law.{ground, Opened, BodyFollows}
use Rattle.clc_inline.specs.Named.{is_statement}
use Rattle.build_law.proofs.Steps.{with_at-same, with_at-other, run-append, weaker}
use Rattle.build_law.proofs.Whole.{stmt_follows}

module _ (w : World) where
  abbrev after : (c i k : ℕ) → Item → Item
  after zero i k n = n
  after (suc c) i k n = after c (suc i) (suc k) (with_var i ((with_val k (w.params i) n).vals k) (with_val k (w.params i) n))

  runs : (c i k : ℕ) (n : Item) → run_all w (params_code c i k) n ≡ Ends Next (after c i k n)
  runs zero i k n = refl
  runs (suc c) i k n = runs c (suc i) (suc k) (with_var i ((with_val k (w.params i) n).vals k) (with_val k (w.params i) n))

  -- nothing but values and variables changes
  record Only (a b : Item) : Type 0 where
    mem : b.mem ≡ a.mem
    touches : b.touches ≡ a.touches
    left : b.left ≡ a.left

  only : (c i k : ℕ) (n : Item) → Only n (after c i k n)
  only zero i k n = record { mem = refl; touches = refl; left = refl }
  only (suc c) i k n =
      let r = only c (suc i) (suc k) (with_var i ((with_val k (w.params i) n).vals k) (with_val k (w.params i) n)) in record { mem = r.mem; touches = r.touches; left = r.left }

  earlier : (c i k j : ℕ) (n : Item) → j < i → (after c i k n).vars j ≡ n.vars j
  earlier zero i k j n lt = refl
  earlier (suc c) i k j n lt =
      let x = (with_val k (w.params i) n).vals k in
      let ne : j ≢ i = omega (arith, lt) in
      earlier c (suc i) (suc k) j (with_var i x (with_val k (w.params i) n)) (omega (arith, lt)) ∙ with_at-other n.vars i x j ne

  given : (c i k j : ℕ) (n : Item) → i ≤ j → j < i + c → (after c i k n).vars j ≡ w.params j
  given zero i k j n le lt = absurd (omega (arith, le, lt))
  given (suc c) i k j n le lt =
      let o : Item = with_var i ((with_val k (w.params i) n).vals k) (with_val k (w.params i) n) in
      by c i k j n le lt (λ b. given c (suc i) (suc k) j o b (let z = lt in omega (arith, z))) (leb_tells (suc i) j)
    where
      by : (c i k j : ℕ) (n : Item) → i ≤ j → j < i + suc c → (suc i ≤ j → (after c (suc i) (suc k) (with_var i ((with_val k (w.params i) n).vals k) (with_val k (w.params i) n))).vars j ≡ w.params j)
          → ((nat_le (suc i) j ≡ true) × (suc i ≤ j)) ⊎ ((nat_le (suc i) j ≡ false) × (j < suc i)) → (after (suc c) i k n).vars j ≡ w.params j
      by c i k j n le lt ih (inl (a, b)) = ih b
      by c i k j n le lt ih (inr (a, b)) =
          let e : i ≡ j = let y = le in let z = b in omega (arith, y, z) in
          subst (λ q. (after (suc c) i k n).vars q ≡ w.params q) e
          (earlier c (suc i) (suc k) i (with_var i ((with_val k (w.params i) n).vals k) (with_val k (w.params i) n)) (omega arith)
          ∙ with_at-same n.vars i ((with_val k (w.params i) n).vals k) ∙ with_at-same n.vals k (w.params i))

nulls : (n u : ℕ) → slice_index_or (replicate n Null) u Null ≡ Null
nulls zero u = refl
nulls (suc n) zero = refl
nulls (suc n) (suc u) = nulls n u

before_nulls : (xs : List Value) (n u : ℕ) → slice_index_or (xs ++ replicate n Null) u Null ≡ slice_index_or xs u Null
before_nulls [] n u = nulls n u
before_nulls (x ∷ xs) n zero = refl
before_nulls (x ∷ xs) n (suc u) = before_nulls xs n u

past_values : (xs : List Value) (u : ℕ) → length xs ≤ u → slice_index_or xs u Null ≡ Null
past_values [] u h = refl
past_values (x ∷ xs) zero h = absurd (omega (arith, h))
past_values (x ∷ xs) (suc u) h = past_values xs u (omega (arith, h))

few_params : (n : ℕ) (ps : List Var) (xs : List Value) → length (as_params (take n ps) xs) ≤ n
few_params zero ps xs = omega arith
few_params (suc n) [] xs = omega arith
few_params (suc n) (p ∷ ps) [] = omega arith
few_params (suc n) (p ∷ ps) (x ∷ xs) = let r = few_params n ps xs in omega (arith, r)

many_nulls : (n : ℕ) → length (replicate n Null) ≡ n
many_nulls zero = refl
many_nulls (suc n) = ap suc (many_nulls n)

no_arrays : (n u : ℕ) → array_of (replicate n []) u ≡ []
no_arrays zero u = refl
no_arrays (suc n) zero = refl
no_arrays (suc n) (suc u) = no_arrays n u

few : (params n : ℕ) → not (nat_lt n params) ≡ true → params ≤ n
few params n h = grind (arith, nat_tests)

module _ (w : World) (base size : ℕ → ℕ) (body : Body) where
  params_few : body.params ≤ length body.vars.items
  params_few = few body.params (length body.vars.items) (and_parts (not (nat_lt (length body.vars.items) body.params)) (is_statement (length body.vars.items) false body.body) body.valid).0

  module _ (xs : List Value) (buffers : List (List ℕ)) (turns d : ℕ) (n : Item) (h : Opened (ground w base size body.vars.items) body.params xs buffers (turns + d) n) where
    by_side : (u : ℕ) → ((nat_le body.params u ≡ true) × (body.params ≤ u)) ⊎ ((nat_le body.params u ≡ false) × (u < body.params))
        → Same base (slice_index_or (as_params (take body.params body.vars.items) xs ++ replicate (length body.vars.items - body.params) Null) u Null) ((after w body.params 0 (suc (length body.vars.items)) n).vars u)
    by_side u (inl (a, b)) =
        subst (λ x. Same base x ((after w body.params 0 (suc (length body.vars.items)) n).vars u))
        (sym (before_nulls (as_params (take body.params body.vars.items) xs) (length body.vars.items - body.params) u ∙ past_values (as_params (take body.params body.vars.items) xs) u (let p = few_params body.params body.vars.items xs in omega (arith, p, b)))) tt
    by_side u (inr (a, b)) =
        subst (λ x. Same base x ((after w body.params 0 (suc (length body.vars.items)) n).vars u)) (sym (before_nulls (as_params (take body.params body.vars.items) xs) (length body.vars.items - body.params) u))
        (subst (Same base (slice_index_or (as_params (take body.params body.vars.items) xs) u Null)) (sym (given w body.params 0 (suc (length body.vars.items)) u n (omega arith) (omega (arith, b)))) (h.words u))

    related : Related (ground w base size body.vars.items) d (opening body xs buffers turns) (after w body.params 0 (suc (length body.vars.items)) n)
    related =
        let r = only w body.params 0 (suc (length body.vars.items)) n in
        record {
          vars = λ u. by_side u (leb_tells body.params u);
          count = subst (λ z. z ≤ length body.vars.items) (sym (length-append (as_params (take body.params body.vars.items) xs) (replicate (length body.vars.items - body.params) Null)))
              (let p = few_params body.params body.vars.items xs in let q = many_nulls (length body.vars.items - body.params) in let y = params_few in omega (arith, p, q, y));
          elements = λ u i lt. absurd (let z : i < 0 = subst (λ ys. i < length ys) (no_arrays (length body.vars.items) u) lt in omega (arith, z));
          lengths = λ u. subst (λ ys. length ys ≤ w.lens u) (sym (no_arrays (length body.vars.items) u)) (omega arith);
          bytes = λ k o lt. ap (λ f. f (base k + o)) r.mem ∙ h.bytes k o lt;
          sizes = h.sizes;
          touches = r.touches ∙ h.touches;
          left = let a = r.left in let b = h.left in omega (arith, a, b);
        }

pub body_follows : BodyFollows
body_follows w base size body lay xs buffers turns d n h =
    let n0 = length body.vars.items in
    let g : Ground = ground w base size body.vars.items in
    let o = after w body.params 0 (suc n0) n in
    let s = opening body xs buffers turns in
    let k = suc n0 + body.params in
    let a = stmt_code body.vars.items (record { result = None; var = n0 }) body.body k in
    let named : is_statement n0 false body.body ≡ true = (and_parts (not (nat_lt (length body.vars.items) body.params)) (is_statement (length body.vars.items) false body.body) body.valid).1 in
    let f = stmt_follows g lay false body.body named (record { result = None; var = n0 }) k (omega arith) (omega arith) d s o (related w base size body xs buffers turns d n h) in
    let e = run-append w (params_code body.params 0 (suc n0)) a.stmts n ∙ ap (λ z. and_then z (run_all w a.stmts)) (runs w body.params 0 (suc n0) n) in
    subst (λ z. Follows g d same_flow (body_run body w.work xs buffers turns) (λ f t o. Unit {0}) z) (sym e)
    (weaker g d d same_flow (body_run body w.work xs buffers turns) (run_all w a.stmts o) _ (λ f t o. Unit {0}) (omega arith) (λ f t o q. tt) f)
