-- The code of arguments, built-in functions and scopes.
use Rattle.std.proofs.Common.{◌≡◌, ℕ, zero, suc, ◌<◌, ◌≤◌, ◌≢◌, inl, inr, List, [], ◌∷◌, ◌++◌, Option, Some, None, length, refl, sym, ap, ◌∙◌, subst, arith}
use Rattle.std.specs.Prelude.{slice_index, slice_index_or, slice_set, ◌==◌}
use Rattle.std.proofs.lemmas.Bool.{eqb-true, eqb-false}
use Rattle.std.proofs.lemmas.List.{get_or-set_other}
use Rattle.std.proofs.Math.ListN.{length-set}
use Rattle.q_lane.specs.declared.kinds.Scalar.{Scalar}
use Rattle.q_functions.specs.NumberFunctions.{number_function}
use Rattle.q_functions.specs.WorkFunctions.{work_function}
use Rattle.item_meaning.specs.declared.values.Value.{Value}
use Rattle.item_meaning.specs.declared.values.Value.TheVariants.{Num, Null, At}
use Rattle.item_meaning.specs.ItemState.{State, Run, Goes, Bounds, Spent, then_do}
use Rattle.item_meaning.specs.declared.values.Flow.{Flow}
use Rattle.item_meaning.specs.declared.values.Flow.TheVariants.{Next, Broke, Again, Returned}
use Rattle.item_meaning.specs.Operators.{converted}
use Rattle.item_meaning.specs.declared.values.Place.TheVariants.{Variable}
use Rattle.item_meaning.specs.Places.{array_of}
use Rattle.item_meaning.specs.NodeMeanings.{Part, Function, OfWork, OfNumbers, with_words, first_word, applied_to, and_values}
use Rattle.item_meaning.specs.StatementMeanings.{var_at, type_of, returned_as, fallen_off, call_end}
use Rattle.body_meaning.specs.BodyMeaning.{emptied, passed}
use Rattle.item_ir.specs.IrMeaning.{State as Item, Run as Ran, Ends, Next as Falls, and_then, left_scope, with_val, with_var, words_of, run_all}
use Rattle.item_ir.specs.declared.form.Def.TheVariants as df
use Rattle.item_ir.specs.declared.form.Stmt.TheVariants.{Let, Set, Scope}
use Rattle.q_functions.specs.declared.functions.WorkFunction.{WorkFunction}
use Rattle.item_ir.specs.declared.form.Val.{Val}
use Rattle.ir_build.specs.Code.{v, Code, one, into, put_code, ArgsCode, more_args, after_args, work_code, function_code, pass_code, Stmts, scope_code}
use Rattle.build_law.specs.Keeps.{Back, Ground, Laid, Same, Related, Kept, Follows, same_flow, Left_by}
use Rattle.build_law.proofs.Fits.{AllBelow}
use Rattle.build_law.proofs.Lists.{run-Scope}
use Rattle.build_law.proofs.Steps.{with_at-same, with_at-other, bool_cases, bind, weaker, run-append, with_val-related, same_along, own_related, Kept-refl, Kept-trans, Kept-val, Kept-var}
use Rattle.build_law.proofs.Values.{Valued, IsBuilt, one_built, join_one, still}
use Rattle.build_law.proofs.Targets.{put_built}
use Rattle.build_law.proofs.Ups.{pass_up, put_up}

-- values as words
abbrev pub AllSame : Ground → List Value → List Val → ℕ → Item → Type 0
AllSame g [] [] k n = Unit {0}
AllSame g [] (i ∷ is) k n = ⊥
AllSame g (x ∷ xs) [] k n = ⊥
AllSame g (x ∷ xs) (i ∷ is) k n = Same g.base x (n.vals i.0) × (i.0 < k) × AllSame g xs is k n

pub all_kept : (g : Ground) (xs : List Value) (is : List Val) (k l : ℕ) (a c : Item) → k ≤ l → Kept g k a c → AllSame g xs is k a → AllSame g xs is l c
all_kept g [] [] k l a c le e h = tt
all_kept g [] (i ∷ is) k l a c le e h = h
all_kept g (x ∷ xs) [] k l a c le e h = h
all_kept g (x ∷ xs) (i ∷ is) k l a c le e h = (same_along g x _ _ (e.vals i.0 h.1) h.0, omega (arith, le, h.1), all_kept g xs is k l a c le e h.2)

pub record Argued (g : Ground) (k : ℕ) (c : ArgsCode) (old : Item) (xs : List Value) (s : State) (n : Item) : Type 0 where
  pub same : AllSame g xs c.vals c.next n
  pub kept : Kept g k old n
  pub up : k ≤ c.next

module _ (g : Ground) (lay : Laid g) where
  abbrev pub IsArgued : ℕ → Run (List Value) → ArgsCode → ℕ → Item → Type 0
  IsArgued d r c k n = Follows g d (λ _. Falls) r (Argued g k c n) (run_all g.world c.stmts n)

  pub more_built : (d : ℕ) (first : Part Value) (rest : Part (List Value)) (a : Code) (f : ℕ → ArgsCode) (k : ℕ) (s : State) (n : Item) → IsBuilt g d (first s) a k n
      → ((t : State) (o : Item) → Related g d t o → k ≤ a.next → IsArgued d (rest t) (f a.next) a.next o) → IsArgued d (and_values first rest s) (more_args a f) k n
  more_built d first rest a f k s n h i =
      let c = f a.next in
      bind g d d (λ _. Falls) (first s) (λ x t. then_do (rest t) (λ xs u. Goes (x ∷ xs) u)) a.stmts c.stmts n (Valued g k a n) (Argued g k (more_args a f) n) h
      (λ x t o ht w. put x t o w (rest t) (i t o ht w.up))
    where
      put : (x : Value) (t : State) (o : Item) → Valued g k a n x t o → (r : Run (List Value)) → IsArgued d r (f a.next) a.next o
          → Follows g d (λ _. Falls) (then_do r (λ xs u. Goes (x ∷ xs) u)) (Argued g k (more_args a f) n) (run_all g.world (f a.next).stmts o)
      put x t o w (Goes xs u) z = (
        z.0,
        z.1,
        z.2,
        record {
          same = (still g a.next a.val x o z.0 z.3.kept w.own w.same, let p = w.own in let q = z.3.up in omega (arith, p, q), z.3.same);
          kept = Kept-trans g k a.next n o z.0 w.up w.kept z.3.kept;
          up = let p = w.up in let q = z.3.up in omega (arith, p, q);
        },
      )
      put x t o w (Bounds at) z = tt
      put x t o w Spent z = tt

  -- ---- built-in functions

  words_same : (xs : List Value) (is : List Val) (k : ℕ) (n : Item) (go : List ℕ → ℕ) → AllSame g xs is k n → Same g.base (with_words xs (λ ws. Num (go ws))) (go (words_of n.vals is))
  words_same [] [] k n go h = refl
  words_same [] (i ∷ is) k n go h = absurd h
  words_same (x ∷ xs) [] k n go h = absurd h
  words_same (Num a ∷ xs) (i ∷ is) k n go h =
      same_along g (with_words xs (λ ws. Num (go (a ∷ ws)))) (go (words_of n.vals (i ∷ is))) (go (a ∷ words_of n.vals is)) (ap (λ z. go (z ∷ words_of n.vals is)) h.0) (words_same xs is k n (λ ws. go (a ∷ ws)) h.2)
  words_same (Null ∷ xs) (i ∷ is) k n go h = tt
  words_same (At c o ∷ xs) (i ∷ is) k n go h = tt

  work_built : (d : ℕ) (which : WorkFunction) (xs : List Value) (is : List Val) (k : ℕ) (s : State) (n : Item) → Related g d s n → AllSame g xs is k n
      → IsBuilt g d (Goes (with_words xs (λ ws. Num (work_function which g.world.work (first_word ws)))) s) (work_code which is k) k n
  work_built d which [] [] k s n h p =
      join_one g d k 0 (df.Const 0) (Goes (Num (work_function which g.world.work 0)) s) (one (suc k) (df.Work which (v k))) n refl
      (one_built g d (suc k) (df.Work which (v k)) (Num (work_function which g.world.work 0)) (work_function which g.world.work ((with_val k 0 n).vals k)) s (with_val k 0 n) (with_val-related g d k 0 s n h) refl
      (ap (work_function which g.world.work) (with_at-same n.vals k 0)))
  work_built d which [] (j ∷ js) k s n h p = absurd p
  work_built d which (x ∷ xs) [] k s n h p = absurd p
  work_built d which (x ∷ xs) (j ∷ js) k s n h p =
      one_built g d k (df.Work which j) (with_words (x ∷ xs) (λ ws. Num (work_function which g.world.work (first_word ws)))) (work_function which g.world.work (n.vals j.0)) s n h refl
      (words_same (x ∷ xs) (j ∷ js) k n (λ ws. work_function which g.world.work (first_word ws)) p)

  function_built : (d : ℕ) (f : Function) (t : Scalar) (xs : List Value) (is : List Val) (k : ℕ) (s : State) (n : Item) → Related g d s n → AllSame g xs is k n
      → IsBuilt g d (Goes (with_words xs (λ ws. Num (applied_to g.world.work f t ws))) s) (function_code f t is k) k n
  function_built d (OfWork which) t xs is k s n h e = work_built d which xs is k s n h e
  function_built d (OfNumbers which) t xs is k s n h e =
      one_built g d k (df.Built which t is) (with_words xs (λ ws. Num (number_function which t ws))) (number_function which t (words_of n.vals is)) s n h refl (words_same xs is k n (number_function which t) e)

  -- code after that of arguments
  args_then : (d : ℕ) (r : Run (List Value)) (go : List Value → State → Run Value) (c : ArgsCode) (f : List Val → ℕ → Code) (k : ℕ) (n : Item) → IsArgued d r c k n
      → ((xs : List Value) (t : State) (o : Item) → Related g d t o → AllSame g xs c.vals c.next o → k ≤ c.next → IsBuilt g d (go xs t) (f c.vals c.next) c.next o) → IsBuilt g d (then_do r go) (after_args c f) k n
  args_then d r go c f k n h i =
      let e = f c.vals c.next in
      bind g d d (λ _. Falls) r go c.stmts e.stmts n (Argued g k c n) (Valued g k (after_args c f) n) h
      (λ xs u o hu w. weaker g d d (λ _. Falls) (go xs u) (run_all g.world e.stmts o) (Valued g c.next e o) (Valued g k (after_args c f) n) (omega arith)
      (λ y a q z. record { same = z.same; kept = Kept-trans g k c.next n o q w.up w.kept z.kept; own = z.own; up = let i = w.up in let j = z.up in omega (arith, i, j) })
      (i xs u o hu w.same w.up))

  pub builtin_built : (d : ℕ) (f : Function) (t : Scalar) (r : Run (List Value)) (c : ArgsCode) (k : ℕ) (n : Item) → IsArgued d r c k n
      → IsBuilt g d (then_do r (λ xs u. Goes (with_words xs (λ ws. Num (applied_to g.world.work f t ws))) u)) (after_args c (function_code f t)) k n
  builtin_built d f t r c k n h =
      args_then d r (λ xs u. Goes (with_words xs (λ ws. Num (applied_to g.world.work f t ws))) u) c (function_code f t) k n h
      (λ xs u o hu w le. function_built d f t xs c.vals c.next u o hu w)

  -- ---- scopes

  -- the scope's own variables hold nothing, which any word is
  emptied_one : (d u : ℕ) (s : State) (n : Item) → Related g d s n → Related g d (record s { vars = slice_set s.vars u Null; arrays = slice_set s.arrays u [] }) n
  emptied_one d u s n h =
      record { vars = each; count = subst (λ i. i ≤ length g.vars) (sym (length-set s.vars u Null)) h.count; elements = held; lengths = long; bytes = h.bytes; sizes = h.sizes; touches = h.touches; left = h.left }
    where
      null_or_past : (xs : List Value) (u : ℕ) → slice_index_or (slice_set xs u Null) u Null ≡ Null
      null_or_past [] u = refl
      null_or_past (x ∷ xs) zero = refl
      null_or_past (x ∷ xs) (suc u) = null_or_past xs u

      empty_or_past : (xs : List (List ℕ)) (u : ℕ) → array_of (slice_set xs u []) u ≡ []
      empty_or_past [] u = refl
      empty_or_past (x ∷ xs) zero = refl
      empty_or_past (x ∷ xs) (suc u) = empty_or_past xs u

      each : (w : ℕ) → Same g.base (slice_index_or (slice_set s.vars u Null) w Null) (n.vars w)
      each w =
          elim (bool_cases (w == u)) [
            | inl t ↦
                let e : w ≡ u = eqb-true w u t in
                subst (λ z. Same g.base (slice_index_or (slice_set s.vars u Null) z Null) (n.vars z)) (sym e) (subst (λ x. Same g.base x (n.vars u)) (sym (null_or_past s.vars u)) tt)
            | inr t ↦ subst (λ x. Same g.base x (n.vars w)) (sym (get_or-set_other s.vars u w Null Null (eqb-false w u t))) (h.vars w)
          ]

      held : (w i : ℕ) → i < length (array_of (slice_set s.arrays u []) w) → n.arrays w i ≡ slice_index (array_of (slice_set s.arrays u []) w) i
      held w i lt =
          elim (bool_cases (w == u)) [
            | inl t ↦
                let e : w ≡ u = eqb-true w u t in
                let z : i < 0 = subst (λ ys. i < length ys) (ap (λ z. array_of (slice_set s.arrays u []) z) e ∙ empty_or_past s.arrays u) lt in
                absurd (omega (arith, z))
            | inr t ↦
                let q : array_of (slice_set s.arrays u []) w ≡ array_of s.arrays w = get_or-set_other s.arrays u w [] [] (eqb-false w u t) in
                h.elements w i (subst (λ ys. i < length ys) q lt) ∙ sym (ap (λ ys. slice_index ys i) q)
          ]

      long : (w : ℕ) → length (array_of (slice_set s.arrays u []) w) ≤ g.world.lens w
      long w =
          elim (bool_cases (w == u)) [
            | inl t ↦
                let e : w ≡ u = eqb-true w u t in
                subst (λ ys. length ys ≤ g.world.lens w) (sym (ap (λ z. array_of (slice_set s.arrays u []) z) e ∙ empty_or_past s.arrays u)) (omega arith)
            | inr t ↦
                let q : array_of (slice_set s.arrays u []) w ≡ array_of s.arrays w = get_or-set_other s.arrays u w [] [] (eqb-false w u t) in
                subst (λ ys. length ys ≤ g.world.lens w) (sym q) (h.lengths w)
          ]

  emptied_related : (d : ℕ) (us : List ℕ) (s : State) (n : Item) → Related g d s n → Related g d (emptied us s) n
  emptied_related d [] s n h = h
  emptied_related d (u ∷ us) s n h = emptied_related d us (record s { vars = slice_set s.vars u Null; arrays = slice_set s.arrays u [] }) n (emptied_one d u s n h)

  -- the arguments are stored
  pub record Entered (d k l : ℕ) (old : Item) (t : State) (o : Item) : Type 0 where
    pub there : Related g d t o
    pub kept : Kept g k old o

  pass_built : (d : ℕ) (ps : List ℕ) (xs : List Value) (is : List Val) (k : ℕ) (s : State) (n : Item) → AllBelow (length g.vars) ps → Related g d s n → AllSame g xs is k n
      → (o : Item) × (run_all g.world (pass_code g.vars ps is k).stmts n ≡ Ends Falls o) × Entered d k k n (passed g.vars ps xs s) o
  pass_built d [] xs is k s n b h e = (n, refl, record { there = h; kept = Kept-refl g k n })
  pass_built d (p ∷ ps) [] [] k s n b h e = (n, refl, record { there = h; kept = Kept-refl g k n })
  pass_built d (p ∷ ps) [] (i ∷ is) k s n b h e = absurd e
  pass_built d (p ∷ ps) (x ∷ xs) [] k s n b h e = absurd e
  pass_built d (p ∷ ps) (x ∷ xs) (i ∷ is) k s n b h e =
      let t = type_of (var_at g.vars p) in
      let to = (into p 0).to in
      let c = put_code t to i.0 k in
      let w = put_built g lay d t (Variable p) to i.0 k x s n h (refl, b.0) e.0 e.1 in
      let r = pass_built d ps xs is c.next (record s { vars = slice_set s.vars p (converted t x) }) w.0 b.1 w.2 (all_kept g xs is k c.next n w.0 (put_up t to i.0 k) w.3.kept e.2) in (
        r.0,
        run-append g.world c.stmts (pass_code g.vars ps is c.next).stmts n ∙ ap (λ z. and_then z (run_all g.world (pass_code g.vars ps is c.next).stmts)) w.1 ∙ r.1,
        record { there = r.2.there; kept = Kept-trans g k c.next n w.0 r.0 (put_up t to i.0 k) w.3.kept r.2.kept },
      )

  -- what the body left is the call's value, in r
  body_end : (d r j : ℕ) (result : Option Scalar) (run_body : Run Flow) (x : Ran) (k : ℕ) (n : Item) → r < j → k ≡ suc r → n.vars r ≡ 0 → length g.vars ≤ r
      → Follows g d same_flow run_body (λ f t o. Left_by g (record { result = result; var = r }) k n f o) x
      → Follows g d (λ _. Falls) (then_do run_body (call_end result)) (λ y t o. Same g.base y (o.vals j) × Kept g r n o) (and_then (left_scope x) (run_all g.world (Let (v j) (df.Get r) ∷ [])))
  body_end d r j result (Goes Next t) x k n lt e z lo f =
      let o = f.0 in
      (with_val j (o.vars r) o, ap (λ y. and_then (left_scope y) (run_all g.world (Let (v j) (df.Get r) ∷ []))) f.1, with_val-related g d j (o.vars r) t o f.2, (fallen result, kept))
    where
      fallen : (result : Option Scalar) → Same g.base (fallen_off result) ((with_val j (f.0.vars r) f.0).vals j)
      fallen None = tt
      fallen (Some s) = with_at-same f.0.vals j (f.0.vars r) ∙ f.3.result ∙ z

      kept : Kept g r n (with_val j (f.0.vars r) f.0)
      kept = record {
        vals = λ i l. let ne : i ≢ j = omega (arith, l, lt) in with_at-other f.0.vals j (f.0.vars r) i ne ∙ f.3.vals i (omega (arith, l, e));
        vars = λ i b l. f.3.vars i b (omega (arith, l, e)) (let q : i ≢ r = omega (arith, l) in q);
      }
  body_end d r j result (Goes Broke t) x k n lt e z lo f = tt
  body_end d r j result (Goes Again t) x k n lt e z lo f = tt
  body_end d r j result (Goes (Returned y) t) x k n lt e z lo f =
      let o = f.0 in (
        with_val j (o.vars r) o,
        ap (λ y. and_then (left_scope y) (run_all g.world (Let (v j) (df.Get r) ∷ []))) f.1,
        with_val-related g d j (o.vars r) t o f.2,
        (
          same_along g (returned_as result y) _ _ (with_at-same o.vals j (o.vars r)) f.3.result,
          record {
            vals = λ i l. let ne : i ≢ j = omega (arith, l, lt) in with_at-other o.vals j (o.vars r) i ne ∙ f.3.vals i (omega (arith, l, e));
            vars = λ i b l. f.3.vars i b (omega (arith, l, e)) (let q : i ≢ r = omega (arith, l) in q);
          },
        ),
      )
  body_end d r j result (Bounds at) x k n lt e z lo f = tt
  body_end d r j result Spent x k n lt e z lo f = tt

  -- the scope after its arguments
  scope_after : (d : ℕ) (params : List ℕ) (result : Option Scalar) (own : List ℕ) (body : Part Flow) (f : Back → ℕ → Stmts) → AllBelow (length g.vars) params → ((back : Back) (l : ℕ) → l ≤ (f back l).next)
      → ((back : Back) (l : ℕ) → length g.vars ≤ back.var → back.var < l → (t : State) (o : Item) → Related g d t o → Follows g d same_flow (body t) (λ w u q. Left_by g back l o w q) (run_all g.world (f back l).stmts o))
      → (xs : List Value) (is : List Val) (k : ℕ) (t : State) (o : Item) → length g.vars ≤ k → Related g d t o → AllSame g xs is k o
      → IsBuilt g d (then_do (body (passed g.vars params xs (emptied own t))) (call_end result)) (scope_code g.vars params result f is k) k o
  scope_after d params result own body f fit up h xs is k t o lo ht w =
      let p = pass_code g.vars params is k in
      let r = suc p.next in
      let back : Back = record { result = result; var = r } in
      let e = f back (suc r) in
      let tail = Let (v p.next) (df.Const 0) ∷ Set r (v p.next) ∷ Scope e.stmts ∷ Let (v e.next) (df.Get r) ∷ [] in
      let le : k ≤ p.next = pass_up g.vars params is k in
      let ps = pass_built d params xs is k (emptied own t) o fit (emptied_related d own t o ht) w in
      let o1 = ps.0 in
      let o2 = with_val p.next 0 o1 in
      let o3 = with_var r (o2.vals p.next) o2 in
      let h3 = own_related g d r (o2.vals p.next) (passed g.vars params xs (emptied own t)) o2 (omega (arith, le, lo)) (with_val-related g d p.next 0 _ o1 ps.2.there) in
      let body_run = body (passed g.vars params xs (emptied own t)) in
      let b = h back (suc r) (omega (arith, le, lo)) (omega arith) (passed g.vars params xs (emptied own t)) o3 h3 in
      let zero_is : o3.vars r ≡ 0 = with_at-same o2.vars r (o2.vals p.next) ∙ with_at-same o1.vals p.next 0 in
      let last = body_end d r e.next result body_run (run_all g.world e.stmts o3) (suc r) o3 (let z = up back (suc r) in omega (arith, z)) refl zero_is (omega (arith, le, lo)) b in
      let path : run_all g.world (p.stmts ++ tail) o ≡ and_then (left_scope (run_all g.world e.stmts o3)) (run_all g.world (Let (v e.next) (df.Get r) ∷ [])) =
      run-append g.world p.stmts tail o ∙ ap (λ z. and_then z (run_all g.world tail)) ps.1 ∙ ap (λ z. and_then z (run_all g.world (Let (v e.next) (df.Get r) ∷ []))) (run-Scope g.world e.stmts o3) in
      subst (λ z. Follows g d (λ _. Falls) (then_do body_run (call_end result)) (Valued g k (scope_code g.vars params result f is k) o) z) (sym path)
      (weaker g d d (λ _. Falls) (then_do body_run (call_end result)) (and_then (left_scope (run_all g.world e.stmts o3)) (run_all g.world (Let (v e.next) (df.Get r) ∷ []))) (λ y t o. Same g.base y (o.vals e.next) × Kept g r o3 o) (Valued g k (scope_code g.vars params result f is k) o) (omega arith)
      (λ y u q z. record {
        same = z.0;
        kept = Kept-trans g k p.next o o2 q le
            (Kept-trans g k p.next o o1 o2 le ps.2.kept (Kept-val g p.next p.next 0 o1 (omega arith)))
            (Kept-trans g p.next r o2 o3 q (omega arith) (Kept-var g p.next r (o2.vals p.next) o2 (omega arith)) z.1);
        own = omega arith;
        up = let z = up back (suc r) in omega (arith, z, le);
      }) last)

  pub scope_built : (d : ℕ) (params : List ℕ) (result : Option Scalar) (own : List ℕ) (r : Run (List Value)) (body : Part Flow) (a : ArgsCode) (f : Back → ℕ → Stmts) (k : ℕ) (n : Item)
      → length g.vars ≤ k → AllBelow (length g.vars) params → ((back : Back) (l : ℕ) → l ≤ (f back l).next)
      → ((back : Back) (l : ℕ) → length g.vars ≤ back.var → back.var < l → (t : State) (o : Item) → Related g d t o → Follows g d same_flow (body t) (λ w u q. Left_by g back l o w q) (run_all g.world (f back l).stmts o))
      → IsArgued d r a k n
      → IsBuilt g d (then_do r (λ xs t. then_do (body (passed g.vars params xs (emptied own t))) (call_end result))) (after_args a (scope_code g.vars params result f)) k n
  scope_built d params result own r body a f k n lo fit up h i =
      args_then d r (λ xs t. then_do (body (passed g.vars params xs (emptied own t))) (call_end result)) a (scope_code g.vars params result f) k n i
      (λ xs t o ht w le. scope_after d params result own body f fit up h xs a.vals a.next t o (omega (arith, lo, le)) ht w)
