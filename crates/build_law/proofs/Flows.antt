-- The code of each form of statement does what the form does, where the code of its parts does what they do.
use Rattle.std.proofs.Common.{◌≡◌, ℕ, zero, suc, ◌+◌, ◌<◌, ◌≤◌, inl, inr, List, [], ◌∷◌, ◌++◌, Option, Some, None, length, refl, sym, ap, ◌∙◌, subst, arith}
use Rattle.std.specs.Prelude.{◌==◌}
use Rattle.std.proofs.lemmas.Bool.{eqb-true, eqb-false}
use Rattle.q_lane.specs.declared.kinds.Scalar.{Scalar}
use Rattle.clc_types.specs.declared.typed.Ty.{Ty}
use Rattle.clc_types.specs.declared.typed.Ty.TheVariants as ty
use Rattle.clc_types.specs.declared.typed.Var.{Var}
use Rattle.clc_types.specs.declared.typed.Var.TheVariants as var
use Rattle.item_meaning.specs.declared.values.Value.{Value}
use Rattle.item_meaning.specs.declared.values.Value.TheVariants.{Num, Null, At}
use Rattle.item_meaning.specs.ItemState.{State, Run, Goes, Bounds, Spent, then_do, node, by_truth, if_next, after_body}
use Rattle.item_meaning.specs.declared.values.Flow.{Flow}
use Rattle.item_meaning.specs.declared.values.Flow.TheVariants.{Next, Broke, Again, Returned}
use Rattle.item_meaning.specs.Operators.{converted}
use Rattle.item_meaning.specs.declared.values.Place.TheVariants.{Variable}
use Rattle.item_meaning.specs.Places.{write}
use Rattle.item_meaning.specs.NodeMeanings.{Part}
use Rattle.item_meaning.specs.StatementMeanings.{cleared, initialised, and_flow, rounds, rounds_first, returned_as}
use Rattle.item_ir.specs.IrMeaning.{World, State as Item, Run as Ran, Ends, Stops, Spent as Unfinished, Flow as Left, Next as Falls, Broke as Breaks, Again as Continues, Gone, and_then, plainly_then, after_body as after_round_body, at_zero, after_round, with_val, with_var, rounds as ir_rounds, run, run_all}
use Rattle.item_ir.specs.declared.form.Def.TheVariants as df
use Rattle.item_ir.specs.declared.form.Stmt.{Stmt}
use Rattle.item_ir.specs.declared.form.Stmt.TheVariants.{Let, Set, If, Loop, Leave}
use Rattle.ir_build.specs.Build.{array_length}
use Rattle.ir_build.specs.Code.{v, Code, into, joined, put_code, converted_code, into_var, Stmts, both, cleared_code, init_code, if_code, loop_code, do_code, given_code, back_code}
use Rattle.build_law.specs.Keeps.{Back, Ground, Laid, Same, Related, Kept, Follows, same_flow, Result, Left_by}
use Rattle.build_law.proofs.Lists.{run-If, run-Loop}
use Rattle.build_law.proofs.Steps.{with_at-same, with_at-other, bool_cases, bind, weaker, turn, run-append, with_val-related, same_along, set_related, own_related, Kept-refl, Kept-trans, Kept-val, Kept-var, Kept-own}
use Rattle.build_law.proofs.Values.{Valued, IsBuilt, join_built, converted_built}
use Rattle.build_law.proofs.Targets.{put_built, emptied_related}
use Rattle.build_law.proofs.Nodes.{Builds, into_built, Held}

-- nothing follows
then_end : (w : World) (r : Ran) → and_then r (run_all w []) ≡ r
then_end w (Ends Falls s) = refl
then_end w (Ends Breaks s) = refl
then_end w (Ends Continues s) = refl
then_end w (Ends Gone s) = refl
then_end w Stops = refl
then_end w Unfinished = refl

-- the result's variable is the code's own, and was there before
pub record Stands (g : Ground) (back : Back) (k : ℕ) : Type 0 where
  pub own : length g.vars ≤ back.var
  pub there : back.var < k

pub stands_on : (g : Ground) (back : Back) (k l : ℕ) → k ≤ l → Stands g back k → Stands g back l
stands_on g back k l le b = record { own = b.own; there = let t = b.there in omega (arith, t, le) }

-- a flow that is no return
pub data Plain : Flow → Type 0 where
  plain_next : Plain Next
  plain_broke : Plain Broke
  plain_again : Plain Again

pub kept_left : (g : Ground) (back : Back) (k : ℕ) (a c : Item) (f : Flow) → Plain f → Stands g back k → Kept g k a c → Left_by g back k a f c
kept_left g back k a c Next p b h = record { vals = h.vals; vars = λ j o l ne. h.vars j o l; result = h.vars back.var b.own b.there }
kept_left g back k a c Broke p b h = record { vals = h.vals; vars = λ j o l ne. h.vars j o l; result = h.vars back.var b.own b.there }
kept_left g back k a c Again p b h = record { vals = h.vals; vars = λ j o l ne. h.vars j o l; result = h.vars back.var b.own b.there }
kept_left g back k a c (Returned x) p b h = elim p [ ]

result_same : (g : Ground) (back : Back) (a c : Item) (f : Flow) → Plain f → Result g back f a c → c.vars back.var ≡ a.vars back.var
result_same g back a c Next p h = h
result_same g back a c Broke p h = h
result_same g back a c Again p h = h
result_same g back a c (Returned x) p h = elim p [ ]

pub left_kept : (g : Ground) (back : Back) (k : ℕ) (a c : Item) (f : Flow) → Plain f → Left_by g back k a f c → Kept g k a c
left_kept g back k a c f p h =
    record {
      vals = h.vals;
      vars = λ j o l. elim (bool_cases (j == back.var)) [
        | inl t ↦ let e : j ≡ back.var = eqb-true j back.var t in ap c.vars e ∙ result_same g back a c f p h.result ∙ sym (ap a.vars e)
        | inr t ↦ h.vars j o l (eqb-false j back.var t)
      ];
    }

later_result : (g : Ground) (back : Back) (a c e : Item) (f : Flow) → c.vars back.var ≡ a.vars back.var → Result g back f c e → Result g back f a e
later_result g back a c e Next q h = h ∙ q
later_result g back a c e Broke q h = h ∙ q
later_result g back a c e Again q h = h ∙ q
later_result g back a c e (Returned x) q h = h

-- what is left from a later state
pub left_later : (g : Ground) (back : Back) (k l : ℕ) (a c e : Item) (f : Flow) → k ≤ l → Stands g back k → Kept g k a c → Left_by g back l c f e → Left_by g back k a f e
left_later g back k l a c e f le b h i =
    record {
      vals = λ j lt. i.vals j (omega (arith, lt, le)) ∙ h.vals j lt;
      vars = λ j o lt ne. i.vars j o (omega (arith, lt, le)) ne ∙ h.vars j o lt;
      result = later_result g back a c e f (h.vars back.var b.own b.there) i.result;
    }

module _ (g : Ground) (lay : Laid g) (back : Back) where
  -- what is built leaves it so
  abbrev pub IsLeft : ℕ → Run Flow → ℕ → Item → Ran → Type 0
  IsLeft d r k n x = Follows g d same_flow r (λ f s o. Left_by g back k n f o) x

  -- a statement's code, wherever it stands
  abbrev pub Leaves : ℕ → Part Flow → (ℕ → Stmts) → Type 0
  Leaves d stmt f = (l : ℕ) → Stands g back l → (t : State) (o : Item) → Related g d t o → IsLeft d (stmt t) l o (run_all g.world (f l).stmts o)

  -- and its turn is left over
  abbrev pub Takes : ℕ → Part Flow → (ℕ → Stmts) → Type 0
  Takes d stmt f = (l : ℕ) → Stands g back l → (t : State) (o : Item) → Related g d t o → IsLeft (suc d) (stmt t) l o (run_all g.world (f l).stmts o)

  pub stmt_turn : (d k : ℕ) (s : State) (go : Part Flow) (n : Item) (x : Ran) → Related g d s n → ((t : State) → Related g (suc d) t n → IsLeft (suc d) (go t) k n x) → IsLeft (suc d) (node s go) k n x
  stmt_turn d k s go n x h f = turn g d (suc d) same_flow s go n x _ h f

  -- nothing more is done
  pub stays : (d k : ℕ) (s : State) (n : Item) → Stands g back k → Related g d s n → IsLeft d (Goes Next s) k n (run_all g.world [] n)
  stays d k s n b h = (n, refl, h, kept_left g back k n n Next plain_next b (Kept-refl g k n))

  -- a run from a later state
  pub from_later : (d k l : ℕ) (r : Run Flow) (n o : Item) (x : Ran) → k ≤ l → Stands g back k → Kept g k n o → IsLeft d r l o x → IsLeft d r k n x
  from_later d k l r n o x le b e h = weaker g d d same_flow r x (λ f s q. Left_by g back l o f q) (λ f s q. Left_by g back k n f q) (omega arith) (λ f s q i. left_later g back k l n o q f le b e i) h

  -- a statement, and what comes after it
  next_built : (d : ℕ) (r : Run Flow) (go : Part Flow) (a c : List Stmt) (k l : ℕ) (n : Item) → k ≤ l → Stands g back k → IsLeft d r k n (run_all g.world a n)
      → ((s : State) (o : Item) → Related g d s o → IsLeft d (go s) l o (run_all g.world c o)) → IsLeft d (then_do r (λ f t. if_next f t go)) k n (run_all g.world (a ++ c) n)
  next_built d (Goes Next s) go a c k l n le b f h =
      subst (IsLeft d (go s) k n) (sym (run-append g.world a c n ∙ ap (λ r. and_then r (run_all g.world c)) f.1))
      (from_later d k l (go s) n f.0 (run_all g.world c f.0) le b (left_kept g back k n f.0 Next plain_next f.3) (h s f.0 f.2))
  next_built d (Goes Broke s) go a c k l n le b f h = (f.0, run-append g.world a c n ∙ ap (λ r. and_then r (run_all g.world c)) f.1, f.2, f.3)
  next_built d (Goes Again s) go a c k l n le b f h = (f.0, run-append g.world a c n ∙ ap (λ r. and_then r (run_all g.world c)) f.1, f.2, f.3)
  next_built d (Goes (Returned x) s) go a c k l n le b f h = (f.0, run-append g.world a c n ∙ ap (λ r. and_then r (run_all g.world c)) f.1, f.2, f.3)
  next_built d (Bounds at) go a c k l n le b f h = tt
  next_built d Spent go a c k l n le b f h = tt

  pub both_built : (d : ℕ) (first rest : Part Flow) (a : Stmts) (f : ℕ → Stmts) (k : ℕ) (s : State) (n : Item) → k ≤ a.next → Stands g back k → IsLeft d (first s) k n (run_all g.world a.stmts n) → Leaves d rest f
      → IsLeft d (and_flow first rest s) k n (run_all g.world (both a f).stmts n)
  both_built d first rest a f k s n le b h i =
      next_built d (first s) rest a.stmts (f a.next).stmts k a.next n le b h (λ t o ht. i a.next (stands_on g back k a.next le b) t o ht)

  -- a value that isn't used
  pub dropped_built : (d k : ℕ) (r : Run Value) (c : Code) (n : Item) → Stands g back k → IsBuilt g d r c k n → IsLeft d (then_do r (λ x t. Goes Next t)) k n (run_all g.world c.stmts n)
  dropped_built d k (Goes x t) c n b f = (f.0, f.1, f.2, kept_left g back k n f.0 Next plain_next b f.3.kept)
  dropped_built d k (Bounds at) c n b f = tt
  dropped_built d k Spent c n b f = tt

  -- ---- choices

  truth_built : (d : ℕ) (x : Value) (w : ℕ) (p q : Run Flow) (k : ℕ) (n : Item) (a c : Ran) → Same g.base x w → IsLeft d p k n a → IsLeft d q k n c → IsLeft d (by_truth x p q) k n (at_zero w c a)
  truth_built d (Num zero) w p q k n a c e f h = subst (λ i. IsLeft d q k n (at_zero i c a)) (sym e) h
  truth_built d (Num (suc i)) w p q k n a c e f h = subst (λ i. IsLeft d p k n (at_zero i c a)) (sym e) f
  truth_built d Null w p q k n a c e f h = tt
  truth_built d (At b o) w p q k n a c e f h = tt

  pub if_built : (d k : ℕ) (r : Run Value) (one' other : Part Flow) (c : Code) (f h : ℕ → Stmts) (n : Item) → Stands g back k → ((l : ℕ) → l ≤ (f l).next) → IsBuilt g d r c k n → Leaves d one' f → Leaves d other h
      → IsLeft d (then_do r (λ x u. by_truth x (one' u) (other u))) k n (run_all g.world (if_code c f h).stmts n)
  if_built d k r one' other c f h n b fu w i j =
      let a = f c.next in
      let z = h a.next in
      bind g d d same_flow r (λ x u. by_truth x (one' u) (other u)) c.stmts (If (v c.val) a.stmts z.stmts ∷ []) n (Valued g k c n) (λ y s o. Left_by g back k n y o) w
      (λ x u o hu q.
      let bc = stands_on g back k c.next q.up b in
      let le : k ≤ a.next = let t = q.up in let y = fu c.next in omega (arith, t, y) in
      let e = then_end g.world (run g.world (If (v c.val) a.stmts z.stmts) o) ∙ run-If g.world (v c.val) a.stmts z.stmts o in
      subst (IsLeft d (by_truth x (one' u) (other u)) k n) (sym e)
      (truth_built d x (o.vals c.val) (one' u) (other u) k n (run_all g.world a.stmts o) (run_all g.world z.stmts o) q.same
      (from_later d k c.next (one' u) n o _ q.up b q.kept (i c.next bc u o hu))
      (from_later d k a.next (other u) n o _ le b q.kept (j a.next (stands_on g back k a.next le b) u o hu))))

  -- ---- loops

  -- a round is counted
  charge : (d e l : ℕ) (t : State) (o : Item) (r : Run Flow) (k : ℕ) (n : Item) (next : Item → Ran) → t.left + suc d ≤ l → Related g (suc d) t o
      → ((i : ℕ) → Related g d t (record o { left = i }) → IsLeft e r k n (next (record o { left = i }))) → IsLeft e r k n (after_round l o next)
  charge d e zero t o r k n next le h f = absurd (omega arith)
  charge d e (suc l) t o r k n next le h f =
      f l (record { vars = h.vars; count = h.count; elements = h.elements; lengths = h.lengths; bytes = h.bytes; sizes = h.sizes; touches = h.touches; left = omega arith })

  -- the code of a loop's head or step, which is left by its end alone
  plain_bind : {A : Type 0} (d e k : ℕ) (n : Item) (r : Run A) (go : A → State → Run Flow) (x : Ran) (next : Item → Ran) (Q : A → State → Item → Type 0) → Follows g d (λ _. Falls) r Q x
      → ((a : A) (s : State) (o : Item) → Related g d s o → Q a s o → IsLeft e (go a s) k n (next o)) → IsLeft e (then_do r go) k n (plainly_then x next)
  plain_bind d e k n (Goes a s) go x next Q f h = subst (λ y. IsLeft e (go a s) k n (plainly_then y next)) (sym f.1) (h a s f.0 f.2 f.3)
  plain_bind d e k n (Bounds at) go x next Q f h = tt
  plain_bind d e k n Spent go x next Q f h = tt

  -- the body's end, and the step and the rounds after it
  body_built : (d k : ℕ) (n : Item) (r : Run Flow) (x : Ran) (go : Part Flow) (next : Item → Ran) → IsLeft d r k n x
      → ((t : State) (o : Item) → Related g d t o → Kept g k n o → IsLeft d (go t) k n (next o)) → IsLeft d (then_do r (λ f u. after_body f u go)) k n (after_round_body x next)
  body_built d k n (Goes Next s) x go next f h = subst (λ y. IsLeft d (go s) k n (after_round_body y next)) (sym f.1) (h s f.0 f.2 (left_kept g back k n f.0 Next plain_next f.3))
  body_built d k n (Goes Broke s) x go next f h =
      (f.0, ap (λ y. after_round_body y next) f.1, f.2, record { vals = f.3.vals; vars = f.3.vars; result = f.3.result })
  body_built d k n (Goes Again s) x go next f h = subst (λ y. IsLeft d (go s) k n (after_round_body y next)) (sym f.1) (h s f.0 f.2 (left_kept g back k n f.0 Again plain_again f.3))
  body_built d k n (Goes (Returned y) s) x go next f h = (f.0, ap (λ y. after_round_body y next) f.1, f.2, f.3)
  body_built d k n (Bounds at) x go next f h = tt
  body_built d k n Spent x go next f h = tt

  -- a step is left by its end alone
  abbrev pub Steps : ℕ → Part Flow → List Stmt → ℕ → Type 0
  Steps d step stmts l = (t : State) (o : Item) → Related g d t o → Follows g d (λ _. Falls) (step t) (λ f s q. Kept g l o q) (run_all g.world stmts o)

  loop_rounds : (d k : ℕ) (test : Part Value) (body step : Part Flow) (c : Code) (a z : List Stmt) (l m : ℕ) → k ≤ l → k ≤ m → Stands g back k
      → ((t : State) (o : Item) → Related g (suc d) t o → IsBuilt g (suc d) (test t) c k o)
      → ((t : State) (o : Item) → Related g d t o → IsLeft (suc d) (body t) l o (run_all g.world a o)) → Steps (suc d) step z m
      → (i j : ℕ) → i ≤ j → (s : State) (n o : Item) → Related g (suc d) s o → Kept g k n o
      → IsLeft (suc d) (rounds i test body step s) k n (ir_rounds j (run_all g.world c.stmts) c.val (run_all g.world a) (run_all g.world z) o)
  loop_rounds d k test body step c a z l m lel lem b ht hb hs zero j le s n o h kept = tt
  loop_rounds d k test body step c a z l m lel lem b ht hb hs (suc i) zero le s n o h kept = absurd (omega arith)
  loop_rounds d k test body step c a z l m lel lem b ht hb hs (suc i) (suc j) le s n o h kept =
      let again = ir_rounds j (run_all g.world c.stmts) c.val (run_all g.world a) (run_all g.world z) in
      let after = λ (w : State). then_do (step w) (λ f y. rounds i test body step y) in
      let next = λ (x : Item). plainly_then (run_all g.world z x) again in
      plain_bind (suc d) (suc d) k n (test s) (λ x t. by_truth x (then_do (body t) (λ f u. after_body f u after)) (Goes Next t)) (run_all g.world c.stmts o)
      (λ t. at_zero (t.vals c.val) (Ends Falls t) (after_round t.left t (λ u. after_round_body (run_all g.world a u) next))) (Valued g k c o) (ht s o h)
      (λ x t p hp q.
      let kept1 : Kept g k n p = Kept-trans g k k n o p (omega arith) kept q.kept in
      truth_built (suc d) x (p.vals c.val) (then_do (body t) (λ f u. after_body f u after)) (Goes Next t) k n
      (after_round p.left p (λ u. after_round_body (run_all g.world a u) next)) (Ends Falls p) q.same
      (charge d (suc d) p.left t p _ k n (λ u. after_round_body (run_all g.world a u) next) hp.left hp (λ e he.
      let p1 : Item = record p { left = e } in
      body_built (suc d) k n (body t) (run_all g.world a p1) after next
      (from_later (suc d) k l (body t) n p1 (run_all g.world a p1) lel b (record { vals = kept1.vals; vars = kept1.vars }) (hb t p1 he))
      (λ u y hy keptY. plain_bind (suc d) (suc d) k n (step u) (λ f w. rounds i test body step w) (run_all g.world z y) again (λ f s q. Kept g m y q) (hs u y hy)
      (λ f w y2 hy2 kept2. loop_rounds d k test body step c a z l m lel lem b ht hb hs i j (omega (arith, le)) w n y2 hy2
      (Kept-trans g k m n y y2 lem keptY kept2)))))
      (p, refl, hp, kept_left g back k n p Next plain_next b kept1))

  pub loop_built : (d k : ℕ) (test : Part Value) (body step : Part Flow) (c : Code) (f h : ℕ → Stmts) (s : State) (n : Item) → Stands g back k → k ≤ c.next → ((l : ℕ) → l ≤ (f l).next)
      → ((t : State) (o : Item) → Related g (suc d) t o → IsBuilt g (suc d) (test t) c k o) → Takes d body f → Steps (suc d) step (h (f c.next).next).stmts (f c.next).next → Related g (suc d) s n
      → IsLeft (suc d) (rounds s.left test body step s) k n (run_all g.world (loop_code c f h).stmts n)
  loop_built d k test body step c f h s n b up fu ht hb hs hr =
      let a = f c.next in
      let z = h a.next in
      let e = then_end g.world (run g.world (Loop c.stmts (v c.val) a.stmts z.stmts) n) ∙ run-Loop g.world c.stmts (v c.val) a.stmts z.stmts n in
      subst (IsLeft (suc d) (rounds s.left test body step s) k n) (sym e)
      (loop_rounds d k test body step c a.stmts z.stmts c.next a.next up (let y = fu c.next in omega (arith, up, y)) b ht (λ t o he. hb c.next (stands_on g back k c.next up b) t o he) hs
      s.left (suc n.left) (let y = hr.left in omega (arith, y)) s n n hr (Kept-refl g k n))

  valued_less : (d k l : ℕ) (r : Run Value) (c : Code) (n : Item) → k ≤ l → IsBuilt g d r c l n → IsBuilt g d r c k n
  valued_less d k l r c n le f =
      weaker g d d (λ _. Falls) r (run_all g.world c.stmts n) (Valued g l c n) (Valued g k c n) (omega arith)
      (λ y u p q. record {
        same = q.same;
        kept = record { vals = λ j lt. q.kept.vals j (omega (arith, lt, le)); vars = λ j t lt. q.kept.vars j t (omega (arith, lt, le)) };
        own = q.own;
        up = let j = q.up in omega (arith, le, j);
      }) f

  -- the body first; r holds the condition, which the head takes into value j
  module _ (d k r j : ℕ) (test : Part Value) (body : Part Flow) (c : Code) (a : List Stmt) (lo : length g.vars ≤ r) (kr : k ≤ r) (rj : r < j) (l : ℕ) (jl : j < l) (b : Stands g back k)
      (ht : (t : State) (o : Item) → Related g (suc d) t o → IsBuilt g (suc d) (test t) c l o) (hb : (t : State) (o : Item) → Related g d t o → IsLeft (suc d) (body t) (suc j) o (run_all g.world a o)) where
    abbrev head : Item → Ran
    head = run_all g.world (Let (v j) (df.Get r) ∷ [])

    abbrev step : Item → Ran
    step = run_all g.world (into_var r c)

    abbrev do_rounds : ℕ → Item → Ran
    do_rounds m = ir_rounds m head j (run_all g.world a) step

    goes_on : (i m : ℕ) → ((w : ℕ) (s : State) (n o : Item) → Related g (suc d) s o → Kept g k n o → o.vars r ≡ suc w → IsLeft (suc d) (rounds_first i body test s) k n (do_rounds m o)) → i < m → (x : Value) (s : State) (n o : Item) → Related g (suc d) s o → Kept g k n o → Same g.base x (o.vars r) → IsLeft (suc d) (by_truth x (rounds_first i body test s) (Goes Next s)) k n (do_rounds m o)
    goes_on i zero ih lt x s n o h kept e = absurd (omega arith)
    goes_on i (suc m) ih lt (Num zero) s n o h kept e =
        let p : Item = with_val j (o.vars r) o in
        let next = λ (x : Item). plainly_then (step x) (do_rounds m) in
        let go = λ (t : Item). after_round t.left t (λ u. after_round_body (run_all g.world a u) next) in (
          p,
          ap (λ z. at_zero z (Ends Falls p) (go p)) (with_at-same o.vals j (o.vars r) ∙ e),
          with_val-related g (suc d) j (o.vars r) s o h,
          kept_left g back k n p Next plain_next b (Kept-trans g k k n o p (omega arith) kept (Kept-val g k j (o.vars r) o (omega (arith, kr, rj)))),
        )
    goes_on i (suc m) ih lt (Num (suc w)) s n o h kept e = ih w s n o h kept e
    goes_on i (suc m) ih lt Null s n o h kept e = tt
    goes_on i (suc m) ih lt (At c o2) s n o h kept e = tt

    first_rounds : (i m w : ℕ) → i < m → (s : State) (n o : Item) → Related g (suc d) s o → Kept g k n o → o.vars r ≡ suc w → IsLeft (suc d) (rounds_first i body test s) k n (do_rounds m o)
    first_rounds zero m w lt s n o h kept e = tt
    first_rounds (suc i) zero w lt s n o h kept e = absurd (omega arith)
    first_rounds (suc i) (suc m) w lt s n o h kept e =
        let p : Item = with_val j (o.vars r) o in
        let hp = with_val-related g (suc d) j (o.vars r) s o h in
        let keptP : Kept g k n p = Kept-trans g k k n o p (omega arith) kept (Kept-val g k j (o.vars r) o (omega (arith, kr, rj))) in
        let after = λ (u : State). then_do (test u) (λ x w. by_truth x (rounds_first i body test w) (Goes Next w)) in
        let next = λ (x : Item). plainly_then (step x) (do_rounds m) in
        let go = λ (t : Item). after_round t.left t (λ u. after_round_body (run_all g.world a u) next) in
        let one_is : p.vals j ≡ suc w = with_at-same o.vals j (o.vars r) ∙ e in
        subst (λ z. IsLeft (suc d) (rounds_first (suc i) body test s) k n (at_zero z (Ends Falls p) (go p))) (sym one_is)
        (charge d (suc d) p.left s p (then_do (body s) (λ f t. after_body f t after)) k n (λ u. after_round_body (run_all g.world a u) next) hp.left hp
        (λ x hx.
        let p1 : Item = record p { left = x } in
        body_built (suc d) k n (body s) (run_all g.world a p1) after next
        (from_later (suc d) k (suc j) (body s) n p1 (run_all g.world a p1) (omega (arith, kr, rj)) b (record { vals = keptP.vals; vars = keptP.vars }) (hb s p1 hx))
        (λ u y hy keptY. plain_bind (suc d) (suc d) k n (test u) (λ x w. by_truth x (rounds_first i body test w) (Goes Next w)) (step y) (do_rounds m) (λ x t q. Held g r y x t q)
        (into_built g lay (suc d) (test u) c r y lo (valued_less (suc d) (suc r) l (test u) c y (omega (arith, rj, jl)) (ht u y hy)))
        (λ x t y2 hy2 q. goes_on i m (λ w s n o h kept e. first_rounds i m w (let z = lt in omega (arith, z)) s n o h kept e) (let z = lt in omega (arith, z)) x t n y2 hy2 (Kept-trans g k r n y y2 kr keptY q.kept) q.same))))

  pub do_built : (d k : ℕ) (body : Part Flow) (test : Part Value) (f : ℕ → Stmts) (h : ℕ → Code) (s : State) (n : Item) → length g.vars ≤ k → Stands g back k → ((l : ℕ) → l ≤ (f l).next) → ((l : ℕ) → l ≤ (h l).next)
      → Takes d body f → ((l : ℕ) → length g.vars ≤ l → (t : State) (o : Item) → Related g (suc d) t o → IsBuilt g (suc d) (test t) (h l) l o) → Related g (suc d) s n
      → IsLeft (suc d) (rounds_first s.left body test s) k n (run_all g.world (do_code f h k).stmts n)
  do_built d k body test f h s n lo b fu hu hb ht2 hr =
      let r = suc k in
      let j = suc r in
      let a = f (suc j) in
      let c = h a.next in
      let n1 : Item = with_val k 1 n in
      let n2 : Item = with_var r (n1.vals k) n1 in
      let h2 = own_related g (suc d) r (n1.vals k) s n1 (omega (arith, lo)) (with_val-related g (suc d) k 1 s n hr) in
      let kept : Kept g k n n2 = Kept-trans g k k n n1 n2 (omega arith) (Kept-val g k k 1 n (omega arith)) (Kept-var g k r (n1.vals k) n1 (omega arith)) in
      let one_is : n2.vars r ≡ 1 = with_at-same n1.vars r (n1.vals k) ∙ with_at-same n.vals k 1 in
      let up : suc j ≤ a.next = fu (suc j) in
      let e = then_end g.world (run g.world (Loop (Let (v j) (df.Get r) ∷ []) (v j) a.stmts (into_var r c)) n2) ∙ run-Loop g.world (Let (v j) (df.Get r) ∷ []) (v j) a.stmts (into_var r c) n2 in
      subst (IsLeft (suc d) (rounds_first s.left body test s) k n) (sym e)
      (first_rounds d k r j test body c a.stmts (omega (arith, lo)) (omega arith) (omega arith) a.next (omega (arith, up)) b
      (λ t o ho. ht2 a.next (omega (arith, lo, up)) t o ho)
      (λ t o ho. hb (suc j) (stands_on g back k (suc j) (omega arith) b) t o ho)
      s.left (suc n2.left) 0 (let y = h2.left in omega (arith, y)) s n n2 h2 kept one_is)

  -- ---- declarations

  pub cleared_built : (d k u : ℕ) (dec : Var) (s : State) (n : Item) → Stands g back k → u < length g.vars → array_length dec ≤ g.world.lens u → Related g d s n
      → IsLeft d (Goes Next (cleared dec u s)) k n (run_all g.world (cleared_code dec u k).stmts n)
  cleared_built d k u (var.Value t) s n b lt le h =
      let n1 = with_val k 0 n in
      let n2 = with_var u (n1.vals k) n1 in (
        n2,
        refl,
        set_related g d u (n1.vals k) (Num 0) s n1 (with_val-related g d k 0 s n h) (with_at-same n.vals k 0),
        kept_left g back k n n2 Next plain_next b (Kept-trans g k k n n1 n2 (omega arith) (Kept-val g k k 0 n (omega arith)) (Kept-own g k u (n1.vals k) n1 lt)),
      )
  cleared_built d k u (var.Pointer t c) s n b lt le h =
      let n1 = with_val k 0 n in
      let n2 = with_var u (n1.vals k) n1 in (
        n2,
        refl,
        set_related g d u (n1.vals k) Null s n1 (with_val-related g d k 0 s n h) tt,
        kept_left g back k n n2 Next plain_next b (Kept-trans g k k n n1 n2 (omega arith) (Kept-val g k k 0 n (omega arith)) (Kept-own g k u (n1.vals k) n1 lt)),
      )
  cleared_built d k u (var.Array t c) s n b lt le h =
      (Rattle.item_ir.specs.IrMeaning.cleared u n, refl, emptied_related g lay d u c s n h le, kept_left g back k n (Rattle.item_ir.specs.IrMeaning.cleared u n) Next plain_next b (record { vals = λ j l. refl; vars = λ j o l. refl }))

  regroup : {A B : Type 0} (r : Run Value) (f : Value → State → Run A) (h : A → State → Run B) → then_do (then_do r f) h ≡ then_do r (λ x t. then_do (f x t) h)
  regroup (Goes x t) f h = refl
  regroup (Bounds p) f h = refl
  regroup Spent f h = refl

  pub init_built : (d k u : ℕ) (t : Ty) (value : Part Value) (f : ℕ → Code) (s : State) (n : Item) → length g.vars ≤ k → Stands g back k → u < length g.vars → Builds g lay d value f → Related g d s n
      → IsLeft d (initialised t u (Some value) s) k n (run_all g.world (init_code t u (Some f) k).stmts n)
  init_built d k u t value f s n lo b lt h hr =
      let c = f k in
      subst (λ r. IsLeft d r k n (run_all g.world (init_code t u (Some f) k).stmts n)) (regroup (value s) (λ x w. write t (Variable u) x w) (λ y w. Goes Next w))
      (dropped_built d k (then_do (value s) (λ x w. write t (Variable u) x w)) (joined c (put_code t (into u 0).to c.val c.next)) n b
      (join_built g d d (value s) (λ x w. write t (Variable u) x w) c (put_code t (into u 0).to c.val c.next) k n (h k lo s n hr)
      (λ x w o ho q. put_built g lay d t (Variable u) (into u 0).to c.val c.next x w o ho (refl, lt) q.same q.own)))

  -- ---- return

  null_returned : (result : Option Scalar) (w : ℕ) → Same g.base (returned_as result Null) w
  null_returned None w = tt
  null_returned (Some s) w = tt

  pub bare_return : (d k : ℕ) (s : State) (n : Item) → Related g d s n → IsLeft d (Goes (Returned Null) s) k n (run_all g.world (Leave ∷ []) n)
  bare_return d k s n h = (n, refl, h, record { vals = λ j l. refl; vars = λ j o l ne. refl; result = null_returned back.result (n.vars back.var) })

  -- what is stored, and the leaving
  given_built : (d : ℕ) (result : Option Scalar) (x : Value) (i k m : ℕ) (t : State) (n o : Item) → result ≡ back.result → Stands g back k → k ≤ m → Related g d t o → Kept g k n o → Same g.base x (o.vals i) → i < m
      → IsLeft d (Goes (Returned x) t) k n (run_all g.world ((given_code result back.var i m).stmts ++ Leave ∷ []) o)
  given_built d None x i k m t n o e b le h kept p lt =
      (o, refl, h, record { vals = kept.vals; vars = λ j z l ne. kept.vars j z l; result = subst (λ q. Same g.base (returned_as q x) (o.vars back.var)) e tt })
  given_built d (Some s) x i k m t n o e b le h kept p lt =
      let w = converted_built g d (ty.Value s) i m x t o h p lt in
      let z = converted_code (ty.Value s) i m in
      let q = with_var back.var (w.0.vals z.val) w.0 in
      let tail = Set back.var (v z.val) ∷ [] in
      let inner : run_all g.world (z.stmts ++ tail) o ≡ Ends Falls q = run-append g.world z.stmts tail o ∙ ap (λ y. and_then y (run_all g.world tail)) w.1 in (
        q,
        run-append g.world (z.stmts ++ tail) (Leave ∷ []) o ∙ ap (λ y. and_then y (run_all g.world (Leave ∷ []))) inner,
        own_related g d back.var (w.0.vals z.val) t w.0 b.own w.2,
        record {
          vals = λ j l. w.3.kept.vals j (omega (arith, l, le)) ∙ kept.vals j l;
          vars = λ j y l ne. with_at-other w.0.vars back.var (w.0.vals z.val) j ne ∙ w.3.kept.vars j y (omega (arith, l, le)) ∙ kept.vars j y l;
          result = subst (λ y. Same g.base (returned_as y x) (q.vars back.var)) e (same_along g (converted (ty.Value s) x) _ _ (with_at-same w.0.vars back.var (w.0.vals z.val)) w.3.same);
        },
      )

  pub return_built : (d k : ℕ) (r : Run Value) (c : Code) (n : Item) → Stands g back k → IsBuilt g d r c k n
      → IsLeft d (then_do r (λ x u. Goes (Returned x) u)) k n (run_all g.world (back_code back c).stmts n)
  return_built d k (Goes x t) c n b f =
      let rest = (given_code back.result back.var c.val c.next).stmts ++ Leave ∷ [] in
      subst (IsLeft d (Goes (Returned x) t) k n) (sym (run-append g.world c.stmts rest n ∙ ap (λ y. and_then y (run_all g.world rest)) f.1))
      (given_built d back.result x c.val k c.next t n f.0 refl b f.3.up f.2 f.3.kept f.3.same f.3.own)
  return_built d k (Bounds at) c n b f = tt
  return_built d k Spent c n b f = tt
