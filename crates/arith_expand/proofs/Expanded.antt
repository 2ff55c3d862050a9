-- What divides does what the division does, in all lanes.
use Rattle.std.proofs.Common.{◌≡◌, ℕ, zero, suc, ◌+◌, ◌*◌, ◌-◌, ◌^◌, ◌<◌, ◌≤◌, true, false, List, [], ◌∷◌, ◌++◌, refl, sym, ap, ◌∙◌, subst, arith}
use Rattle.q_lane.specs.declared.operations.BinOp.TheVariants as op
use Rattle.q_lane.specs.declared.operations.UnOp.TheVariants as one_op
use Rattle.q_lane.specs.Numbers.{applied, applied_one, quotient, remainder}
use Rattle.item_ir.specs.declared.form.Val.{Val}
use Rattle.item_ir.specs.declared.form.Def.{Def}
use Rattle.lane_ir.specs.Weights.{done, test_done}
use Rattle.lane_ir.specs.LaneMeaning.{World, State, Ends, and_then, chosen, work, value, defines, run_all}
use Rattle.lane_ir.specs.Kept.{Met, EndsAs}
use Rattle.lane_ir.specs.Recipe.{definition, statements, defining, gives, after, cost}
use Rattle.lane_ir.specs.declared.form.LaneStmt.TheVariants.{Let, WhileAny}
use Rattle.lane_ir.specs.declared.recipe.Act.{Act}
use Rattle.lane_ir.specs.declared.recipe.Step.{Step}
use Rattle.lane_ir.proofs.Steps.{run-append, run-WhileAny, as_run}
use Rattle.lane_ir.proofs.Recipes.{Low, args_of, temps_of, recipe_runs, args_same, last_defines}
use Rattle.lane_ir.proofs.Loops.{loop_runs}
use Rattle.q_functions.specs.declared.functions.WorkFunction.TheVariants.{GlobalSize, LocalSize}
use Rattle.arith_expand.specs.Expand.{counting, round, division, unsigned_words, magnitudes, sizes}
use Rattle.arith_expand.proofs.Signs.{sign, magnitude, magnitude-below, signed_quotient, signed_remainder}
use Rattle.arith_expand.proofs.Divides.{Divided, rounded, opened, as_divided, next_rest, next_quotient, next_count, first_count, closes_quotient, closes_remainder, quotient_below, rest_below}

-- a lane that divides n by d, with the signs s and t
pub record Busy (n d s t : ℕ) (y : ℕ → ℕ) : Type 0 where
  pub divisor : y 0 ≡ d
  pub one : y 4 ≡ 1
  pub zero' : y 5 ≡ 0
  pub dividend_sign : y 13 ≡ s
  pub divisor_sign : y 14 ≡ t
  pub divided : Divided n d (y 2) (y 1) (y 3)

-- a round with one and zero as they stand in temporaries
abbrev rest_by : ℕ → ℕ → ℕ → ℕ → ℕ → ℕ
rest_by one z d r k = chosen (chosen (applied (op.Less false) r (applied op.Shl d (applied op.Sub k one))) z k) (applied op.Sub r (applied op.Shl d (applied op.Sub k one))) r

abbrev quotient_by : ℕ → ℕ → ℕ → ℕ → ℕ → ℕ → ℕ
quotient_by one z d q r k = chosen (chosen (applied (op.Less false) r (applied op.Shl d (applied op.Sub k one))) z k) (applied op.Add q (applied op.Shl one (applied op.Sub k one))) q

abbrev count_by : ℕ → ℕ → ℕ
count_by one k = chosen k (applied op.Sub k one) k

pub busy_round : (w : World) (l : ℕ) (x : ℕ → ℕ) (n d s t : ℕ) (y : ℕ → ℕ) → n < 2 ^ 32 → Busy n d s t y → Busy n d s t (after w l x y round) × (after w l x y round 3 ≡ y 3 - 1)
busy_round w l x n d s t y h b =
    let r = rounded n d (y 2) (y 1) (y 3) h b.divided in
    let c : after w l x y round 3 ≡ next_count (y 3) = λ i. count_by (b.one i) (y 3) in (
      record {
        divisor = b.divisor;
        one = b.one;
        zero' = b.zero';
        dividend_sign = b.dividend_sign;
        divisor_sign = b.divisor_sign;
        divided = as_divided n d (next_quotient d (y 2) (y 1) (y 3)) (next_rest d (y 1) (y 3)) (next_count (y 3)) _ _ _
            (λ i. quotient_by (b.one i) (b.zero' i) (b.divisor i) (y 2) (y 1) (y 3)) (λ i. rest_by (b.one i) (b.zero' i) (b.divisor i) (y 1) (y 3)) c r.divided;
      },
      c ∙ r.counted,
    )

-- a run through the opening, the rounds and the close
module _ (w : World) (n i k : ℕ) (args : List Val) (low : Low k args) (enough : 33 ≤ i) where
  pub division_kept : (v : ℕ) (d : Def) (first then : List Step) (last : Act) (s t : State) (N D S T : ℕ → ℕ) → Met k s t → v < k
      → ((l : ℕ) → l < n → N l < 2 ^ 32)
      → ((l : ℕ) → l < n → Busy (N l) (D l) (S l) (T l) (after w l (args_of t args l) (temps_of t k l) (first ++ counting)))
      → ((l : ℕ) → l < n → (y : ℕ → ℕ) → Busy (N l) (D l) (S l) (T l) y → y 3 ≡ 0 → gives w l (args_of t args l) (after w l (args_of t args l) y then) last ≡ value w s l d)
      → ((l : ℕ) → l < n → value w s l d < 2 ^ 32)
      → cost args (first ++ counting) + test_done + 32 * (test_done + cost args round) + cost args then + done (definition k args last) ≤ done d
      → EndsAs k (Ends (defines w n v d s)) (run_all w n i (division k args first then last v) t)
  division_kept v d first then last s t N D S T m hv hn ho hc word weight =
      let a = recipe_runs w n i k args low (first ++ counting) t in
      let u = a.0 in
      let ra = a.2 in
      let L = loop_runs w n i k 3 args low round (λ l. args_of t args l) (λ l y. Busy (N l) (D l) (S l) (T l) y)
      (λ l h y b. busy_round w l (args_of t args l) (N l) (D l) (S l) (T l) y (hn l h) b) 32 i u
      (λ l. args_same w n i k args low t u ra.old l)
      (λ l h. subst (Busy (N l) (D l) (S l) (T l)) (λ z x. sym (ra.temps l h x) z) (ho l h))
      (λ l h. let few = (ho l h).divided.few in let e = ra.temps l h 3 in omega (arith, few, e))
      (omega (arith, enough)) in
      let u2 = L.0 in
      let rl = L.2 in
      let b = recipe_runs w n i k args low then u2 in
      let u3 = b.0 in
      let rb = b.2 in
      let finish = Let (record { 0 = v }) (definition k args last) ∷ [] in
      as_run k (Ends (defines w n v d s)) (run_all w n i (division k args first then last v) t) (run_all w n i finish u3)
      (run-append w n i (statements k args (first ++ counting)) (WhileAny [] (record { 0 = k + 3 }) (statements k args round) ∷ defining k args then last v) t
      ∙ ap (λ r. and_then r (run_all w n i (WhileAny [] (record { 0 = k + 3 }) (statements k args round) ∷ defining k args then last v))) a.1
      ∙ ap (λ r. and_then r (run_all w n i (defining k args then last v))) (run-WhileAny w n i [] (record { 0 = k + 3 }) (statements k args round) u ∙ L.1)
      ∙ run-append w n i (statements k args then) finish u2
      ∙ ap (λ r. and_then r (run_all w n i finish)) b.1)
      (last_defines w n i k args low v d last s t u3 m
      (record {
        old = λ x h. rb.old x h ∙ rl.kept.old x h ∙ ra.old x h;
        vars = rb.vars ∙ rl.kept.vars ∙ ra.vars;
        arrays = rb.arrays ∙ rl.kept.arrays ∙ ra.arrays;
        mem = rb.mem ∙ rl.kept.mem ∙ ra.mem;
        log = rb.log ∙ rl.kept.log ∙ ra.log;
        transfers = rb.transfers ∙ rl.kept.transfers ∙ ra.transfers;
      })
      hv
      (λ l h. ap (λ f. gives w l (args_of t args l) f last)
      ((λ z x. rb.temps l h x z) ∙ ap (λ f. after w l f (temps_of u2 k l) then) (args_same w n i k args low u u2 rl.kept.old l ∙ args_same w n i k args low t u ra.old l))
      ∙ hc l h (temps_of u2 k l) (rl.holds l h) (rl.ends l h))
      word
      (let sa = ra.steps' in let sl = rl.steps in let sb = rb.steps' in let st = m.same.steps in omega (arith, sa, sl, sb, st, weight)))

add-zero-word : (a : ℕ) → a < 2 ^ 32 → applied op.Add a 0 ≡ a
unfolding applied
add-zero-word a h = omega (arith, h)

-- the openings
pub unsigned_opens : (w : World) (l : ℕ) (x y : ℕ → ℕ) → x 0 < 2 ^ 32 → x 1 < 2 ^ 32 → Busy (x 0) (x 1) (y 13) (y 14) (after w l x y (unsigned_words ++ counting))
unsigned_opens w l x y h0 h1 =
    let e0 = add-zero-word (x 0) h0 in
    let e1 = add-zero-word (x 1) h1 in
    record {
      divisor = e1;
      one = refl;
      zero' = refl;
      dividend_sign = refl;
      divisor_sign = refl;
      divided = as_divided (x 0) (x 1) 0 (x 0) (first_count (x 0) (x 1)) _ _ _ refl e0 (λ i. first_count (e0 i) (e1 i)) (opened (x 0) (x 1) h0 h1);
    }

pub signed_opens : (w : World) (l : ℕ) (x y : ℕ → ℕ) → x 0 < 2 ^ 32 → x 1 < 2 ^ 32 → Busy (magnitude (x 0)) (magnitude (x 1)) (sign (x 0)) (sign (x 1)) (after w l x y (magnitudes ++ counting))
signed_opens w l x y h0 h1 =
    record {
      divisor = refl;
      one = refl;
      zero' = refl;
      dividend_sign = refl;
      divisor_sign = refl;
      divided = opened (magnitude (x 0)) (magnitude (x 1)) (magnitude-below (x 0) h0) (magnitude-below (x 1) h1);
    }

pub sizes_open : (w : World) (l : ℕ) (x y : ℕ → ℕ) → work w GlobalSize (x 0) < 2 ^ 32 → work w LocalSize (x 0) < 2 ^ 32
    → Busy (work w GlobalSize (x 0)) (work w LocalSize (x 0)) (y 13) (y 14) (after w l x y (sizes ++ counting))
sizes_open w l x y h0 h1 =
    record { divisor = refl; one = refl; zero' = refl; dividend_sign = refl; divisor_sign = refl; divided = opened _ _ h0 h1 }

done_when : (n d q r k : ℕ) → k ≡ 0 → Divided n d q r k → Divided n d q r 0
done_when n d q r k e h = subst (λ k. Divided n d q r k) e h

quotient-word : (n d q r k : ℕ) → n < 2 ^ 32 → Divided n d q r k → q < 2 ^ 32
quotient-word n zero q r k h o = let e = o.none refl in omega (arith, e.1)
quotient-word n (suc d) q r k h o = let x = quotient_below n (suc d) q r (omega arith) o.sum in omega (arith, x, h)

-- the closes
pub quotient_closes : (n d s t : ℕ) (y : ℕ → ℕ) → n < 2 ^ 32 → Busy n d s t y → y 3 ≡ 0 → applied op.Add (y 2) (y 5) ≡ quotient false n d
quotient_closes n d s t y h b e =
    let q = quotient-word n d (y 2) (y 1) (y 3) h b.divided in
    ap (applied op.Add (y 2)) b.zero' ∙ add-zero-word (y 2) q ∙ sym (closes_quotient n d (y 2) (y 1) (done_when n d (y 2) (y 1) (y 3) e b.divided))

pub remainder_closes : (n d s t : ℕ) (y : ℕ → ℕ) → n < 2 ^ 32 → Busy n d s t y → y 3 ≡ 0 → applied op.Add (y 1) (y 5) ≡ remainder false n d
remainder_closes n d s t y h b e =
    let q : y 1 < 2 ^ 32 = let x = rest_below n d (y 2) (y 1) b.divided.sum in omega (arith, x, h) in
    ap (applied op.Add (y 1)) b.zero' ∙ add-zero-word (y 1) q ∙ sym (closes_remainder n d (y 2) (y 1) (done_when n d (y 2) (y 1) (y 3) e b.divided))

pub signed_quotient_closes : (a b : ℕ) (y : ℕ → ℕ) → a < 2 ^ 32 → b < 2 ^ 32 → Busy (magnitude a) (magnitude b) (sign a) (sign b) y → y 3 ≡ 0
    → chosen (applied op.Sub (y 13) (y 14)) (applied_one one_op.Neg (y 2)) (y 2) ≡ quotient true a b
signed_quotient_closes a b y ha hb o e =
    (λ i. chosen (applied op.Sub (o.dividend_sign i) (o.divisor_sign i)) (applied_one one_op.Neg (y 2)) (y 2))
    ∙ signed_quotient a b (y 2) ha hb (closes_quotient (magnitude a) (magnitude b) (y 2) (y 1) (done_when _ _ _ _ (y 3) e o.divided))

pub signed_remainder_closes : (a b : ℕ) (y : ℕ → ℕ) → a < 2 ^ 32 → b < 2 ^ 32 → Busy (magnitude a) (magnitude b) (sign a) (sign b) y → y 3 ≡ 0
    → chosen (y 13) (applied_one one_op.Neg (y 1)) (y 1) ≡ remainder true a b
signed_remainder_closes a b y ha hb o e =
    (λ i. chosen (o.dividend_sign i) (applied_one one_op.Neg (y 1)) (y 1))
    ∙ signed_remainder a b (y 1) ha hb (closes_remainder (magnitude a) (magnitude b) (y 2) (y 1) (done_when _ _ _ _ (y 3) e o.divided))
