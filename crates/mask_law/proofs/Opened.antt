-- What the code that begins a mask does to the masks of each lane.
use Rattle.std.proofs.Common.{◌≡◌, ℕ, zero, suc, ◌+◌, ◌<◌, List, ◌∷◌, refl, sym, ap, ◌∙◌, arith}
use Rattle.std.specs.Prelude.{if◌then◌else◌, nat_lt}
use Rattle.item_ir.specs.Memory.{with_at}
use Rattle.lane_ir.specs.LaneMeaning.{State, is_on, chosen}
use Rattle.lane_ir.proofs.Steps.{with_at-same, with_at-other}
use Rattle.mask_law.specs.Stacks.{Kind, Entry}
use Rattle.mask_flow.specs.Masked.{opens, chooses, tests}
use Rattle.mask_law.specs.Masks.{Mask, column}
use Rattle.mask_law.specs.Lanes.{Stacked, row_of}
use Rattle.mask_law.specs.Emitted.{Opens, Chooses, Tests}
use Rattle.mask_law.proofs.Columns.{column_cong, column_other}
use Rattle.mask_law.proofs.Emitted.{in_lane, lane_at}

-- the masks with a new one on top
new_top : (nu v x : ℕ) (kind : Kind) (st : List Entry) (old new : ℕ → ℕ) → Stacked nu st v → ((u : ℕ) → new u ≡ with_at old v x u)
    → column (record { kind = kind; var = v } ∷ st) new ≡ record { kind = kind; on = is_on x } ∷ column st old
new_top nu v x kind st old new h q =
    ap (λ (y : ℕ). record { kind = kind; on = is_on y } ∷ column st new) (q v ∙ with_at-same old v x)
    ∙ ap (λ (ms : List Mask). record { kind = kind; on = is_on x } ∷ ms) (column_cong nu v st (with_at old v x) new h (λ u c. q u) ∙ column_other nu v st old v x h (omega arith))

on_top : (nu v x y : ℕ) (kind : Kind) (st : List Entry) (old new : ℕ → ℕ) → Stacked nu st v → ((u : ℕ) → new u ≡ with_at old v x u) → x ≡ y
    → column (record { kind = kind; var = v } ∷ st) new ≡ record { kind = kind; on = is_on y } ∷ column st old
on_top nu v x y kind st old new h q e = new_top nu v x kind st old new h q ∙ ap (λ (z : ℕ). record { kind = kind; on = is_on z } ∷ column st old) e

pub open_code : Opens
unfolding opens
open_code w n nu i k v e st t h =
    let A : ℕ → ℕ = λ l. if nat_lt l n then t.vars e.var l else 0 in
    let B : ℕ → ℕ = λ l. if nat_lt l n then 1 else 0 in
    let V1 : ℕ → ℕ → ℕ = with_at t.vals k A in
    let V : ℕ → ℕ → ℕ = with_at V1 (k + 1) B in
    let P : ℕ → ℕ = λ l. chosen (V (k + 1) l) (V k l) (t.vars v l) in
    let Y : ℕ → ℕ → ℕ = with_at t.vars v P in
    let t' : State = record t { vals = V; vars = Y; steps = t.steps + 1 + 1 + 1 } in
    let vk : V k ≡ A = with_at-other V1 (k + 1) B k (λ q. omega (arith, q)) ∙ with_at-same t.vals k A in
    let vo : V (k + 1) ≡ B = with_at-same V1 (k + 1) B in
    let p_at : (l : ℕ) → l < n → P l ≡ t.vars e.var l = λ l lt.
    (ap (λ z. chosen z (V k l) (t.vars v l)) (ap (λ f. f l) vo ∙ in_lane l n 1 lt) ∙ ap (λ f. f l) vk ∙ in_lane l n (t.vars e.var l) lt) in (
      t',
      refl,
      record {
        kept = record {
          vals = λ j c. with_at-other V1 (k + 1) B j (λ q. omega (arith, q, c)) ∙ with_at-other t.vals k A j (λ q. omega (arith, q, c));
          vars = λ u ne. with_at-other t.vars v P u ne;
          arrays = refl;
          mem = refl;
          log = refl;
          steps = omega arith;
        };
        masks = λ kind l lt. on_top nu v (P l) (t.vars e.var l) kind (e ∷ st) (row_of t l) (row_of t' l) h (λ u. lane_at t.vars v P u l) (p_at l lt);
      },
    )

pub choose_code : Chooses
unfolding chooses
choose_code w n nu i k v c e st t h lc =
    let A : ℕ → ℕ = λ l. if nat_lt l n then t.vars e.var l else 0 in
    let Z : ℕ → ℕ = λ l. if nat_lt l n then 0 else 0 in
    let O : ℕ → ℕ = λ l. if nat_lt l n then 1 else 0 in
    let V1 : ℕ → ℕ → ℕ = with_at t.vals k A in
    let V2 : ℕ → ℕ → ℕ = with_at V1 (k + 1) Z in
    let V3 : ℕ → ℕ → ℕ = with_at V2 (k + 2) O in
    let F : ℕ → ℕ = λ l. if nat_lt l n then chosen (V3 c l) (V3 k l) (V3 (k + 1) l) else 0 in
    let V4 : ℕ → ℕ → ℕ = with_at V3 (k + 3) F in
    let G : ℕ → ℕ = λ l. if nat_lt l n then chosen (V4 c l) (V4 (k + 1) l) (V4 k l) else 0 in
    let V : ℕ → ℕ → ℕ = with_at V4 (k + 4) G in
    let P : ℕ → ℕ = λ l. chosen (V (k + 2) l) (V (k + 3) l) (t.vars v l) in
    let t' : State = record t { vals = V; vars = with_at t.vars v P; steps = t.steps + 1 + 1 + 1 + 1 + 1 + 1 } in
    let low3 : (j : ℕ) → j < k → V3 j ≡ t.vals j = λ j q. (with_at-other V2 (k + 2) O j (λ r. omega (arith, r, q)) ∙ with_at-other V1 (k + 1) Z j (λ r. omega (arith, r, q)) ∙ with_at-other t.vals k A j (λ r. omega (arith, r, q))) in
    let up4 : (j : ℕ) → j < k + 3 → V4 j ≡ V3 j = λ j q. with_at-other V3 (k + 3) F j (λ r. omega (arith, r, q)) in
    let k3 : V3 k ≡ A = with_at-other V2 (k + 2) O k (λ r. omega (arith, r)) ∙ with_at-other V1 (k + 1) Z k (λ r. omega (arith, r)) ∙ with_at-same t.vals k A in
    let z3 : V3 (k + 1) ≡ Z = with_at-other V2 (k + 2) O (k + 1) (λ r. omega (arith, r)) ∙ with_at-same V1 (k + 1) Z in
    let k_at : (l : ℕ) → l < n → V3 k l ≡ t.vars e.var l = λ l lt. ap (λ f. f l) k3 ∙ in_lane l n (t.vars e.var l) lt in
    let z_at : (l : ℕ) → l < n → V3 (k + 1) l ≡ 0 = λ l lt. ap (λ f. f l) z3 ∙ in_lane l n 0 lt in
    let c_at : (l : ℕ) → V3 c l ≡ t.vals c l = λ l. ap (λ f. f l) (low3 c lc) in
    let f_at : (l : ℕ) → l < n → V (k + 3) l ≡ chosen (t.vals c l) (t.vars e.var l) 0 = λ l lt.
    (ap (λ f. f l) (with_at-other V4 (k + 4) G (k + 3) (λ r. omega (arith, r)) ∙ with_at-same V3 (k + 3) F)
    ∙ in_lane l n (chosen (V3 c l) (V3 k l) (V3 (k + 1) l)) lt
    ∙ ap (λ z. chosen z (V3 k l) (V3 (k + 1) l)) (c_at l)
    ∙ ap (λ z. chosen (t.vals c l) z (V3 (k + 1) l)) (k_at l lt)
    ∙ ap (λ z. chosen (t.vals c l) (t.vars e.var l) z) (z_at l lt)) in
    let g_at : (l : ℕ) → l < n → V (k + 4) l ≡ chosen (t.vals c l) 0 (t.vars e.var l) = λ l lt.
    (ap (λ f. f l) (with_at-same V4 (k + 4) G)
    ∙ in_lane l n (chosen (V4 c l) (V4 (k + 1) l) (V4 k l)) lt
    ∙ ap (λ z. chosen z (V4 (k + 1) l) (V4 k l)) (ap (λ f. f l) (up4 c (omega (arith, lc))) ∙ c_at l)
    ∙ ap (λ z. chosen (t.vals c l) z (V4 k l)) (ap (λ f. f l) (up4 (k + 1) (omega arith)) ∙ z_at l lt)
    ∙ ap (λ z. chosen (t.vals c l) 0 z) (ap (λ f. f l) (up4 k (omega arith)) ∙ k_at l lt)) in
    let o_at : (l : ℕ) → l < n → V (k + 2) l ≡ 1 = λ l lt.
    (ap (λ f. f l) (with_at-other V4 (k + 4) G (k + 2) (λ r. omega (arith, r)) ∙ up4 (k + 2) (omega arith) ∙ with_at-same V2 (k + 2) O) ∙ in_lane l n 1 lt) in
    let p_at : (l : ℕ) → l < n → P l ≡ chosen (t.vals c l) (t.vars e.var l) 0 = λ l lt. (ap (λ z. chosen z (V (k + 3) l) (t.vars v l)) (o_at l lt) ∙ f_at l lt) in (
      t',
      refl,
      record {
        kept = record {
          vals = λ j q. with_at-other V4 (k + 4) G j (λ r. omega (arith, r, q)) ∙ up4 j (omega (arith, q)) ∙ low3 j q;
          vars = λ u ne. with_at-other t.vars v P u ne;
          arrays = refl;
          mem = refl;
          log = refl;
          steps = omega arith;
        };
        masks = λ kind l lt. on_top nu v (P l) (chosen (t.vals c l) (t.vars e.var l) 0) kind (e ∷ st) (row_of t l) (row_of t' l) h (λ u. lane_at t.vars v P u l) (p_at l lt);
        other = g_at;
        ones = o_at;
      },
    )

-- where the mask is off it stays so
tested_word : (m x : ℕ) (c y : ℕ) → m ≡ x → y ≡ chosen c x 0 → chosen m y x ≡ chosen c x 0
tested_word zero x c y e f = by c (sym e) ∙ ap (λ z. chosen c z 0) e
  where
    by : (c : ℕ) → x ≡ 0 → x ≡ chosen c 0 0
    by zero q = q
    by (suc c) q = q
tested_word (suc m) x c y e f = f

pub test_code : Tests
unfolding tests
test_code w n nu i k v c st t h lc =
    let A : ℕ → ℕ = λ l. if nat_lt l n then t.vars v l else 0 in
    let Z : ℕ → ℕ = λ l. if nat_lt l n then 0 else 0 in
    let V1 : ℕ → ℕ → ℕ = with_at t.vals k A in
    let V2 : ℕ → ℕ → ℕ = with_at V1 (k + 1) Z in
    let F : ℕ → ℕ = λ l. if nat_lt l n then chosen (V2 c l) (V2 k l) (V2 (k + 1) l) else 0 in
    let V : ℕ → ℕ → ℕ = with_at V2 (k + 2) F in
    let P : ℕ → ℕ = λ l. chosen (V k l) (V (k + 2) l) (t.vars v l) in
    let t' : State = record t { vals = V; vars = with_at t.vars v P; steps = t.steps + 1 + 1 + 1 + 1 } in
    let k2 : V2 k ≡ A = with_at-other V1 (k + 1) Z k (λ r. omega (arith, r)) ∙ with_at-same t.vals k A in
    let c2 : V2 c ≡ t.vals c = with_at-other V1 (k + 1) Z c (λ r. omega (arith, r, lc)) ∙ with_at-other t.vals k A c (λ r. omega (arith, r, lc)) in
    let f_at : (l : ℕ) → l < n → V (k + 2) l ≡ chosen (t.vals c l) (t.vars v l) 0 = λ l lt.
    (ap (λ f. f l) (with_at-same V2 (k + 2) F)
    ∙ in_lane l n (chosen (V2 c l) (V2 k l) (V2 (k + 1) l)) lt
    ∙ ap (λ z. chosen z (V2 k l) (V2 (k + 1) l)) (ap (λ f. f l) c2)
    ∙ ap (λ z. chosen (t.vals c l) z (V2 (k + 1) l)) (ap (λ f. f l) k2 ∙ in_lane l n (t.vars v l) lt)
    ∙ ap (λ z. chosen (t.vals c l) (t.vars v l) z) (ap (λ f. f l) (with_at-same V1 (k + 1) Z) ∙ in_lane l n 0 lt)) in
    let k_at : (l : ℕ) → l < n → V k l ≡ t.vars v l = λ l lt. (ap (λ f. f l) (with_at-other V2 (k + 2) F k (λ r. omega (arith, r)) ∙ k2) ∙ in_lane l n (t.vars v l) lt) in
    let p_at : (l : ℕ) → l < n → P l ≡ chosen (t.vals c l) (t.vars v l) 0 = λ l lt. tested_word (V k l) (t.vars v l) (t.vals c l) (V (k + 2) l) (k_at l lt) (f_at l lt) in (
      t',
      refl,
      record {
        kept = record {
          vals = λ j q. with_at-other V2 (k + 2) F j (λ r. omega (arith, r, q)) ∙ with_at-other V1 (k + 1) Z j (λ r. omega (arith, r, q)) ∙ with_at-other t.vals k A j (λ r. omega (arith, r, q));
          vars = λ u ne. with_at-other t.vars v P u ne;
          arrays = refl;
          mem = refl;
          log = refl;
          steps = omega arith;
        };
        masks = λ kind l lt. on_top nu v (P l) (chosen (t.vals c l) (t.vars v l) 0) kind st (row_of t l) (row_of t' l) h (λ u. lane_at t.vars v P u l) (p_at l lt);
        mask = f_at;
      },
    )
