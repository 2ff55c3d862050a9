-- What the code that leaves and the code that settles do to the masks of each lane.
use Rattle.std.proofs.Common.{◌≡◌, ℕ, zero, suc, ◌+◌, ◌<◌, Bool, true, false, List, ◌∷◌, refl, sym, ap, ◌∙◌, arith}
use Rattle.std.specs.Prelude.{if◌then◌else◌, nat_lt, ◌==◌, ◌&&◌}
use Rattle.std.proofs.lemmas.Bool.{lt-ltb, eqb-true}
use Rattle.item_ir.specs.Memory.{with_at}
use Rattle.lane_ir.specs.LaneMeaning.{State, is_on, chosen, run_all}
use Rattle.lane_ir.proofs.Steps.{with_at-same, with_at-other}
use Rattle.mask_law.specs.Stacks.{Kind, Round, In_loop, In_scope, Entry, var_at}
use Rattle.mask_flow.specs.Masked.{leaves_to}
use Rattle.mask_law.proofs.Places.{settles_so}
use Rattle.mask_law.specs.Masks.{column, settle, has}
use Rattle.mask_law.specs.Lanes.{Stacked, row_of}
use Rattle.mask_law.specs.Emitted.{left_where, Leaves, Settles}
use Rattle.mask_law.proofs.Columns.{column_cong, end_below, column_left, column_settled, settled_on}

pub in_lane : (l n x : ℕ) → l < n → (if nat_lt l n then x else 0) ≡ x
in_lane l n x lt = ap (λ b. if b then x else 0) (lt-ltb l n lt)

zeros : (b : Bool) (z : ℕ) → (if b then z else z) ≡ z
zeros true z = refl
zeros false z = refl

if_at : (b : Bool) (f g : ℕ → ℕ) (l : ℕ) → (if b then f else g) l ≡ (if b then f l else g l)
if_at true f g l = refl
if_at false f g l = refl

-- one lane of a changed row
pub lane_at : (X : ℕ → ℕ → ℕ) (u : ℕ) (g : ℕ → ℕ) (j l : ℕ) → with_at X u g j l ≡ with_at (λ i. X i l) u (g l) j
lane_at X u g j l = if_at (j == u) g (X j) l

pub on_value : (x a c : ℕ) → is_on x ≡ true → chosen x a c ≡ a
on_value zero a c e = cc
on_value (suc x) a c e = refl

pub off_value : (x a c : ℕ) → is_on x ≡ false → chosen x a c ≡ c
off_value zero a c e = refl
off_value (suc x) a c e = cc

-- a word put back changes nothing
pub put_back : (f : ℕ → ℕ) (u x j : ℕ) → x ≡ f u → with_at f u x j ≡ f j
put_back f u x j e = by (j == u) refl
  where
    by : (b : Bool) → (j == u) ≡ b → (if b then x else f j) ≡ f j
    by true q = e ∙ ap f (sym (eqb-true j u q))
    by false q = refl

leaves_masks : (n v nu : ℕ) (kind : Kind) (e : Entry) (st : List Entry) (old new : ℕ → ℕ) → Stacked nu (e ∷ st) v → has kind (e ∷ st) ≡ true
    → (b : Bool) → (b ≡ true → (u : ℕ) → new u ≡ with_at (with_at old (var_at kind (e ∷ st)) 0) e.var 0 u) → (b ≡ false → (u : ℕ) → new u ≡ old u)
    → column (e ∷ st) new ≡ left_where b kind (column (e ∷ st) old)
leaves_masks n v nu kind e st old new h g true on off =
    column_cong nu v (e ∷ st) (with_at (with_at old (var_at kind (e ∷ st)) 0) e.var 0) new h (λ u c. on refl u) ∙ column_left nu v kind e st old h g
leaves_masks n v nu kind e st old new h g false on off = column_cong nu v (e ∷ st) old new h (λ u c. off refl u)

pub leaves : Leaves
unfolding leaves_to
leaves w n nu i k v kind e st t h g =
    let end : ℕ = var_at kind (e ∷ st) in
    let low = end_below nu v e.var kind (e ∷ st) h g in
    let A : ℕ → ℕ = λ l. if nat_lt l n then t.vars e.var l else 0 in
    let B : ℕ → ℕ = λ l. if nat_lt l n then 0 else 0 in
    let V1 : ℕ → ℕ → ℕ = with_at t.vals k A in
    let V : ℕ → ℕ → ℕ = with_at V1 (k + 1) B in
    let vk : V k ≡ A = with_at-other V1 (k + 1) B k (λ q. omega (arith, q)) ∙ with_at-same t.vals k A in
    let vz : V (k + 1) ≡ B = with_at-same V1 (k + 1) B in
    let P1 : ℕ → ℕ = λ l. chosen (V k l) (V (k + 1) l) (t.vars end l) in
    let X : ℕ → ℕ → ℕ = with_at t.vars end P1 in
    let P2 : ℕ → ℕ = λ l. chosen (V k l) (V (k + 1) l) (X e.var l) in
    let Y : ℕ → ℕ → ℕ = with_at X e.var P2 in
    let t' : State = record t { vals = V; vars = Y; steps = t.steps + 1 + 1 + 1 + 1 } in
    let mask : (l : ℕ) → l < n → V k l ≡ t.vars e.var l = λ l lt. ap (λ r. r l) vk ∙ in_lane l n (t.vars e.var l) lt in
    let none : (l : ℕ) → V (k + 1) l ≡ 0 = λ l. ap (λ r. r l) vz ∙ zeros (nat_lt l n) 0 in
    let off : (l : ℕ) → l < n → is_on (t.vars e.var l) ≡ false → (u : ℕ) → Y u l ≡ t.vars u l = λ l lt q u.
    (let m : is_on (V k l) ≡ false = ap is_on (mask l lt) ∙ q in
    lane_at X e.var P2 u l ∙ put_back (λ j. X j l) e.var (P2 l) u (off_value (V k l) (V (k + 1) l) (X e.var l) m)
    ∙ lane_at t.vars end P1 u l ∙ put_back (λ j. t.vars j l) end (P1 l) u (off_value (V k l) (V (k + 1) l) (t.vars end l) m)) in
    let on : (l : ℕ) → l < n → is_on (t.vars e.var l) ≡ true → (u : ℕ) → Y u l ≡ with_at (with_at (λ j. t.vars j l) end 0) e.var 0 u = λ l lt q u.
    (let m : is_on (V k l) ≡ true = ap is_on (mask l lt) ∙ q in
    let p1 : P1 l ≡ 0 = on_value (V k l) (V (k + 1) l) (t.vars end l) m ∙ none l in
    let p2 : P2 l ≡ 0 = on_value (V k l) (V (k + 1) l) (X e.var l) m ∙ none l in
    let x : X u l ≡ with_at (λ j. t.vars j l) end 0 u = lane_at t.vars end P1 u l ∙ ap (λ z. with_at (λ j. t.vars j l) end z u) p1 in
    lane_at X e.var P2 u l ∙ ap (λ z. with_at (λ j. X j l) e.var z u) p2 ∙ ap (λ z. if u == e.var then 0 else z) x) in (
      t',
      refl,
      record {
        kept = record {
          vals = λ j c. with_at-other V1 (k + 1) B j (λ q. omega (arith, q, c)) ∙ with_at-other t.vals k A j (λ q. omega (arith, q, c));
          low = λ u c. with_at-other X e.var P2 u (λ q. let a = h.0 in omega (arith, q, c, a)) ∙ with_at-other t.vars end P1 u (λ q. let a = low.0 in omega (arith, q, c, a));
          high = λ u c. with_at-other X e.var P2 u (λ q. let a = h.1 in omega (arith, q, c, a)) ∙ with_at-other t.vars end P1 u (λ q. let a = low.1 in omega (arith, q, c, a));
          arrays = refl;
          mem = refl;
          log = refl;
          steps = omega arith;
        };
        masks = λ l lt. leaves_masks n v nu kind e st (row_of t l) (row_of t' l) h g (is_on (t.vars e.var l)) (λ q u. on l lt q u) (λ q u. off l lt q u);
        still = λ l lt q u. off l lt q u;
      },
    )

settles_masks : (v nu x : ℕ) (e : Entry) (st : List Entry) (old new : ℕ → ℕ) → Stacked nu (e ∷ st) v
    → is_on x ≡ (is_on (old e.var) && (is_on (old (var_at Round (e ∷ st))) && (is_on (old (var_at In_loop (e ∷ st))) && is_on (old (var_at In_scope (e ∷ st))))))
    → ((u : ℕ) → new u ≡ with_at old e.var x u) → column (e ∷ st) new ≡ settle (column (e ∷ st) old)
settles_masks v nu x e st old new h i q = column_cong nu v (e ∷ st) (with_at old e.var x) new h (λ u c. q u) ∙ column_settled nu v e st old x h i

pub settle_code : Settles
settle_code w n nu i k v e st t h =
    let vr : ℕ = var_at Round (e ∷ st) in
    let vl : ℕ = var_at In_loop (e ∷ st) in
    let vs : ℕ = var_at In_scope (e ∷ st) in
    let R : ℕ → ℕ = λ l. if nat_lt l n then t.vars vr l else 0 in
    let L : ℕ → ℕ = λ l. if nat_lt l n then t.vars vl l else 0 in
    let S : ℕ → ℕ = λ l. if nat_lt l n then t.vars vs l else 0 in
    let V1 : ℕ → ℕ → ℕ = with_at t.vals k R in
    let V2 : ℕ → ℕ → ℕ = with_at V1 (k + 1) L in
    let V3 : ℕ → ℕ → ℕ = with_at V2 (k + 2) S in
    let C : ℕ → ℕ = λ l. if nat_lt l n then chosen (V3 k l) (V3 (k + 1) l) (V3 k l) else 0 in
    let V4 : ℕ → ℕ → ℕ = with_at V3 (k + 3) C in
    let D : ℕ → ℕ = λ l. if nat_lt l n then chosen (V4 (k + 3) l) (V4 (k + 2) l) (V4 (k + 3) l) else 0 in
    let V5 : ℕ → ℕ → ℕ = with_at V4 (k + 4) D in
    let T : ℕ → ℕ = λ l. if nat_lt l n then t.vars e.var l else 0 in
    let V : ℕ → ℕ → ℕ = with_at V5 (k + 5) T in
    let P : ℕ → ℕ = λ l. chosen (V (k + 5) l) (V (k + 4) l) (t.vars e.var l) in
    let Y : ℕ → ℕ → ℕ = with_at t.vars e.var P in
    let t' : State = record t { vals = V; vars = Y; steps = t.steps + 1 + 1 + 1 + 1 + 1 + 1 + 1 } in
    let row3k : V3 k ≡ R = with_at-other V2 (k + 2) S k (λ q. omega (arith, q)) ∙ with_at-other V1 (k + 1) L k (λ q. omega (arith, q)) ∙ with_at-same t.vals k R in
    let row3l : V3 (k + 1) ≡ L = with_at-other V2 (k + 2) S (k + 1) (λ q. omega (arith, q)) ∙ with_at-same V1 (k + 1) L in
    let row4c : V4 (k + 3) ≡ C = with_at-same V3 (k + 3) C in
    let row4s : V4 (k + 2) ≡ S = with_at-other V3 (k + 3) C (k + 2) (λ q. omega (arith, q)) ∙ with_at-same V2 (k + 2) S in
    let rowd : V (k + 4) ≡ D = with_at-other V5 (k + 5) T (k + 4) (λ q. omega (arith, q)) ∙ with_at-same V4 (k + 4) D in
    let rowt : V (k + 5) ≡ T = with_at-same V5 (k + 5) T in
    let r_at : (l : ℕ) → l < n → V3 k l ≡ t.vars vr l = λ l lt. ap (λ f. f l) row3k ∙ in_lane l n (t.vars vr l) lt in
    let l_at : (l : ℕ) → l < n → V3 (k + 1) l ≡ t.vars vl l = λ l lt. ap (λ f. f l) row3l ∙ in_lane l n (t.vars vl l) lt in
    let s_at : (l : ℕ) → l < n → V4 (k + 2) l ≡ t.vars vs l = λ l lt. ap (λ f. f l) row4s ∙ in_lane l n (t.vars vs l) lt in
    let c_at : (l : ℕ) → l < n → V4 (k + 3) l ≡ chosen (t.vars vr l) (t.vars vl l) (t.vars vr l) = λ l lt.
    (ap (λ f. f l) row4c ∙ in_lane l n (chosen (V3 k l) (V3 (k + 1) l) (V3 k l)) lt
    ∙ ap (λ z. chosen z (V3 (k + 1) l) z) (r_at l lt) ∙ ap (λ z. chosen (t.vars vr l) z (t.vars vr l)) (l_at l lt)) in
    let d_at : (l : ℕ) → l < n → V (k + 4) l ≡ chosen (chosen (t.vars vr l) (t.vars vl l) (t.vars vr l)) (t.vars vs l) (chosen (t.vars vr l) (t.vars vl l) (t.vars vr l)) = λ l lt.
    (ap (λ f. f l) rowd ∙ in_lane l n (chosen (V4 (k + 3) l) (V4 (k + 2) l) (V4 (k + 3) l)) lt
    ∙ ap (λ z. chosen z (V4 (k + 2) l) z) (c_at l lt)
    ∙ ap (λ z. chosen (chosen (t.vars vr l) (t.vars vl l) (t.vars vr l)) z (chosen (t.vars vr l) (t.vars vl l) (t.vars vr l))) (s_at l lt)) in
    let t_at : (l : ℕ) → l < n → V (k + 5) l ≡ t.vars e.var l = λ l lt. ap (λ f. f l) rowt ∙ in_lane l n (t.vars e.var l) lt in
    let p_at : (l : ℕ) → l < n → is_on (P l) ≡ (is_on (t.vars e.var l) && (is_on (t.vars vr l) && (is_on (t.vars vl l) && is_on (t.vars vs l)))) = λ l lt.
    (ap (λ z. is_on (chosen z (V (k + 4) l) (t.vars e.var l))) (t_at l lt)
    ∙ ap (λ z. is_on (chosen (t.vars e.var l) z (t.vars e.var l))) (d_at l lt)
    ∙ settled_on (t.vars e.var l) (t.vars vr l) (t.vars vl l) (t.vars vs l)) in
    let other : (j : ℕ) → j < k → V j ≡ t.vals j = λ j c.
    (with_at-other V5 (k + 5) T j (λ q. omega (arith, q, c)) ∙ with_at-other V4 (k + 4) D j (λ q. omega (arith, q, c)) ∙ with_at-other V3 (k + 3) C j (λ q. omega (arith, q, c))
    ∙ with_at-other V2 (k + 2) S j (λ q. omega (arith, q, c)) ∙ with_at-other V1 (k + 1) L j (λ q. omega (arith, q, c)) ∙ with_at-other t.vals k R j (λ q. omega (arith, q, c))) in (
      t',
      ap (λ c. run_all w n i c t) (settles_so k v (e ∷ st)),
      record {
        kept = record {
          vals = other;
          low = λ u c. with_at-other t.vars e.var P u (λ q. let a = h.0 in omega (arith, q, c, a));
          high = λ u c. with_at-other t.vars e.var P u (λ q. let a = h.1 in omega (arith, q, c, a));
          arrays = refl;
          mem = refl;
          log = refl;
          steps = omega arith;
        };
        masks = λ l lt. settles_masks v nu (P l) e st (row_of t l) (row_of t' l) h (p_at l lt) (λ u. lane_at t.vars e.var P u l);
        still = λ l lt q u.
            (let m : is_on (V (k + 5) l) ≡ false = ap is_on (t_at l lt) ∙ q in
            lane_at t.vars e.var P u l ∙ put_back (λ j. t.vars j l) e.var (P l) u (off_value (V (k + 5) l) (V (k + 4) l) (t.vars e.var l) m));
      },
    )
