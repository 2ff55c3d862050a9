-- The masks of one lane: what a change of a variable's word is to them.
use Rattle.std.proofs.Common.{◌≡◌, ℕ, zero, suc, ◌<◌, ◌≤◌, ◌⊎◌, inl, inr, Bool, true, false, List, [], ◌∷◌, refl, sym, ap, ◌∙◌, arith}
use Rattle.std.specs.Prelude.{if◌then◌else◌, not, ◌&&◌, ◌||◌}
use Rattle.item_ir.specs.Memory.{with_at}
use Rattle.lane_ir.specs.LaneMeaning.{is_on, chosen}
use Rattle.lane_ir.proofs.Steps.{with_at-same, with_at-other}
use Rattle.mask_law.specs.Stacks.{Kind, Round, In_loop, In_scope, same, Entry, top, at_kind, var_at}
use Rattle.mask_law.specs.Masks.{Mask, column, on_at, all_on, settle, clear_top, clear_end, left_to, has}
use Rattle.mask_law.specs.Lanes.{Stacked}

pub column_cong : (nu v : ℕ) (st : List Entry) (old new : ℕ → ℕ) → Stacked nu st v → ((u : ℕ) → u < v → new u ≡ old u) → column st new ≡ column st old
column_cong nu v [] old new h e = refl
column_cong nu v (x ∷ st) old new h e =
    let a : is_on (new x.var) ≡ is_on (old x.var) = ap is_on (e x.var h.1) in
    let b : column st new ≡ column st old = column_cong nu x.var st old new h.2 (λ u c. e u (let i = h.1 in omega arith)) in
    ap (λ (o : Bool). record { kind = x.kind; on = o } ∷ column st new) a ∙ ap (λ (ms : List Mask). record { kind = x.kind; on = is_on (old x.var) } ∷ ms) b

-- a variable from v on
pub column_other : (nu v : ℕ) (st : List Entry) (words : ℕ → ℕ) (u x : ℕ) → Stacked nu st v → v ≤ u → column st (with_at words u x) ≡ column st words
column_other nu v st words u x h le = column_cong nu v st words (with_at words u x) h (λ j c. with_at-other words u x j (λ e. let c2 = c in let le2 = le in omega arith))

-- the top one's word
pub column_top : (nu v : ℕ) (e : Entry) (st : List Entry) (words : ℕ → ℕ) (x : ℕ) → Stacked nu (e ∷ st) v → column (e ∷ st) (with_at words e.var x) ≡ record { kind = e.kind; on = is_on x } ∷ column st words
column_top nu v e st words x h =
    ap (λ (y : ℕ). record { kind = e.kind; on = is_on y } ∷ column st (with_at words e.var x)) (with_at-same words e.var x)
    ∙ ap (λ (ms : List Mask). record { kind = e.kind; on = is_on x } ∷ ms) (column_other nu e.var st words e.var x h.2 (omega arith))

-- where a mask of a kind stands
pub end_below : (nu v none : ℕ) (k : Kind) (st : List Entry) → Stacked nu st v → has k st ≡ true → (nu ≤ at_kind k none st) × (at_kind k none st < v)
end_below nu v none k [] h g = cc
end_below nu v none k (e ∷ st) h g = by (same k e.kind) (same In_scope e.kind) g (λ q. end_below nu e.var none k st h.2 q)
  where
    by : (x y : Bool) → (x || (not y && has k st)) ≡ true → (has k st ≡ true → (nu ≤ at_kind k none st) × (at_kind k none st < e.var))
        → (nu ≤ (if x then e.var else (if y then none else at_kind k none st))) × ((if x then e.var else (if y then none else at_kind k none st)) < v)
    by true y q more = (h.0, h.1)
    by false true q more = cc
    by false false q more = let r = more q in let p = r.1 in let i = h.1 in (r.0, omega arith)

pub column_end : (nu v none : ℕ) (k : Kind) (st : List Entry) (words : ℕ → ℕ) → Stacked nu st v → has k st ≡ true
    → column st (with_at words (at_kind k none st) 0) ≡ clear_end k (column st words)
column_end nu v none k [] words h g = cc
column_end nu v none k (e ∷ st) words h g = by (same k e.kind) (same In_scope e.kind) g (λ q. column_end nu e.var none k st words h.2 q) (λ q. end_below nu e.var none k st h.2 q)
  where
    by : (x y : Bool) → (x || (not y && has k st)) ≡ true
        → (has k st ≡ true → column st (with_at words (at_kind k none st) 0) ≡ clear_end k (column st words))
        → (has k st ≡ true → (nu ≤ at_kind k none st) × (at_kind k none st < e.var))
        → column (e ∷ st) (with_at words (if x then e.var else (if y then none else at_kind k none st)) 0)
        ≡ (if x then record { kind = e.kind; on = false } ∷ column st words
        else (if y then record { kind = e.kind; on = is_on (words e.var) } ∷ column st words else record { kind = e.kind; on = is_on (words e.var) } ∷ clear_end k (column st words)))
    by true y q more low = column_top nu v e st words 0 h
    by false true q more low = cc
    by false false q more low =
        let u : ℕ = at_kind k none st in
        let less : u < e.var = (low q).1 in
        let a : with_at words u 0 e.var ≡ words e.var = with_at-other words u 0 e.var (λ i. let l = less in omega (arith, l, i)) in
        ap (λ (y : ℕ). record { kind = e.kind; on = is_on y } ∷ column st (with_at words u 0)) a
        ∙ ap (λ (ms : List Mask). record { kind = e.kind; on = is_on (words e.var) } ∷ ms) (more q)

-- a way to leave clears two masks
pub column_left : (nu v : ℕ) (k : Kind) (e : Entry) (st : List Entry) (words : ℕ → ℕ) → Stacked nu (e ∷ st) v → has k (e ∷ st) ≡ true
    → column (e ∷ st) (with_at (with_at words (var_at k (e ∷ st)) 0) e.var 0) ≡ left_to k (column (e ∷ st) words)
column_left nu v k e st words h g =
    column_top nu v e st (with_at words (var_at k (e ∷ st)) 0) 0 h
    ∙ cleared (column (e ∷ st) (with_at words (var_at k (e ∷ st)) 0)) (clear_end k (column (e ∷ st) words)) (column_end nu v e.var k (e ∷ st) words h g)
  where
    cleared : (a b : List Mask) → a ≡ b → clear_top a ≡ clear_top b
    cleared a b i = ap clear_top i

-- ---- settling

pub on_at-word : (k : Kind) (none : ℕ) (st : List Entry) (words : ℕ → ℕ)
    → (on_at k (column st words) ≡ is_on (words (at_kind k none st))) ⊎ ((on_at k (column st words) ≡ true) × (at_kind k none st ≡ none))
on_at-word k none [] words = inr (refl, refl)
on_at-word k none (e ∷ st) words = by (same k e.kind) (same In_scope e.kind) (on_at-word k none st words)
  where
    by : (x y : Bool) → (on_at k (column st words) ≡ is_on (words (at_kind k none st))) ⊎ ((on_at k (column st words) ≡ true) × (at_kind k none st ≡ none))
        → ((if x then is_on (words e.var) else (if y then true else on_at k (column st words))) ≡ is_on (words (if x then e.var else (if y then none else at_kind k none st))))
        ⊎ (((if x then is_on (words e.var) else (if y then true else on_at k (column st words))) ≡ true) × ((if x then e.var else (if y then none else at_kind k none st)) ≡ none))
    by true y q = inl refl
    by false true q = inr (refl, refl)
    by false false q = q

-- under a top mask that is on, both say the same
pub on_under : (k : Kind) (st : List Entry) (words : ℕ → ℕ) (t : Bool) → is_on (words (top st)) ≡ t → (t && on_at k (column st words)) ≡ (t && is_on (words (var_at k st)))
on_under k st words false e = refl
on_under k st words true e =
    elim (on_at-word k (top st) st words) [ inl q ↦ q | inr q ↦ q.0 ∙ sym (ap (λ u. is_on (words u)) q.1 ∙ e) ]

-- the word that settles a top mask
pub settled_word : (m r l s : ℕ) → ℕ
settled_word m r l s = chosen m (chosen (chosen r l r) s (chosen r l r)) m

pub settled_on : (m r l s : ℕ) → is_on (chosen m (chosen (chosen r l r) s (chosen r l r)) m) ≡ (is_on m && (is_on r && (is_on l && is_on s)))
settled_on zero r l s = refl
settled_on (suc m) zero l s = refl
settled_on (suc m) (suc r) zero s = refl
settled_on (suc m) (suc r) (suc l) s = refl

and_parts : (t a b c x y z : Bool) → (t && a) ≡ (t && x) → (t && b) ≡ (t && y) → (t && c) ≡ (t && z) → (t && (a && (b && c))) ≡ (t && (x && (y && z)))
and_parts false a b c x y z p q r = refl
and_parts true a b c x y z p q r = ap (λ (i : Bool). i && (b && c)) p ∙ ap (λ (i : Bool). x && (i && c)) q ∙ ap (λ (i : Bool). x && (y && i)) r

pub column_settled : (nu v : ℕ) (e : Entry) (st : List Entry) (words : ℕ → ℕ) (x : ℕ) → Stacked nu (e ∷ st) v
    → is_on x ≡ (is_on (words e.var) && (is_on (words (var_at Round (e ∷ st))) && (is_on (words (var_at In_loop (e ∷ st))) && is_on (words (var_at In_scope (e ∷ st))))))
    → column (e ∷ st) (with_at words e.var x) ≡ settle (column (e ∷ st) words)
column_settled nu v e st words x h i =
    let full : List Entry = e ∷ st in
    let ms : List Mask = column (e ∷ st) words in
    let t : Bool = is_on (words e.var) in
    let q : (t && all_on ms) ≡ (t && (is_on (words (var_at Round full)) && (is_on (words (var_at In_loop full)) && is_on (words (var_at In_scope full))))) =
    and_parts t (on_at Round ms) (on_at In_loop ms) (on_at In_scope ms) (is_on (words (var_at Round full))) (is_on (words (var_at In_loop full))) (is_on (words (var_at In_scope full)))
    (on_under Round full words t refl) (on_under In_loop full words t refl) (on_under In_scope full words t refl) in
    column_top nu v e st words x h ∙ ap (λ (o : Bool). record { kind = e.kind; on = o } ∷ column st words) (i ∙ sym q)
