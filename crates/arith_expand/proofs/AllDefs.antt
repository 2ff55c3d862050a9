-- Each definition's statements do what the definition does.
use Rattle.std.proofs.Common.{◌≡◌, ℕ, zero, suc, ◌^◌, ◌<◌, ◌≤◌, inl, inr, Bool, true, false, [], ◌∷◌, refl, sym, ap, ◌∙◌, arith}
use Rattle.std.specs.Prelude.{nat_lt, if◌then◌else◌, ◌/◌}
use Rattle.std.proofs.lemmas.Bool.{and_parts, ltb-true, ne_eqb, cases_lt}
use Rattle.q_lane.specs.declared.operations.BinOp.TheVariants as op
use Rattle.q_lane.specs.Numbers.{applied, quotient}
use Rattle.item_ir.specs.declared.form.Val.{Val}
use Rattle.q_functions.specs.declared.functions.WorkFunction.{WorkFunction}
use Rattle.q_functions.specs.declared.functions.WorkFunction.TheVariants.{GlobalSize, LocalSize, NumGroups}
use Rattle.item_ir.specs.declared.form.Def.TheVariants as def
use Rattle.lane_ir.specs.LaneMeaning.{World, State, Ends, work, defines, run_all}
use Rattle.lane_ir.specs.Valid.{Counts, is_val, is_def}
use Rattle.lane_ir.specs.Kept.{IsWorld, Words, Met, EndsAs, DefsKept}
use Rattle.lane_ir.specs.declared.recipe.Act.TheVariants.{Two, Choose}
use Rattle.lane_ir.specs.declared.recipe.Source.TheVariants.{Temp}
use Rattle.lane_ir.proofs.Recipes.{Low, args_of, temps_of}
use Rattle.lane_ir.proofs.Defs.{value_word, same_kept}
use Rattle.arith_expand.specs.Expand.{expanded, expanded_two, unsigned_words, magnitudes, sizes, signing, signing_left, quotient as quotient_temp, left, zero as zero_temp, dividend_sign}
use Rattle.arith_expand.proofs.Signs.{sign, magnitude, magnitude-below}
use Rattle.arith_expand.proofs.Expanded.{division_kept, unsigned_opens, signed_opens, sizes_open, quotient_closes, remainder_closes, signed_quotient_closes, signed_remainder_closes}

low_two : (k : ℕ) (a b : Val) → a.0 < k → b.0 < k → Low k (a ∷ b ∷ [])
low_two k a b h g zero = h
low_two k a b h g (suc zero) = g
low_two k a b h g (suc (suc i)) = omega (arith, h)

low_one : (k : ℕ) (a : Val) → a.0 < k → Low k (a ∷ [])
low_one k a h zero = h
low_one k a h (suc i) = omega (arith, h)

-- the number of groups is a quotient, past dimension 2 that of 1 by 1
quotient-plain : (a b : ℕ) → 0 < b → quotient false a b ≡ a / b
unfolding quotient
quotient-plain a b h = ap (λ t. if t then 0 else a / b) (ne_eqb b 0 (λ e. omega (arith, e, h)))

quotient-none : (a : ℕ) → quotient false a 0 ≡ 0
unfolding quotient
quotient-none a = refl

div-none : (a b : ℕ) → b ≡ 0 → a / b ≡ 0
div-none a b e = omega (arith, e)

groups : (b : Bool) (x y : ℕ) → quotient false (if b then x else 1) (if b then y else 1) ≡ (if b then x / y else 1)
groups true x y = elim (cases_lt 0 y) [
  | inl h ↦ quotient-plain x y h
  | inr h ↦ let z : y ≡ 0 = omega (arith, h) in ap (quotient false x) z ∙ quotient-none x ∙ sym (div-none x y z)
]
groups false x y = quotient-plain 1 1 (omega arith)

module _ (c : Counts) (w : World) (n i : ℕ) (o : IsWorld w) (enough : 33 ≤ i) where
  two_words : (a b : Val) (s t : State) → a.0 < c.vals → b.0 < c.vals → Met c.vals s t → (l : ℕ) → (args_of t (a ∷ b ∷ []) l 0 ≡ s.vals a.0 l) × (args_of t (a ∷ b ∷ []) l 1 ≡ s.vals b.0 l) × (args_of t (a ∷ b ∷ []) l 0 < 2 ^ 32) × (args_of t (a ∷ b ∷ []) l 1 < 2 ^ 32)
  two_words a b s t ha hb m l =
      let e : t.vals a.0 l ≡ s.vals a.0 l = λ z. m.same.vals a.0 ha z l in
      let f : t.vals b.0 l ≡ s.vals b.0 l = λ z. m.same.vals b.0 hb z l in
      let wa = m.words.vals a.0 l ha in
      let wb = m.words.vals b.0 l hb in
      (e, f, omega (arith, e, wa), omega (arith, f, wb))

  two_kept : (v : ℕ) (q : op.the_data) (a b : Val) (s t : State) → v < c.vals → is_def c (def.Bin q a b) ≡ true → Met c.vals s t
      → EndsAs c.vals (Ends (defines w n v (def.Bin q a b) s)) (run_all w n i (expanded_two c.vals v q a b) t)
  unfolding applied quotient
  two_kept v (op.Div false) a b s t hv h m =
      let p = and_parts (is_val c a) (is_val c b) h in
      let ha : a.0 < c.vals = ltb-true a.0 c.vals p.0 in
      let hb : b.0 < c.vals = ltb-true b.0 c.vals p.1 in
      let x = args_of t (a ∷ b ∷ []) in
      let z = two_words a b s t ha hb m in
      division_kept w n i c.vals (a ∷ b ∷ []) (low_two c.vals a b ha hb) enough v (def.Bin (op.Div false) a b) unsigned_words [] (Two op.Add quotient_temp zero_temp) s t
      (λ l. x l 0) (λ l. x l 1) (λ l. temps_of t c.vals l 13) (λ l. temps_of t c.vals l 14) m hv
      (λ l q. (z l).2)
      (λ l q. unsigned_opens w l (x l) (temps_of t c.vals l) (z l).2 (z l).3)
      (λ l q y busy e. quotient_closes (x l 0) (x l 1) _ _ y (z l).2 busy e ∙ (λ j. applied (op.Div false) ((z l).0 j) ((z l).1 j)))
      (λ l q. value_word c w (def.Bin (op.Div false) a b) s l o h m.words)
      (omega arith)
  two_kept v (op.Rem false) a b s t hv h m =
      let p = and_parts (is_val c a) (is_val c b) h in
      let ha : a.0 < c.vals = ltb-true a.0 c.vals p.0 in
      let hb : b.0 < c.vals = ltb-true b.0 c.vals p.1 in
      let x = args_of t (a ∷ b ∷ []) in
      let z = two_words a b s t ha hb m in
      division_kept w n i c.vals (a ∷ b ∷ []) (low_two c.vals a b ha hb) enough v (def.Bin (op.Rem false) a b) unsigned_words [] (Two op.Add left zero_temp) s t
      (λ l. x l 0) (λ l. x l 1) (λ l. temps_of t c.vals l 13) (λ l. temps_of t c.vals l 14) m hv
      (λ l q. (z l).2)
      (λ l q. unsigned_opens w l (x l) (temps_of t c.vals l) (z l).2 (z l).3)
      (λ l q y busy e. remainder_closes (x l 0) (x l 1) _ _ y (z l).2 busy e ∙ (λ j. applied (op.Rem false) ((z l).0 j) ((z l).1 j)))
      (λ l q. value_word c w (def.Bin (op.Rem false) a b) s l o h m.words)
      (omega arith)
  two_kept v (op.Div true) a b s t hv h m =
      let p = and_parts (is_val c a) (is_val c b) h in
      let ha : a.0 < c.vals = ltb-true a.0 c.vals p.0 in
      let hb : b.0 < c.vals = ltb-true b.0 c.vals p.1 in
      let x = args_of t (a ∷ b ∷ []) in
      let z = two_words a b s t ha hb m in
      division_kept w n i c.vals (a ∷ b ∷ []) (low_two c.vals a b ha hb) enough v (def.Bin (op.Div true) a b) magnitudes signing (Choose (Temp 6) (Temp 7) quotient_temp) s t
      (λ l. magnitude (x l 0)) (λ l. magnitude (x l 1)) (λ l. sign (x l 0)) (λ l. sign (x l 1)) m hv
      (λ l q. magnitude-below (x l 0) (z l).2)
      (λ l q. signed_opens w l (x l) (temps_of t c.vals l) (z l).2 (z l).3)
      (λ l q y busy e. signed_quotient_closes (x l 0) (x l 1) y (z l).2 (z l).3 busy e ∙ (λ j. applied (op.Div true) ((z l).0 j) ((z l).1 j)))
      (λ l q. value_word c w (def.Bin (op.Div true) a b) s l o h m.words)
      (omega arith)
  two_kept v (op.Rem true) a b s t hv h m =
      let p = and_parts (is_val c a) (is_val c b) h in
      let ha : a.0 < c.vals = ltb-true a.0 c.vals p.0 in
      let hb : b.0 < c.vals = ltb-true b.0 c.vals p.1 in
      let x = args_of t (a ∷ b ∷ []) in
      let z = two_words a b s t ha hb m in
      division_kept w n i c.vals (a ∷ b ∷ []) (low_two c.vals a b ha hb) enough v (def.Bin (op.Rem true) a b) magnitudes signing_left (Choose dividend_sign (Temp 7) left) s t
      (λ l. magnitude (x l 0)) (λ l. magnitude (x l 1)) (λ l. sign (x l 0)) (λ l. sign (x l 1)) m hv
      (λ l q. magnitude-below (x l 0) (z l).2)
      (λ l q. signed_opens w l (x l) (temps_of t c.vals l) (z l).2 (z l).3)
      (λ l q y busy e. signed_remainder_closes (x l 0) (x l 1) y (z l).2 (z l).3 busy e ∙ (λ j. applied (op.Rem true) ((z l).0 j) ((z l).1 j)))
      (λ l q. value_word c w (def.Bin (op.Rem true) a b) s l o h m.words)
      (omega arith)
  two_kept v q a b s t hv h m = same_kept c w n i v (def.Bin q a b) s t o hv h m

  groups_kept : (v : ℕ) (d : Val) (s t : State) → v < c.vals → is_def c (def.Work NumGroups d) ≡ true → Met c.vals s t
      → EndsAs c.vals (Ends (defines w n v (def.Work NumGroups d) s)) (run_all w n i (expanded c.vals v (def.Work NumGroups d)) t)
  groups_kept v d s t hv h m =
      let hd : d.0 < c.vals = ltb-true d.0 c.vals h in
      let x = args_of t (d ∷ []) in
      let global : (l : ℕ) → work w GlobalSize (x l 0) < 2 ^ 32 = λ l. value_word c w (def.Work GlobalSize d) t l o h (words t m) in
      let local : (l : ℕ) → work w LocalSize (x l 0) < 2 ^ 32 = λ l. value_word c w (def.Work LocalSize d) t l o h (words t m) in
      division_kept w n i c.vals (d ∷ []) (low_one c.vals d hd) enough v (def.Work NumGroups d) sizes [] (Two op.Add quotient_temp zero_temp) s t
      (λ l. work w GlobalSize (x l 0)) (λ l. work w LocalSize (x l 0)) (λ l. temps_of t c.vals l 13) (λ l. temps_of t c.vals l 14) m hv
      (λ l q. global l)
      (λ l q. sizes_open w l (x l) (temps_of t c.vals l) (global l) (local l))
      (λ l q y busy e. quotient_closes (work w GlobalSize (x l 0)) (work w LocalSize (x l 0)) _ _ y (global l) busy e
      ∙ groups (nat_lt (x l 0) 3) (w.global (x l 0)) (w.local (x l 0)) ∙ (λ j. work w NumGroups (m.same.vals d.0 hd j l)))
      (λ l q. value_word c w (def.Work NumGroups d) s l o h m.words)
      (omega arith)
    where
      words : (t : State) → Met c.vals s t → Words c.vals t
      words t m = record {
        vals = λ v l q. let e : t.vals v l ≡ s.vals v l = λ z. m.same.vals v q z l in let b = m.words.vals v l q in omega (arith, e, b);
        vars = λ v l. let e : t.vars v l ≡ s.vars v l = λ z. m.same.vars z v l in let b = m.words.vars v l in omega (arith, e, b);
        arrays = λ r e l. let q : t.arrays r e l ≡ s.arrays r e l = λ z. m.same.arrays z r e l in let b = m.words.arrays r e l in omega (arith, q, b);
      }

  work_kept : (v : ℕ) (which : WorkFunction) (d : Val) (s t : State) → v < c.vals → is_def c (def.Work which d) ≡ true → Met c.vals s t
      → EndsAs c.vals (Ends (defines w n v (def.Work which d) s)) (run_all w n i (expanded c.vals v (def.Work which d)) t)
  work_kept v NumGroups d s t hv h m = groups_kept v d s t hv h m
  work_kept v which d s t hv h m = same_kept c w n i v (def.Work which d) s t o hv h m

  pub defs_kept : DefsKept (expanded c.vals) c w n i
  defs_kept v (def.Bin q a b) s t hv h m = two_kept v q a b s t hv h m
  defs_kept v (def.Work which d) s t hv h m = work_kept v which d s t hv h m
  defs_kept v d s t hv h m = same_kept c w n i v d s t o hv h m
