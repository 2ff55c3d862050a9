-- Definitions that a pass leaves as they are.
use Rattle.std.proofs.Common.{◌≡◌, ℕ, ◌/◌, ◌^◌, ◌<◌, true, List, [], ◌∷◌, refl, ap, arith}
use Rattle.std.specs.Prelude.{◌==◌, ◌&&◌, nat_lt, if◌then◌else◌, map}
use Rattle.std.proofs.lemmas.Bool.{and_parts, ltb-true}
use Rattle.std.proofs.Math.Nat.{div-le_self}
use Rattle.q_lane.proofs.WordLaws.{applied-below, applied_one-below}
use Rattle.q_lane.specs.Numbers.{applied, applied_one}
use Rattle.q_functions.specs.NumberFunctions.{number_function}
use Rattle.q_functions.proofs.WordsStay.{number_function-below}
use Rattle.item_ir.specs.declared.form.Val.{Val}
use Rattle.q_functions.specs.declared.functions.WorkFunction.{WorkFunction}
use Rattle.q_functions.specs.declared.functions.WorkFunction.TheVariants.{WorkDim, GlobalId, GlobalSize, LocalId, LocalSize, GroupId, NumGroups}
use Rattle.item_ir.specs.declared.form.Def.{Def}
use Rattle.item_ir.specs.declared.form.Def.TheVariants.{Const, Param, Work, Get, Bin, One, Built, Choose, Load, Element, Flat, Items}
use Rattle.lane_ir.specs.LaneMeaning.{World, State, Ends, chosen, work, value, defines, run_all}
use Rattle.lane_ir.specs.Valid.{Counts, is_val, are_vals, is_size, is_def}
use Rattle.lane_ir.specs.Kept.{IsWorld, Words, Met, EndsAs}
use Rattle.lane_ir.specs.declared.form.LaneStmt.TheVariants.{Let}
use Rattle.lane_ir.proofs.Steps.{if_below, row_below, chosen_below}

module _ (c : Counts) where
  low : (a : Val) → is_val c a ≡ true → a.0 < c.vals
  low a h = ltb-true a.0 c.vals h

  args_same : (args : List Val) (s t : State) (l : ℕ) → are_vals c args ≡ true → Met c.vals s t → map (λ a. t.vals a.0 l) args ≡ map (λ a. s.vals a.0 l) args
  args_same [] s t l h m = refl
  args_same (a ∷ rest) s t l h m =
      let p = and_parts (is_val c a) (are_vals c rest) h in
      λ i. m.same.vals a.0 (low a p.0) i l ∷ args_same rest s t l p.1 m i

  pub value_same : (w : World) (d : Def) (s t : State) (l : ℕ) → is_def c d ≡ true → Met c.vals s t → value w t l d ≡ value w s l d
  value_same w (Const x) s t l h m = refl
  value_same w (Param p) s t l h m = refl
  value_same w (Work which d) s t l h m = let p = and_parts (is_size which) (is_val c d) h in λ i. work w which (m.same.vals d.0 (low d p.1) i l)
  value_same w (Get x) s t l h m = λ i. m.same.vars i x l
  value_same w (Bin op a b) s t l h m = let p = and_parts (is_val c a) (is_val c b) h in λ i. applied op (m.same.vals a.0 (low a p.0) i l) (m.same.vals b.0 (low b p.1) i l)
  value_same w (One op a) s t l h m = λ i. applied_one op (m.same.vals a.0 (low a h) i l)
  value_same w (Built n y args) s t l h m = ap (number_function n y) (args_same args s t l h m)
  value_same w (Choose a b d) s t l h m =
      let p = and_parts (is_val c a) (is_val c b && is_val c d) h in
      let q = and_parts (is_val c b) (is_val c d) p.1 in
      λ i. chosen (m.same.vals a.0 (low a p.0) i l) (m.same.vals b.0 (low b q.0) i l) (m.same.vals d.0 (low d q.1) i l)
  value_same w (Load y a) s t l h m = refl
  value_same w (Element a i) s t l h m = refl
  value_same w Flat s t l h m = refl
  value_same w Items s t l h m = refl

  work_below : (w : World) (which : WorkFunction) (d : ℕ) → IsWorld w → work w which d < 2 ^ 32
  work_below w WorkDim d o = o.dims
  work_below w GlobalId d o = omega arith
  work_below w GlobalSize d o = if_below (nat_lt d 3) (w.global d) 1 (o.global d) (omega arith)
  work_below w LocalId d o = omega arith
  work_below w LocalSize d o = if_below (nat_lt d 3) (w.local d) 1 (o.local d) (omega arith)
  work_below w GroupId d o = omega arith
  work_below w NumGroups d o = if_below (nat_lt d 3) (w.global d / w.local d) 1 (let a = div-le_self (w.global d) (w.local d) in let b = o.global d in omega (arith, a, b)) (omega arith)

  pub value_word : (w : World) (d : Def) (s : State) (l : ℕ) → IsWorld w → is_def c d ≡ true → Words c.vals s → value w s l d < 2 ^ 32
  value_word w (Const x) s l o h m = ltb-true x (2 ^ 32) h
  value_word w (Param p) s l o h m = o.params p
  value_word w (Work which d) s l o h m = work_below w which (s.vals d.0 l) o
  value_word w (Get x) s l o h m = m.vars x l
  value_word w (Bin op a b) s l o h m = let p = and_parts (is_val c a) (is_val c b) h in applied-below op _ _ (m.vals a.0 l (low a p.0)) (m.vals b.0 l (low b p.1))
  value_word w (One op a) s l o h m = applied_one-below op _ (m.vals a.0 l (low a h))
  value_word w (Built n y args) s l o h m = number_function-below n y _
  value_word w (Choose a b d) s l o h m =
      let p = and_parts (is_val c a) (is_val c b && is_val c d) h in
      let q = and_parts (is_val c b) (is_val c d) p.1 in
      chosen_below (s.vals a.0 l) (s.vals b.0 l) (s.vals d.0 l) (m.vals b.0 l (low b q.0)) (m.vals d.0 l (low d q.1))
  value_word w (Load y a) s l o h m = omega arith
  value_word w (Element a i) s l o h m = omega arith
  value_word w Flat s l o h m = omega arith
  value_word w Items s l o h m = o.items

  -- a definition that stays
  pub same_kept : (w : World) (n i v : ℕ) (d : Def) (s t : State) → IsWorld w → v < c.vals → is_def c d ≡ true → Met c.vals s t
      → EndsAs c.vals (Ends (defines w n v d s)) (run_all w n i (Let (record { 0 = v }) d ∷ []) t)
  same_kept w n i v d s t o hv h m = (
    defines w n v d t,
    refl,
    record {
      same = record {
        vals = λ x g. λ z. if x == v then (λ l. if nat_lt l n then value_same w d s t l h m z else 0) else m.same.vals x g z;
        vars = m.same.vars;
        arrays = m.same.arrays;
        mem = m.same.mem;
        log = m.same.log;
        transfers = m.same.transfers;
        steps = omega (arith, m.same.steps);
      };
      words = record {
        vals = λ x l g. row_below (x == v) (λ j. if nat_lt j n then value w s j d else 0) (s.vals x) l (if_below (nat_lt l n) (value w s l d) 0 (value_word w d s l o h m.words) (omega arith)) (m.words.vals x l g);
        vars = m.words.vars;
        arrays = m.words.arrays;
      };
    },
  )
