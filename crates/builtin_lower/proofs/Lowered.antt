-- Each definition's statements do what the definition does.
use Rattle.std.proofs.Common.{◌≡◌, ℕ, zero, suc, ◌+◌, ◌^◌, ◌<◌, ◌≤◌, Bool, true, false, List, [], ◌∷◌, ◌++◌, refl, ap, ◌∙◌, arith, get_or}
use Rattle.std.specs.Prelude.{nat_lt, map, length, if◌then◌else◌}
use Rattle.std.proofs.lemmas.Bool.{and_parts, ltb-true}
use Rattle.q_lane.specs.declared.kinds.Scalar.{Scalar}
use Rattle.q_lane.specs.declared.kinds.Scalar.TheVariants.{Char, Uchar, Short, Ushort, Int, Uint}
use Rattle.q_lane.specs.declared.operations.BinOp.TheVariants as op
use Rattle.q_lane.specs.declared.operations.UnOp.TheVariants as one_op
use Rattle.q_lane.specs.Numbers.{applied, applied_one, narrowed}
use Rattle.q_lane.proofs.WordLaws.{narrowed-below}
use Rattle.item_ir.specs.declared.form.Val.{Val}
use Rattle.item_ir.specs.declared.form.Def.TheVariants as def
use Rattle.item_ir.specs.Memory.{with_at}
use Rattle.lane_ir.specs.Weights.{done}
use Rattle.lane_ir.specs.LaneMeaning.{World, State, Ends, defines, run_all}
use Rattle.lane_ir.specs.Valid.{Counts, is_val, are_vals, is_def}
use Rattle.q_functions.specs.declared.functions.NumberFunction.{NumberFunction}
use Rattle.q_functions.specs.declared.functions.NumberFunction.TheVariants.{Min, Max, Clamp, Abs, AbsDiff, Mul24, MulHi, Rotate, Clz, Popcount, AddSat, SubSat}
use Rattle.q_functions.specs.NumberFunctions.{argument, number_function}
use Rattle.builtin_lower.proofs.BuiltIns.{built_same}
use Rattle.lane_ir.specs.declared.recipe.Act.TheVariants.{Const}
use Rattle.lane_ir.specs.declared.recipe.Step.{Step}
use Rattle.lane_ir.specs.Kept.{IsWorld, Met, EndsAs, DefsKept}
use Rattle.lane_ir.specs.Recipe.{no_val, defining, definition, gives, after, cost}
use Rattle.lane_ir.proofs.Recipes.{Low, args_of, recipe_defines}
use Rattle.lane_ir.proofs.Defs.{value_same, value_word, same_kept}
use Rattle.lane_ir.specs.declared.recipe.Source.TheVariants.{Argument}
use Rattle.builtin_lower.specs.Lower.{Recipe, step, narrow_into, filled, function_recipe, built_steps, lowered_built, lowered, less_signed, less_unsigned, equal, min_unsigned, max_unsigned, narrowing, ones_of}
use Rattle.builtin_lower.proofs.Orders.{copied, less_by_min, less_by_flipped_min, min_by_flipped, max_by_flipped, equal_by_sub}
use Rattle.builtin_lower.proofs.Narrows.{char_word, uchar_word, short_word, ushort_word, whole_word}
use Rattle.builtin_lower.proofs.CountsOnes.{ones_by_halves}
use Rattle.builtin_lower.proofs.Fills.{all_filled}
use Rattle.builtin_lower.proofs.AllFunctions.{function_right}

low_two : (k : ℕ) (a b : Val) → a.0 < k → b.0 < k → Low k (a ∷ b ∷ [])
low_two k a b h g zero = h
low_two k a b h g (suc zero) = g
low_two k a b h g (suc (suc i)) = omega (arith, h)

low_one : (k : ℕ) (a : Val) → a.0 < k → Low k (a ∷ [])
low_one k a h zero = h
low_one k a h (suc i) = omega (arith, h)

-- a recipe gives what the operation gives
abbrev Gives : World → Recipe → ((ℕ → ℕ) → ℕ) → Type 0
Gives w r f = (l : ℕ) (x y : ℕ → ℕ) → x 0 < 2 ^ 32 → x 1 < 2 ^ 32 → gives w l x (after w l x y r.steps) r.last ≡ f x

narrow_gives : (w : World) (t : Scalar) (l : ℕ) (x y : ℕ → ℕ) → x 0 < 2 ^ 32 → gives w l x (after w l x y (narrowing t).steps) (narrowing t).last ≡ narrowed t (x 0)
narrow_gives w Char l x y h = copied _ ∙ char_word (x 0)
narrow_gives w Uchar l x y h = copied _ ∙ uchar_word (x 0)
narrow_gives w Short l x y h = copied _ ∙ short_word (x 0)
narrow_gives w Ushort l x y h = copied _ ∙ ushort_word (x 0)
narrow_gives w Int l x y h = copied _ ∙ (whole_word (x 0) h).0
narrow_gives w Uint l x y h = copied _ ∙ (whole_word (x 0) h).1

ones_gives : (w : World) (l : ℕ) (x y : ℕ → ℕ) → x 0 < 2 ^ 32 → gives w l x (after w l x y (ones_of (Argument 0)).steps) (ones_of (Argument 0)).last ≡ applied_one one_op.Popcount (x 0)
unfolding applied_one
ones_gives w l x y h = copied _ ∙ ones_by_halves w l x (with_at (with_at (with_at y 4 (applied (op.Min true) (x 0) (x 0))) 5 (applied (op.Min true) (x 0) (x 0))) 6 1) (x 0) h refl (copied (x 0)) (copied (x 0))

module _ (c : Counts) (w : World) (n i : ℕ) (o : IsWorld w) where
  two_by : (v : ℕ) (q : op.the_data) (a b : Val) (r : Recipe) (s t : State) → v < c.vals → is_def c (def.Bin q a b) ≡ true → Met c.vals s t
      → Gives w r (λ x. applied q (x 0) (x 1)) → cost (a ∷ b ∷ []) r.steps + done (definition c.vals (a ∷ b ∷ []) r.last) ≤ done (def.Bin q a b)
      → EndsAs c.vals (Ends (defines w n v (def.Bin q a b) s)) (run_all w n i (defining c.vals (a ∷ b ∷ []) r.steps r.last v) t)
  two_by v q a b r s t hv h m right weight =
      let p = and_parts (is_val c a) (is_val c b) h in
      let ha : a.0 < c.vals = ltb-true a.0 c.vals p.0 in
      let hb : b.0 < c.vals = ltb-true b.0 c.vals p.1 in
      recipe_defines w n i c.vals (a ∷ b ∷ []) (low_two c.vals a b ha hb) v (def.Bin q a b) r.steps r.last s t m hv
      (λ l z y.
      let e : t.vals a.0 l ≡ s.vals a.0 l = λ j. m.same.vals a.0 ha j l in
      let f : t.vals b.0 l ≡ s.vals b.0 l = λ j. m.same.vals b.0 hb j l in
      let wa = m.words.vals a.0 l ha in
      let wb = m.words.vals b.0 l hb in
      right l (args_of t (a ∷ b ∷ []) l) y (omega (arith, e, wa)) (omega (arith, f, wb)) ∙ (λ j. applied q (e j) (f j)))
      (λ l z. value_word c w (def.Bin q a b) s l o h m.words) weight

  one_by : (v : ℕ) (q : one_op.the_data) (a : Val) (r : Recipe) (s t : State) → v < c.vals → is_def c (def.One q a) ≡ true → Met c.vals s t
      → ((l : ℕ) (x y : ℕ → ℕ) → x 0 < 2 ^ 32 → gives w l x (after w l x y r.steps) r.last ≡ applied_one q (x 0)) → cost (a ∷ []) r.steps + done (definition c.vals (a ∷ []) r.last) ≤ done (def.One q a)
      → EndsAs c.vals (Ends (defines w n v (def.One q a) s)) (run_all w n i (defining c.vals (a ∷ []) r.steps r.last v) t)
  one_by v q a r s t hv h m right weight =
      let ha : a.0 < c.vals = ltb-true a.0 c.vals h in
      recipe_defines w n i c.vals (a ∷ []) (low_one c.vals a ha) v (def.One q a) r.steps r.last s t m hv
      (λ l z y.
      let e : t.vals a.0 l ≡ s.vals a.0 l = λ j. m.same.vals a.0 ha j l in
      let wa = m.words.vals a.0 l ha in
      right l (args_of t (a ∷ []) l) y (omega (arith, e, wa)) ∙ (λ j. applied_one q (e j)))
      (λ l z. value_word c w (def.One q a) s l o h m.words) weight

  two_kept : (v : ℕ) (q : op.the_data) (a b : Val) (s t : State) → v < c.vals → is_def c (def.Bin q a b) ≡ true → Met c.vals s t
      → EndsAs c.vals (Ends (defines w n v (def.Bin q a b) s)) (run_all w n i (lowered c.vals v (def.Bin q a b)) t)
  two_kept v (op.Less true) a b s t hv h m = two_by v (op.Less true) a b less_signed s t hv h m (λ l x y g e. less_by_min (x 0) (x 1) g e) (omega arith)
  two_kept v (op.Less false) a b s t hv h m = two_by v (op.Less false) a b less_unsigned s t hv h m (λ l x y g e. less_by_flipped_min (x 0) (x 1) g e) (omega arith)
  two_kept v op.Equal a b s t hv h m = two_by v op.Equal a b equal s t hv h m (λ l x y g e. equal_by_sub (x 0) (x 1) g e) (omega arith)
  two_kept v (op.Min false) a b s t hv h m = two_by v (op.Min false) a b min_unsigned s t hv h m (λ l x y g e. min_by_flipped (x 0) (x 1) g e) (omega arith)
  two_kept v (op.Max false) a b s t hv h m = two_by v (op.Max false) a b max_unsigned s t hv h m (λ l x y g e. max_by_flipped (x 0) (x 1) g e) (omega arith)
  two_kept v q a b s t hv h m = same_kept c w n i v (def.Bin q a b) s t o hv h m

  narrow_cost : (t : Scalar) (a : Val) → cost (a ∷ []) (narrowing t).steps + done (definition c.vals (a ∷ []) (narrowing t).last) ≤ 5
  narrow_cost Char a = omega arith
  narrow_cost Uchar a = omega arith
  narrow_cost Short a = omega arith
  narrow_cost Ushort a = omega arith
  narrow_cost Int a = omega arith
  narrow_cost Uint a = omega arith

  one_kept : (v : ℕ) (q : one_op.the_data) (a : Val) (s t : State) → v < c.vals → is_def c (def.One q a) ≡ true → Met c.vals s t
      → EndsAs c.vals (Ends (defines w n v (def.One q a) s)) (run_all w n i (lowered c.vals v (def.One q a)) t)
  unfolding applied_one
  one_kept v (one_op.Narrow y) a s t hv h m = one_by v (one_op.Narrow y) a (narrowing y) s t hv h m (λ l x z g. narrow_gives w y l x z g) (narrow_cost y a)
  one_kept v one_op.Popcount a s t hv h m = one_by v one_op.Popcount a (ones_of (Argument 0)) s t hv h m (λ l x z g. ones_gives w l x z g) (omega arith)
  one_kept v q a s t hv h m = same_kept c w n i v (def.One q a) s t o hv h m

  low_all : (args : List Val) → are_vals c args ≡ true → 0 < c.vals → Low c.vals args
  low_all [] h p i = p
  low_all (a ∷ rest) h p zero = ltb-true a.0 c.vals (and_parts (is_val c a) (are_vals c rest) h).0
  low_all (a ∷ rest) h p (suc i) = low_all rest (and_parts (is_val c a) (are_vals c rest) h).1 p i

  cost-append : (args : List Val) (a b : List Step) → cost args (a ++ b) ≡ cost args a + cost args b
  cost-append args [] b = omega arith
  cost-append args (s ∷ a) b = let e = cost-append args a b in omega (arith, e)

  narrow_few : (args : List Val) (t : Scalar) (i : ℕ) → cost args (narrow_into t i (Argument i)) ≤ 3
  narrow_few args Char i = omega arith
  narrow_few args Uchar i = omega arith
  narrow_few args Short i = omega arith
  narrow_few args Ushort i = omega arith
  narrow_few args Int i = omega arith
  narrow_few args Uint i = omega arith

  either_few : (args : List Val) (b : Bool) (x y : List Step) → cost args x ≤ 3 → cost args y ≤ 3 → cost args (if b then x else y) ≤ 3
  either_few args true x y h g = h
  either_few args false x y h g = g

  fill_few : (args : List Val) (t : Scalar) (i : ℕ) → cost args (filled t (length args) i) ≤ 3
  fill_few args t i = either_few args (nat_lt i (length args)) (narrow_into t i (Argument i)) (step i (Const 0) ∷ []) (narrow_few args t i) (omega arith)

  function_few : (f : NumberFunction) (t : Scalar) (args : List Val) → cost args (function_recipe f t).steps + done (definition c.vals args (function_recipe f t).last) ≤ 80
  function_few Min Char args = omega arith
  function_few Min Uchar args = omega arith
  function_few Min Short args = omega arith
  function_few Min Ushort args = omega arith
  function_few Min Int args = omega arith
  function_few Min Uint args = omega arith
  function_few Max Char args = omega arith
  function_few Max Uchar args = omega arith
  function_few Max Short args = omega arith
  function_few Max Ushort args = omega arith
  function_few Max Int args = omega arith
  function_few Max Uint args = omega arith
  function_few Clamp Char args = omega arith
  function_few Clamp Uchar args = omega arith
  function_few Clamp Short args = omega arith
  function_few Clamp Ushort args = omega arith
  function_few Clamp Int args = omega arith
  function_few Clamp Uint args = omega arith
  function_few MulHi Int args = omega arith
  function_few MulHi Uint args = omega arith
  function_few AbsDiff Char args = omega arith
  function_few AbsDiff Uchar args = omega arith
  function_few AbsDiff Short args = omega arith
  function_few AbsDiff Ushort args = omega arith
  function_few AbsDiff Int args = omega arith
  function_few Abs Char args = omega arith
  function_few Abs Uchar args = omega arith
  function_few Abs Short args = omega arith
  function_few Abs Ushort args = omega arith
  function_few Abs Int args = omega arith
  function_few Abs Uint args = omega arith
  function_few Clz Char args = omega arith
  function_few Clz Uchar args = omega arith
  function_few Clz Short args = omega arith
  function_few Clz Ushort args = omega arith
  function_few Clz Int args = omega arith
  function_few Clz Uint args = omega arith
  function_few Popcount Char args = omega arith
  function_few Popcount Uchar args = omega arith
  function_few Popcount Short args = omega arith
  function_few Popcount Ushort args = omega arith
  function_few Popcount Int args = omega arith
  function_few Popcount Uint args = omega arith
  function_few AbsDiff Uint args = omega arith
  function_few Rotate Char args = omega arith
  function_few Rotate Uchar args = omega arith
  function_few Rotate Short args = omega arith
  function_few Rotate Ushort args = omega arith
  function_few Rotate Int args = omega arith
  function_few Rotate Uint args = omega arith
  function_few Mul24 Uchar args = omega arith
  function_few Mul24 Ushort args = omega arith
  function_few Mul24 Uint args = omega arith
  function_few AddSat Char args = omega arith
  function_few AddSat Uchar args = omega arith
  function_few AddSat Short args = omega arith
  function_few AddSat Ushort args = omega arith
  function_few AddSat Uint args = omega arith
  function_few SubSat Uint args = omega arith
  function_few SubSat Char args = omega arith
  function_few SubSat Uchar args = omega arith
  function_few SubSat Short args = omega arith
  function_few SubSat Ushort args = omega arith
  function_few AddSat Int args = omega arith
  function_few MulHi Uchar args = omega arith
  function_few MulHi Ushort args = omega arith
  function_few SubSat Int args = omega arith
  function_few Mul24 Char args = omega arith
  function_few Mul24 Short args = omega arith
  function_few Mul24 Int args = omega arith
  function_few MulHi Char args = omega arith
  function_few MulHi Short args = omega arith

  built_few : (f : NumberFunction) (t : Scalar) (args : List Val) → cost args (built_steps f t (length args)) + done (definition c.vals args (function_recipe f t).last) ≤ 96
  built_few f t args =
      let n = length args in
      let a = cost-append args (filled t n 0) (filled t n 1 ++ (filled t n 2 ++ (function_recipe f t).steps)) in
      let b = cost-append args (filled t n 1) (filled t n 2 ++ (function_recipe f t).steps) in
      let d = cost-append args (filled t n 2) (function_recipe f t).steps in
      let x = fill_few args t 0 in
      let y = fill_few args t 1 in
      let z = fill_few args t 2 in
      let e = function_few f t args in
      omega (arith, a, b, d, x, y, z, e)

  built_kept : (v : ℕ) (f : NumberFunction) (y : Scalar) (args : List Val) (s t : State) → v < c.vals → is_def c (def.Built f y args) ≡ true → Met c.vals s t
      → EndsAs c.vals (Ends (defines w n v (def.Built f y args) s)) (run_all w n i (lowered_built c.vals v f y args) t)
  unfolding number_function
  built_kept v f y args s t hv h m =
      let low = low_all args h (omega (arith, hv)) in
      recipe_defines w n i c.vals args low v (def.Built f y args) (built_steps f y (length args)) (function_recipe f y).last s t m hv
      (λ l q z.
      let words : (j : ℕ) → t.vals (get_or args j no_val).0 l < 2 ^ 32 = λ j. let a : t.vals (get_or args j no_val).0 l ≡ s.vals (get_or args j no_val).0 l = (λ u. m.same.vals (get_or args j no_val).0 (low j) u l) in let b = m.words.vals (get_or args j no_val).0 l (low j) in omega (arith, a, b) in
      let r = all_filled w l (λ a. t.vals a.0 l) args y words z (function_recipe f y).steps in
      let xs = map (λ a. t.vals a.0 l) args in
      ap (λ g. gives w l (args_of t args l) g (function_recipe f y).last) r.1
      ∙ function_right f y w l (args_of t args l) r.0 _ _ _ r.2 r.3 r.4
      ∙ built_same f y (argument y xs 0) (argument y xs 1) (argument y xs 2) (narrowed-below y _) (narrowed-below y _)
      ∙ value_same c w (def.Built f y args) s t l h m)
      (λ l q. value_word c w (def.Built f y args) s l o h m.words)
      (built_few f y args)

  pub defs_kept : DefsKept (lowered c.vals) c w n i
  defs_kept v (def.Bin q a b) s t hv h m = two_kept v q a b s t hv h m
  defs_kept v (def.One q a) s t hv h m = one_kept v q a s t hv h m
  defs_kept v (def.Built f y args) s t hv h m = built_kept v f y args s t hv h m
  defs_kept v d s t hv h m = same_kept c w n i v d s t o hv h m
