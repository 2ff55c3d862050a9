-- A kernel of a form that is built so far has one node.
use Rattle.std.proofs.Common.{◌≡◌, ℕ, zero, suc, ◌+◌, ◌<◌, List, [], ◌∷◌, ◌++◌, refl, sym, ap, ◌∙◌, arith, length, length-append}
use Rattle.std.specs.Prelude.{true, false, Some, slice_get, slice_index_or, map}
use Rattle.clc_types.specs.declared.typed.Var.{Var}
use Rattle.clc_types.specs.declared.typed.Var.TheVariants as var
use Rattle.clc_types.specs.declared.typed.TStmt.{TStmt, out-TStmt, roll-out-TStmt}
use Rattle.clc_types.specs.declared.typed.TStmt.TheOpen as o
use Rattle.clc_types.specs.declared.typed.TStmt.TheOpen.{TStmt-F}
use Rattle.clc_types.specs.declared.typed.TStmt.TheFolds.{fold-roll-TStmt}
use Rattle.clc_types.specs.declared.typed.TStmt.{roll-TStmt}
use Rattle.clc_types.specs.declared.typed.TFunction.{TFunction}
use Rattle.clc_counts.specs.declared.tally.Tally.{Tally}
use Rattle.clc_counts.specs.Counts.{none, sum, array_tally, Counted, summed, stmt_count, stmt_counts, function_count, counted_after, tally_of}
use Rattle.compile_pipe.specs.Profile.{is_empty_block}

-- ---- a function

array_nodes : (v : Var) → (array_tally v).nodes ≡ 0
array_nodes (var.Value t) = refl
array_nodes (var.Pointer t c) = refl
array_nodes (var.Array t n) = refl

-- variables are no nodes
vars_nodes : (vars : List Var) (t : Tally) → (summed sum t (map array_tally vars)).nodes ≡ t.nodes
vars_nodes [] t = refl
vars_nodes (v ∷ vars) t = let n = array_nodes v in let h = vars_nodes vars (sum t (array_tally v)) in omega (arith, n, h)

open_nodes : (ts : List Tally) (x : TStmt-F TStmt) → is_empty_block x ≡ true → (stmt_counts sum ts (roll-TStmt x)).whole.nodes ≡ 1
open_nodes ts (o.Block []) h = ap (λ (c : Counted). c.whole.nodes) (fold-roll-TStmt Counted (stmt_count sum ts) (o.Block []))
open_nodes ts (o.Block (a ∷ rest)) h = absurd (let no : false ≡ true = h in cc)
open_nodes ts (o.Declare v i) h = absurd (let no : false ≡ true = h in cc)
open_nodes ts (o.Eval e) h = absurd (let no : false ≡ true = h in cc)
open_nodes ts o.Empty h = absurd (let no : false ≡ true = h in cc)
open_nodes ts (o.If c a b) h = absurd (let no : false ≡ true = h in cc)
open_nodes ts (o.While c body) h = absurd (let no : false ≡ true = h in cc)
open_nodes ts (o.Do body c) h = absurd (let no : false ≡ true = h in cc)
open_nodes ts (o.For init c step body) h = absurd (let no : false ≡ true = h in cc)
open_nodes ts o.Break h = absurd (let no : false ≡ true = h in cc)
open_nodes ts o.Continue h = absurd (let no : false ≡ true = h in cc)
open_nodes ts (o.Return x) h = absurd (let no : false ≡ true = h in cc)

function_nodes : (ts : List Tally) (f : TFunction) → is_empty_block (out-TStmt f.body) ≡ true → (function_count sum ts f).nodes ≡ 1
function_nodes ts f h =
    vars_nodes f.vars (stmt_counts sum ts f.body).whole
    ∙ ap (λ b. (stmt_counts sum ts b).whole.nodes) (sym (roll-out-TStmt f.body)) ∙ open_nodes ts (out-TStmt f.body) h

-- ---- among others

last_one : (done : List Tally) (c : Tally) → slice_index_or (done ++ c ∷ []) (length done) none ≡ c
last_one [] c = refl
last_one (d ∷ done) c = last_one done c

first_ones : (done more : List Tally) (k : ℕ) → k < length done → slice_index_or (done ++ more) k none ≡ slice_index_or done k none
first_ones [] more k lt = absurd (omega (arith, lt))
first_ones (d ∷ done) more zero lt = refl
first_ones (d ∷ done) more (suc k) lt = first_ones done more k (omega (arith, lt))

stays : (fs : List TFunction) (done : List Tally) (k : ℕ) → k < length done → slice_index_or (counted_after sum done fs) k none ≡ slice_index_or done k none
stays [] done k lt = refl
stays (f ∷ fs) done k lt =
    let c : List Tally = function_count sum done f ∷ [] in
    let n = length-append done c in
    stays fs (done ++ c) k (omega (arith, lt, n)) ∙ first_ones done c k lt

counted_there : (fs : List TFunction) (done : List Tally) (n : ℕ) (f : TFunction) → slice_get fs n ≡ Some f → (ts : List Tally) × (slice_index_or (counted_after sum done fs) (length done + n) none ≡ function_count sum ts f)
counted_there [] done n f there = absurd cc
counted_there (g ∷ fs) done zero f there =
    let same : g ≡ f = cc in
    let c : List Tally = function_count sum done g ∷ [] in
    let n = length-append done c in
    let at : length done + 0 ≡ length done = omega arith in
    (done, ap (λ k. slice_index_or (counted_after sum (done ++ c) fs) k none) at ∙ stays fs (done ++ c) (length done) (omega (arith, n)) ∙ last_one done (function_count sum done g) ∙ ap (function_count sum done) same)
counted_there (g ∷ fs) done (suc n) f there =
    let c : List Tally = function_count sum done g ∷ [] in
    let l = length-append done c in
    let at : length done + suc n ≡ length (done ++ c) + n = omega (arith, l) in
    let h = counted_there fs (done ++ c) n f there in
    (h.0, ap (λ k. slice_index_or (counted_after sum (done ++ c) fs) k none) at ∙ h.1)

pub one_node : (functions : List TFunction) (n : ℕ) (f : TFunction) → slice_get functions n ≡ Some f → is_empty_block (out-TStmt f.body) ≡ true → (tally_of functions n).nodes ≡ 1
one_node functions n f there empty =
    let h = counted_there functions [] n f there in
    let at : n ≡ 0 + n = omega arith in
    ap (λ k. (slice_index_or (counted_after sum [] functions) k none).nodes) at ∙ ap (λ (t : Tally). t.nodes) h.1 ∙ function_nodes h.0 f empty
