-- A kernel of a form that is built so far does nothing.
use Rattle.std.proofs.Common.{◌≡◌, ℕ, zero, suc, ◌-◌, List, [], ◌∷◌, refl, sym, ap, ◌∙◌, arith, rules, tests}
use Rattle.std.proofs.Math.Path.{fun_ext}
use Rattle.std.proofs.lemmas.Bool.{le-ltb}
use Rattle.std.specs.Prelude.{Bool, true, false, ◌&&◌, eqb, nat_eq, nat_lt, if◌then◌else◌, Some, slice_get, map, take}
use Rattle.q_functions.specs.declared.work.Work.{Work}
use Rattle.q_functions.specs.WorkFunctions.{work_of}
use Rattle.launch_file.specs.Launches.{LaunchOf}
use Rattle.launch_meaning.specs.declared.ends.ItemEnd.{ItemEnd}
use Rattle.launch_meaning.specs.declared.ends.ItemEnd.TheVariants as e
use Rattle.clc_types.specs.declared.typed.Var.{Var}
use Rattle.clc_types.specs.declared.typed.TStmt.{TStmt, Row_of-TStmt, end_of-TStmt, more_of-TStmt, out-TStmt, roll-TStmt, roll-out-TStmt}
use Rattle.clc_types.specs.declared.typed.TStmt.TheBlock.{hidden-the_row-TStmt-0, items-the_row-TStmt, items_hidden-the_row-TStmt-0}
use Rattle.clc_types.specs.declared.typed.TStmt.TheOpen as o
use Rattle.clc_types.specs.declared.typed.TStmt.TheOpen.{TStmt-F}
use Rattle.clc_types.specs.declared.typed.TStmt.TheVariants as st
use Rattle.clc_types.specs.declared.typed.TFunction.{TFunction}
use Rattle.clc_front.specs.Profile.{HasKernel}
use Rattle.clc_front.specs.Kinds.{kind_of, kinds_of, kinds_at}
use Rattle.clc_front.proofs.Violations.{judged_once}
use Rattle.clc_counts.specs.Counts.{tally_of}
use Rattle.item_meaning.specs.declared.values.Value.{Value}
use Rattle.item_meaning.specs.ItemState.{State, then_do, node}
use Rattle.item_meaning.specs.declared.values.Flow.{Flow}
use Rattle.item_meaning.specs.NodeMeanings.{Part}
use Rattle.item_meaning.specs.StatementMeanings.{block_flow, no_flow, call_end}
use Rattle.item_meaning.specs.ItemMeaning.{Calls, does, does_all, entered, back_in, called, calls_below, value_of_arg, opening, item_end, item}
use Rattle.promise.specs.Kernel.{Kernel, idle_item, idle_kernel}
use Rattle.compile_pipe.specs.Profile.{is_empty_block, is_built, IsInProfile}
use Rattle.compile_pipe.specs.Kernels.{kernel_at, IsKernel}
use Rattle.compile_pipe.proofs.IdleNodes.{one_node}

-- ---- a function of such a form

first_of : (b c : Bool) → b && c ≡ true → b ≡ true
first_of true c h = refl
first_of false c h = h

second_of : (b c : Bool) → b && c ≡ true → c ≡ true
second_of true c h = h
second_of false c h = absurd (let no : false ≡ true = h in cc)

no_params : (n : ℕ) → eqb n 0 ≡ true → n ≡ 0
no_params n h = search (rules, tests)

module _ (work : Work) (calls : Calls) where
  -- an empty block takes its turn
  no_row : (vars : List Var) {k : _} (row : Row_of-TStmt k) (s : State) → items-the_row-TStmt k row ≡ [] → does_all work calls vars row s ≡ no_flow s
  no_row vars end_of-TStmt s h = refl
  no_row vars (more_of-TStmt a rest) s h = absurd (cc)

  no_statements : (vars : List Var) (s : State) → does work calls vars (st.Block []) s ≡ block_flow no_flow s
  no_statements vars s = ap (λ (p : Part Flow). node s p) (fun_ext (λ t. no_row vars (hidden-the_row-TStmt-0 []) t (items_hidden-the_row-TStmt-0 [])))

  open_nothing : (vars : List Var) (shape : TStmt-F TStmt) (s : State) → is_empty_block shape ≡ true → does work calls vars (roll-TStmt shape) s ≡ block_flow no_flow s
  open_nothing vars (o.Block []) s h = ap (λ body. does work calls vars body s) (st.rolls-Block []) ∙ no_statements vars s
  open_nothing vars (o.Block (x ∷ xs)) s h = absurd (let no : false ≡ true = h in cc)
  open_nothing vars (o.Declare v init) s h = absurd (let no : false ≡ true = h in cc)
  open_nothing vars (o.Eval x) s h = absurd (let no : false ≡ true = h in cc)
  open_nothing vars o.Empty s h = absurd (let no : false ≡ true = h in cc)
  open_nothing vars (o.If c one other) s h = absurd (let no : false ≡ true = h in cc)
  open_nothing vars (o.While c body) s h = absurd (let no : false ≡ true = h in cc)
  open_nothing vars (o.Do body c) s h = absurd (let no : false ≡ true = h in cc)
  open_nothing vars (o.For init c step body) s h = absurd (let no : false ≡ true = h in cc)
  open_nothing vars o.Break s h = absurd (let no : false ≡ true = h in cc)
  open_nothing vars o.Continue s h = absurd (let no : false ≡ true = h in cc)
  open_nothing vars (o.Return x) s h = absurd (let no : false ≡ true = h in cc)

  does_nothing : (vars : List Var) (body : TStmt) (s : State) → is_empty_block (out-TStmt body) ≡ true → does work calls vars body s ≡ block_flow no_flow s
  does_nothing vars body s h = ap (λ b. does work calls vars b s) (sym (roll-out-TStmt body)) ∙ open_nothing vars (out-TStmt body) s h

  -- what the call of such a function comes to
  abbrev ended : TFunction → (turns : ℕ) → List Value → List (List ℕ) → ItemEnd
  ended f turns xs buffers = item_end turns (then_do (block_flow no_flow (entered f xs (opening buffers turns))) (λ flow t. call_end f.result flow (back_in (opening buffers turns) t)))

  one_turn : (launch : LaunchOf) (f : TFunction) (id turns : ℕ) (xs : List Value) (buffers : List (List ℕ)) → ended f turns xs buffers ≡ idle_item launch id buffers turns
  unfolding idle_item
  one_turn launch f id zero xs buffers = refl
  one_turn launch f id (suc n) xs buffers =
      let one : suc n - n ≡ 1 = omega arith in
      let late : nat_lt (suc n) 1 ≡ false = le-ltb (suc n) 1 (omega arith) in
      ap (λ t. e.Ends (record { buffers = buffers; marks = []; turns = t })) one
      ∙ sym (ap (λ (b : Bool). if b then e.Spent else e.Ends (record { buffers = buffers; marks = []; turns = 1 })) late)

-- ---- items

same_number : (n : ℕ) → nat_eq n n ≡ true
same_number n = search (rules, tests)

call_there : (work : Work) (functions : List TFunction) (n : ℕ) (f : TFunction) (xs : List Value) (s : State) → slice_get functions n ≡ Some f
    → calls_below work functions (suc n) n xs s ≡ called work (calls_below work functions n) (Some f) xs s
call_there work functions n f xs s there =
    ap (λ b. if b then called work (calls_below work functions n) (slice_get functions n) xs s else calls_below work functions n n xs s) (same_number n)
    ∙ ap (λ found. called work (calls_below work functions n) found xs s) there

idle_here : (functions : List TFunction) (n : ℕ) (f : TFunction) (launch : LaunchOf) (id : ℕ) (buffers : List (List ℕ)) (turns : ℕ) → slice_get functions n ≡ Some f → is_built f ≡ true
    → item functions n launch id buffers turns ≡ idle_item launch id buffers turns
unfolding item
idle_here functions n f launch id buffers turns there built =
    let work : Work = work_of launch.dims launch.global launch.local id in
    let xs : List Value = map value_of_arg launch.args in
    let calls : Calls = calls_below work functions n in
    let s : State = opening buffers turns in
    ap (item_end turns) (call_there work functions n f xs s there)
    ∙ ap (λ run. item_end turns (then_do run (λ flow t. call_end f.result flow (back_in s t)))) (does_nothing work calls f.vars f.body (entered f xs s) (second_of (eqb f.params 0) (is_empty_block (out-TStmt f.body)) built))
    ∙ one_turn work calls launch f id turns xs buffers

kinds_here : (functions : List TFunction) (n : ℕ) (f : TFunction) → slice_get functions n ≡ Some f → kinds_at functions n ≡ kinds_of f
kinds_here [] n f there = absurd cc
kinds_here (x ∷ functions) zero f there = let same : x ≡ f = cc in ap kinds_of same
kinds_here (x ∷ functions) (suc n) f there = kinds_here functions n f there

same_item : (f g : LaunchOf → ℕ → List (List ℕ) → ℕ → ItemEnd) → ((launch : LaunchOf) (id : ℕ) (buffers : List (List ℕ)) (turns : ℕ) → f launch id buffers turns ≡ g launch id buffers turns) → f ≡ g
same_item f g h = λ i launch id buffers turns. h launch id buffers turns i

built_is_idle : (functions : List TFunction) (n : ℕ) (f : TFunction) → slice_get functions n ≡ Some f → is_built f ≡ true → kernel_at functions n ≡ idle_kernel
built_is_idle functions n f there built =
    let none : kinds_at functions n ≡ [] = kinds_here functions n f there ∙ ap (λ k. map kind_of (take k f.vars)) (no_params f.params (first_of (eqb f.params 0) (is_empty_block (out-TStmt f.body)) built)) in
    let empty = second_of (eqb f.params 0) (is_empty_block (out-TStmt f.body)) built in
    ap (λ kinds. record { kinds = kinds; nodes = (tally_of functions n).nodes; item = item functions n }) none
    ∙ ap (λ nodes. record { kinds = []; nodes = nodes; item = item functions n }) (one_node functions n f there empty)
    ∙ ap (λ it. record { kinds = []; nodes = 1; item = it }) (same_item (item functions n) idle_item (λ launch id buffers turns. idle_here functions n f launch id buffers turns there built))

-- the kernel of a source in the profile
pub kernel_is_idle : (source name : List ℕ) (functions : List TFunction) (number : ℕ) → IsInProfile source name → HasKernel source name functions number → kernel_at functions number ≡ idle_kernel
kernel_is_idle source name functions number lawful has =
    let same = judged_once.same source name functions lawful.functions number lawful.number has lawful.wanted.has in
    ap (λ fs. kernel_at fs number) same.0 ∙ ap (kernel_at lawful.functions) same.1 ∙ built_is_idle lawful.functions lawful.number lawful.function lawful.wanted.there lawful.built

pub is_idle : (source name : List ℕ) (k : Kernel) → IsKernel source name k → k ≡ idle_kernel
is_idle source name k is = is.is ∙ kernel_is_idle source name is.functions is.number is.lawful is.has

pub idle_is_kernel : (source name : List ℕ) → IsInProfile source name → IsKernel source name idle_kernel
idle_is_kernel source name lawful =
    record {
      lawful = lawful;
      functions = lawful.functions;
      number = lawful.number;
      has = lawful.wanted.has;
      is = sym (built_is_idle lawful.functions lawful.number lawful.function lawful.wanted.there lawful.built);
    }
