-- The kernel: its own variables are the first of the body's.
use Rattle.std.proofs.Common.{◌≡◌, ℕ, suc, ◌+◌, ◌-◌, ◌<◌, ◌≤◌, inl, inr, true, false, List, [], ◌∷◌, ◌++◌, Option, Some, None, take, length, refl, sym, ap, ◌∙◌, subst, arith}
use Rattle.std.specs.Prelude.{map, slice_get, slice_index_or, replicate}
use Rattle.std.proofs.lemmas.List.{length-replicate}
use Rattle.q_lane.specs.declared.kinds.Scalar.{Scalar}
use Rattle.q_functions.specs.WorkFunctions.{work_of}
use Rattle.q_functions.specs.declared.work.Work.{Work}
use Rattle.launch_file.specs.declared.launch.Arg.{Arg}
use Rattle.clc_types.specs.declared.typed.TFunction.{TFunction}
use Rattle.clc_types.specs.WellTyped.{is_well_typed}
use Rattle.clc_inline.specs.declared.whole.Body.{Body}
use Rattle.clc_inline.specs.declared.body.TStmt.{TStmt as BodyStmt}
use Rattle.clc_inline.specs.Inlining.{Made, just, kernel_made, params_in, bodies_below, stmt_made}
use Rattle.clc_inline.specs.Inlines.{IsInlined}
use Rattle.item_meaning.specs.declared.values.Value.{Value}
use Rattle.item_meaning.specs.declared.values.Value.TheVariants.{Null}
use Rattle.item_meaning.specs.declared.values.Flow.{Flow}
use Rattle.item_meaning.specs.declared.values.Flow.TheVariants.{Next, Broke, Again, Returned}
use Rattle.item_meaning.specs.ItemState.{State, Run, Goes, Bounds, Spent, then_do}
use Rattle.item_meaning.specs.Operators.{converted}
use Rattle.item_meaning.specs.StatementMeanings.{var_at, type_of, fallen_off, returned_as, call_end}
use Rattle.item_meaning.specs.ItemMeaning.{as_params, entered, back_in, calls_below, does, value_of_arg, opening, item_end, item}
use Rattle.body_meaning.specs.BodyMeaning.{does as body_does, opening as body_opening, item as body_item}
use Rattle.launch_meaning.specs.declared.ends.ItemEnd.TheVariants as end
use Rattle.inline_law.proofs.Frames.{SameFlow, Framed, Follows}
use Rattle.inline_law.specs.Inlined.{Means}
use Rattle.inline_law.proofs.Growing.{Begins, begins_same, roomy}
use Rattle.inline_law.proofs.Frame.{le_cases, none_else, frame_param, frame_other, frame_many}
use Rattle.inline_law.proofs.Facts.{params_within, body_fits}
use Rattle.inline_law.proofs.Lookups.{function_called}
use Rattle.inline_law.proofs.Calls.{stands_behind, related}

from_zero : (u : ℕ) → 0 + u ≡ u
from_zero u = omega arith

-- ---- where they begin

module _ (f : TFunction) (body : Body) (params : body.params ≡ f.params) (within : f.params ≤ length f.vars) (fits : Begins f.vars body.vars.items) where
  same : (u : ℕ) → u < length f.vars → var_at body.vars.items u ≡ var_at f.vars u
  same u lt = subst (λ z. var_at body.vars.items z ≡ var_at f.vars u) (from_zero u) (stands_behind [] f.vars body.vars.items fits u lt)

  enough : length f.vars ≤ length body.vars.items
  enough = roomy (length f.vars) f.vars body.vars.items (omega arith) fits

  kernel_vars : (xs : List Value) (u : ℕ) → f.params ≤ length xs → u < length f.vars
      → slice_index_or (as_params (take f.params f.vars) xs ++ replicate (length f.vars - f.params) Null) u Null
      ≡ slice_index_or (as_params (take f.params body.vars.items) xs ++ replicate (length body.vars.items - f.params) Null) u Null
  kernel_vars xs u many lt =
      let all : f.params ≤ length body.vars.items = omega (arith, within, enough) in
      elim (le_cases u f.params) [
        | inl h ↦
            frame_param f.vars f.params xs (replicate (length f.vars - f.params) Null) u within many h
            ∙ ap (λ z. converted (type_of z) (slice_index_or xs u Null)) (sym (same u lt))
            ∙ sym (frame_param body.vars.items f.params xs (replicate (length body.vars.items - f.params) Null) u all many h)
        | inr h ↦
            frame_other f.vars f.params xs (length f.vars - f.params) u within h
            ∙ sym (frame_other body.vars.items f.params xs (length body.vars.items - f.params) u all h)
      ]

  abbrev opened : List Value → List (List ℕ) → ℕ → State
  opened xs buffers turns =
      record {
        vars = as_params (take f.params body.vars.items) xs ++ replicate (length body.vars.items - f.params) Null;
        arrays = replicate (length body.vars.items) [];
        buffers = buffers;
        marks = [];
        left = turns;
      }

  opened_framed : (xs : List Value) (buffers : List (List ℕ)) (turns : ℕ) → f.params ≤ length xs
      → Framed (length f.vars) 0 f.params (length body.vars.items) (entered f xs (opening buffers turns)) (opened xs buffers turns)
  opened_framed xs buffers turns many =
      let all : f.params ≤ length body.vars.items = omega (arith, within, enough) in
      let whole = frame_many body.vars.items f.params xs all many in
      let arrays = length-replicate (length body.vars.items) [] in
      record {
        vars = λ u lt. kernel_vars xs u many lt ∙ ap (λ z. slice_index_or (opened xs buffers turns).vars z Null) (sym (from_zero u));
        arrays = λ u low lt. none_else (length f.vars) u [] ∙ sym (none_else (length body.vars.items) (0 + u) []);
        own = frame_many f.vars f.params xs within many;
        own_arrays = length-replicate (length f.vars) [];
        room = omega (arith, whole, enough);
        room_arrays = omega (arith, arrays, enough);
        all = whole;
        all_arrays = arrays;
        buffers = refl;
        marks = refl;
        left = refl;
      }

  opening_framed : (xs : List Value) (buffers : List (List ℕ)) (turns : ℕ) → f.params ≤ length xs
      → Framed (length f.vars) 0 f.params (length body.vars.items) (entered f xs (opening buffers turns)) (body_opening body xs buffers turns)
  opening_framed xs buffers turns many =
      subst (λ p. Framed (length f.vars) 0 f.params (length body.vars.items) (entered f xs (opening buffers turns))
      (record {
        vars = as_params (take p body.vars.items) xs ++ replicate (length body.vars.items - p) Null;
        arrays = replicate (length body.vars.items) [];
        buffers = buffers;
        marks = [];
        left = turns;
      })) (sym params) (opened_framed xs buffers turns many)

-- ---- where they end

module _ (n base skip whole turns : ℕ) (r : Option Scalar) (s0 : State) where
  left_same : (s w : State) (v x : Value) → Framed n base skip whole s w → item_end turns (Goes x w) ≡ item_end turns (Goes v (back_in s0 s))
  left_same s w v x a = λ i. end.Ends (record { buffers = sym a.buffers i; marks = sym a.marks i; turns = turns - sym a.left i })

  flow_end : (f : Flow) (s w : State) → Framed n base skip whole s w → item_end turns (call_end None f w) ≡ item_end turns (call_end r f (back_in s0 s))
  flow_end Next s w a = left_same s w (fallen_off r) Null a
  flow_end Broke s w a = refl
  flow_end Again s w a = refl
  flow_end (Returned v) s w a = left_same s w (returned_as r v) Null a

  same_end : (t : State) (p q : Run Flow) → Follows n base skip whole SameFlow t p q → item_end turns (then_do q (call_end None)) ≡ item_end turns (then_do p (λ flow u. call_end r flow (back_in s0 u)))
  same_end t (Goes f s) (Goes d w) h = subst (λ z. item_end turns (call_end None z w) ≡ item_end turns (call_end r f (back_in s0 s))) h.0 (flow_end f s w h.1)
  same_end t (Goes f s) (Bounds q) h = absurd h
  same_end t (Goes f s) Spent h = absurd h
  same_end t (Bounds p) (Goes d w) h = absurd h
  same_end t (Bounds p) (Bounds q) h = ap end.Bounds (sym h)
  same_end t (Bounds p) Spent h = absurd h
  same_end t Spent (Goes d w) h = absurd h
  same_end t Spent (Bounds q) h = absurd h
  same_end t Spent Spent h = refl

-- ---- all of it

module _ (functions : List TFunction) (kernel : ℕ) (f : TFunction) (body : Body) (typed : is_well_typed functions ≡ true) (found : slice_get functions kernel ≡ Some f) (made_so : IsInlined functions kernel body) where
  abbrev M : Made BodyStmt
  M = stmt_made functions (bodies_below functions kernel) 0 f.body f.vars

  made_is : just body.body body.vars.items ≡ M
  made_is = made_so.made ∙ ap (kernel_made functions kernel) found

  params_are : body.params ≡ f.params
  params_are = made_so.params ∙ ap params_in found

  vars_are : M.vars ≡ body.vars.items
  vars_are = sym (ap (λ (m : Made BodyStmt). m.vars) made_is)

  body_is : M.made ≡ body.body
  body_is = sym (ap (λ (m : Made BodyStmt). m.made) made_is)

  begins_body : Work → Begins f.vars body.vars.items
  begins_body work = subst (λ z. Begins f.vars z) vars_are ((related functions typed work kernel f found 0 f.vars (λ u lt. ap (λ z. var_at f.vars z) (from_zero u))).0 f.vars)

  pub begins : (body.params ≡ f.params) × (f.params ≤ length f.vars) × Begins f.vars body.vars.items
  begins = (params_are, params_within functions kernel f typed found, begins_body (work_of 1 [] [] 0))

  args_many : (l : List Arg) → length (map value_of_arg l) ≡ length l
  args_many [] = refl
  args_many (x ∷ xs) = ap suc (args_many xs)

  pub means : Means functions kernel body
  unfolding item body_item
  means launch id buffers turns enough =
      let work = work_of launch.dims launch.global launch.local id in
      let xs : List Value = map value_of_arg launch.args in
      let fits = begins_body work in
      let within = params_within functions kernel f typed found in
      let q = related functions typed work kernel f found 0 body.vars.items (stands_behind [] f.vars body.vars.items fits) in
      let many : f.params ≤ length xs = let a = args_many launch.args in let p = params_are in omega (arith, a, p, enough) in
      let both = (q.1.1 false f.vars (body_fits functions kernel f typed found) (omega arith) (subst (λ z. Begins z body.vars.items) (sym vars_are) (begins_same body.vars.items))).0 in
      let s = entered f xs (opening buffers turns) in
      let t = body_opening body xs buffers turns in
      let follows : Follows (length f.vars) 0 f.params (length body.vars.items) SameFlow t (does work (calls_below work functions kernel) f.vars f.body s) (body_does work body.vars.items body.body t) =
      subst (λ b. Follows (length f.vars) 0 f.params (length body.vars.items) SameFlow t (does work (calls_below work functions kernel) f.vars f.body s) (body_does work body.vars.items b t)) body_is
      (both s t (opening_framed f body params_are within fits xs buffers turns many)) in
      same_end (length f.vars) 0 f.params (length body.vars.items) turns f.result (opening buffers turns) t _ _ follows
      ∙ ap (item_end turns) (sym (function_called work functions kernel (suc kernel) f xs (opening buffers turns) (omega arith) found))
