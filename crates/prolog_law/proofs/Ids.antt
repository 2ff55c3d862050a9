-- The ids by quotients of words are the item's.
use Rattle.std.proofs.Common.{◌≡◌, ℕ, ◌+◌, ◌*◌, ◌/◌, ◌%◌, ◌<◌, ◌≤◌, false, refl, ap, ◌∙◌, subst, get_or, lit<, arith}
use Rattle.std.specs.Prelude.{nat_lt}
use Rattle.q_lane.specs.declared.operations.BinOp.TheVariants as op
use Rattle.q_lane.specs.Numbers.{applied, is_less, flag}
use Rattle.q_functions.specs.declared.functions.WorkFunction.TheVariants.{GlobalId, LocalId, GroupId}
use Rattle.q_functions.specs.WorkFunctions.{work_function}
use Rattle.launch_file.specs.Launches.{LaunchOf, IsLaunch}
use Rattle.lane_ir.specs.LaneMeaning.{World, Ends, run_all}
use Rattle.prolog_law.specs.Laws.{IsBatchOf, PrologsRight, item}
use Rattle.prolog_law.proofs.Quotients.{rem-is, div-is}
use Rattle.prolog_law.proofs.Thirds.{quotient_twice}
use Rattle.prolog_law.proofs.Acts.{steps_run, temps_of}
use Rattle.prolog_law.proofs.Steps.{steps_of, prolog_same, steps_within, flat_word, first_id, second_id, third_id, live_after, globals_after, locals_after, groups_after}

less-is : (a b : ℕ) → applied (op.Less false) a b ≡ flag (nat_lt a b)
unfolding applied is_less
less-is a b = refl

module _ (launch : LaunchOf) (w : World) (n l : ℕ) (v : IsLaunch launch) (b : IsBatchOf launch w) (few : n ≤ 16) (lane : l < n) where
  abbrev flat : ℕ
  flat = 16 * w.batch + l

  abbrev wide : ℕ → ℕ
  wide d = get_or launch.global d 1

  abbrev near : ℕ → ℕ
  near d = get_or launch.local d 1

  flat_is : flat_word w l ≡ flat
  flat_is = let p = b.batch in let q = b.items in let r = v.items in omega (arith, p, q, r, few, lane)

  pub live_is : applied (op.Less false) (flat_word w l) w.items ≡ flag (nat_lt flat w.items)
  live_is = less-is (flat_word w l) w.items ∙ ap (λ z. flag (nat_lt z w.items)) flat_is

  quotient_is : applied (op.Div false) (flat_word w l) (w.global 0) ≡ flat / wide 0
  quotient_is = (λ i. applied (op.Div false) (flat_is i) (b.global 0 i)) ∙ div-is flat (wide 0) (v.global.some 0 (lit< tt))

  first_is : first_id w l ≡ flat % wide 0
  first_is = (λ i. applied (op.Rem false) (flat_is i) (b.global 0 i)) ∙ rem-is flat (wide 0) (v.global.some 0 (lit< tt))

  second_is : second_id w l ≡ flat / wide 0 % wide 1
  second_is = (λ i. applied (op.Rem false) (quotient_is i) (b.global 1 i)) ∙ rem-is (flat / wide 0) (wide 1) (v.global.some 1 (lit< tt))

  third_is : third_id w l ≡ flat / (wide 0 * wide 1)
  third_is =
      (λ i. applied (op.Div false) (quotient_is i) (b.global 1 i)) ∙ div-is (flat / wide 0) (wide 1) (v.global.some 1 (lit< tt))
      ∙ quotient_twice flat (wide 0) (wide 1) (v.global.some 0 (lit< tt)) (v.global.some 1 (lit< tt))

  pub global_is : (first_id w l ≡ work_function GlobalId (item launch w l) 0) × (second_id w l ≡ work_function GlobalId (item launch w l) 1) × (third_id w l ≡ work_function GlobalId (item launch w l) 2)
  unfolding work_function
  global_is = (first_is, second_is, third_is)

  in_group : (x y d : ℕ) → d < 3 → x ≡ y → applied (op.Rem false) x (w.local d) ≡ y % near d
  in_group x y d h e = (λ i. applied (op.Rem false) (e i) (b.local d i)) ∙ rem-is y (near d) (v.local.some d h)

  of_group : (x y d : ℕ) → d < 3 → x ≡ y → applied (op.Div false) x (w.local d) ≡ y / near d
  of_group x y d h e = (λ i. applied (op.Div false) (e i) (b.local d i)) ∙ div-is y (near d) (v.local.some d h)

  pub local_is : (applied (op.Rem false) (first_id w l) (w.local 0) ≡ work_function LocalId (item launch w l) 0) × (applied (op.Rem false) (second_id w l) (w.local 1) ≡ work_function LocalId (item launch w l) 1) × (applied (op.Rem false) (third_id w l) (w.local 2) ≡ work_function LocalId (item launch w l) 2)
  unfolding work_function
  local_is = (in_group _ _ 0 (lit< tt) first_is, in_group _ _ 1 (lit< tt) second_is, in_group _ _ 2 (lit< tt) third_is)

  pub group_is : (applied (op.Div false) (first_id w l) (w.local 0) ≡ work_function GroupId (item launch w l) 0) × (applied (op.Div false) (second_id w l) (w.local 1) ≡ work_function GroupId (item launch w l) 1) × (applied (op.Div false) (third_id w l) (w.local 2) ≡ work_function GroupId (item launch w l) 2)
  unfolding work_function
  group_is = (of_group _ _ 0 (lit< tt) first_is, of_group _ _ 1 (lit< tt) second_is, of_group _ _ 2 (lit< tt) third_is)

pub prologs_right : PrologsRight
prologs_right launch w n i k u s v b few =
    let steps = steps_of u.global u.local u.group in
    let r = steps_run w n i k 21 steps (steps_within u.global u.local u.group) s in
    let t = r.0 in
    let o = r.2 in (
      t,
      subst (λ p. run_all w n i p s ≡ Ends t) (prolog_same k u) r.1,
      record {
        live = λ l h. o.temps l h 2 ∙ live_after w l (temps_of s k l) u.global u.local u.group ∙ live_is launch w n l v b few h;
        global = λ e l h.
            let a = globals_after w l (temps_of s k l) u.global u.local u.group e in
            let g = global_is launch w n l v b few h in
            (o.temps l h 8 ∙ a.0 ∙ g.0, o.temps l h 10 ∙ a.1 ∙ g.1, o.temps l h 11 ∙ a.2 ∙ g.2);
        local = λ e l h.
            let a = locals_after w l (temps_of s k l) u.global u.local u.group e in
            let g = local_is launch w n l v b few h in
            (o.temps l h 15 ∙ a.0 ∙ g.0, o.temps l h 16 ∙ a.1 ∙ g.1, o.temps l h 17 ∙ a.2 ∙ g.2);
        group = λ e l h.
            let a = groups_after w l (temps_of s k l) u.global u.local u.group e in
            let g = group_is launch w n l v b few h in
            (o.temps l h 18 ∙ a.0 ∙ g.0, o.temps l h 19 ∙ a.1 ∙ g.1, o.temps l h 20 ∙ a.2 ∙ g.2);
        old = o.old;
        past = o.past;
        words = o.words;
        vars = o.vars;
        arrays = o.arrays;
        mem = o.mem;
        log = o.log;
        transfers = o.transfers;
      },
    )
