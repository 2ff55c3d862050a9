-- Where an item of a launch comes to its end, its form does.
use Rattle.std.proofs.Common.{◌≡◌, ℕ, ◌+◌, ◌-◌, ◌≤◌, List, [], None, map, IfSome, slice_get, sym, ap, subst, arith}
use Rattle.launch_file.specs.declared.places.Region2.{Region2}
use Rattle.launch_file.specs.Launches.{LaunchOf}
use Rattle.launch_file.specs.Uniforms.{address}
use Rattle.launch_file.specs.Laws.{Fits, Suits}
use Rattle.launch_meaning.specs.declared.ends.ItemEnd.{ItemEnd}
use Rattle.launch_meaning.specs.declared.ends.ItemEnd.TheVariants.{Ends as Comes_to, Bounds as Goes_out, Spent as Takes_more}
use Rattle.item_meaning.specs.ItemState.{State, Run, Goes, Bounds, Spent, then_do}
use Rattle.item_meaning.specs.declared.values.Flow.{Flow}
use Rattle.item_meaning.specs.declared.values.Flow.TheVariants.{Next, Broke, Again, Returned}
use Rattle.item_meaning.specs.StatementMeanings.{call_end}
use Rattle.item_meaning.specs.ItemMeaning.{item_end, value_of_arg}
use Rattle.clc_types.specs.declared.typed.Var.{Var}
use Rattle.clc_inline.specs.declared.whole.Body.{Body}
use Rattle.body_meaning.specs.BodyMeaning.{body_run, item}
use Rattle.item_ir.specs.declared.ir.Ir.{Ir}
use Rattle.item_ir.specs.IrMeaning.{World, State as Item, Run as Ran, Next as Falls, Ends, left_scope, run_all}
use Rattle.ir_build.specs.Build.{body_code}
use Rattle.build_law.specs.Keeps.{Related, Follows, same_flow}
use Rattle.build_law.specs.Law.{ground, Opened}
use Rattle.build_law.specs.Launched.{IsFormOf, AreApart, len_at, world_of, Holds, Did, ItemFollows}
use Rattle.build_law.proofs.Opens.{body_follows}
use Rattle.build_law.proofs.Arguments.{arguments_same}
use Rattle.build_law.proofs.Grounds.{is_laid}

-- what is owed where an item ends so
abbrev Owed : List Region2 → ItemEnd → Item → Ran → Type 0
Owed places (Comes_to one) n x = (m : Item) × (left_scope x ≡ Ends Falls m) × Did places one n m
Owed places (Goes_out at) n x = Unit {0}
Owed places Takes_more n x = Unit {0}

module _ (w : World) (places : List Region2) (vars : List Var) where
  ended : (d turns : ℕ) (s : State) (n : Item) (x : Ran) → n.left ≤ turns + d → (m : Item) → left_scope x ≡ Ends Falls m → Related (ground w (address places) (len_at places) vars) d s m
      → (m : Item) × (left_scope x ≡ Ends Falls m) × Did places (record { buffers = s.buffers; marks = s.marks; turns = turns - s.left }) n m
  ended d turns s n x le m e h = (m, e, record { holds = record { lens = h.sizes; bytes = h.bytes }; touches = h.touches; rounds = let y = h.left in omega (arith, le, y) })

  owed : (d turns : ℕ) (r : Run Flow) (n : Item) (x : Ran) → n.left ≤ turns + d → Follows (ground w (address places) (len_at places) vars) d same_flow r (λ f t o. Unit {0}) x
      → Owed places (item_end turns (then_do r (call_end None))) n x
  owed d turns (Goes Next s) n x le f = ended d turns s n x le f.0 (ap left_scope f.1) f.2
  owed d turns (Goes Broke s) n x le f = tt
  owed d turns (Goes Again s) n x le f = tt
  owed d turns (Goes (Returned v) s) n x le f = ended d turns s n x le f.0 (ap left_scope f.1) f.2
  owed d turns (Bounds at) n x le f = tt
  owed d turns Spent n x le f = tt

item_owed : (body : Body) (ir : Ir) → IsFormOf body ir → (launch : LaunchOf) (taken : List (List ℕ)) → Fits launch ir.kinds.items taken → (places : List Region2) → AreApart places
    → (id : ℕ) (buffers : List (List ℕ)) (turns : ℕ) (n : Item) → Holds places buffers n.mem → n.touches ≡ [] → turns ≤ n.left
    → Owed places (item body launch id buffers turns) n (run_all (world_of launch places ir.arrays.items id) ir.body.items n)
unfolding item
item_owed body ir form launch taken fits places apart id buffers turns n holds none left =
    let w = world_of launch places ir.arrays.items id in
    let d = n.left - turns in
    let xs = map value_of_arg launch.args in
    let lay = is_laid launch places body.vars.items ir.arrays.items id form.arrays apart in
    let suits = subst (λ kinds. (i : ℕ) → IfSome (slice_get launch.args i) (λ a. IfSome (slice_get kinds i) (Suits a))) form.kinds fits.args in
    let opened : Opened (ground w (address places) (len_at places) body.vars.items) body.params xs buffers (turns + d) n =
    record {
      words = arguments_same places apart.begun body.vars.items body.params launch.args suits;
      bytes = holds.bytes;
      sizes = holds.lens;
      touches = none;
      left = omega (arith, left);
    } in
    let f = body_follows w (address places) (len_at places) body lay xs buffers turns d n opened in
    subst (λ code. Owed places (item body launch id buffers turns) n (run_all w code n)) (sym form.code)
    (owed w places body.vars.items d turns (body_run body w.work xs buffers turns) n (run_all w (body_code body.vars.items body.params body.body).stmts n) (omega (arith, left)) f)

pub item_follows : ItemFollows
item_follows body ir form launch taken fits places apart id buffers turns one e n holds none left =
    subst (λ end. Owed places end n (run_all (world_of launch places ir.arrays.items id) ir.body.items n)) e (item_owed body ir form launch taken fits places apart id buffers turns n holds none left)
