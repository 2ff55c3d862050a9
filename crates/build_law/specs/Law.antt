-- What the code that is built does: where a statement's meaning or a body's ends, the code ends in the same way.
use Rattle.std.specs.Prelude.{◌≡◌, ℕ, ◌+◌, ◌<◌, ◌≤◌, Bool, true, List, [], length, slice_index, slice_index_or, take}
use Rattle.clc_types.specs.declared.typed.Var.{Var}
use Rattle.item_meaning.specs.declared.values.Value.{Value}
use Rattle.item_meaning.specs.declared.values.Value.TheVariants.{Null}
use Rattle.item_meaning.specs.ItemState.{State}
use Rattle.item_meaning.specs.Places.{buffer_of}
use Rattle.item_meaning.specs.ItemMeaning.{as_params}
use Rattle.clc_inline.specs.declared.body.TStmt.{TStmt}
use Rattle.clc_inline.specs.declared.whole.Body.{Body}
use Rattle.clc_inline.specs.Named.{is_statement}
use Rattle.body_meaning.specs.BodyMeaning.{does, body_run}
use Rattle.item_ir.specs.IrMeaning.{World, State as Item, run_all}
use Rattle.ir_build.specs.Code.{stmt_code}
use Rattle.ir_build.specs.Build.{body_code}
use Rattle.build_law.specs.Keeps.{Back, Ground, Laid, Same, Related, Follows, same_flow, Left_by}

-- where a statement ends, its code ends in the same way, with the same bytes read, written and left, and with as many rounds at most as turns: if d
-- rounds more are left than turns, so they are after it. The numbers from k on are free, and the result's variable is one of the code's own below k
abbrev pub CodeFollows : Type 0
CodeFollows =
    (g : Ground) → Laid g → (looped : Bool) (a : TStmt) → is_statement (length g.vars) looped a ≡ true
    → (back : Back) (k : ℕ) → length g.vars ≤ back.var → back.var < k
    → (d : ℕ) (s : State) (n : Item) → Related g d s n
    → Follows g d same_flow (does g.world.work g.vars a s) (λ f t o. Left_by g back k n f o) (run_all g.world (stmt_code g.vars back a k).stmts n)

abbrev pub ground : World → (base size : ℕ → ℕ) → List Var → Ground
ground w base size vars = record { world = w; base = base; size = size; vars = vars }

-- the words of the parameters are the arguments, the memory holds the buffers, and no access was made yet
pub record Opened (g : Ground) (params : ℕ) (xs : List Value) (buffers : List (List ℕ)) (least : ℕ) (n : Item) : Type 0 where
  pub words : (u : ℕ) → Same g.base (slice_index_or (as_params (take params g.vars) xs) u Null) (g.world.params u)
  pub bytes : (k o : ℕ) → o < g.size k → n.mem (g.base k + o) ≡ slice_index (buffer_of buffers k) o
  pub sizes : (k : ℕ) → length (buffer_of buffers k) ≡ g.size k
  pub touches : n.touches ≡ []
  pub left : least ≤ n.left

-- where a body ends, its form ends, whatever its values, variables and arrays open with: the bytes left, read and written are the same, and the
-- rounds are at most the turns
abbrev pub BodyFollows : Type 0
BodyFollows =
    (w : World) (base size : ℕ → ℕ) (body : Body) → let g = ground w base size body.vars.items in
    Laid g
    → (xs : List Value) (buffers : List (List ℕ)) (turns d : ℕ) (n : Item) → Opened g body.params xs buffers (turns + d) n
    → Follows g d same_flow (body_run body w.work xs buffers turns) (λ f t o. Unit {0})
    (run_all w (body_code body.vars.items body.params body.body).stmts n)
