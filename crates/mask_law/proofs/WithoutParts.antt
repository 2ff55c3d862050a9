-- The law of masking for every statement without parts.
use Rattle.std.proofs.Common.{refl}
use Rattle.q_functions.specs.declared.functions.WorkFunction.{WorkFunction}
use Rattle.q_functions.specs.declared.functions.WorkFunction.TheVariants.{WorkDim, GlobalId, GlobalSize, LocalId, LocalSize, GroupId, NumGroups}
use Rattle.item_ir.specs.declared.form.Val.{Val}
use Rattle.item_ir.specs.declared.form.Def.{Def}
use Rattle.item_ir.specs.declared.form.Def.TheVariants as d
use Rattle.item_ir.specs.declared.form.Stmt.TheVariants as i
use Rattle.mask_law.specs.Leave.{IsMasked}
use Rattle.mask_law.specs.Constructs.{LeavesMasked}
use Rattle.mask_law.proofs.Leave.{scope_left, loop_left, round_left}
use Rattle.mask_law.proofs.Setting.{set_masked}
use Rattle.mask_law.proofs.Plain.{plain}
use Rattle.mask_law.proofs.Elements.{element_masked, set_element_masked, clear_masked}
use Rattle.mask_law.proofs.Transfers.{load_masked, store_masked}
use Rattle.mask_law.proofs.Picked.{ids_masked}

work_masked : (x : Val) (which : WorkFunction) (dim : Val) → IsMasked (i.Let x (d.Work which dim))
work_masked x WorkDim dim = plain x (d.Work WorkDim dim) refl
work_masked x GlobalSize dim = plain x (d.Work GlobalSize dim) refl
work_masked x LocalSize dim = plain x (d.Work LocalSize dim) refl
work_masked x NumGroups dim = plain x (d.Work NumGroups dim) refl
work_masked x GlobalId dim = ids_masked x GlobalId dim refl
work_masked x LocalId dim = ids_masked x LocalId dim refl
work_masked x GroupId dim = ids_masked x GroupId dim refl

let_masked : (x : Val) (e : Def) → IsMasked (i.Let x e)
let_masked x (d.Const y) = plain x (d.Const y) refl
let_masked x (d.Param y) = plain x (d.Param y) refl
let_masked x (d.Work which dim) = work_masked x which dim
let_masked x (d.Get u) = plain x (d.Get u) refl
let_masked x (d.Bin op y z) = plain x (d.Bin op y z) refl
let_masked x (d.One op y) = plain x (d.One op y) refl
let_masked x (d.Built name t args) = plain x (d.Built name t args) refl
let_masked x (d.Choose o y z) = plain x (d.Choose o y z) refl
let_masked x (d.Load t a) = load_masked x t a
let_masked x (d.Element r j) = element_masked x r j
let_masked x d.Flat = plain x d.Flat refl
let_masked x d.Items = plain x d.Items refl

pub leaves_masked : LeavesMasked
leaves_masked (i.Let x e) h = let_masked x e
leaves_masked (i.Set u x) h = set_masked u x
leaves_masked (i.Store t a x) h = store_masked t a x
leaves_masked (i.SetElement r j x) h = set_element_masked r j x
leaves_masked (i.Clear r) h = clear_masked r
leaves_masked (i.If' o n a m b) h = cc
leaves_masked (i.Loop' n head o m body l step) h = cc
leaves_masked (i.Scope' n a) h = cc
leaves_masked i.Leave h = scope_left
leaves_masked i.Break h = loop_left
leaves_masked i.Continue h = round_left
