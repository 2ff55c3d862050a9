use Rattle.std.proofs.Common.{◌≡◌, sym, ap, ◌∙◌, subst}
use Rattle.std.specs.Prelude.{IfOk}
use Rattle.clc_types.specs.declared.typed.Node.{Node as TypedNode}
use Rattle.clc_inline.specs.declared.body.Node.{Node}
use Rattle.clc_inline.specs.Inlining.{Made, just}
use Rattle.clc_inline.specs.InSetting.{node_in}
use Rattle.clc_inline.proofs.Chains.{chain_made}
use Rattle.clc_inline.proofs.scopes.+inlining.Goals as goal

pub node-returns-in-Chain : goal.node-returns-in-Chain
node-returns-in-Chain t c =
    let s = c.args.setting.now in
    let vars = c.args.vars.now.items in
    let made = ap (λ (z : TypedNode). node_in s z vars) c.in-Chain.is ∙ chain_made s c.in-Chain.first c.in-Chain.rest vars in
    subst (λ (m : Made Node). IfOk c.chain.result (λ x. just x c.chain.new.vars.items ≡ m)) (sym made) (rw (c.get-in-Chain.ensures, c.as_slice.ensures) at c.chain.ensures)
