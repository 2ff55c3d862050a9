-- The forms of the tree, by the test of each one's parts.
use Rattle.std.proofs.Common.{ℕ, true, false, List, sym, ap, ◌∙◌}
use Rattle.std.specs.Prelude.{◌&&◌}
use Rattle.clc_lexer.specs.declared.marks.Mark.{Mark}
use Rattle.clc_inline.specs.declared.body.TExpr.{TExpr}
use Rattle.clc_inline.specs.declared.body.TStmt.{TStmt}
use Rattle.clc_inline.specs.Named.{all_below, is_node, is_statement}
use Rattle.clc_inline.specs.NamedLists.{are_nodes, are_operands, are_beginnings}
use Rattle.clc_inline.proofs.NamedForms.{at_node, named_index, named_element, named_deref, named_prefix, named_step, named_cast, named_paren, named_chain, named_cond, named_assign, named_scope, named_builtin, named_if, named_while, named_do, named_for}
use Rattle.clc_inline.proofs.named.+named.Goals as goal

pub node-returns-in-Index : goal.node-returns-in-Index
node-returns-in-Index t c =
    let n = c.args.n in
    c.both.ensures ∙ (λ i. (c.node.ensures ∙ at_node n _ _ c.get.ensures) i && (c.node-in-Index.ensures ∙ at_node n _ _ c.get-in-Index.ensures) i)
    ∙ sym (ap (is_node n) c.in-Index.is ∙ named_index n c.in-Index.base c.in-Index.index)

pub node-returns-in-Element : goal.node-returns-in-Element
node-returns-in-Element t c =
    let n = c.args.n in
    c.both-in-Element.ensures ∙ (λ i. c.is_below-in-Element.ensures i && (c.node-in-Element.ensures ∙ at_node n _ _ c.get-in-Element.ensures) i)
    ∙ sym (ap (is_node n) c.in-Element.is ∙ named_element n c.in-Element.array c.in-Element.index)

pub node-returns-in-Deref : goal.node-returns-in-Deref
node-returns-in-Deref t c =
    let n = c.args.n in
    c.node-in-Deref.ensures ∙ at_node n _ _ c.get-in-Deref.ensures ∙ sym (ap (is_node n) c.in-Deref.is ∙ named_deref n c.in-Deref.pointer)

pub node-returns-in-Prefix : goal.node-returns-in-Prefix
node-returns-in-Prefix t c =
    let n = c.args.n in
    c.node-in-Prefix.ensures ∙ at_node n _ _ c.get-in-Prefix.ensures ∙ sym (ap (is_node n) c.in-Prefix.is ∙ named_prefix n c.in-Prefix.op c.in-Prefix.arg)

pub node-returns-in-Step : goal.node-returns-in-Step
node-returns-in-Step t c =
    let n = c.args.n in
    c.node-in-Step.ensures ∙ at_node n _ _ c.get-in-Step.ensures ∙ sym (ap (is_node n) c.in-Step.is ∙ named_step n c.in-Step.place c.in-Step.up c.in-Step.post)

pub node-returns-in-Cast : goal.node-returns-in-Cast
node-returns-in-Cast t c =
    let n = c.args.n in
    c.node-in-Cast.ensures ∙ at_node n _ _ c.get-in-Cast.ensures ∙ sym (ap (is_node n) c.in-Cast.is ∙ named_cast n c.in-Cast.arg)

pub node-returns-in-Paren : goal.node-returns-in-Paren
node-returns-in-Paren t c =
    let n = c.args.n in
    c.node-in-Paren.ensures ∙ at_node n _ _ c.get-in-Paren.ensures ∙ sym (ap (is_node n) c.in-Paren.is ∙ named_paren n c.in-Paren.arg)

pub node-returns-in-Chain : goal.node-returns-in-Chain
node-returns-in-Chain t c =
    let n = c.args.n in
    c.both-in-Chain.ensures
    ∙ (λ i. (c.node-in-Chain.ensures ∙ at_node n _ _ c.get-in-Chain.ensures) i && (c.operands.ensures ∙ ap (λ (z : List (Mark × TExpr)). are_operands n z) c.as_slice.ensures) i)
    ∙ sym (ap (is_node n) c.in-Chain.is ∙ named_chain n c.in-Chain.first c.in-Chain.rest)

pub node-returns-in-Cond : goal.node-returns-in-Cond
node-returns-in-Cond t c =
    let n = c.args.n in
    c.both-in-Cond-2.ensures
    ∙ (λ i. (c.node-in-Cond.ensures ∙ at_node n _ _ c.get-in-Cond.ensures) i
    && (c.both-in-Cond.ensures
    ∙ (λ j. (c.node-in-Cond-2.ensures ∙ at_node n _ _ c.get-in-Cond-2.ensures) j && (c.node-in-Cond-3.ensures ∙ at_node n _ _ c.get-in-Cond-3.ensures) j)) i)
    ∙ sym (ap (is_node n) c.in-Cond.is ∙ named_cond n c.in-Cond.cond c.in-Cond.one c.in-Cond.other)

pub node-returns-in-Assign : goal.node-returns-in-Assign
node-returns-in-Assign t c =
    let n = c.args.n in
    c.both-in-Assign.ensures ∙ (λ i. (c.node-in-Assign.ensures ∙ at_node n _ _ c.get-in-Assign.ensures) i && (c.node-in-Assign-2.ensures ∙ at_node n _ _ c.get-in-Assign-2.ensures) i)
    ∙ sym (ap (is_node n) c.in-Assign.is ∙ named_assign n c.in-Assign.place c.in-Assign.op c.in-Assign.value)

pub node-returns-in-Scope : goal.node-returns-in-Scope
node-returns-in-Scope t c =
    let n = c.args.n in
    c.both-in-Scope-2.ensures
    ∙ (λ i. (c.are_below.ensures ∙ ap (λ (z : List ℕ). all_below n z) c.as_slice-in-Scope.ensures) i
    && (c.both-in-Scope.ensures
    ∙ (λ j. (c.nodes.ensures ∙ ap (λ (z : List TExpr). are_nodes n z) c.as_slice-in-Scope-2.ensures) j && (c.statement.ensures ∙ ap (λ (z : TStmt). is_statement n false z) c.get-in-Scope.ensures) j)) i)
    ∙ sym (ap (is_node n) c.in-Scope.is ∙ named_scope n c.in-Scope.params c.in-Scope.args c.in-Scope.result c.in-Scope.body)

pub node-returns-in-Builtin : goal.node-returns-in-Builtin
node-returns-in-Builtin t c =
    let n = c.args.n in
    c.nodes-in-Builtin.ensures ∙ ap (λ (z : List TExpr). are_nodes n z) c.as_slice-in-Builtin.ensures
    ∙ sym (ap (is_node n) c.in-Builtin.is ∙ named_builtin n c.in-Builtin.which c.in-Builtin.work c.in-Builtin.args)

pub statement-returns-in-If : goal.statement-returns-in-If
statement-returns-in-If t c =
    let n = c.args.n in
    let looped = c.args.looped in
    c.both-in-If-2.ensures
    ∙ (λ i. c.node-in-If.ensures i
    && (c.both-in-If.ensures ∙ (λ j. (c.statement.ensures ∙ ap (λ (z : TStmt). is_statement n looped z) c.get.ensures) j && c.otherwise.ensures j)) i)
    ∙ sym (ap (λ (z : TStmt). is_statement n looped z) c.in-If.is ∙ named_if n looped c.in-If.cond c.in-If.yes c.in-If.no)

pub statement-returns-in-While : goal.statement-returns-in-While
statement-returns-in-While t c =
    let n = c.args.n in
    let looped = c.args.looped in
    c.both-in-While.ensures ∙ (λ i. c.node-in-While.ensures i && (c.statement-in-While.ensures ∙ ap (λ (z : TStmt). is_statement n true z) c.get-in-While.ensures) i)
    ∙ sym (ap (λ (z : TStmt). is_statement n looped z) c.in-While.is ∙ named_while n looped c.in-While.cond c.in-While.body)

pub statement-returns-in-Do : goal.statement-returns-in-Do
statement-returns-in-Do t c =
    let n = c.args.n in
    let looped = c.args.looped in
    c.both-in-Do.ensures ∙ (λ i. c.node-in-Do.ensures i && (c.statement-in-Do.ensures ∙ ap (λ (z : TStmt). is_statement n true z) c.get-in-Do.ensures) i)
    ∙ sym (ap (λ (z : TStmt). is_statement n looped z) c.in-Do.is ∙ named_do n looped c.in-Do.body c.in-Do.cond)

pub statement-returns-in-For : goal.statement-returns-in-For
statement-returns-in-For t c =
    let n = c.args.n in
    let looped = c.args.looped in
    c.both-in-For-3.ensures
    ∙ (λ i. (c.beginnings.ensures ∙ ap (λ (z : List TStmt). are_beginnings n z) c.as_slice-in-For.ensures) i
    && (c.both-in-For-2.ensures
    ∙ (λ j. c.maybe-in-For.ensures j
    && (c.both-in-For.ensures ∙ (λ k. c.maybe-in-For-2.ensures k && (c.statement-in-For.ensures ∙ ap (λ (z : TStmt). is_statement n true z) c.get-in-For.ensures) k)) j)) i)
    ∙ sym (ap (λ (z : TStmt). is_statement n looped z) c.in-For.is ∙ named_for n looped c.in-For.init c.in-For.cond c.in-For.step c.in-For.body)
