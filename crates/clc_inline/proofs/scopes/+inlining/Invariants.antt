use Rattle.std.proofs.Common.{◌≡◌, ◌+◌, ◌*◌, [], drop}
use Rattle.std.specs.Prelude.{map}
use Rattle.clc_inline.specs.Inlining.{listed, operands}
use Rattle.clc_inline.specs.InSetting.{expr_in, stmt_in}
use Rattle.clc_inline.proofs.scopes.+inlining.Given as goal

abbrev pub decreases-expression : goal.decreases-expression
decreases-expression l = 8 * l.room + 0

abbrev pub decreases-boxed : goal.decreases-boxed
decreases-boxed l = 8 * l.room + 1

abbrev pub decreases-node : goal.decreases-node
decreases-node l = 8 * l.room + 7

abbrev pub decreases-indexed : goal.decreases-indexed
decreases-indexed l = 8 * l.room + 2

abbrev pub decreases-element : goal.decreases-element
decreases-element l = 8 * l.room + 2

abbrev pub decreases-chain : goal.decreases-chain
decreases-chain l = 8 * l.room + 2

abbrev pub decreases-conditional : goal.decreases-conditional
decreases-conditional l = 8 * l.room + 2

abbrev pub decreases-assignment : goal.decreases-assignment
decreases-assignment l = 8 * l.room + 2

abbrev pub decreases-expressions : goal.decreases-expressions
decreases-expressions l = 8 * l.room + 1

abbrev pub decreases-operands : goal.decreases-operands
decreases-operands l = 8 * l.room + 1

abbrev pub decreases-call : goal.decreases-call
decreases-call l = 8 * l.room + 4

abbrev pub decreases-entered : goal.decreases-entered
decreases-entered l = 8 * l.room + 3

abbrev pub decreases-called_body : goal.decreases-called_body
decreases-called_body l = 8 * l.room + 2

abbrev pub decreases-maybe : goal.decreases-maybe
decreases-maybe l = 8 * l.room + 2

abbrev pub decreases-statement : goal.decreases-statement
decreases-statement l = 8 * l.room + 0

abbrev pub decreases-declaration : goal.decreases-declaration
decreases-declaration l = 8 * l.room + 3

abbrev pub decreases-choice : goal.decreases-choice
decreases-choice l = 8 * l.room + 4

abbrev pub decreases-while_loop : goal.decreases-while_loop
decreases-while_loop l = 8 * l.room + 3

abbrev pub decreases-do_loop : goal.decreases-do_loop
decreases-do_loop l = 8 * l.room + 3

abbrev pub decreases-for_loop : goal.decreases-for_loop
decreases-for_loop l = 8 * l.room + 4

abbrev pub decreases-boxed_statement : goal.decreases-boxed_statement
decreases-boxed_statement l = 8 * l.room + 1

abbrev pub decreases-otherwise : goal.decreases-otherwise
decreases-otherwise l = 8 * l.room + 2

abbrev pub decreases-statements : goal.decreases-statements
decreases-statements l = 8 * l.room + 1

-- what is made of those that are left, behind those that are made, is what is made of all
abbrev pub invariant-expressions-loop-e : goal.invariant-expressions-loop-e
invariant-expressions-loop-e l = listed l.list (map (expr_in l.setting) (drop l.e-index l.all)) l.vars.items ≡ listed [] (map (expr_in l.setting) l.all) l.initial.vars.items

abbrev pub invariant-operands-loop-x : goal.invariant-operands-loop-x
invariant-operands-loop-x l =
    operands l.list (map (λ x. (x.0, expr_in l.setting x.1)) (drop l.x-index l.all)) l.vars.items ≡ operands [] (map (λ x. (x.0, expr_in l.setting x.1)) l.all) l.initial.vars.items

abbrev pub invariant-statements-loop-s : goal.invariant-statements-loop-s
invariant-statements-loop-s l = listed l.list (map (stmt_in l.setting) (drop l.s-index l.all)) l.vars.items ≡ listed [] (map (stmt_in l.setting) l.all) l.initial.vars.items
