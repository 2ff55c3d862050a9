-- What is left of a row passes the test where the whole row does.
use Rattle.std.proofs.Common.{◌≡◌, drop}
use Rattle.clc_inline.specs.NamedLists.{are_nodes, are_operands, are_statements, are_beginnings}
use Rattle.clc_inline.proofs.named.+named.Given as goal

abbrev pub invariant-nodes-loop-e : goal.invariant-nodes-loop-e
invariant-nodes-loop-e l = are_nodes l.n (drop l.e-index l.all) ≡ are_nodes l.n l.all

abbrev pub invariant-operands-loop-e : goal.invariant-operands-loop-e
invariant-operands-loop-e l = are_operands l.n (drop l.e-index l.all) ≡ are_operands l.n l.all

abbrev pub invariant-block-loop-a : goal.invariant-block-loop-a
invariant-block-loop-a l = are_statements l.n l.looped (drop l.a-index l.all) ≡ are_statements l.n l.looped l.all

abbrev pub invariant-beginnings-loop-a : goal.invariant-beginnings-loop-a
invariant-beginnings-loop-a l = are_beginnings l.n (drop l.a-index l.all) ≡ are_beginnings l.n l.all
