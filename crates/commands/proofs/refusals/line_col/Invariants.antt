use Rattle.std.proofs.Common.{◌≡◌, ◌+◌, ◌≤◌, take}
use Rattle.commands.specs.Refusals.{line_behind, column_behind}
use Rattle.commands.proofs.refusals.line_col.Given as goal

abbrev pub invariant-loop-byte : goal.invariant-loop-byte
invariant-loop-byte l = record {
  line : l.line ≡ line_behind (take l.byte-index l.before);
  column : l.column ≡ column_behind (take l.byte-index l.before);
  lines : l.line ≤ l.byte-index + 1;
  columns : l.column ≤ l.byte-index + 1;
}
