use Rattle.std.proofs.Common.{◌≡◌, ◌++◌, take}
use Rattle.format_calls.proofs.table.push_rows.Given as goal

abbrev pub invariant-loop-row : goal.invariant-loop-row
invariant-loop-row l = l.rows.items ≡ l.fn.rows.items ++ take l.row-index l.new_rows
