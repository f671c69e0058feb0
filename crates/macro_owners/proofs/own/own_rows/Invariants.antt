use Rattle.std.proofs.Common.{map}
use Rattle.std.specs.Prelude.{Contains}
use Rattle.format_calls.specs.Rows.{entry}
use Rattle.format_calls.specs.declared.table.Row.{Row}
use Rattle.macro_owners.specs.Own.{HasOwn}
use Rattle.macro_owners.proofs.own.own_rows.Given as goal

abbrev pub invariant-loop-given : goal.invariant-loop-given
invariant-loop-given l = (w : Row) → Contains l.rows.items w
    → HasOwn (map entry l.table.rows.items) l.source (entry w)
