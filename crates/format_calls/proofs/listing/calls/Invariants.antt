use Rattle.std.proofs.Common.{map}
use Rattle.format_calls.specs.Rows.{entry}
use Rattle.format_calls.proofs.CallSteps.{AreBelow}
use Rattle.format_calls.proofs.listing.calls.Given as goal

abbrev pub invariant-loop-name : goal.invariant-loop-name
invariant-loop-name l = AreBelow (map entry l.table.rows.items) l.source l.calls.items l.name
