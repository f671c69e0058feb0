use Rattle.std.proofs.Common.{length, map}
use Rattle.std.specs.List.{All}
use Rattle.format_calls.specs.Rows.{entry}
use Rattle.asm_lint.specs.Spans.{HasSpans}
use Rattle.source_lint.specs.Readings.{Reads, scope}
use Rattle.source_lint.proofs.Joining.{Balanced, FileGiving}
use Rattle.source_lint.proofs.lint.read_file.Given as goal

abbrev pub invariant-loop-readings : goal.invariant-loop-readings
invariant-loop-readings l = record {
  read : FileGiving (Reads (scope l.file) l.file.is_from_2021) (map entry l.table.rows.items)
      l.initial.rest l.rest l.readings.calls.items l.readings.findings.items
      (Balanced l.initial.balance l.balance);
  spans : All (HasSpans l.file.text.now) l.readings.findings.items;
}

abbrev pub decreases-loop-readings : goal.decreases-loop-readings
decreases-loop-readings l = length l.rest.rest
