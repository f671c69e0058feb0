use Rattle.std.proofs.Common.{drop, map}
use Rattle.std.specs.List.{All}
use Rattle.format_calls.specs.Rows.{entry}
use Rattle.asm_lint.specs.Spans.{HasSpans}
use Rattle.format_calls.specs.GapTexts.{texts}
use Rattle.source_lint.specs.Readings.{Reads, scope}
use Rattle.format_calls.proofs.GapForests.{GapsLeft}
use Rattle.source_lint.proofs.Joining.{FileGiving}
use Rattle.source_lint.proofs.changed.read_parts.Given as goal

abbrev pub invariant-loop-gap : goal.invariant-loop-gap
invariant-loop-gap l = record {
  read : FileGiving (Reads (scope l.file) l.file.is_from_2021) (map entry l.table.rows.items)
      l.initial.rest l.rest l.readings.calls.items l.readings.findings.items
      (GapsLeft (map entry l.table.rows.items) (drop l.gap-index (texts l.gaps)) l.gaps.last.now);
  spans : All (HasSpans l.file.text.now) l.readings.findings.items;
}
