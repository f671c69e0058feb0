use Rattle.std.proofs.Common.{◌++◌, ℕ, List, map}
use Rattle.std.specs.List.{All}
use Rattle.format_calls.specs.Rows.{entry}
use Rattle.asm_lint.specs.Spans.{HasSpans}
use Rattle.source_lint.specs.Reports.{IsReport}
use Rattle.source_report.specs.declared.report.Report.{Report}
use Rattle.file_fixes.specs.FileFixes.{AreRounds, bytes_or, most_rounds}
use Rattle.file_fixes.proofs.rounds.fixes.Given as goal

-- Further rounds lead from the old source to what they lead to from here.
abbrev pub invariant-loop-rounds_left : goal.invariant-loop-rounds_left
invariant-loop-rounds_left l = record {
  report : IsReport (map entry l.options.table.rows.items) l.options.is_from_2021
      (bytes_or l.file_fixes.text l.text) l.file_fixes.report;
  spans : All (HasSpans (bytes_or l.file_fixes.text l.text)) l.file_fixes.report.findings.items;
  rounds : (r : Report)
      × IsReport (map entry l.options.table.rows.items) l.options.is_from_2021 l.text r
      × ((cs : List ℕ) (q : Report) (ws : List (List ℕ))
      → AreRounds (map entry l.options.table.rows.items) l.options.is_from_2021 l.rounds_left
      (bytes_or l.file_fixes.text l.text) l.file_fixes.report cs q ws
      → AreRounds (map entry l.options.table.rows.items) l.options.is_from_2021
      (most_rounds l.text) l.text r cs q (map (λ w. w.now) l.file_fixes.ids.items ++ ws));
}

abbrev pub decreases-loop-rounds_left : goal.decreases-loop-rounds_left
decreases-loop-rounds_left l = l.rounds_left
