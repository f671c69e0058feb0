use Rattle.std.proofs.Common.{◌≡◌, ◌++◌, drop, map}
use Rattle.fault_fixes.specs.SeenEdits.{seen_edit}
use Rattle.source_report.specs.Suggestions.{all_edits, mended_faults}
use Rattle.file_fixes.proofs.round_edits.round_edits.Given as goal

-- With the edits of the faults that are left, these are all.
abbrev pub invariant-loop-finding : goal.invariant-loop-finding
invariant-loop-finding l =
    map seen_edit l.all.items ++ all_edits (mended_faults l.at (drop l.finding-index l.findings))
    ≡ all_edits (mended_faults 0 l.findings)
