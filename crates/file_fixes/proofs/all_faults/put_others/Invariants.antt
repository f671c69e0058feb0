use Rattle.std.proofs.Common.{◌≡◌, ◌++◌, List, map}
use Rattle.std.specs.List.{All}
use Rattle.fault_fixes.specs.SeenEdits.{seen_edit}
use Rattle.source_report.specs.declared.report.Finding.{Finding}
use Rattle.file_fixes.specs.AllFaults.{HasOneOf}
use Rattle.file_fixes.proofs.all_faults.put_others.Given as goal

-- The faults that were added so far have such edits.
abbrev pub invariant-loop-edit : goal.invariant-loop-edit
invariant-loop-edit l = (zs : List Finding) × (l.all.items ≡ l.initial.all.items ++ zs)
    × All (HasOneOf l.string.token.now l.string.start (map seen_edit l.edits)) zs
