use Rattle.std.proofs.Common.{◌++◌, List, drop}
use Rattle.source_report.specs.declared.report.Finding.{Finding}
use Rattle.file_fixes.specs.AllFaults.{HasFaults}
use Rattle.file_fixes.proofs.all_faults.all_faults.Given as goal

-- With the faults of those that are left they are the faults of all.
abbrev pub invariant-loop-finding : goal.invariant-loop-finding
invariant-loop-finding l = (us : List Finding)
    → HasFaults l.text (drop l.finding-index l.findings) us
    → HasFaults l.text l.findings (l.all.items ++ us)
