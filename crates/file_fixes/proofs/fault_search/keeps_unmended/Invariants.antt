use Rattle.std.proofs.Common.{◌≡◌, drop}
use Rattle.file_fixes.specs.FaultSearch.{are_found}
use Rattle.file_fixes.specs.FileFixes.{unmended_findings}
use Rattle.file_fixes.proofs.fault_search.keeps_unmended.Given as goal

-- Whether those that are left are found from here on is whether all are.
abbrev pub invariant-loop-finding : goal.invariant-loop-finding
invariant-loop-finding l =
    are_found (unmended_findings l.at (drop l.finding-index l.old)) (drop l.index l.new)
    ≡ are_found (unmended_findings 0 l.old) l.new
