use Rattle.std.proofs.Common.{◌≡◌, drop}
use Rattle.source_report.specs.Suggestions.{mended_faults}
use Rattle.file_fixes.specs.Mending.{are_gone, moved_ends}
use Rattle.file_fixes.proofs.mended.are_gone.Given as goal

-- The faults that are left decide.
abbrev pub invariant-loop-fault : goal.invariant-loop-fault
invariant-loop-fault l =
    are_gone (moved_ends 0 0 (mended_faults 0 l.old)) (drop l.fault-index l.new)
    ≡ are_gone (moved_ends 0 0 (mended_faults 0 l.old)) l.new
