use Rattle.std.proofs.Common.{◌≡◌, ◌+◌, ◌==◌, drop, true}
use Rattle.source_report.specs.Suggestions.{mended_faults}
use Rattle.file_fixes.specs.FaultSearch.{walk_count}
use Rattle.file_fixes.specs.Mending.{have_literals}
use Rattle.file_fixes.proofs.literals.mended_literals.Given as goal

-- Whether those that are left have literals from here on is whether all have, and with theirs the
-- literals are those of all.
abbrev pub invariant-loop-finding : goal.invariant-loop-finding
invariant-loop-finding l = record {
  are_in : have_literals l.text (drop l.literals.index l.tokens)
      (mended_faults l.literals.at (drop l.finding-index l.findings))
      ≡ have_literals l.text l.tokens (mended_faults 0 l.findings);
  count : l.literals.count
      + walk_count l.text (l.literals.count == 0) (drop l.literals.index l.tokens)
      (mended_faults l.literals.at (drop l.finding-index l.findings))
      ≡ walk_count l.text true l.tokens (mended_faults 0 l.findings);
}
