use Rattle.std.proofs.Common.{◌≡◌, ◌||◌, ◌==◌, ℕ, drop}
use Rattle.std.specs.BTreeSet.{contains}
use Rattle.std.specs.List.{list_any}
use Rattle.std.specs.Ordering.{nat_cmp}
use Rattle.source_report.specs.Suggestions.{mended_faults}
use Rattle.file_fixes.specs.Mending.{moved_ends}
use Rattle.file_fixes.proofs.mended.mended_ends.Given as goal

-- With the ends of the faults that are left, these are all.
abbrev pub invariant-loop-finding : goal.invariant-loop-finding
invariant-loop-finding l = (n : ℕ) →
    (contains nat_cmp l.ends n || list_any (λ k. k == n)
    (moved_ends l.end.old l.end.new (mended_faults l.end.old (drop l.finding-index l.findings))))
    ≡ list_any (λ k. k == n) (moved_ends 0 0 (mended_faults 0 l.findings))
