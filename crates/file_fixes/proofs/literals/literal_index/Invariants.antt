use Rattle.std.proofs.Common.{◌≡◌, ◌∷◌, ◌-◌, ◌==◌, ◌||◌, ◌≤◌, Bool, List, drop, length, not}
use Rattle.source_report.specs.declared.report.Finding.{Finding}
use Rattle.file_fixes.specs.FaultSearch.{walk_count}
use Rattle.file_fixes.specs.Mending.{have_literals}
use Rattle.file_fixes.proofs.literals.literal_index.Given as goal

-- From here on the fault is found where it is found from the start, in a new literal unless it is
-- the first one.
abbrev pub invariant-loop-token : goal.invariant-loop-token
invariant-loop-token l = record {
  same : (xs : List Finding) → have_literals l.bytes (drop l.fn.from l.tokens) (l.finding ∷ xs)
      ≡ have_literals l.bytes (drop l.index l.tokens) (l.finding ∷ xs);
  count : (b : Bool) (xs : List Finding)
      → walk_count l.bytes b (drop l.fn.from l.tokens) (l.finding ∷ xs)
      ≡ walk_count l.bytes (b || not (l.index == l.fn.from)) (drop l.index l.tokens)
      (l.finding ∷ xs);
  ahead : l.fn.from ≤ l.index;
}

abbrev pub decreases-loop-token : goal.decreases-loop-token
decreases-loop-token l = length l.tokens - l.index
