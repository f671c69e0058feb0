use Rattle.std.proofs.Common.{◌≡◌, ℕ, ◌<◌, List, false, get_or, map, length, take}
use Rattle.std.specs.List.{AllByRecursion, list_any}
use Rattle.call_faults.specs.Arguments.{Entry}
use Rattle.call_faults.specs.Comparison.{means}
use Rattle.call_faults.specs.Views.{Holds, seen_lookup}
use Rattle.call_faults.proofs.comparison.marks.Given as goal

-- The arguments that the lookups so far mean are marked.
abbrev pub invariant-loop-lookup : goal.invariant-loop-lookup
invariant-loop-lookup l = record {
  many : length l.marks.items ≡ l.count;
  marked : (ks : List Entry) → Holds ks l.arguments → AllByRecursion (λ k. k.index < l.count) ks
      → (i : ℕ) → get_or l.marks.items i false
      ≡ list_any (means ks i) (map seen_lookup (take l.lookup-index l.lookups));
}
