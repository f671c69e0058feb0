use Rattle.std.proofs.Common.{◌≡◌, length}
use Rattle.std.specs.List.{All}
use Rattle.asm_lint.specs.Spans.{IsSpan}
use Rattle.source_lint.proofs.labels.ranges.Given as goal

abbrev pub invariant-loop-spot : goal.invariant-loop-spot
invariant-loop-spot l = record {
  count : length l.ranges.items ≡ l.spot-index;
  spans : All (λ r. IsSpan l.site.text.now r) l.ranges.items;
}
