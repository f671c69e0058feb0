use Rattle.std.proofs.Common.{◌≡◌, map}
use Rattle.std.specs.List.{All}
use Rattle.asm_lint.specs.Findings.{nowhere}
use Rattle.asm_lint.specs.Spans.{IsSpan}
use Rattle.asm_lint.proofs.placing.ranges.Given as goal

abbrev pub invariant-loop-place : goal.invariant-loop-place
invariant-loop-place l = record {
  shown : map nowhere l.list.items ≡ map nowhere l.yielded;
  spans : All (λ r. IsSpan l.site.text.now r) l.list.items;
}
