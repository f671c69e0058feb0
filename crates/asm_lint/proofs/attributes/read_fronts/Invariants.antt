use Rattle.std.proofs.Common.{chars, drop, map}
use Rattle.std.specs.List.{All}
use Rattle.asm_lint.specs.Attributes.{ReadsFronts}
use Rattle.asm_lint.specs.Spans.{HasSpans}
use Rattle.asm_lint.proofs.Gathering.{Gathered}
use Rattle.asm_lint.proofs.attributes.read_fronts.Given as goal

abbrev pub invariant-loop-start : goal.invariant-loop-start
invariant-loop-start l = record {
  read : Gathered (λ xs fs. ReadsFronts (chars l.item.name.now)
      (map (λ p. p.now) l.item.parameters.now) l.source xs fs) l.starts
      (drop l.start-index l.starts) l.initial.findings.items l.findings.items;
  spans : All (HasSpans l.text) l.initial.findings.items
      → All (HasSpans l.text) l.findings.items;
}
