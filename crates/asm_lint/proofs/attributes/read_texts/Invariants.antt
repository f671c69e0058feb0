use Rattle.std.proofs.Common.{chars, drop, map}
use Rattle.std.specs.List.{All}
use Rattle.rust_trees.specs.Leaves.{leaf}
use Rattle.asm_lint.specs.Attributes.{ReadsTexts}
use Rattle.asm_lint.specs.Spans.{HasSpans}
use Rattle.asm_lint.proofs.Gathering.{Gathered}
use Rattle.asm_lint.proofs.attributes.read_texts.Given as goal

abbrev pub invariant-loop-literal : goal.invariant-loop-literal
invariant-loop-literal l = record {
  read : Gathered (λ xs fs. ReadsTexts (chars l.item.name.now)
      (map (λ p. p.now) l.item.parameters.now) xs fs) (map leaf l.literals)
      (map leaf (drop l.literal-index l.literals)) l.initial.findings.items l.findings.items;
  spans : All (HasSpans l.text) l.initial.findings.items
      → All (HasSpans l.text) l.findings.items;
}
