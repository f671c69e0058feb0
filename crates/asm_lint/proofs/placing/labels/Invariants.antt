use Rattle.std.proofs.Common.{◌≡◌, map}
use Rattle.std.specs.List.{All}
use Rattle.diagnostic.specs.Parts.{seen_label}
use Rattle.asm_lint.specs.Findings.{found_label, said_label}
use Rattle.asm_lint.specs.Spans.{IsSpan}
use Rattle.asm_lint.proofs.placing.labels.Given as goal

abbrev pub invariant-loop-label : goal.invariant-loop-label
invariant-loop-label l = record {
  said : map found_label l.list.items ≡ map said_label (map seen_label l.yielded);
  spans : All (λ x. IsSpan l.site.text.now x.range) l.list.items;
}
