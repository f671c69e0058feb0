use Rattle.std.proofs.Common.{◌≡◌, map}
use Rattle.std.specs.Prelude.{string_bytes}
use Rattle.std.specs.List.{All}
use Rattle.text_faults.specs.Views.{seen_label}
use Rattle.asm_lint.specs.Spans.{IsSpan}
use Rattle.asm_lint.proofs.finding_labels.labels.Given as goal

abbrev pub invariant-loop-label : goal.invariant-loop-label
invariant-loop-label l = record {
  primary : map (λ x. x.is_primary) l.list.items
      ≡ map (λ y. y.is_primary) (map seen_label l.yielded);
  texts : map (λ x. string_bytes x.text) l.list.items
      ≡ map (λ y. y.text) (map seen_label l.yielded);
  spans : All (λ x. IsSpan l.site.text.now x.range) l.list.items;
}
