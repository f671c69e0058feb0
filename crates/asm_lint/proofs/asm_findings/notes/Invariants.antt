use Rattle.std.proofs.Common.{◌≡◌, length, map}
use Rattle.std.specs.Prelude.{string_bytes}
use Rattle.std.specs.List.{All}
use Rattle.asm_faults.specs.Views.{seen_note}
use Rattle.asm_lint.specs.AsmFindings.{shown_count}
use Rattle.asm_lint.specs.Spans.{IsSpan}
use Rattle.asm_lint.proofs.asm_findings.notes.Given as goal

abbrev pub invariant-loop-note : goal.invariant-loop-note
invariant-loop-note l = record {
  texts : map (λ x. string_bytes x.text) l.list.items
      ≡ map (λ n. n.text) (map seen_note l.yielded);
  counts : map (λ x. length x.ranges.items) l.list.items
      ≡ map (λ n. shown_count n.spot) (map seen_note l.yielded);
  spans : All (λ x. All (λ r. IsSpan l.site.text.now r) x.ranges.items) l.list.items;
}
