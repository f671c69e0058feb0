use Rattle.std.proofs.Common.{map}
use Rattle.std.specs.List.{All}
use Rattle.call_faults.specs.Views.{seen_edit}
use Rattle.asm_lint.specs.Spans.{IsSpan}
use Rattle.source_lint.specs.Findings.{TellEdits}
use Rattle.source_lint.proofs.labels.edits.Given as goal

abbrev pub invariant-loop-edit : goal.invariant-loop-edit
invariant-loop-edit l = record {
  outcome : TellEdits (map seen_edit l.yielded) l.list.items;
  spans : All (λ x. IsSpan l.site.text.now x.range) l.list.items;
}
