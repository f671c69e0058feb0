use Rattle.std.proofs.Common.{refl}
use Rattle.diagnostic.specs.Parts.{seen_label}
use Rattle.asm_lint.specs.Findings.{found_label, said_label}
use Rattle.asm_lint.specs.Spans.{IsSpan}
use Rattle.asm_lint.proofs.Elements.{all-more, mapped-more}
use Rattle.asm_lint.proofs.placing.labels.Goals as goal

pub loop-label-preserved : goal.loop-label-preserved
loop-label-preserved c = record {
  said = mapped-more found_label said_label seen_label c.loop-label.list.items _
      c.loop-label.yielded _ c.in-Some.label c.in_ok-push.ensures.items
      c.loop-label.invariant.said refl;
  spans = all-more (λ x. IsSpan c.args.site.text.now x.range) c.loop-label.list.items _ _
      c.in_ok-push.ensures.items c.loop-label.invariant.spans c.spot_range.ensures;
}
