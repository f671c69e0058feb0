use Rattle.std.proofs.Common.{refl, string_bytes}
use Rattle.text_faults.specs.Views.{seen_label}
use Rattle.asm_lint.specs.Spans.{IsSpan}
use Rattle.asm_lint.proofs.Elements.{all-more, mapped-more}
use Rattle.asm_lint.proofs.finding_labels.labels.Goals as goal

pub loop-label-preserved : goal.loop-label-preserved
loop-label-preserved c = record {
  primary = mapped-more (λ x. x.is_primary) (λ y. y.is_primary) seen_label
      c.loop-label.list.items _ c.loop-label.yielded _ c.in-Some.label
      c.in_ok-push.ensures.items c.loop-label.invariant.primary refl;
  texts = mapped-more (λ x. string_bytes x.text) (λ y. y.text) seen_label
      c.loop-label.list.items _ c.loop-label.yielded _ c.in-Some.label
      c.in_ok-push.ensures.items c.loop-label.invariant.texts refl;
  spans = all-more (λ x. IsSpan c.args.site.text.now x.range) c.loop-label.list.items _ _
      c.in_ok-push.ensures.items c.loop-label.invariant.spans c.spot_range.ensures;
}
