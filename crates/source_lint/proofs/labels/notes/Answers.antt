use Rattle.std.proofs.Common.{◌∙◌, ap, length, refl, string_bytes}
use Rattle.std.specs.List.{All}
use Rattle.call_faults.specs.Views.{seen_note}
use Rattle.asm_lint.specs.Spans.{IsSpan}
use Rattle.asm_lint.proofs.Elements.{all-more, mapped-more}
use Rattle.source_lint.proofs.labels.notes.Goals as goal

pub loop-note-preserved : goal.loop-note-preserved
loop-note-preserved c = record {
  texts = mapped-more (λ x. string_bytes x.text) (λ y. y.text) seen_note
      c.loop-note.list.items _ c.loop-note.yielded _ c.in-Some.note
      c.in_ok-push.ensures.items c.loop-note.invariant.texts refl;
  counts = mapped-more (λ x. length x.ranges.items) (λ y. length y.spots) seen_note
      c.loop-note.list.items _ c.loop-note.yielded _ c.in-Some.note
      c.in_ok-push.ensures.items c.loop-note.invariant.counts
      (c.in_ok-ranges.ensures.count ∙ ap length c.deref.ensures.value);
  spans = all-more (λ x. All (λ r. IsSpan c.args.site.text.now r) x.ranges.items)
      c.loop-note.list.items _ _ c.in_ok-push.ensures.items c.loop-note.invariant.spans
      c.in_ok-ranges.ensures.spans;
}
