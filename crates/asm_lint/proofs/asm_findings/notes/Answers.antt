use Rattle.std.proofs.Common.{length, refl, string_bytes}
use Rattle.std.specs.List.{All}
use Rattle.asm_faults.specs.Views.{seen_note}
use Rattle.asm_lint.specs.AsmFindings.{shown_count}
use Rattle.asm_lint.specs.Spans.{IsSpan}
use Rattle.asm_lint.proofs.Elements.{all-more, mapped-more}
use Rattle.asm_lint.proofs.asm_findings.notes.Goals as goal

pub loop-note-preserved : goal.loop-note-preserved
loop-note-preserved c = record {
  texts = mapped-more (λ x. string_bytes x.text) (λ y. y.text) seen_note
      c.loop-note.list.items _ c.loop-note.yielded _ c.in-Some.note
      c.in_ok-push.ensures.items c.loop-note.invariant.texts refl;
  counts = mapped-more (λ x. length x.ranges.items) (λ y. shown_count y.spot) seen_note
      c.loop-note.list.items _ c.loop-note.yielded _ c.in-Some.note
      c.in_ok-push.ensures.items c.loop-note.invariant.counts
      c.in_ok-ranges.ensures.count;
  spans = all-more (λ x. All (λ r. IsSpan c.args.site.text.now r) x.ranges.items)
      c.loop-note.list.items _ _ c.in_ok-push.ensures.items c.loop-note.invariant.spans
      c.in_ok-ranges.ensures.spans;
}
