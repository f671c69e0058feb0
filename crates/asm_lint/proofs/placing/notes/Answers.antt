use Rattle.std.proofs.Common.{map, refl}
use Rattle.std.specs.Prelude.{option_map}
use Rattle.std.specs.List.{All}
use Rattle.asm_lint.specs.Findings.{found_help}
use Rattle.asm_lint.specs.Spans.{IsSpan}
use Rattle.asm_lint.proofs.Elements.{all-more}
use Rattle.asm_lint.proofs.Noting.{help-step, note-more, note-same}
use Rattle.asm_lint.proofs.placing.notes.Goals as goal

pub loop-note-preserved-in-Continue-branch-2 : goal.loop-note-preserved-in-Continue-branch-2
loop-note-preserved-in-Continue-branch-2 c = record {
  notes = note-more c.loop-note.list.items _ c.loop-note.yielded _ c.in-Some.note
      c.in_ok-push-in-Note.ensures.items c.loop-note.invariant.notes
      (rw (c.in-Note.is, c.in_ok-ranges-in-Note.ensures.shown) refl);
  help = help-step c.loop-note.yielded c.in-Some.note _ (option_map found_help c.loop-note.help)
      c.loop-note.invariant.help (rw c.in-Note.is refl);
  spans = all-more (λ x. All (λ r. IsSpan c.args.site.text.now r) x.ranges.items)
      c.loop-note.list.items _ _ c.in_ok-push-in-Note.ensures.items c.loop-note.invariant.spans
      c.in_ok-ranges-in-Note.ensures.spans;
  no_edits = c.loop-note.invariant.no_edits;
}

pub loop-note-preserved : goal.loop-note-preserved
loop-note-preserved c = record {
  notes = note-same c.loop-note.list.items c.loop-note.yielded c.in-Some.note
      c.loop-note.invariant.notes (rw c.in-Help.is refl);
  help = help-step c.loop-note.yielded c.in-Some.note (option_map found_help c.loop-note.help) _
      c.loop-note.invariant.help (rw (c.in-Help.is, c.new.ensures.items) refl);
  spans = c.loop-note.invariant.spans;
  no_edits = c.new.ensures.items;
}
