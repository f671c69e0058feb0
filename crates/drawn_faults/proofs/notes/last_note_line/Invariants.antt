use Rattle.std.proofs.Common.{◌≡◌, ◌<◌, ◌^◌, drop, map}
use Rattle.drawn_faults.specs.Diagnostics.{last_note_line}
use Rattle.drawn_lines.specs.Places.{seen_picture}
use Rattle.drawn_faults.specs.SeenDiagnostics.{seen_note}
use Rattle.drawn_faults.proofs.notes.last_note_line.Given as goal

-- The answer for the rest is the answer for all.
abbrev pub invariant-loop-note : goal.invariant-loop-note
invariant-loop-note l = record {
  same : last_note_line (seen_picture l.picture) l.line (map seen_note (drop l.note-index l.notes))
      ≡ last_note_line (seen_picture l.picture) l.last (map seen_note l.notes);
  small : l.line < 2 ^ 59;
}
