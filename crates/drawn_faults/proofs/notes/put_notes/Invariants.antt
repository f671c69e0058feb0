use Rattle.std.proofs.Common.{◌≡◌, ◌++◌, drop, map, string_bytes}
use Rattle.drawn_faults.specs.Diagnostics.{notes_rows}
use Rattle.drawn_lines.specs.Places.{seen_picture}
use Rattle.drawn_faults.specs.SeenDiagnostics.{seen_note}
use Rattle.drawn_faults.proofs.notes.put_notes.Given as goal

-- The text added, and then the rest of it, is all.
abbrev pub invariant-loop-note : goal.invariant-loop-note
invariant-loop-note l = string_bytes l.out
    ++ notes_rows (seen_picture l.picture) l.gutter (map seen_note (drop l.note-index l.notes))
    ≡ string_bytes l.fn.out
    ++ notes_rows (seen_picture l.picture) l.gutter (map seen_note l.notes)
