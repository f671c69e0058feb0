use Rattle.std.proofs.Common.{◌≡◌, ◌++◌, chars, length, string_bytes}
use Rattle.drawn_faults.specs.Diagnostics.{indented_text}
use denote.Text.{Utf8}
use denote.Shadow.{shadow}
use Rattle.drawn_faults.proofs.notes.put_note_lines.Given as goal

-- The text added, and then the rest of it, is all.
abbrev pub invariant-loop-c : goal.invariant-loop-c
invariant-loop-c l = record {
  is_text : shadow (Utf8 l.rest);
  same : string_bytes l.out ++ indented_text l.gutter (chars l.rest)
      ≡ string_bytes l.fn.out ++ indented_text l.gutter (chars l.text);
}

abbrev pub decreases-loop-c : goal.decreases-loop-c
decreases-loop-c l = length l.rest
