use Rattle.std.proofs.Common.{◌≡◌, ◌++◌, chars, drop, encode_utf8_all, length, string_bytes}
use Rattle.drawn_lines.specs.Glyphs.{glyphs}
use denote.Text.{Utf8}
use denote.Shadow.{shadow}
use Rattle.drawn_lines.proofs.glyphs.put_glyphs.Given as goal

-- The text added and the rest of it are the whole text.
abbrev pub invariant-loop-c : goal.invariant-loop-c
invariant-loop-c l = record {
  is_text : shadow (Utf8 l.rest);
  whole : string_bytes l.out ++ encode_utf8_all (drop l.skip (glyphs (chars l.rest)))
      ≡ string_bytes l.fn.out ++ encode_utf8_all (drop l.fn.count (glyphs (chars l.fn.text)));
}

abbrev pub decreases-loop-c : goal.decreases-loop-c
decreases-loop-c l = length l.rest
