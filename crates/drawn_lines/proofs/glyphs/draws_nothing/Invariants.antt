use Rattle.std.proofs.Common.{◌≡◌, ◌==◌, chars, encode_utf8_all, length}
use Rattle.drawn_lines.specs.Glyphs.{glyphs}
use denote.Text.{Utf8}
use denote.Shadow.{shadow}
use Rattle.drawn_lines.proofs.glyphs.draws_nothing.Given as goal

-- The answer for the rest is the answer for all.
abbrev pub invariant-loop-c : goal.invariant-loop-c
invariant-loop-c l = record {
  is_text : shadow (Utf8 l.rest);
  same : (length (encode_utf8_all (glyphs (chars l.rest))) == 0)
      ≡ (length (encode_utf8_all (glyphs (chars l.fn.text))) == 0);
}

abbrev pub decreases-loop-c : goal.decreases-loop-c
decreases-loop-c l = length l.rest
