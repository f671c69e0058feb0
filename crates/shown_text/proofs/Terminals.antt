-- A terminal obeys no character of bytes that it gets as drawings have them.
use Rattle.std.proofs.Common.{List, ℕ, chars}
use Rattle.std.specs.Str.Lossy.{utf8_lossy}
use Rattle.drawn_lines.specs.Glyphs.{IsHarmless}
use Rattle.drawn_lines.proofs.Harmless.{glyphs-harmless}
use Rattle.shown_text.specs.Shown.{drawn}

pub drawn-harmless : (bs : List ℕ) → IsHarmless (drawn bs)
drawn-harmless bs = glyphs-harmless (chars (utf8_lossy bs))

pub ruleset harmless_drawn = (drawn-harmless)
