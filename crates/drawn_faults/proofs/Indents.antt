-- A text of one line has no margin.
use Rattle.std.proofs.Common.{◌≡◌, ◌++◌, ◌∙◌, ℕ, List, [], ◌∷◌, IsUtf8, ap, chars, refl, replicate}
use Rattle.std.proofs.Common.{subst, sym}
use Rattle.std.specs.Prelude.{◌==◌, encode_utf8_all}
use Rattle.std.specs.Str.{NoCharPasses, NonePass}
use Rattle.std.proofs.lemmas.Str.{chars_from_encodes, encodes-append}
use Rattle.rustc_parse_format.specs.Characters.{Text}
use Rattle.drawn_lines.specs.Glyphs.{glyph, glyph_bytes, glyph_count, glyphs, run}
use Rattle.drawn_lines.specs.declared.paint.Gutter.{Gutter}
use Rattle.drawn_faults.specs.Diagnostics.{indented_text}

none-indented : (g : Gutter) (t : Text) → NonePass (λ c. c == 10) t
    → encode_utf8_all (glyphs t) ≡ indented_text g t
none-indented g [] n = refl
none-indented g (c ∷ t) n =
    rw n.0 (encodes-append (replicate (glyph_count c) (glyph c)) (glyphs t)
    ∙ ap (λ u. run (glyph_count c) (glyph c) ++ u) (none-indented g t n.1))

pub one-line : (g : Gutter) (bs : List ℕ) → IsUtf8 bs → NoCharPasses (λ c. c == 10) bs
    → glyph_bytes bs ≡ indented_text g (chars bs)
one-line g bs u h =
    subst (λ t. encode_utf8_all (glyphs t) ≡ indented_text g t) (chars_from_encodes h.0 bs u h.1)
    (none-indented g h.0 h.2)

-- what `put_indented_text` needs
pub ruleset one_lines = (one-line)
