-- How many bytes there are before the end of a text.
use Rattle.std.proofs.Common.{◌≡◌, ℕ, ◌+◌, ◌<◌, ◌≤◌, refl, List, [], ◌∷◌, chars, length, sym, ap}
use Rattle.std.proofs.Common.{arith, ◌∙◌, ◌≢◌}
use Rattle.std.specs.Str.{IsUtf8}
use Rattle.std.proofs.lemmas.Str.{len_utf8_bounds}
use Rattle.rustc_parse_format.specs.Characters.{Text, byte_length}
use Rattle.rustc_parse_format.proofs.Literals.Widths.{width-append, width-cons}
use Rattle.flat_reading.specs.Progress.{EndsWith}
use Rattle.rustc_parse_format.proofs.Sources.PlainPlaces.{width_chars}
use Rattle.flat_reading.specs.Events.{position}

no_width : (t : Text) → byte_length t ≡ 0 → t ≡ []
no_width [] e = refl
no_width (c ∷ t) e =
    let one = len_utf8_bounds c in absurd (omega (arith, e, width-cons c t, one))

-- Before the last byte something is left, and after it nothing.
pub some_left : (bytes : List ℕ) (input t : Text) (read : ℕ) → IsUtf8 bytes → chars bytes ≡ input
    → read ≡ position input t → read < length bytes → t ≢ []
some_left bytes input t read u e r h nil =
    let wide : length bytes ≡ byte_length input = sym (width_chars bytes u) ∙ ap byte_length e in
    let none = ap byte_length nil in
    omega (arith, r, none, wide)

pub none_left : (bytes : List ℕ) (input t : Text) (read : ℕ) → IsUtf8 bytes → chars bytes ≡ input
    → EndsWith input t → read ≡ position input t
    → length bytes ≤ read → t ≡ []
none_left bytes input t read u e left r h =
    let wide : length bytes ≡ byte_length input = sym (width_chars bytes u) ∙ ap byte_length e in
    let parts : byte_length input ≡ byte_length left.0 + byte_length t = ap byte_length left.1
    ∙ width-append left.0 t in
    no_width t (omega (arith, r, parts, wide))
