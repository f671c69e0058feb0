-- The field after an opening brace and where its parts are. A text is cut, by computation, into the
-- field at its start and the rest, as `IsCut` in `Syntax` defines it.
use Rattle.std.specs.Prelude.{if◌then◌else◌, ◌++◌, [], ◌∷◌}
use Rattle.std.specs.Char.{is_ascii_digit, is_whitespace}
use Rattle.rustc_parse_format.specs.Characters.{Text, is_id_start, front, word, after_word, digits}
use Rattle.rustc_parse_format.specs.Characters.{after_digits, after_white, begins_raw}
use Rattle.rustc_parse_format.specs.Characters.{after_prefix}
use Rattle.rustc_parse_format.specs.Types.{Mode}
use Rattle.rustc_parse_format.specs.Syntax.{PositionText, Digits, Word, RawWord, NoPosition}
use Rattle.rustc_parse_format.specs.Syntax.{FieldText, field_part, spec_part}
use Rattle.rustc_parse_format.specs.Specification.{specification}

-- A field with the rests of the text from its position on, from its specification on and after it.
pub record Cut : Type 0 where
  pub field : FieldText
  pub position_at : Text
  pub spec_at : Text
  pub rest : Text

-- The cut of the field a that is followed by r.
abbrev pub cut_of : Mode → FieldText → Text → Cut
cut_of mode a r = record {
  field = a;
  position_at = (field_part mode a).spelling ++ r;
  spec_at = (spec_part mode a.spec).spelling ++ r;
  rest = r;
}

-- The raw identifier after an `r#`, where t is left, and the rest after it.
abbrev pub raw_word : Text → PositionText × Text
raw_word t = (RawWord (word t), after_word t)

-- The position at the start of a text, and the rest after it.
abbrev pub position : Text → PositionText × Text
position [] = (NoPosition, [])
position (c ∷ t) =
    if is_ascii_digit c then (Digits (digits (c ∷ t)), after_digits (c ∷ t))
    else (if begins_raw (c ∷ t) then raw_word (after_prefix (c ∷ t))
    else (if is_id_start c then (Word (word (c ∷ t)), after_word (c ∷ t))
    else (NoPosition, c ∷ t)))

-- The cut of a text, computed: the field at its start and the rest.
unfoldable pub cut : Mode → Text → Cut
cut mode t =
    let p = position t in
    let s = specification mode (after_white p.1) in
    record {
      field = record { position = p.0; space = front is_whitespace p.1; spec = s.0 };
      position_at = t;
      spec_at = after_white p.1;
      rest = s.1;
    }
