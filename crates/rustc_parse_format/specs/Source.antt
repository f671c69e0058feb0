-- Whether a snippet is the source literal of an input, computed. It is so exactly if `IsSource`
-- holds.
use Rattle.std.specs.Prelude.{ℕ, ◌-◌, ◌&&◌, ◌++◌, Bool, false, if◌then◌else◌, List, length, take}
use Rattle.std.specs.Prelude.{drop, [], Option, Some, None, bytes_eq, unwrap_or}
use Rattle.rustc_parse_format.specs.Characters.{Text}
use Rattle.rustc_parse_format.specs.LiteralUnits.{LiteralUnit}
use Rattle.rustc_parse_format.specs.Literal.{units, content_value, ordinary_frame, raw_frame}
use Rattle.rustc_parse_format.specs.Literal.{newline, IsSource}

-- The input without an appended newline.
abbrev pub unappended_input : Bool → Text → Text
unappended_input appended t = if appended then take (length t - 1) t else t

-- The text between its first and its last character.
abbrev pub text_between : Text → Text
text_between t = take (length t - 2) (drop 1 t)

-- The units of an ordinary literal.
abbrev pub units_between : Text → List LiteralUnit
units_between snippet = unwrap_or (units (text_between snippet)) []

-- There are units, and they stand for the text t.
abbrev pub stand_for : Option (List LiteralUnit) → Text → Bool
stand_for None t = false
stand_for (Some us) t = bytes_eq t (content_value us)

-- The first text is a content that stands for the second.
unfoldable pub spells : Text → Text → Bool
spells content t = stand_for (units content) t

-- The snippet is a literal of this style that stands for the text t.
abbrev pub is_literal_of : Option ℕ → Text → Text → Bool
is_literal_of None snippet t = bytes_eq (ordinary_frame (text_between snippet)) snippet
    && spells (text_between snippet) t
is_literal_of (Some n) snippet t = bytes_eq (raw_frame n t) snippet

-- The snippet is the source literal of the input. Without a snippet this is false.
unfoldable pub is_source : Text → Option ℕ → Option Text → Bool → Bool
is_source input style None appended = false
is_source input style (Some snippet) appended =
    bytes_eq (unappended_input appended input ++ newline appended) input
    && is_literal_of style snippet (unappended_input appended input)

-- There is a snippet, and it is the source literal of the input.
abbrev pub HasSource : Text → Option ℕ → Option Text → Bool → Type 0
HasSource input style None appended = ⊥
HasSource input style (Some snippet) appended = IsSource input style snippet appended
