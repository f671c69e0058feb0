-- A world gives each character of the input its bytes in the source, and so each mark its byte
-- offset. With a source literal they are the bytes of the literal that stand for the character. The
-- rules are those of string literals in the Rust Reference, and the code of rustc's parser.
use Rattle.std.specs.Prelude.{ℕ, suc, ◌+◌, ◌-◌, ◌<◌, ◌≤◌, ◌++◌, Bool, true, false, if◌then◌else◌}
use Rattle.std.specs.Prelude.{List, [], ◌∷◌, length, map, Option, Some, None}
use Rattle.std.specs.Prelude.{slice_index_or}
use Rattle.std.specs.Char.{len_utf8}
use Rattle.rustc_parse_format.specs.Characters.{Text, byte_length}
use Rattle.rustc_parse_format.specs.Types.{Piece, map_piece}
use Rattle.rustc_parse_format.specs.LiteralUnits.{LiteralUnit}
use Rattle.rustc_parse_format.specs.Literal.{placed_characters}
use Rattle.rustc_parse_format.specs.Source.{units_between, is_source}
use Rattle.rustc_parse_format.specs.Marks.{Mark, Start, End, Span}
use Rattle.rustc_parse_format.specs.Faults.{Fault, map_fault}

-- The byte range of a character: the offset where it starts and the offset where it ends.
abbrev pub Place : Type 0
Place = ℕ × ℕ

pub record World : Type 0 where
  -- The snippet is the source literal of the input.
  pub has_source : Bool
  -- The place of each character of the input, in order.
  pub places : List Place
  -- The byte offset of the end of the text.
  pub end : ℕ

-- The places of the characters of a text that starts at the byte `at`, where each character stands
-- for itself.
abbrev pub plain_places : ℕ → Text → List Place
plain_places at [] = []
plain_places at (c ∷ t) = (at, at + len_utf8 c) ∷ plain_places (at + len_utf8 c) t

-- The number of `#` on each side of a literal of this style. None is the style of an ordinary
-- literal.
abbrev pub hashes : Option ℕ → ℕ
hashes None = 0
hashes (Some n) = n

-- The number of bytes of a literal before its text: a quote, or an `r`, the hashes and a quote.
abbrev pub quote_offset : Option ℕ → ℕ
quote_offset None = 1
quote_offset (Some n) = n + 2

-- The world of a text that starts at the byte `at` and ends at the byte `end`, where each character
-- stands for itself.
abbrev pub plain_world : Bool → ℕ → Text → ℕ → World
plain_world literal at input end =
    record { has_source = literal; places = plain_places at input; end = end }

-- The places of the characters that a content stands for, where the content starts at the byte
-- `at`.
abbrev pub content_places : ℕ → List LiteralUnit → List Place
content_places at us = map (λ (x : Place × ℕ). x.0) (placed_characters at us)

-- A place moved k bytes towards the end.
abbrev pub later_place : ℕ → Place → Place
later_place k p = (k + p.0, k + p.1)

-- The end of the last of these places, or e if there are none.
abbrev pub last_stop : ℕ → List Place → ℕ
last_stop e [] = e
last_stop e (p ∷ ps) = last_stop p.1 ps

-- The place of an appended newline: one byte at e, the end of the text. Without one the list is
-- empty.
abbrev pub newline_places : ℕ → Bool → List Place
newline_places e appended = if appended then (e, suc e) ∷ [] else []

-- The end of the text has four cases. Without a snippet it is as many bytes as the input has,
-- without an appended newline.
abbrev pub input_end : Text → Bool → ℕ
input_end input appended = byte_length input - (if appended then 1 else 0)

-- With a snippet that is not the source literal, the text ends at the end of the snippet.
abbrev pub foreign_end : Text → ℕ
foreign_end snippet = byte_length snippet

-- In a raw source literal, the text ends before the closing quote and its hashes.
abbrev pub raw_end : ℕ → Text → ℕ
raw_end n snippet = byte_length snippet - (n + 1)

-- In an ordinary source literal, the text ends where its last character ends, before any
-- continuation that is left.
abbrev pub ordinary_end : List LiteralUnit → ℕ
ordinary_end us = last_stop 1 (content_places 1 us)

-- The end of the text in a source literal of this style.
abbrev pub literal_end : Option ℕ → Text → ℕ
literal_end None snippet = ordinary_end (units_between snippet)
literal_end (Some n) snippet = raw_end n snippet

-- The end of the text of any input.
abbrev pub text_end : Text → Option ℕ → Option Text → Bool → ℕ
text_end input style None appended = input_end input appended
text_end input style (Some snippet) appended =
    if is_source input style (Some snippet) appended then literal_end style snippet
    else foreign_end snippet

-- The world of an ordinary source literal with these units.
abbrev pub ordinary_world : List LiteralUnit → Bool → World
ordinary_world us appended =
    record {
      has_source = true;
      places = content_places 1 us
          ++ newline_places (ordinary_end us) appended;
      end = ordinary_end us;
    }

-- The world of a source literal of this style.
abbrev pub literal_world : Text → Option ℕ → Text → Bool → World
literal_world input None snippet appended = ordinary_world (units_between snippet) appended
literal_world input (Some n) snippet appended = plain_world true (n + 2) input (raw_end n snippet)

-- The world of an input. The style of its literal, the snippet and whether a newline was appended
-- decide it.
unfoldable pub world : Text → Option ℕ → Option Text → Bool → World
world input style None appended = plain_world false (quote_offset style) input
    (input_end input appended)
world input style (Some snippet) appended =
    if is_source input style (Some snippet) appended then literal_world input style snippet appended
    else plain_world false (quote_offset style) input (foreign_end snippet)

-- The place of the character from which on k are left. With none left, it is the empty range at the
-- end of the text.
unfoldable pub place_at : World → ℕ → Place
place_at w k = slice_index_or w.places (length w.places - k) (w.end, w.end)

-- The byte offset of a mark.
abbrev pub number_of : World → Mark → ℕ
number_of w (Start k) = (place_at w k).0
number_of w (End k) = (place_at w k).1

-- Each of the last n characters starts after this byte offset.
abbrev pub StartAfter : ℕ → World → ℕ → Type 0
StartAfter byte w n = (k : ℕ) → 0 < k → k ≤ n → byte < (place_at w k).0

-- The byte range of a span.
abbrev pub place_of : World → Span → Place
place_of w s = (number_of w s.from, number_of w s.to)

-- A piece with its spans as byte ranges.
abbrev pub piece_in : World → Piece Span → Piece Place
piece_in w p = map_piece (place_of w) p

-- Pieces with their spans as byte ranges.
abbrev pub pieces_in : World → List (Piece Span) → List (Piece Place)
pieces_in w ps = map (piece_in w) ps

-- Faults with their spans as byte ranges.
abbrev pub faults_in : World → List (Fault Span) → List (Fault Place)
faults_in w fs = map (map_fault (place_of w)) fs
