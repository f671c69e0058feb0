-- The place of an input in its source, as a contract sees it. Private contracts use it, and so do
-- the views of a cursor and of a parser.
use Prim.Native.Char.{code}
use Rattle.std.specs.Prelude.{◌≡◌, ℕ, ◌≤◌, ◌<◌, ◌+◌, ◌^◌, ◌-◌, ◌&&◌, ◌++◌, ◌==◌, ◌⊎◌, Bool, true}
use Rattle.std.specs.Prelude.{not, List, [], ◌∷◌, length, take, drop, flat_map}
use Rattle.std.specs.Prelude.{Option, Some, None}
use Rattle.std.specs.List.{list_all}
use Rattle.std.specs.Prelude.{chars, codes}
use Rattle.std.specs.Prelude.{string_bytes}
use Rattle.std.specs.Str.{is_utf8}
use Rattle.std.specs.declared.string.String.{String}
use Rattle.std.specs.declared.alloc.Global.{Global}
use Rattle.rustc_parse_format.specs.declared.source.Source.{Source}
use Rattle.rustc_parse_format.specs.declared.source.anchor.Anchor.{Anchor}
use Rattle.rustc_parse_format.specs.Characters.{Text, begins_with, after_first, byte_length}
use Rattle.rustc_parse_format.specs.LiteralUnits.{LiteralUnit, Continuation, spelling, value}
use Rattle.rustc_parse_format.specs.LiteralUnits.{meaning, unit_at}
use Rattle.rustc_parse_format.specs.Literal.{IsContent, content_value, newline, ordinary_frame}
use Rattle.rustc_parse_format.specs.Source.{units_between}
use Rattle.rustc_parse_format.specs.Bytes.{IsLeft}
use Rattle.rustc_parse_format.specs.World.{World, Place, plain_world, ordinary_world, ordinary_end}
use Rattle.rustc_parse_format.specs.World.{content_places, last_stop, newline_places}

-- The input has a newline that was appended to the text of its ordinary source literal: the two are
-- not as long.
abbrev pub is_appended : Text → Text → Bool
is_appended input snippet =
    not (length input == length (content_value (units_between snippet)))

-- The world of an ordinary source literal.
abbrev pub world_of_literal : Text → Text → World
world_of_literal input snippet = ordinary_world (units_between snippet) (is_appended input snippet)

-- The world of a source. A source keeps the snippet only if its places are not those of a plain
-- text.
abbrev pub world_with : Option (String Global) → Source → World
world_with None s = plain_world s.is_literal s.offset (chars s.input.now) s.end
world_with (Some snippet) s =
    record (world_of_literal (chars s.input.now) (chars (string_bytes snippet))) {
      has_source =
          s.is_literal;
    }

-- The world of a source, as a contract sees it.
abbrev pub seen_world : Source → World
seen_world s = world_with s.kept_snippet s

-- The text begins with a continuation.
abbrev pub begins_continuation : Text → Bool
begins_continuation t = begins_with (code "\\") t && begins_with (code "\n") (after_first t)

-- The number of bytes of the unit before r, or 0 if it stands for no character.
abbrev pub width_before : Text → Text → Text → ℕ
width_before t [] r = 0
width_before t (c ∷ v) r = byte_length t - byte_length r

-- The number of bytes of a unit, by its meaning, or 0 if it stands for no character.
abbrev pub unit_width : Text → Option (Text × Text) → ℕ
unit_width t None = 0
unit_width t (Some x) = width_before t x.0 x.1

-- The number of bytes of the unit at the start of a text, or 0 if it stands for no character.
unfoldable pub character_width : Text → ℕ
character_width t = unit_width t (meaning (unit_at t))

-- Units as they are written.
abbrev pub spelled_units : List LiteralUnit → Text
spelled_units us = flat_map spelling us

-- The units after the continuations at the start.
abbrev pub after_continuations : List LiteralUnit → List LiteralUnit
after_continuations [] = []
after_continuations (Continuation w ∷ us) = after_continuations us
after_continuations (u ∷ us) = u ∷ us

-- The number of bytes from the start of the units us to the start of those after them, or 0 if none
-- are after them.
abbrev pub gap_to : List LiteralUnit → List LiteralUnit → ℕ
gap_to us [] = 0
gap_to us (v ∷ vs) = byte_length (spelled_units us) - byte_length (spelled_units (v ∷ vs))

-- The number of bytes of the continuations at the start, or 0 if no character comes after them.
abbrev pub gap : List LiteralUnit → ℕ
gap us = gap_to us (after_continuations us)

-- A content and the quote after it.
abbrev pub closed_by_quote : Text → Text
closed_by_quote content = content ++ codes "\""

-- The first of the units stands for a character, or none of them does. So continuations before a
-- character are skipped, but those at the end are not.
abbrev pub IsAhead : List LiteralUnit → Type 0
IsAhead [] = Unit {0}
IsAhead (u ∷ us) = ((c : ℕ) × (value u ≡ c ∷ [])) ⊎ (content_value (u ∷ us) ≡ [])

-- The rest of the input is the text that the snippet stands for from the byte `at` on. The next
-- character starts there, or, if none is left, the text ends there.
pub record IsHere (snippet : List ℕ) (w : World) (rest : Text) (at : ℕ) : Type 0 where
  pub within : at ≤ length snippet
  pub valid : is_utf8 (drop at snippet) ≡ true
  pub content : Text
  pub units : List LiteralUnit
  pub left : chars (drop at snippet) ≡ closed_by_quote content
  pub is_content : IsContent content units
  -- An appended newline is still to come.
  pub appended : Bool
  pub rest_is : rest ≡ content_value units ++ newline appended
  pub passed : List Place
  pub places : w.places ≡ passed ++ (content_places at units ++ newline_places w.end appended)
  pub ending : last_stop at (content_places at units) ≡ w.end
  pub ahead : IsAhead units

-- The byte is not a backslash.
abbrev pub is_unescaped : ℕ → Bool
is_unescaped b = not (b == code "\\")

-- The n bytes from `at` on are not backslashes, and the snippet goes on after them. So each of them
-- stands for itself.
pub record IsUnescaped (snippet : List ℕ) (at n : ℕ) : Type 0 where
  pub inside : at + n < length snippet
  pub unescaped : list_all is_unescaped (take n (drop at snippet)) ≡ true

-- The rest of the input at the anchor is the text that the snippet stands for from its offset on,
-- and as many bytes as it says stand for themselves there.
abbrev pub IsAnchor : List ℕ → World → Anchor → Type 0
IsAnchor snippet w a = IsHere snippet w (chars a.rest.now) a.offset
    × IsUnescaped snippet a.offset a.unescaped_len

-- The text `rest` is a suffix of the rest at an anchor in this snippet.
pub record Leads (snippet : List ℕ) (a : Anchor) (rest : List ℕ) : Type 0 where
  pub after : IsLeft a.rest.now rest
  pub here : (w : World) × IsAnchor snippet w a

-- If a snippet is kept, the anchor is one in it.
abbrev pub IsAnchorIn : Option (String Global) → World → Anchor → Type 0
IsAnchorIn None w a = Unit {0}
IsAnchorIn (Some snippet) w a = IsAnchor (string_bytes snippet) w a

-- The text `rest` is a suffix of the input of a source, and the anchor is no later.
pub record IsAnchored (s : Source) (rest : List ℕ) (a : Anchor) : Type 0 where
  pub is_left : IsLeft s.input.now rest
  pub is_after : IsLeft a.rest.now rest
  pub is_anchor : IsAnchorIn s.kept_snippet (seen_world s) a
  pub fits : s.offset + length s.input.now < 2 ^ 64
  pub ending : s.end ≡ (seen_world s).end

-- The snippet is an ordinary literal that stands for the input.
pub record IsOrdinary (input : Text) (snippet : Text) (appended : Bool) (end : ℕ) : Type 0 where
  pub content : Text
  pub units : List LiteralUnit
  pub is_literal : snippet ≡ ordinary_frame content
  pub is_content : IsContent content units
  pub stands_for : content_value units ++ newline appended ≡ input
  pub ending : end ≡ ordinary_end units

-- The snippet, if one is kept, is an ordinary literal that stands for the input.
abbrev pub IsKeptIn : Option (String Global) → Source → Type 0
IsKeptIn None s = Unit {0}
IsKeptIn (Some snippet) s = IsOrdinary (chars s.input.now) (chars (string_bytes snippet))
    (is_appended (chars s.input.now) (chars (string_bytes snippet))) s.end

-- The snippet that a source keeps, if any, is an ordinary literal that stands for its input.
abbrev pub IsKept : Source → Type 0
IsKept s = IsKeptIn s.kept_snippet s
