-- The places of a call that something is said of, and what is said of them, with texts as bytes.
use Rattle.std.specs.Prelude.{ℕ, zero, suc, ◌+◌, min, Bool, true, false, List, [], ◌∷◌, drop}
use Rattle.std.specs.Prelude.{Option, Some, None, option_and_then}
use Rattle.std.specs.Option.{option_map_or}
use Rattle.std.specs.List.{slice_get}
use Rattle.rustc_parse_format.specs.Types.{Argument, Count, Is, Name, Param, Star, Implied}
use Rattle.rustc_parse_format.specs.Types.{Piece, Lit, NextArgument}
use Rattle.rustc_parse_format.specs.World.{Place}
use Rattle.call_faults.specs.declared.faults.Part.{Part}
use Rattle.call_faults.specs.declared.faults.Part.TheVariants.{Position, Precision, Width}
use Rattle.call_faults.specs.declared.faults.Reference.{Reference}
use Rattle.text_faults.specs.Spots.{bytes_at}
use Rattle.text_faults.specs.declared.spots.Spot.{Spot}
use Rattle.text_faults.specs.declared.spots.Spot.TheVariants.{Literal, Bytes}

-- A note, and the places that it shows.
pub record Note : Type 0 where
  pub text : List ℕ
  pub spots : List Spot

-- A note that shows no place.
abbrev pub plain_note : List ℕ → Note
plain_note t = record { text = t; spots = [] }

-- An edit of a help: where the text is that it replaces, and the new text, which may have the
-- source of a place in it, between two others.
pub record Edit : Type 0 where
  pub spot : Spot
  pub text : List ℕ
  pub copied : Option Spot
  pub rest : List ℕ

-- An edit that copies no source.
abbrev pub edit : Spot → List ℕ → Edit
edit s t = record { spot = s; text = t; copied = None; rest = [] }

-- A help: what to do, and the edits that do it.
pub record Help : Type 0 where
  pub text : List ℕ
  pub edits : List Edit

-- A range of the literal, or the whole literal if there is none.
abbrev pub spot_of : Option Place → Spot
spot_of None = Literal
spot_of (Some p) = bytes_at p

-- The placeholder that a piece is, if it is one.
abbrev pub placeholder_of : Piece Place → Option (Argument Place)
placeholder_of (Lit t) = None
placeholder_of (NextArgument a) = Some a

-- The placeholder with an index among these pieces.
abbrev pub placeholder_at : List (Piece Place) → ℕ → Option (Argument Place)
placeholder_at ps k = option_and_then placeholder_of (slice_get ps k)

-- Where a part of a placeholder is: a width or a precision with its signs.
abbrev pub part_spot : Part → Argument Place → Spot
part_spot Position a = bytes_at a.position_span
part_spot Precision a = spot_of a.format.precision_span
part_spot Width a = spot_of a.format.width_span

-- Where a reference is.
abbrev pub reference_spot : List (Piece Place) → Reference → Spot
reference_spot ps r = option_map_or (part_spot r.part) (placeholder_at ps r.piece) Literal

-- Where the name of a width or a precision is.
abbrev pub count_spot : Count Place → Spot
count_spot (Is n) = Literal
count_spot (Name w s) = bytes_at s
count_spot (Param n) = Literal
count_spot (Star n) = Literal
count_spot Implied = Literal

-- Where the name in a part of a placeholder is.
abbrev pub name_spot : Part → Argument Place → Spot
name_spot Position a = bytes_at a.position_span
name_spot Precision a = count_spot a.format.precision
name_spot Width a = count_spot a.format.width

-- Where the name of a reference is.
abbrev pub named_spot : List (Piece Place) → Reference → Spot
named_spot ps r = option_map_or (name_spot r.part) (placeholder_at ps r.piece) Literal

-- Where the type of the placeholder k is.
abbrev pub type_spot : List (Piece Place) → ℕ → Spot
type_spot ps k = option_map_or (λ a. spot_of a.format.ty_span) (placeholder_at ps k) Literal

-- The places of the placeholders after a piece, from those from that piece on.
abbrev pub rest_after : Piece Place → List Place → List Place
rest_after (Lit t) places = places
rest_after (NextArgument a) places = drop 1 places

-- The number of placeholders up to a piece, where n stand before it.
abbrev pub count_with : ℕ → Piece Place → ℕ
count_with n (Lit t) = n
count_with n (NextArgument a) = n + 1

-- Of each of these pieces, how many placeholders stand before it, where n stand before them all.
abbrev pub counts_before : ℕ → List (Piece Place) → List ℕ
counts_before n [] = []
counts_before n (p ∷ ps) = n ∷ counts_before (count_with n p) ps

-- The place of the placeholder k among the pieces, before each of which so many placeholders stand,
-- which have these places.
abbrev pub place_of : List ℕ → List Place → ℕ → Option Place
place_of counts places k = option_and_then (slice_get places) (slice_get counts k)

-- A range without its first byte, which is the dot of a precision.
abbrev pub after_dot : Option Place → Spot
after_dot None = Literal
after_dot (Some p) = Bytes (min (p.0 + 1) p.1) p.1

-- Where a use by index is shown: the whole placeholder, or the width or the precision without its
-- dot.
abbrev pub shown_part : Part → Option Place → Argument Place → Spot
shown_part Position place a = spot_of place
shown_part Precision place a = after_dot a.format.precision_span
shown_part Width place a = spot_of a.format.width_span

-- Where a use by index is shown, in a string with these pieces, counts and places.
abbrev pub use_spot : List (Piece Place) → List ℕ → List Place → Reference → Spot
use_spot ps counts places r = option_map_or (shown_part r.part (place_of counts places r.piece))
    (placeholder_at ps r.piece) Literal

-- Where the index is written: the position, or the width or the precision without its dot.
abbrev pub index_part : Part → Argument Place → Spot
index_part Position a = bytes_at a.position_span
index_part Precision a = after_dot a.format.precision_span
index_part Width a = spot_of a.format.width_span

-- Where a reference has the index of its argument.
abbrev pub index_spot : List (Piece Place) → Reference → Spot
index_spot ps r = option_map_or (index_part r.part) (placeholder_at ps r.piece) Literal
