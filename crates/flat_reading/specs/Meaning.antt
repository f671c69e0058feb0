-- The meaning of the flat records: each is the flat form of a part of a piece. Texts are ranges of
-- the bytes of the input. The header `bindings/c/dephungo.h` describes the records for C.
use Rattle.std.specs.Prelude.{ℕ, Bool, ◌==◌, not, ◌&&◌, ◌||◌, nat_le, nat_lt, if◌then◌else◌, List}
use Rattle.std.specs.Prelude.{[], ◌∷◌, length, map, Option, Some, None, chars}
use Rattle.std.specs.Prelude.{codes, slice_index, slice_index_or, slice_range}
use Rattle.rustc_parse_format.specs.Characters.{Text}
use Rattle.rustc_parse_format.specs.Types.{Alignment, Left, Right, Center, Unknown, Sign, Plus}
use Rattle.rustc_parse_format.specs.Types.{Minus, DebugHex, Lower, Upper, Position, Implicit, Index}
use Rattle.rustc_parse_format.specs.Types.{Named}
use Rattle.rustc_parse_format.specs.Types.{Count, Is, Name, Param, Star, Implied, Spec, Argument}
use Rattle.rustc_parse_format.specs.Types.{Piece, Lit, NextArgument, default_spec}
use Rattle.rustc_parse_format.specs.World.{Place}
use Rattle.flat_reading.specs.declared.records.Extent.{Extent}
use Rattle.flat_reading.specs.declared.records.Spec.{Spec as SpecRecord}
use Rattle.flat_reading.specs.declared.records.Step.{Step}

-- The place that a range means.
abbrev pub place : Extent → Place
place r = (r.start, r.end)

-- A character begins at this byte offset, or the text ends there.
abbrev pub is_boundary : List ℕ → ℕ → Bool
is_boundary input i = nat_le i (length input)
    && (nat_le (length input) i
    || (nat_lt (slice_index input i) 128 || nat_le 192 (slice_index input i)))

-- A text that no input has: 1114112 is not the code of a character.
abbrev pub no_text : Text
no_text = 1114112 ∷ []

-- The characters in a range of the input. If the range runs backwards or cuts a character, the
-- result is `no_text`.
unfoldable pub text_at : List ℕ → Extent → Text
text_at input r =
    if nat_le r.start r.end && (is_boundary input r.start && is_boundary input r.end)
    then chars (slice_range input r.start r.end) else no_text

-- The characters of a run of text, whose range has to end at `read`, where the call stopped.
abbrev pub run_at : List ℕ → ℕ → Extent → Text
run_at input read r = if r.end == read then text_at input r else no_text

-- The number means true: it is not 0.
abbrev pub is_set : ℕ → Bool
is_set n = not (n == 0)

-- The place that a range means if the number before it means true, and otherwise None.
abbrev pub maybe_place : ℕ → Extent → Option Place
maybe_place has r = if has == 0 then None else Some (r.start, r.end)

-- The fill that a number stands for: the character with this code, or None for 1114112.
abbrev pub fill_meant : ℕ → Option ℕ
fill_meant n = if n == 1114112 then None else Some n

-- A fill that no placeholder has: 1114112 is not the code of a character.
abbrev pub no_fill : Option ℕ
no_fill = Some 1114112

-- The alignment that a number stands for.
abbrev pub align_meant : ℕ → Alignment
align_meant n = if n == 1 then Left
    else (if n == 2 then Right else (if n == 3 then Center else Unknown))

-- The sign that a number stands for.
abbrev pub sign_meant : ℕ → Option Sign
sign_meant n = if n == 1 then Some Plus else (if n == 2 then Some Minus else None)

-- The case of the hexadecimal digits that a number stands for.
abbrev pub hex_meant : ℕ → Option DebugHex
hex_meant n = if n == 1 then Some Lower else (if n == 2 then Some Upper else None)

-- The type of this kind. A type of the kind 1 is a range of the input, and an unknown kind has
-- `no_text`.
abbrev pub type_meant : List ℕ → ℕ → Extent → Text
type_meant input kind r =
    if kind == 0 then []
    else (if kind == 1 then text_at input r
    else (if kind == 2 then codes "x"
    else (if kind == 3 then codes "X" else (if kind == 4 then codes "?" else no_text))))

-- The count that a kind, a number, a range of the input and a span mean. An unknown kind has a name
-- that is `no_text`.
unfoldable pub count_meant : List ℕ → ℕ → ℕ → Extent → Extent → Count Place
count_meant input kind number name span =
    if kind == 0 then Implied
    else (if kind == 1 then Is number
    else (if kind == 2 then Name (text_at input name) (place span)
    else (if kind == 3 then Param number
    else (if kind == 4 then Star number else Name no_text (place span)))))

-- The alignment, the sign and the case of a record have known numbers.
abbrev pub is_listed : SpecRecord → Bool
is_listed s = nat_lt s.align 4 && (nat_lt s.sign 3 && nat_lt s.debug_hex 3)

-- The specification that a record means.
unfoldable pub spec_meant : List ℕ → SpecRecord → Spec Place
spec_meant input s = record {
  fill = if is_listed s then fill_meant s.fill else no_fill;
  fill_span = maybe_place s.has_fill_span s.fill_span;
  align = align_meant s.align;
  sign = sign_meant s.sign;
  alternate = is_set s.alternate;
  zero_pad = is_set s.zero_pad;
  debug_hex = hex_meant s.debug_hex;
  width = count_meant input s.width_kind s.width_number s.width_name s.width_name_span;
  width_span = maybe_place s.has_width_span s.width_span;
  precision =
      count_meant input s.precision_kind s.precision_number s.precision_name s.precision_name_span;
  precision_span = maybe_place s.has_precision_span s.precision_span;
  ty = type_meant input s.type_kind s.ty;
  ty_span = maybe_place s.has_ty_span s.ty_span;
}

-- A specification that no placeholder has.
abbrev pub no_spec : Spec Place
no_spec = record default_spec { fill = no_fill }

-- The specification with this number. The number 0 is that of the default one, and the records of
-- the buffer are counted from 1. Any other number means `no_spec`.
unfoldable pub spec_at : List ℕ → List SpecRecord → ℕ → Spec Place
spec_at input specs n = slice_index_or (default_spec ∷ map (spec_meant input) specs) n no_spec

-- The position that a kind, a number and a range mean.
abbrev pub position_meant : List ℕ → ℕ → ℕ → Extent → Position
position_meant input kind number name =
    if kind == 0 then Implicit number
    else (if kind == 1 then Index number
    else Named (if kind == 2 then text_at input name else no_text))

-- The argument of a step, with its specification.
abbrev pub argument_meant : List ℕ → Spec Place → Step → Argument Place
argument_meant input spec r = record {
  position = position_meant input r.position r.number r.text;
  position_span = place r.position_span;
  format = spec;
}

-- The piece of a step, with the specification of its argument. An unknown kind means the text
-- `no_text`.
unfoldable pub piece_meant : List ℕ → Spec Place → Step → Option (Piece Place)
piece_meant input spec r =
    if r.kind == 0 then None
    else (if r.kind == 1 then Some (Lit (run_at input r.offset r.text))
    else (if r.kind == 2 then Some (NextArgument (argument_meant input spec r))
    else Some (Lit no_text)))
