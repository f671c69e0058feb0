-- Edits of a literal, and those that put variables into it.
use Rattle.std.specs.Prelude.{ℕ, ◌-◌, ◌++◌, ◌==◌, ◌≤◌, List, [], ◌∷◌, IsUtf8, Option, Some, None}
use Rattle.std.specs.Prelude.{codes, decimal, drop, encode_utf8_all, flat_map, if◌then◌else◌}
use Rattle.std.specs.Prelude.{length, option_and_then, option_map, take}
use Rattle.std.specs.Str.{bytes_eq}
use Rattle.rustc_parse_format.specs.Characters.{Text}
use Rattle.rustc_parse_format.specs.Types.{Argument, Count, Is, Name, Param, Star, Implied}
use Rattle.rustc_parse_format.specs.Types.{Piece, Lit, NextArgument}
use Rattle.rustc_parse_format.specs.Types.{Position, Implicit, Index, Named}
use Rattle.rustc_parse_format.specs.World.{Place}
use Rattle.placeholder_check.specs.Uses.{position_use}
use Rattle.inlined_arguments.specs.Values.{Amount, Number, ValueOf, Absent, amount_of, value_of}
use Rattle.inlined_arguments.specs.Values.{Slot, Value, Variable, Expression}

-- An edit: the bytes in a range are replaced by those of a text.
pub record Edit : Type 0 where
  pub span : Place
  pub text : List ℕ

-- Each edit ends where it starts or later, and starts where the one before it ends or later; the
-- first one at the byte offset `at` or later, and the last one ends at `end` at the latest.
abbrev pub AreApart : ℕ → List Edit → ℕ → Type 0
AreApart at [] end = at ≤ end
AreApart at (e ∷ es) end = (at ≤ e.span.0) × (e.span.0 ≤ e.span.1) × AreApart e.span.1 es end

-- The bytes bs from the offset `at` on, with these edits.
abbrev pub edited_text : ℕ → List Edit → List ℕ → List ℕ
edited_text at [] bs = drop at bs
edited_text at (e ∷ es) bs =
    take (e.span.0 - at) (drop at bs) ++ (e.text ++ edited_text e.span.1 es bs)

-- The bytes bs are no text with these edits: they are not one after the other, or cut a character.
abbrev pub MakeNoText : List ℕ → List Edit → Type 0
MakeNoText bs es = AreApart 0 es (length bs) → IsUtf8 (edited_text 0 es bs) → ⊥

-- How a part of a placeholder refers to an argument: by a name or an index that is written, or
-- otherwise, as to the next one.
pub data Reference : Type 0 where
  WrittenName : Text → Reference
  WrittenIndex : ℕ → Reference
  Unwritten : Reference

abbrev pub position_reference : Position → Reference
position_reference (Implicit n) = Unwritten
position_reference (Index n) = WrittenIndex n
position_reference (Named w) = WrittenName w

abbrev pub count_reference : {A : Type 0} → Count A → Reference
count_reference (Is n) = Unwritten
count_reference (Name w s) = WrittenName w
count_reference (Param n) = WrittenIndex n
count_reference (Star n) = Unwritten
count_reference Implied = Unwritten

-- The new text of a reference to this value: the name of a variable, or the index that an argument
-- has among those that stay. None if that is written already, or no index is.
abbrev pub new_text : Reference → Value → Option (List ℕ)
new_text (WrittenName u) (Variable w) = if bytes_eq w u then None else Some (encode_utf8_all w)
new_text (WrittenIndex n) (Variable w) = Some (encode_utf8_all w)
new_text Unwritten (Variable w) = Some (encode_utf8_all w)
new_text (WrittenName u) (Expression k) = None
new_text (WrittenIndex n) (Expression k) = if n == k then None else Some (decimal k)
new_text Unwritten (Expression k) = None

-- The new text of a width or a precision that is this amount, after its dot.
abbrev pub new_count_text : List ℕ → Reference → Amount → Option (List ℕ)
new_count_text dot r (Number n) = None
new_count_text dot r (ValueOf None) = None
new_count_text dot r (ValueOf (Some v)) = option_map (λ t. dot ++ (t ++ codes "$")) (new_text r v)
new_count_text dot r Absent = None

-- The edit that puts a text into a place, if there are both.
abbrev pub edit_at : Option Place → Option (List ℕ) → List Edit
edit_at None t = []
edit_at (Some s) None = []
edit_at (Some s) (Some t) = record { span = s; text = t } ∷ []

abbrev pub position_edits : List Slot → Argument Place → List Edit
position_edits ss a = edit_at (Some a.position_span)
    (option_and_then (new_text (position_reference a.position))
    (value_of ss (position_use a.position)))

abbrev pub count_edits : List Slot → List ℕ → Option Place → Count Place → List Edit
count_edits ss dot place k =
    edit_at place (new_count_text dot (count_reference k) (amount_of ss k))

-- The edits of a piece that refers to these slots.
abbrev pub piece_edits : List Slot → Piece Place → List Edit
piece_edits ss (Lit t) = []
piece_edits ss (NextArgument a) = position_edits ss a
    ++ (count_edits ss [] a.format.width_span a.format.width
    ++ count_edits ss (codes ".") a.format.precision_span a.format.precision)

-- The edits that put the variables among these slots into a literal with these pieces, and make
-- each index that of an argument that stays.
abbrev pub new_edits : List Slot → List (Piece Place) → List Edit
new_edits ss ps = flat_map (piece_edits ss) ps
