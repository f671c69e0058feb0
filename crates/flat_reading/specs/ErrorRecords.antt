-- The meaning of the records of errors, with their texts in the buffer of texts.
use Rattle.std.specs.Prelude.{◌≡◌, ℕ, ◌+◌, ◌≤◌, ◌++◌, List, [], ◌∷◌, length, take, drop, Option}
use Rattle.std.specs.Prelude.{Some, None, slice_range, sum_by}
use Rattle.rustc_parse_format.specs.Faults.{Message, Suggestion, Nothing, UsePositional}
use Rattle.rustc_parse_format.specs.Faults.{RemoveRawIdent, ReorderFormatParameter, AddMissingColon}
use Rattle.rustc_parse_format.specs.Faults.{UseRustDebugPrintingMacro}
use Rattle.rustc_parse_format.specs.World.{Place}
use Rattle.flat_reading.specs.declared.records.Extent.{Extent}
use Rattle.flat_reading.specs.declared.records.Fault.{Fault}
use Rattle.flat_reading.specs.Meaning.{place}

-- The text is in the buffer, from the byte `start` to the byte `end`.
pub record Holds (texts : List ℕ) (start end : ℕ) (text : List ℕ) : Type 0 where
  pub within : end ≤ length texts
  pub same : slice_range texts start end ≡ text

-- The number is 1 and the range holds the text, or it is 0 and the text is absent.
abbrev pub HoldsMaybe : List ℕ → ℕ → Extent → Option (List ℕ) → Type 0
HoldsMaybe texts has r None = has ≡ 0
HoldsMaybe texts has r (Some t) = (has ≡ 1) × Holds texts r.start r.end t

-- The number is 1 and the two ranges hold the text of a second label and its place, or it is 0 and
-- there is no second label.
abbrev pub HoldsSecond : List ℕ → ℕ → Extent → Extent → Option (List ℕ × Place) → Type 0
HoldsSecond texts has r s None = has ≡ 0
HoldsSecond texts has r s (Some x) = (has ≡ 1) × Holds texts r.start r.end x.0
    × (place s ≡ x.1)

-- The kind, the span and the text in a record are those of the suggestion.
abbrev pub HoldsSuggestion : List ℕ → ℕ → Extent → Extent → Suggestion Place → Type 0
HoldsSuggestion texts kind span text Nothing = kind ≡ 0
HoldsSuggestion texts kind span text UsePositional = kind ≡ 1
HoldsSuggestion texts kind span text (RemoveRawIdent s) = (kind ≡ 2) × (place span ≡ s)
HoldsSuggestion texts kind span text (ReorderFormatParameter s t) = (kind ≡ 3) × (place span ≡ s)
    × Holds texts text.start text.end t
HoldsSuggestion texts kind span text (AddMissingColon s) = (kind ≡ 4) × (place span ≡ s)
HoldsSuggestion texts kind span text UseRustDebugPrintingMacro = kind ≡ 5

-- The record is the flat form of the error.
pub record HoldsError (texts : List ℕ) (f : Fault) (m : Message Place) : Type 0 where
  pub description : Holds texts f.description.start f.description.end m.description
  pub note : HoldsMaybe texts f.has_note f.note m.note
  pub label : Holds texts f.label.start f.label.end m.label
  pub span : place f.span ≡ m.span
  pub second : HoldsSecond texts f.has_second_label f.second_label f.second_span m.second
  pub suggestion : HoldsSuggestion texts f.suggestion f.suggestion_span f.suggestion_text
      m.suggestion

-- There are as many records as errors, and each record is the flat form of the error at the same
-- index.
abbrev pub HoldsErrors : List ℕ → List Fault → List (Message Place) → Type 0
HoldsErrors texts [] [] = Unit {0}
HoldsErrors texts [] (m ∷ ms) = ⊥
HoldsErrors texts (f ∷ fs) [] = ⊥
HoldsErrors texts (f ∷ fs) (m ∷ ms) = HoldsError texts f m × HoldsErrors texts fs ms

-- The calls that found the errors, and the number of errors that were added at the start of the
-- list.
pub record FinderList : Type 0 where
  pub calls : List ℕ
  pub front_count : ℕ

-- The number of bytes of an optional text.
abbrev pub maybe_len : Option (List ℕ) → ℕ
maybe_len None = 0
maybe_len (Some t) = length t

-- The number of bytes of the text of a second label.
abbrev pub second_len : Option (List ℕ × Place) → ℕ
second_len None = 0
second_len (Some x) = length x.0

-- The number of bytes of the text of a suggestion.
abbrev pub suggestion_len : Suggestion Place → ℕ
suggestion_len Nothing = 0
suggestion_len UsePositional = 0
suggestion_len (RemoveRawIdent s) = 0
suggestion_len (ReorderFormatParameter s t) = length t
suggestion_len (AddMissingColon s) = 0
suggestion_len UseRustDebugPrintingMacro = 0

-- The number of bytes of the texts of an error.
abbrev pub message_len : Message Place → ℕ
message_len m = length m.description + maybe_len m.note + length m.label + second_len m.second
    + suggestion_len m.suggestion

-- The number of bytes of the texts of all errors.
abbrev pub texts_len : List (Message Place) → ℕ
texts_len ms = sum_by message_len ms

-- The second list begins with the first.
abbrev pub Extends : List ℕ → List ℕ → Type 0
Extends xs ys = (more : List ℕ) × (ys ≡ xs ++ more)

-- Bytes were written from the offset `start` to the offset `end`: those before `start` are
-- unchanged if there was room, and those after `end` are unchanged.
pub record Grows (old new : List ℕ) (start end : ℕ) : Type 0 where
  pub forward : start ≤ end
  pub front : end ≤ length old → Extends (take start old) (take end new)
  pub rest_after : drop end new ≡ drop end old
