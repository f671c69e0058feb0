-- Reading back: which text a byte range of a source literal stands for, with its escapes decoded.
-- In a raw literal each character stands for itself. The public rules are in the Rust Reference,
-- string literals and raw string literals.
use Rattle.std.specs.Prelude.{◌≡◌, ℕ, suc, ◌+◌, ◌-◌, ◌≤◌, ◌&&◌, ◌++◌, Bool, if◌then◌else◌, nat_le}
use Rattle.std.specs.Prelude.{List, [], ◌∷◌, length, map, take, drop, Option, Some}
use Rattle.std.specs.Prelude.{None, ◌⊎◌, true, option_map}
use Rattle.rustc_parse_format.specs.Characters.{Text, byte_length}
use Rattle.rustc_parse_format.specs.LiteralUnits.{LiteralUnit, Plain, spelling, value}
use Rattle.rustc_parse_format.specs.Source.{units_between, unappended_input}
use Rattle.rustc_parse_format.specs.Marks.{Mark, Start, End, Span}
use Rattle.rustc_parse_format.specs.Types.{Count, Name, Spec, Piece, Lit, NextArgument}
use Rattle.rustc_parse_format.specs.Faults.{Fault, UnmatchedBrace, MissingBrace, FillBrace}
use Rattle.rustc_parse_format.specs.Faults.{Underscore}
use Rattle.rustc_parse_format.specs.Faults.{TooLarge, Unnamed, TextAfterColon, RawIdentifier}
use Rattle.rustc_parse_format.specs.Faults.{LateFlag}
use Rattle.rustc_parse_format.specs.Faults.{MissingColon, LateDebug, LateAlign, Grouping}
use Rattle.rustc_parse_format.specs.Faults.{DebugPrint, LateSign, FieldAccess, TupleIndex}
use Rattle.rustc_parse_format.specs.Faults.{Message, Suggestion, Nothing, UsePositional}
use Rattle.rustc_parse_format.specs.Faults.{RemoveRawIdent, ReorderFormatParameter, AddMissingColon}
use Rattle.rustc_parse_format.specs.Faults.{UseRustDebugPrintingMacro}
use Rattle.std.specs.List.{AllByRecursion}
use Rattle.rustc_parse_format.specs.World.{World, Place, place_at, quote_offset}
use Rattle.rustc_parse_format.specs.Call.{Call}
use Rattle.rustc_parse_format.specs.State.{State}

-- The units of a source literal, which start at the byte `quote_offset`. In a raw literal they are
-- the characters of its text.
abbrev pub source_units : Text → Option ℕ → Text → Bool → List LiteralUnit
source_units input None snippet appended = units_between snippet
source_units input (Some n) snippet appended = map Plain (unappended_input appended input)

-- The text that the units before the byte s stand for: those that end at s or before. The first
-- unit starts at the byte `at`.
abbrev pub text_before : ℕ → ℕ → List LiteralUnit → Text
text_before s at [] = []
text_before s at (u ∷ us) =
    (if nat_le (at + byte_length (spelling u)) s then value u else [])
    ++ text_before s (at + byte_length (spelling u)) us

-- The text that the units inside a byte range stand for. The first unit starts at the byte `at`.
abbrev pub text_inside : Place → ℕ → List LiteralUnit → Text
text_inside p at [] = []
text_inside p at (u ∷ us) =
    (if nat_le p.0 at && nat_le (at + byte_length (spelling u)) p.1 then value u else [])
    ++ text_inside p (at + byte_length (spelling u)) us

-- The number of characters, of the n of a text, that are before a mark. The end of a character is
-- after it.
abbrev pub count_before : ℕ → Mark → ℕ
count_before n (Start k) = n - k
count_before n (End k) = suc n - k

-- The number of characters that are left from the character of a mark on.
abbrev pub left_at : Mark → ℕ
left_at (Start k) = k
left_at (End k) = k

-- The mark is the start of a character, or the end of the text.
abbrev pub IsStart : Mark → Type 0
IsStart (Start k) = Unit {0}
IsStart (End k) = ⊥

-- A span of a text of n characters that starts where a character does, or at the end of the text,
-- and that does not end before it starts.
pub record IsForward (n : ℕ) (s : Span) : Type 0 where
  pub from_start : IsStart s.from
  pub in_order : left_at s.to ≤ left_at s.from
  pub within : left_at s.from ≤ n

-- The place p reads back as the span s: the units inside p stand for the characters between the two
-- marks, and the units before p for those before the first mark. An appended newline has no unit,
-- and is left out of both.
pub record ReadsBack (input : Text) (style : Option ℕ) (snippet : Text) (appended : Bool) (s : Span)
    (p : Place) : Type 0 where
  pub before : text_before p.0 (quote_offset style) (source_units input style snippet appended)
      ≡ take (count_before (length input) s.from) (unappended_input appended input)
  pub inside : text_inside p (quote_offset style) (source_units input style snippet appended)
      ≡ drop (count_before (length input) s.from)
      (take (count_before (length input) s.to) (unappended_input appended input))

-- The place is a byte range inside the snippet that does not run backwards.
pub record IsInside (snippet : Text) (p : Place) : Type 0 where
  pub in_order : p.0 ≤ p.1
  pub within : p.1 ≤ byte_length snippet

-- An optional value as a list.
abbrev pub optional_list : {A : Type 0} → Option A → List A
optional_list None = []
optional_list (Some x) = x ∷ []

-- The spans in a count.
abbrev pub spans_of_count : {A : Type 0} → Count A → List A
spans_of_count (Name w s) = s ∷ []
spans_of_count k = []

-- The spans in a specification.
abbrev pub spans_of_spec : {A : Type 0} → Spec A → List A
spans_of_spec f = optional_list f.fill_span ++ spans_of_count f.width ++ optional_list f.width_span
    ++ spans_of_count f.precision
    ++ optional_list f.precision_span ++ optional_list f.ty_span

-- The spans in a piece.
abbrev pub spans_of : {A : Type 0} → Piece A → List A
spans_of (Lit t) = []
spans_of (NextArgument a) = a.position_span ∷ spans_of_spec a.format

-- The spans in a fault.
abbrev pub spans_of_fault : {A : Type 0} → Fault A → List A
spans_of_fault (UnmatchedBrace s) = s ∷ []
spans_of_fault (MissingBrace c s o) = s ∷ o ∷ []
spans_of_fault (FillBrace c s o) = s ∷ o ∷ []
spans_of_fault (Underscore s) = s ∷ []
spans_of_fault (TooLarge ds s) = s ∷ []
spans_of_fault (Unnamed s) = s ∷ []
spans_of_fault (TextAfterColon s) = s ∷ []
spans_of_fault (RawIdentifier s p) = s ∷ p ∷ []
spans_of_fault (LateFlag c s b) = s ∷ b ∷ []
spans_of_fault (MissingColon s) = s ∷ []
spans_of_fault (LateDebug w s) = s ∷ []
spans_of_fault (LateAlign c s) = s ∷ []
spans_of_fault (Grouping s o) = s ∷ o ∷ []
spans_of_fault (DebugPrint s o) = s ∷ o ∷ []
spans_of_fault (LateSign s) = s ∷ []
spans_of_fault (FieldAccess s) = s ∷ []
spans_of_fault (TupleIndex s) = s ∷ []

-- The spans in the piece that a call returns.
abbrev pub piece_spans : {A : Type 0} → Option (Piece A) → List A
piece_spans None = []
piece_spans (Some p) = spans_of p

-- The property P holds for each span of a call: of its piece, of the placeholder that it closes,
-- and of its faults.
pub record AllSpans (P : Span → Type 0) (k : Call) : Type 0 where
  pub piece : AllByRecursion P (piece_spans k.piece)
  pub closes : AllByRecursion P (optional_list k.closes)
  pub faults : AllByRecursion (λ f. AllByRecursion P (spans_of_fault f)) k.faults

-- The spans in a suggestion.
abbrev pub spans_of_suggestion : {A : Type 0} → Suggestion A → List A
spans_of_suggestion Nothing = []
spans_of_suggestion UsePositional = []
spans_of_suggestion (RemoveRawIdent s) = s ∷ []
spans_of_suggestion (ReorderFormatParameter s w) = s ∷ []
spans_of_suggestion (AddMissingColon s) = s ∷ []
spans_of_suggestion UseRustDebugPrintingMacro = []

-- The spans in an error: its own, that of its second label, and that of its suggestion.
abbrev pub spans_of_error : {A : Type 0} → Message A → List A
spans_of_error m = m.span ∷ optional_list (option_map (λ x. x.1) m.second)
    ++ spans_of_suggestion m.suggestion

-- The line is a byte range inside the snippet. With an appended newline it may also be the place of
-- that newline, reversed. This is the last line if the newline was read as text.
abbrev pub IsLineInside : Text → Bool → ℕ → Place → Type 0
IsLineInside snippet appended end line =
    IsInside snippet line
    ⊎ ((appended ≡ true) × (line ≡ (suc end, end)) × IsInside snippet (end, suc end))

-- The current line starts no later than the next character, or than the end of the text if none is
-- left. With an appended newline, at the end of the input, it may start where that newline ends.
abbrev pub HasBegun : World → Bool → ℕ → ℕ → Type 0
HasBegun w appended start left = (start ≤ (place_at w left).0)
    ⊎ ((appended ≡ true) × (left ≡ 0) × (start ≡ suc w.end))

-- All ranges that a parser holds are inside the snippet, and its current line has begun.
pub record LiesInside (snippet : Text) (appended : Bool) (s : State) : Type 0 where
  pub errors : AllByRecursion (λ e. AllByRecursion (IsInside snippet) (spans_of_error e)) s.errors
  pub arg_places : AllByRecursion (IsInside snippet) s.arg_places
  pub line_spans : AllByRecursion (IsLineInside snippet appended s.world.end) s.line_spans
  pub line_start : HasBegun s.world appended s.line_start (length s.rest)
