-- The faults, over any type of span, and the error that is made of each, with its texts as bytes. A
-- fault is one thing that is wrong, as plain data; an error is the message about it. No public
-- document has this rule: it is this project's, and follows the code of rustc's parser.
use Prim.Native.Char.{code}
use Rattle.std.specs.Prelude.{◌≡◌, ℕ, Bool, true, false, ◌++◌, ◌==◌, if◌then◌else◌, List, [], ◌∷◌}
use Rattle.std.specs.Prelude.{Option, Some, None, option_map, codes, encode_utf8}
use Rattle.std.specs.Prelude.{encode_utf8_all}
use Rattle.rustc_parse_format.specs.Characters.{Text}
use Rattle.rustc_parse_format.specs.Escaping.{written_character}

pub data Fault (Span : Type 0) : Type 0 where
  -- A closing brace that closes nothing.
  UnmatchedBrace : Span → Fault Span
  -- A missing closing brace: the character found instead, or None at the end; its place; and the
  -- opening brace.
  MissingBrace : Option ℕ → Span → Span → Fault Span
  -- A missing closing brace where the fill is a closing brace. The last span is that of the fill.
  FillBrace : Option ℕ → Span → Span → Fault Span
  -- The word `_`.
  Underscore : Span → Fault Span
  -- The digits of a number above 65535.
  TooLarge : Text → Span → Fault Span
  -- A position that is not a name, in the mode DiagnosticNamed.
  Unnamed : Span → Fault Span
  -- Text after a colon, in the mode DiagnosticNamed.
  TextAfterColon : Span → Fault Span
  -- A raw identifier, and the span of its `r#`.
  RawIdentifier : Span → Span → Fault Span
  -- A flag after the type `?`, and the span of the `?` with the flag.
  LateFlag : ℕ → Span → Span → Fault Span
  -- Found in place of a closing brace: a `?` before a closing brace.
  MissingColon : Span → Fault Span
  -- Found in place of a closing brace: a `?`, a colon and this word.
  LateDebug : Text → Span → Fault Span
  -- Found in place of a closing brace: `<`, `>` or `^`.
  LateAlign : ℕ → Span → Fault Span
  -- Found in place of a closing brace: a `,`. The second span is that of the opening brace.
  Grouping : Span → Span → Fault Span
  -- Found in place of a closing brace: a `=` before a closing brace. The second span is that of the
  -- opening brace.
  DebugPrint : Span → Span → Fault Span
  -- Found in place of a closing brace: a `+`.
  LateSign : Span → Fault Span
  -- Found in place of a closing brace: a dot and a name. The span is from the start of the
  -- argument's position to the end of the name.
  FieldAccess : Span → Fault Span
  -- Found in place of a closing brace: a dot and a number. The span is from the start of the
  -- argument's position to the end of the number.
  TupleIndex : Span → Fault Span

-- The span of the fill, if the fill is a closing brace.
abbrev pub brace_fill : {A : Type 0} → Option ℕ → Option A → Option A
brace_fill None s = None
brace_fill (Some c) s = if c == code "}" then s else None

-- The fault of a missing closing brace, with the span of a fill that is a closing brace, if there
-- is one.
abbrev pub no_brace : {A : Type 0} → Option A → Option ℕ → A → A → Fault A
no_brace None found s opening = MissingBrace found s opening
no_brace (Some fill) found s opening = FillBrace found s fill

-- The error of the fault is added at the start of the list of errors. Otherwise it is added at the
-- end.
abbrev pub is_front : {A : Type 0} → Fault A → Bool
is_front (UnmatchedBrace s) = false
is_front (MissingBrace c s o) = false
is_front (FillBrace c s o) = false
is_front (Underscore s) = false
is_front (TooLarge ds s) = false
is_front (Unnamed s) = false
is_front (TextAfterColon s) = false
is_front (RawIdentifier s p) = true
is_front (LateFlag c s b) = true
is_front (MissingColon s) = true
is_front (LateDebug w s) = true
is_front (LateAlign c s) = true
is_front (Grouping s o) = true
is_front (DebugPrint s o) = true
is_front (LateSign s) = true
is_front (FieldAccess s) = true
is_front (TupleIndex s) = true

-- Applies a function to each span of a fault.
abbrev pub map_fault : {A B : Type 0} → (A → B) → Fault A → Fault B
map_fault f (UnmatchedBrace s) = UnmatchedBrace (f s)
map_fault f (MissingBrace c s o) = MissingBrace c (f s) (f o)
map_fault f (FillBrace c s o) = FillBrace c (f s) (f o)
map_fault f (Underscore s) = Underscore (f s)
map_fault f (TooLarge ds s) = TooLarge ds (f s)
map_fault f (Unnamed s) = Unnamed (f s)
map_fault f (TextAfterColon s) = TextAfterColon (f s)
map_fault f (RawIdentifier s p) = RawIdentifier (f s) (f p)
map_fault f (LateFlag c s b) = LateFlag c (f s) (f b)
map_fault f (MissingColon s) = MissingColon (f s)
map_fault f (LateDebug w s) = LateDebug w (f s)
map_fault f (LateAlign c s) = LateAlign c (f s)
map_fault f (Grouping s o) = Grouping (f s) (f o)
map_fault f (DebugPrint s o) = DebugPrint (f s) (f o)
map_fault f (LateSign s) = LateSign (f s)
map_fault f (FieldAccess s) = FieldAccess (f s)
map_fault f (TupleIndex s) = TupleIndex (f s)

-- The suggestion of an error, over any type of span.
pub data Suggestion (Span : Type 0) : Type 0 where
  Nothing : Suggestion Span
  UsePositional : Suggestion Span
  RemoveRawIdent : Span → Suggestion Span
  ReorderFormatParameter : Span → List ℕ → Suggestion Span
  AddMissingColon : Span → Suggestion Span
  UseRustDebugPrintingMacro : Suggestion Span

-- An error: its texts, each as bytes, and its spans.
pub record Message (Span : Type 0) : Type 0 where
  pub description : List ℕ
  pub note : Option (List ℕ)
  pub label : List ℕ
  pub span : Span
  pub second : Option (List ℕ × Span)
  pub suggestion : Suggestion Span

-- Applies a function to each span of a suggestion.
abbrev pub map_suggestion : {A B : Type 0} → (A → B) → Suggestion A → Suggestion B
map_suggestion f Nothing = Nothing
map_suggestion f UsePositional = UsePositional
map_suggestion f (RemoveRawIdent s) = RemoveRawIdent (f s)
map_suggestion f (ReorderFormatParameter s w) = ReorderFormatParameter (f s) w
map_suggestion f (AddMissingColon s) = AddMissingColon (f s)
map_suggestion f UseRustDebugPrintingMacro = UseRustDebugPrintingMacro

-- Applies a function to each span of an error.
abbrev pub map_message : {A B : Type 0} → (A → B) → Message A → Message B
map_message f m = record {
  description = m.description;
  note = m.note;
  label = m.label;
  span = f m.span;
  second = option_map (λ x. (x.0, f x.1)) m.second;
  suggestion = map_suggestion f m.suggestion;
}

-- A fault without its spans.
abbrev pub bare_fault : {A : Type 0} → Fault A → Fault (Unit {0})
bare_fault f = map_fault (λ s. tt) f

-- An error without its spans.
abbrev pub bare_message : {A : Type 0} → Message A → Message (Unit {0})
bare_message m = map_message (λ s. tt) m

-- The text for a missing closing brace, by the character that is found instead.
abbrev pub expected_brace : Option ℕ → List ℕ
expected_brace None = codes "expected `}` but string was terminated"
expected_brace (Some c) = codes "expected `}`, found `" ++ written_character c ++ codes "`"

-- The text for digits whose number is above 65535.
abbrev pub out_of_range : Text → List ℕ
out_of_range ds = codes "integer `" ++ encode_utf8_all ds
    ++ codes "` does not fit into the type `u16` whose range is `0..=65535`"

-- The note for a `?` that comes before a colon and this word, where the word should come first.
abbrev pub debug_after : Text → List ℕ
debug_after w = codes "`?` comes after `:`, try `" ++ encode_utf8_all w ++ codes ":?` instead"

-- The text for an alignment in place of a closing brace.
abbrev pub align_after : ℕ → List ℕ
align_after c = codes "expected `" ++ encode_utf8 c ++ codes "` to occur after `:`"

-- An error with these texts and spans, and without a suggestion.
abbrev pub error : {A : Type 0} → List ℕ → Option (List ℕ) → List ℕ → A → Option (List ℕ × A)
    → Message A
error description note label span second =
    record {
      description = description;
      note = note;
      label = label;
      span = span;
      second = second;
      suggestion = Nothing;
    }

-- The error with this suggestion.
abbrev pub with_suggestion : {A : Type 0} → Suggestion A → Message A → Message A
with_suggestion g m = record m { suggestion = g }

-- The error of a field after a dot.
abbrev pub local_variable : {A : Type 0} → List ℕ → A → Message A
local_variable description s = with_suggestion UsePositional (error
    description
    (Some (codes
    "consider moving this expression to a local variable and then using the local here instead"))
    (codes "not supported") s
    None)

-- The error of a fault.
unfoldable pub message : {A : Type 0} → Fault A → Message A
message (UnmatchedBrace s) = error
    (codes "unmatched `}` found")
    (Some (codes "if you intended to print `}`, you can escape it using `}}`"))
    (codes "unmatched `}`") s
    None
message (MissingBrace c s o) = error
    (expected_brace c)
    (Some (codes "if you intended to print `{`, you can escape it using `{{`"))
    (codes "expected `}`") s
    (Some (codes "because of this opening brace", o))
message (FillBrace c s o) = error
    (expected_brace c)
    (Some (codes
    "the character `}` is interpreted as a fill character because of the `:` that precedes it"))
    (codes "expected `}`") s
    (Some (codes "this is not interpreted as a formatting closing brace", o))
message (Underscore s) = error
    (codes "invalid argument name `_`")
    (Some (codes "argument name cannot be a single underscore"))
    (codes "invalid argument name") s
    None
message (TooLarge ds s) = error
    (out_of_range ds)
    None
    (codes "integer out of range for `u16`") s
    None
message (Unnamed s) = error
    (codes "expected a named argument")
    (Some (codes "only named arguments are allowed here"))
    (codes "expected a name") s
    None
message (TextAfterColon s) = error
    (codes "format specifiers are not allowed")
    None
    (codes "remove this text") s
    None
message (RawIdentifier s p) = with_suggestion (RemoveRawIdent p) (error
    (codes "raw identifiers are not supported")
    (Some (codes
    "identifiers in format strings can be keywords and don't need to be prefixed with `r#`"))
    (codes "raw identifier used here") s
    None)
message (LateFlag c s b) = with_suggestion
    (ReorderFormatParameter b (encode_utf8_all (c ∷ codes "?")))
    (error
    (expected_brace (Some c))
    None
    (codes "expected `'}'`") s
    None)
message (MissingColon s) = with_suggestion (AddMissingColon s) (error
    (codes "expected `}`, found `?`")
    (Some (codes "to print `{`, you can escape it using `{{`"))
    (codes "expected `:` before `?` to format with `Debug`") s
    None)
message (LateDebug w s) = error
    (codes "expected format parameter to occur after `:`")
    (Some (debug_after w))
    (codes "expected `?` to occur after `:`") s
    None
message (LateAlign c s) = error
    (codes "expected alignment specifier after `:` in format string; example: `{:>?}`")
    None
    (align_after c) s
    None
message (Grouping s o) = error
    (codes "python's numeric grouping `,` is not supported in rust format strings")
    (Some (codes "to print `{`, you can escape it using `{{`"))
    (codes "expected `}`") s
    (Some (codes "because of this opening brace", o))
message (DebugPrint s o) = with_suggestion UseRustDebugPrintingMacro (error
    (codes "python's f-string debug `=` is not supported in rust, use `dbg(x)` instead")
    (Some (codes "to print `{`, you can escape it using `{{`"))
    (codes "expected `}`") s
    (Some (codes "because of this opening brace", o)))
message (LateSign s) = error
    (codes "the `+` sign flag must appear after `:` in a format string")
    (Some (codes "`+` comes after `:`, try `{:+}` instead of `{+}`"))
    (codes "expected `:` before `+` sign flag") s
    None
message (FieldAccess s) = local_variable (codes "field access isn't supported") s
message (TupleIndex s) = local_variable (codes "tuple index access isn't supported") s

-- The list of errors after these faults, which are given in the order in which they are found.
abbrev pub add_errors : {A : Type 0} → List (Message A) → List (Fault A) → List (Message A)
add_errors old [] = old
add_errors old (f ∷ fs) = add_errors (if is_front f then message f ∷ old
    else old ++ message f ∷ []) fs

-- The new list has the old errors in the same order, with any number of errors before and after
-- them.
abbrev pub Keeps : {A : Type 0} → List (Message A) → List (Message A) → Type 0
Keeps {A = A} old new = (front : List (Message A)) × (back : List (Message A))
    × (new ≡ front ++ (old ++ back))
