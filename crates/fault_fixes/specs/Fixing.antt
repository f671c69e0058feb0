-- A source literal with the edits that its faults suggest.
use Rattle.std.specs.Prelude.{◌≡◌, ◌≢◌, ℕ, zero, suc, Bool, false, ◌++◌, List, [], ◌∷◌, length}
use Rattle.std.specs.Prelude.{Option, Some, None, chars, IsUtf8}
use Rattle.std.specs.List.{filter_map}
use Rattle.rustc_parse_format.specs.Characters.{Text}
use Rattle.rustc_parse_format.specs.Types.{Mode}
use Rattle.rustc_parse_format.specs.Marks.{Span}
use Rattle.rustc_parse_format.specs.Faults.{Fault, Message, add_errors, message}
use Rattle.rustc_parse_format.specs.Call.{call}
use Rattle.rustc_parse_format.specs.World.{Place, faults_in}
use Rattle.rustc_parse_format.specs.State.{State, first_state}
use Rattle.rustc_parse_format.specs.Literal.{IsSource}
use Rattle.fault_fixes.specs.Edits.{Edit, edits, edit_of, edited_bytes}

-- The faults of the calls from t on, with at most n calls. A call that returns no piece before the
-- end, as at a lone closing brace, is followed by others.
abbrev pub faults_within : ℕ → Mode → ℕ → Text → List (Fault Span)
faults_within n mode c [] = []
faults_within zero mode c (b ∷ t) = []
faults_within (suc n) mode c (b ∷ t) =
    let k = call mode c (b ∷ t) in k.faults ++ faults_within n mode k.next k.rest

-- The faults of all calls from t on, up to the end of the input. Each call reads a character.
unfoldable pub all_faults : Mode → ℕ → Text → List (Fault Span)
all_faults mode c t = faults_within (length t) mode c t

-- The errors of a parser in this state, once all calls up to the end of the input are made.
abbrev pub all_errors : State → List (Message Place)
all_errors s = add_errors s.errors (faults_in s.world (all_faults s.mode s.next s.rest))

-- The edits of faults, in the order of these.
abbrev pub fault_edits : Mode → List (Fault Place) → List Edit
fault_edits mode fs = filter_map (λ f. edit_of mode (message f)) fs

-- The edits in the literal of an input.
abbrev pub literal_edits : Mode → Text → Option ℕ → Text → Bool → List Edit
literal_edits mode input style snippet appended =
    edits mode (all_errors (first_state mode input style (Some snippet) appended))

-- The same edits in the input itself. Without a snippet a byte offset is 1 more than in the input.
abbrev pub text_edits : Mode → Text → List Edit
text_edits mode input = edits mode (all_errors (first_state mode input None None false))

-- A literal and the text that it stands for, as bytes. With an appended newline the text has it.
pub record FixedLiteral : Type 0 where
  pub snippet : List ℕ
  pub text : List ℕ

-- There are edits, and the literal with these and its text with the others are a source literal of
-- the same style and its text.
pub record IsEdited (input : List ℕ) (style : Option ℕ) (literal : List ℕ) (appended : Bool)
    (in_literal in_text : List Edit) (f : FixedLiteral) : Type 0 where
  pub has_edits : in_literal ≢ []
  pub snippet : f.snippet ≡ edited_bytes 0 in_literal literal
  pub text : f.text ≡ edited_bytes 1 in_text input
  pub snippet_utf8 : IsUtf8 f.snippet
  pub text_utf8 : IsUtf8 f.text
  pub is_source : IsSource (chars f.text) style (chars f.snippet) appended

-- One round of edits: the literal is the source literal of the input, and the result is what it is
-- with the edits of all errors.
pub record IsRound (mode : Mode) (input : List ℕ) (style : Option ℕ) (literal : List ℕ)
    (appended : Bool) (f : FixedLiteral) : Type 0 where
  pub was_source : IsSource (chars input) style (chars literal) appended
  pub edited : IsEdited input style literal appended
      (literal_edits mode (chars input) style (chars literal) appended)
      (text_edits mode (chars input)) f
