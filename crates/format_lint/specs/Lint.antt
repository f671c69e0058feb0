-- The output of `formatlint`, by its task and for any bytes as its input.
use Rattle.std.specs.Prelude.{◌≡◌, ℕ, ◌-◌, ◌<◌, ◌++◌, ◌==◌, Bool, true, false, ◌⊎◌, if◌then◌else◌}
use Rattle.std.specs.Prelude.{List, [], ◌∷◌, length, take, Option, Some, None, option_map}
use Rattle.std.specs.Prelude.{unwrap_or, Result, Ok, Err, chars, codes, decimal, flat_map, IsUtf8}
use Rattle.rustc_parse_format.specs.Types.{Mode}
use Rattle.rustc_parse_format.specs.FaultIds.{fault_id}
use Rattle.rustc_parse_format.specs.Faults.{Message, message}
use Rattle.rustc_parse_format.specs.World.{Place}
use Rattle.rustc_parse_format.specs.State.{State, first_state}
use Rattle.piece_listing.specs.declared.verdict.RunFault.{RunFault}
use Rattle.piece_listing.specs.declared.verdict.RunFault.TheVariants.{Words, Read, TooLong, NotText}
use Rattle.piece_listing.specs.declared.verdict.RunFault.TheVariants.{NotLiteral, Memory, Write}
use Rattle.piece_listing.specs.Program.{IsShort, limit}
use Rattle.rustc_parse_format.specs.Literal.{IsLiteral}
use Rattle.literal_faults.specs.Margins.{IsSnippet}
use Rattle.drawn_lines.specs.Places.{Picture}
use Rattle.drawn_faults.specs.Drawing.{drawing}
use Rattle.fault_fixes.specs.Fixing.{FixedLiteral, all_errors}
use Rattle.fault_fixes.specs.Rounds.{IsFixed}
use Rattle.drawn_lines.specs.Painting.{IsHarmlessWith}
use Rattle.format_lint.specs.declared.task.OutputKind.{OutputKind}
use Rattle.format_lint.specs.declared.task.OutputKind.TheVariants.{Fault as ShowFault}
use Rattle.format_lint.specs.declared.task.OutputKind.TheVariants.{Fix as ShowFix}
use Rattle.format_lint.specs.declared.task.OutputKind.TheVariants.{All as ShowAll}
use Rattle.format_lint.specs.declared.task.OutputKind.TheVariants.{Tokens as ShowTokens}
use Rattle.format_tokens.specs.Escapes.{Placed}
use Rattle.format_tokens.specs.Spans.{tokens}
use Rattle.format_lint.specs.Colours.{shown_tokens}
use Rattle.format_lint.specs.Findings.{Finding, findings_from, first_error, mistake_count}
use Rattle.format_lint.specs.Findings.{most_drawn}

-- The task that the arguments of the program give.
pub record Task : Type 0 where
  pub mode : Mode
  -- The input is a string literal, as written in a program.
  pub is_literal : Bool
  -- The path that is shown for the input.
  pub path : List ℕ
  pub output_kind : OutputKind
  -- How many columns a row of a drawing has.
  pub width : ℕ
  -- The output has colours.
  pub colours : Bool

-- A text, with the style of the literal that it is in and the literal as it is written.
pub record Source : Type 0 where
  pub text : List ℕ
  pub style : Option ℕ
  pub literal : Option (List ℕ)
  -- The lines that it is drawn in, the number of the first of them, and the byte offset in them
  -- that a span of 0 means.
  pub lines : List ℕ
  pub line_start : ℕ
  pub start : ℕ

-- The input is a literal with a byte order mark or nothing before it, and white space around it.
pub record IsLiteralIn (input : List ℕ) (s : Source) : Type 0 where
  pub literal : List ℕ
  pub is_snippet : IsSnippet input s.lines literal s.start
  pub is_literal : IsLiteral s.style (chars literal) (chars s.text)
  pub is_written : s.literal ≡ Some literal
  pub is_first : s.line_start ≡ 1
  pub text_utf8 : IsUtf8 s.text

-- A text that is in no literal. A byte offset is one more than in the text, so that is drawn after
-- a line end, and its lines count from 1.
abbrev pub source_of_text : List ℕ → Source
source_of_text t = record {
  text = t;
  style = None;
  literal = None;
  lines = codes "\n" ++ t;
  line_start = 0;
  start = 0;
}

-- A literal that is drawn alone.
abbrev pub lone_literal : Option ℕ → List ℕ → List ℕ → Source
lone_literal style t l = record {
  text = t;
  style = style;
  literal = Some l;
  lines = l;
  line_start = 1;
  start = 0;
}

-- The source of the input. The flag says whether the input is read as a literal.
abbrev pub IsSourceIn : Bool → List ℕ → Source → Type 0
IsSourceIn true input s = IsLiteralIn input s
IsSourceIn false input s = s ≡ source_of_text input

-- A parser at the start of the source.
abbrev pub start : Mode → Source → State
start mode s =
    first_state mode (chars s.text) s.style (option_map (λ l. chars l) s.literal) false

-- The errors of all calls of a parser over the source, up to its end.
abbrev pub errors : Mode → Source → List (Message Place)
errors mode s = all_errors (start mode s)

-- The faults of a source as they are shown if all are shown.
abbrev pub findings : Mode → Source → List Finding
findings mode s = findings_from false (start mode s)

-- The picture in which faults are drawn.
abbrev pub picture : Task → Source → Picture
picture a s = record {
  path = a.path;
  source = s.lines;
  line_start = s.line_start;
  literal_start = s.start;
  width = a.width;
  colours = a.colours;
}

-- The line that says how many faults are not drawn, if there are any.
abbrev pub more_line : ℕ → List ℕ
more_line n = if n == 0 then [] else codes "and " ++ (decimal n ++ codes " more\n")

-- The line before the drawing of a fault with this id.
abbrev pub id_line : Bool → List ℕ → List ℕ
id_line is_consequence id = (if is_consequence then codes "follows: " else codes "fault: ")
    ++ (id ++ codes "\n")

-- The drawing of the error that the compiler shows, if there is one.
abbrev pub shown_error : Mode → Picture → Option (Message Place) → List ℕ
shown_error mode p None = []
shown_error mode p (Some m) = drawing mode p m

-- The drawing of a fault with a line before it, which has its id and says whether it follows from
-- an earlier one.
abbrev pub drawn_finding : Mode → Picture → Finding → List ℕ
drawn_finding mode p f = id_line f.is_consequence (fault_id f.fault)
    ++ drawing mode p (message f.fault)

-- The drawings of faults, one after the other, and the number of those that are left out.
abbrev pub drawings : Mode → Picture → List Finding → List ℕ
drawings mode p fs =
    flat_map (drawn_finding mode p) (take most_drawn fs) ++ more_line (length fs - most_drawn)

-- The drawing of the first of these faults, if there is one.
abbrev pub first_drawing : Mode → Picture → List Finding → List ℕ
first_drawing mode p [] = []
first_drawing mode p (f ∷ fs) = drawing mode p (message f.fault)

-- The result of a task: the output, the error output, and the number of mistakes that are left.
pub record Outputs : Type 0 where
  pub output : List ℕ
  pub error_output : List ℕ
  pub mistake_count : ℕ

-- The drawing of a source, of the error that the compiler shows or of all faults.
abbrev pub drawing_of : Bool → Task → Source → List ℕ
drawing_of all a s =
    if all then drawings a.mode (picture a s) (findings a.mode s)
    else shown_error a.mode (picture a s) (first_error (start a.mode s))

-- The drawing of a source is the output.
abbrev pub drawn_source : Bool → Task → Source → Outputs
drawn_source all a s = record {
  output = drawing_of all a s;
  error_output = [];
  mistake_count = mistake_count (findings a.mode s);
}

-- An output, and for the error output the drawing of the error that the compiler shows of a source.
abbrev pub with_drawing : List ℕ → Task → Source → Outputs
with_drawing u a s = record {
  output = u;
  error_output = drawing_of false a s;
  mistake_count = mistake_count (findings a.mode s);
}

-- A source as it is written, and a line end.
abbrev pub written_source : Source → List ℕ
written_source s = unwrap_or s.literal s.text ++ codes "\n"

-- A source is written, and its error is drawn for the error output.
abbrev pub kept_source : Task → Source → Outputs
kept_source a s = with_drawing (written_source s) a s

-- The tokens of a source, in its literal or in a text that is in none.
abbrev pub tokens_in : Mode → Source → List Placed
tokens_in mode s =
    tokens mode (chars s.text) s.style (option_map (λ l. chars l) s.literal) false

-- The tokens of a source are shown, in colours with a line end after them or each in a line, and
-- its error is drawn for the error output.
abbrev pub lexed_source : Task → Source → Outputs
lexed_source a s =
    let shown = shown_tokens a.colours (chars (unwrap_or s.literal s.text)) (tokens_in a.mode s) in
    with_drawing (shown ++ (if a.colours then codes "\n" else [])) a s

-- The literal of a source with the edits that its faults suggest. If there are none, it stays as it
-- is.
abbrev pub IsMendedIn : Mode → Source → List ℕ → Source → Type 0
IsMendedIn mode s l r =
    ((f : FixedLiteral) × IsFixed mode s.text s.style l false f
    × (r ≡ lone_literal s.style f.text f.snippet))
    ⊎ (((f : FixedLiteral) → IsFixed mode s.text s.style l false f → ⊥) × (r ≡ s))

-- Any source with the edits that its faults suggest. A text has no edits.
abbrev pub IsMended : Mode → Source → Source → Type 0
IsMended mode s r = elim s.literal [
  | None ↦ r ≡ s
  | Some l ↦ IsMendedIn mode s l r
]

-- The result of a task for a source.
abbrev pub IsShown : Task → Source → Outputs → Type 0
IsShown a s x = elim a.output_kind [
  | ShowFault ↦ x ≡ drawn_source false a s
  | ShowAll ↦ x ≡ drawn_source true a s
  | ShowTokens ↦ x ≡ lexed_source a s
  | ShowFix ↦ (r : Source) × IsMended a.mode s r × (x ≡ kept_source a r)
]

-- A terminal obeys nothing of this output for a task, but for colours if the task has them, and a
-- source with its edits, which is the input's own text and is to be read again as it is.
abbrev pub IsHarmlessOutput : Task → List ℕ → List ℕ → Type 0
IsHarmlessOutput a input t = elim a.output_kind [
  | ShowFault ↦ IsHarmlessWith a.colours t
  | ShowAll ↦ IsHarmlessWith a.colours t
  | ShowTokens ↦ IsHarmlessWith a.colours t
  | ShowFix ↦ (s : Source) × (r : Source) × IsSourceIn a.is_literal input s
      × IsMended a.mode s r × (t ≡ written_source r)
]

-- It obeys nothing of either output.
abbrev pub IsHarmlessFor : Task → List ℕ → Outputs → Type 0
IsHarmlessFor a input x =
    IsHarmlessOutput a input x.output × IsHarmlessWith a.colours x.error_output

-- The answer to a task with this input: its result, or the reason why nothing is written.
abbrev pub IsOwed : Task → List ℕ → Result Outputs RunFault → Type 0
IsOwed a input (Ok x) = IsShort input × IsUtf8 input
    × ((s : Source) × IsSourceIn a.is_literal input s × IsShown a s x)
IsOwed a input (Err TooLong) = limit < length input
IsOwed a input (Err NotText) = IsShort input × (IsUtf8 input → ⊥)
IsOwed a input (Err NotLiteral) = IsShort input × IsUtf8 input
    × ((s : Source) → IsSourceIn a.is_literal input s → ⊥)
IsOwed a input (Err Words) = ⊥
IsOwed a input (Err Read) = ⊥
IsOwed a input (Err Memory) = ⊥
IsOwed a input (Err Write) = ⊥

-- The message that is written to the error output, and the exit status.
abbrev pub verdict : Result ℕ RunFault → List ℕ × ℕ
verdict (Ok n) = ([], if n == 0 then 0 else 1)
verdict (Err Words) = (codes "formatlint: invalid arguments", 2)
verdict (Err NotLiteral) = (codes "formatlint: input is not a string literal", 2)
verdict (Err Read) = (codes "formatlint: reading failed", 3)
verdict (Err TooLong) = (codes "formatlint: input is longer than 1048576 bytes", 3)
verdict (Err NotText) = (codes "formatlint: input is not UTF-8", 3)
verdict (Err Memory) = (codes "formatlint: out of memory", 3)
verdict (Err Write) = (codes "formatlint: writing failed", 3)
