-- The answer that the program owes, by its arguments and for any bytes as its input.
use Rattle.std.specs.Prelude.{◌≡◌, ◌≤◌, ◌<◌, ℕ, Bool, true, false, ◌&&◌, ◌||◌, if◌then◌else◌}
use Rattle.std.specs.Prelude.{nat_lt, List, [], ◌∷◌, length}
use Rattle.std.specs.Prelude.{Option, Some, None, Result, Ok, Err, bytes_eq, chars, codes}
use Rattle.std.specs.Str.{IsUtf8}
use Rattle.rustc_parse_format.specs.Types.{Mode, Format, InlineAsm, Diagnostic, DiagnosticNamed}
use Rattle.rustc_parse_format.specs.Types.{Piece}
use Rattle.rustc_parse_format.specs.Faults.{Message}
use Rattle.rustc_parse_format.specs.World.{Place, pieces_in}
use Rattle.rustc_parse_format.specs.Call.{pieces_of}
use Rattle.rustc_parse_format.specs.State.{State, first_state, calls, after_all}
use Rattle.placeholder_check.specs.Report.{IsReport, Report}
use Rattle.placeholder_check.specs.Uses.{uses}
use Rattle.piece_listing.specs.declared.verdict.RunFault.{RunFault}
use Rattle.piece_listing.specs.declared.verdict.RunFault.TheVariants.{Words, Read, TooLong, NotText}
use Rattle.piece_listing.specs.declared.verdict.RunFault.TheVariants.{NotLiteral, Memory, Write}
use Rattle.piece_listing.specs.Listing.{listing}
use Rattle.piece_listing.specs.Source.{Source, IsSourceOf}
use Rattle.piece_listing.specs.GivenArguments.{GivenArguments, given_arguments}

-- The most bytes that an input may have: 1 MiB.
abbrev pub limit : ℕ
limit = 1048576

-- The task that the arguments of the program give.
pub record Task : Type 0 where
  pub mode : Mode
  -- The input is a string literal, as written in a program.
  pub is_literal : Bool
  -- The arguments that the pieces are to be compared with, if any.
  pub given : Option GivenArguments

-- The mode that a word names. None if it names none.
unfoldable pub mode_named : List ℕ → Option Mode
mode_named w =
    if bytes_eq w (codes "format") then Some Format
    else (if bytes_eq w (codes "asm") then Some InlineAsm
    else (if bytes_eq w (codes "diagnostic") then Some Diagnostic
    else (if bytes_eq w (codes "diagnostic-named") then Some DiagnosticNamed else None)))

-- The task with these parts, if there is a mode.
abbrev pub task : Bool → Option GivenArguments → Option Mode → Option Task
task literal g None = None
task literal g (Some mode) = Some (record { mode = mode; is_literal = literal; given = g })

-- The task with these parts, if there are a mode and a list of arguments.
abbrev pub task_with : Bool → Option GivenArguments → Option Mode → Option Task
task_with literal None mode = None
task_with literal (Some g) mode = task literal (Some g) mode

-- The task that the words give: the name of a mode, then perhaps `--literal`, then perhaps `--args`
-- and a list. None for any other words.
abbrev pub task_of : List (List ℕ) → Option Task
task_of [] = None
task_of (w ∷ []) = task false None (mode_named w)
task_of (w ∷ v ∷ []) = if bytes_eq v (codes "--literal") then task true None
    (mode_named w) else None
task_of (w ∷ v ∷ l ∷ []) = if bytes_eq v (codes "--args")
    then task_with false (given_arguments l) (mode_named w) else None
task_of (w ∷ u ∷ v ∷ l ∷ []) =
    if bytes_eq u (codes "--literal") && bytes_eq v (codes "--args")
    then task_with true (given_arguments l) (mode_named w) else None
task_of (w ∷ u ∷ v ∷ l ∷ x ∷ ws) = None

-- A parser at the start of this source.
abbrev pub start : Mode → Source → State
start mode s = first_state mode s.text s.style s.snippet false

-- The pieces of this source.
unfoldable pub pieces : Mode → Source → List (Piece Place)
pieces mode s = pieces_in (start mode s).world (pieces_of (calls (start mode s)))

-- The errors of this source.
unfoldable pub errors : Mode → Source → List (Message Place)
errors mode s = (after_all (start mode s) (calls (start mode s))).errors

-- The source has an error.
abbrev pub is_faulty : Mode → Source → Bool
is_faulty mode s = nat_lt 0 (length (errors mode s))

-- The report without entries.
abbrev pub no_entries : Report
no_entries = record { missing_index = []; missing_name = []; unused_index = []; unused_name = [] }

-- The report on these pieces, as the checker defines it. Without a list of arguments it has no
-- entry.
abbrev pub IsReportFor : Option GivenArguments → List (Piece Place) → Report → Type 0
IsReportFor None ps r = r ≡ no_entries
IsReportFor (Some g) ps r = IsReport (uses ps) g.positional g.names r

-- The report has an entry.
abbrev pub has_entries : Report → Bool
has_entries r = nat_lt 0 (length r.missing_index)
    || (nat_lt 0 (length r.missing_name)
    || (nat_lt 0 (length r.unused_index) || nat_lt 0 (length r.unused_name)))

-- The listing of a source with a report, and whether the source has an error or the report an
-- entry.
abbrev pub listing_of : Mode → Source → Report → List ℕ × Bool
listing_of mode s r = (listing (pieces mode s) (errors mode s) r, is_faulty mode s || has_entries r)

-- The listing of a task: that of the source with the report on its pieces.
abbrev pub IsListed : Task → Source → List ℕ × Bool → Type 0
IsListed a s x = (r : Report) × IsReportFor a.given (pieces a.mode s) r
    × (x ≡ listing_of a.mode s r)

-- The input is at most 1 MiB long.
abbrev pub IsShort : List ℕ → Type 0
IsShort input = length input ≤ limit

-- The listing and whether it has an error or an entry of a report, or the reason why nothing is
-- written.
abbrev pub Answer : Type 0
Answer = Result (List ℕ × Bool) RunFault

-- The answer to a task with this input.
abbrev pub IsOwedFor : Task → List ℕ → Answer → Type 0
IsOwedFor a input (Ok x) = IsShort input × IsUtf8 input
    × ((s : Source) × IsSourceOf a.is_literal (chars input) s × IsListed a s x)
IsOwedFor a input (Err TooLong) = limit < length input
IsOwedFor a input (Err NotText) = IsShort input × (IsUtf8 input → ⊥)
IsOwedFor a input (Err NotLiteral) = IsShort input × IsUtf8 input
    × ((s : Source) → IsSourceOf a.is_literal (chars input) s → ⊥)
IsOwedFor a input (Err Words) = ⊥
IsOwedFor a input (Err Read) = ⊥
IsOwedFor a input (Err Memory) = ⊥
IsOwedFor a input (Err Write) = ⊥

-- The answer to words that give a task, with this input.
abbrev pub IsOwed : List (List ℕ) → List ℕ → Answer → Type 0
IsOwed words input answer = (a : Task) × (task_of words ≡ Some a) × IsOwedFor a input answer

-- The answer for an empty input: it has no error, and is not a literal.
abbrev pub empty_answer : Bool → Result Bool RunFault
empty_answer false = Ok false
empty_answer true = Err NotLiteral

-- The message that is written to the error output, and the exit status.
abbrev pub verdict : Result Bool RunFault → List ℕ × ℕ
verdict (Ok false) = ([], 0)
verdict (Ok true) = ([], 1)
verdict (Err Words) =
    (codes "usage: formatread format|asm|diagnostic|diagnostic-named [--literal] [--args N,NAME,..]", 2)
verdict (Err NotLiteral) = (codes "formatread: input is not a string literal", 2)
verdict (Err Read) = (codes "formatread: reading failed", 3)
verdict (Err TooLong) = (codes "formatread: input is longer than 1048576 bytes", 3)
verdict (Err NotText) = (codes "formatread: input is not UTF-8", 3)
verdict (Err Memory) = (codes "formatread: out of memory", 3)
verdict (Err Write) = (codes "formatread: writing failed", 3)
