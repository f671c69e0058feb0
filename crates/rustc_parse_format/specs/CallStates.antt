-- The state of a parser in the middle of a call, as contracts see it. Only private contracts use
-- it.
use Prim.Native.Char.{code}
use Rattle.std.specs.Prelude.{chars, Bool, not, ◌&&◌, if◌then◌else◌, ◌≡◌, ◌<◌, ◌≤◌, ◌+◌, ◌-◌, ℕ}
use Rattle.std.specs.Prelude.{◌++◌, true, List, [], ◌∷◌, length, Option, Some, None}
use Rattle.std.specs.Char.{is_whitespace}
use Rattle.rustc_parse_format.specs.declared.source.Source.{Source}
use Rattle.rustc_parse_format.specs.Characters.{Text, front, rest_after, after_first, begins_with}
use Rattle.rustc_parse_format.specs.Characters.{is_no_brace}
use Rattle.rustc_parse_format.specs.Rewinds.{Rewinds, IsPaid}
use Rattle.rustc_parse_format.specs.Marks.{Span, run_texts, span_through}
use Rattle.rustc_parse_format.specs.Faults.{Fault}
use Rattle.rustc_parse_format.specs.World.{World, Place, StartAfter, faults_in, place_at}
use Rattle.rustc_parse_format.specs.Call.{Call, unclosed_fault}
use Rattle.rustc_parse_format.specs.Recovery.{Recovery, recovery}
use Rattle.rustc_parse_format.specs.Types.{Mode, Argument}
use Rattle.rustc_parse_format.specs.SourceViews.{seen_world}
use Rattle.rustc_parse_format.specs.Tries.{back_after}
use Rattle.rustc_parse_format.specs.Lines.{lines_in, closed_in, read_lines}

-- The numbers that a cursor counts: of the characters that it has read, those that it gave back
-- included, and of the characters that were left when it last went back.
pub record StepCounts : Type 0 where
  pub pass_count : ℕ
  pub left_count : ℕ

-- The characters that were given back, where t is left of the input n, by the number of those that
-- were read again.
abbrev pub back_at : Text → Text → StepCounts → Rewinds
back_at n t p = record { count = (p.pass_count + length t) - length n; left = p.left_count }

-- The count covers all characters that were read, and those that were given back are bounded as
-- `IsPaid` says.
pub record IsCounted (n t : Text) (p : StepCounts) : Type 0 where
  pub made : length n ≤ p.pass_count + length t
  pub paid : IsPaid n t (back_at n t p)

-- The text that a cursor has left to read: a suffix of an input, in the world of its source.
pub record Remainder : Type 0 where
  pub source : Source
  pub world : World
  pub input : Text
  pub rest : Text
  pub rewinds : Rewinds
  -- The number of times that the cursor was put back after an allocation failure. The steps of such
  -- a call do not count.
  pub undo_count : ℕ

-- The state of a parser in the middle of a call: the text that its cursor has left to read, the
-- number that the next implicit argument takes, and the faults, lines and place that the call has
-- found so far.
pub record CallState : Type 0 where
  pub source : Source
  pub world : World
  pub input : Text
  pub rest : Text
  pub rewinds : Rewinds
  pub undo_count : ℕ
  pub next : ℕ
  pub faults : List (Fault Place)
  -- The byte offset where the current line starts, and the lines that ended in this call.
  pub line_start : ℕ
  pub lines : List Place
  -- The place of the placeholder that was closed.
  pub closed_place : Option Place

-- A placeholder begins here: there is an opening brace, and no second one after it.
abbrev pub opens_placeholder : Text → Bool
opens_placeholder t = begins_with (code "{") t && not (begins_with (code "{") (after_first t))

-- The state at this cursor, with this next number and this start of the current line, where the
-- call has found nothing yet.
abbrev pub call_state : Remainder → ℕ → ℕ → CallState
call_state u n start = record {
  source = u.source;
  world = u.world;
  input = u.input;
  rest = u.rest;
  rewinds = u.rewinds;
  undo_count = u.undo_count;
  next = n;
  faults = [];
  line_start = start;
  lines = [];
  closed_place = None;
}

-- The call has found nothing yet.
abbrev pub HasFoundNothing : CallState → Type 0
HasFoundNothing s = (s.faults ≡ []) × (s.lines ≡ []) × (s.closed_place ≡ None)

-- The text that a cursor has left to read at the start of the suffix `rest` of a source's input.
abbrev pub unread_at : Source → List ℕ → Rewinds → ℕ → Remainder
unread_at s rest b n = record {
  source = s;
  world = seen_world s;
  input = chars s.input.now;
  rest = chars rest;
  rewinds = b;
  undo_count = n;
}

-- The state after reading up to r, with n as the next number and these faults found.
abbrev pub read_to : CallState → Text → ℕ → List (Fault Span) → CallState
read_to s r n fs = record s { rest = r; next = n; faults = s.faults ++ faults_in s.world fs }

-- The state after trying the words at these suffixes for a count.
abbrev pub read_tries : CallState → List Text → CallState
read_tries s ts = record s { rewinds = back_after s.rewinds ts }

-- The state after reading these characters as text.
abbrev pub read_texts : CallState → List (ℕ × ℕ) → CallState
read_texts s cs =
    record s {
      line_start = (lines_in s.world s.line_start cs).0;
      lines = s.lines ++ (lines_in s.world s.line_start cs).1;
    }

-- The state after reading the run of text at the start of the rest.
abbrev pub read_run : CallState → CallState
read_run s =
    record (read_texts s (run_texts (front is_no_brace s.rest) (rest_after is_no_brace s.rest))) {
      rest =
          rest_after is_no_brace s.rest;
    }

-- The state after the lines have taken the next character, c, of a source literal.
abbrev pub noted_next : ℕ → CallState → CallState
noted_next c s =
    let next = read_lines s.line_start ((c, place_at s.world (length s.rest)) ∷ []) in
    record s { line_start = next.0; lines = s.lines ++ next.1 }

-- The state after the next character, c, has been read.
abbrev pub passed_next : ℕ → CallState → CallState
passed_next c s = record (noted_next c s) { rest = after_first s.rest }

-- The characters from c on are not white space at the start of the line: those after c start later
-- than the line, and so does c if it is white space.
abbrev pub IsPastIndent : ℕ → ℕ → World → Text → Type 0
IsPastIndent c start w t = (is_whitespace c ≡ true → start < (place_at w (length t)).0)
    × StartAfter start w (length (after_first t))

-- There are no faults among these, and reading these characters as text ends no line.
abbrev pub FindsNothing : CallState → List (Fault Span) → List (ℕ × ℕ) → Type 0
FindsNothing s fs cs = (fs ≡ []) × ((read_texts s cs).lines ≡ s.lines)

-- Reading the run of text at the start of the rest ends no line.
abbrev pub IsInOneLine : CallState → Type 0
IsInOneLine s = (read_run s).lines ≡ s.lines

-- The place of the placeholder that was closed last, if any was.
abbrev pub closed_then : Option Place → Option Place → Option Place
closed_then old None = old
closed_then old (Some p) = Some p

-- The state after a call.
abbrev pub read_call : CallState → Call → CallState
read_call s k =
    record (read_texts (read_tries (read_to s k.rest k.next k.faults) k.tries) k.texts) {
      closed_place =
          closed_then s.closed_place (closed_in s.world k.closes);
    }

-- The state after reading the character with this fault. Without a fault it is unchanged.
abbrev pub after_sign : CallState → Option (Fault Place) → CallState
after_sign s None = s
after_sign s (Some f) = record s { rest = after_first s.rest; faults = s.faults ++ f ∷ [] }

-- The state after a recovery.
abbrev pub recovered_state : CallState → Recovery → CallState
recovered_state s k = read_texts (read_tries (read_to s k.rest k.next k.faults) k.tries) k.texts

-- The state after the place of the closing brace: after the brace if it is there, or after the
-- fault and the recovery. The placeholder begins at o and has the argument a.
abbrev pub after_closing : Mode → Text → Argument Span → CallState → CallState
after_closing mode o a s =
    if begins_with (code "}") s.rest
    then record s {
      rest = after_first s.rest;
      closed_place = closed_then s.closed_place (closed_in s.world (Some (span_through o s.rest)));
    }
    else recovered_state (read_to s s.rest s.next (unclosed_fault o a.format s.rest ∷ []))
    (recovery mode s.next o a s.rest)
