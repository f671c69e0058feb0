-- A parser between two calls, as a caller sees it.
use Rattle.std.specs.Prelude.{◌≡◌, ◌++◌, ◌&&◌, ℕ, ◌-◌, Bool, false, if◌then◌else◌, List, [], ◌∷◌}
use Rattle.std.specs.Prelude.{length, Option, Some, None, option_map}
use Rattle.rustc_parse_format.specs.Characters.{Text, byte_length, is_nil}
use Rattle.rustc_parse_format.specs.Rewinds.{Rewinds, nothing_back}
use Rattle.rustc_parse_format.specs.Tries.{back_after}
use Rattle.rustc_parse_format.specs.Types.{Mode, Piece, bare_piece}
use Rattle.rustc_parse_format.specs.Faults.{Message, add_errors}
use Rattle.rustc_parse_format.specs.World.{World, Place, place_at, world, quote_offset, faults_in}
use Rattle.rustc_parse_format.specs.World.{pieces_in}
use Rattle.rustc_parse_format.specs.Literal.{IsSource}
use Rattle.rustc_parse_format.specs.Lines.{IsLines, texts_in, lines_in, closed_places, with_last}
use Rattle.rustc_parse_format.specs.Call.{Call, GivesAtMostText, call, walk, IsWalk, pieces_of}

-- The first character of t, which is left of the input: its place, its byte offset in the input,
-- and its code. None at the end.
abbrev pub first_of : World → Text → Text → Option (Place × ℕ × ℕ)
first_of w input [] = None
first_of w input (c ∷ t) = Some (
  place_at w (length (c ∷ t)),
  byte_length input - byte_length (c ∷ t),
  c,
)

pub record State : Type 0 where
  pub mode : Mode
  pub world : World
  pub input : Text
  -- The rest of the input.
  pub rest : Text
  -- The characters that were given back, to be read again.
  pub rewinds : Rewinds
  -- The number of times that the cursor was put back after an allocation failure. The steps of such
  -- a call do not count.
  pub undo_count : ℕ
  -- The number that the next implicit argument takes.
  pub next : ℕ
  pub errors : List (Message Place)
  -- The places of the placeholders that were closed. Without a source literal there are none.
  pub arg_places : List Place
  -- The byte offset where the current line starts.
  pub line_start : ℕ
  -- The lines before the current one. Without a source literal there are none.
  pub line_spans : List Place

-- A parser at the start of an input, whose first line starts at the byte `start`.
abbrev pub fresh_state : Mode → World → Text → ℕ → State
fresh_state mode w input start = record {
  mode = mode;
  world = w;
  input = input;
  rest = input;
  rewinds = nothing_back input;
  undo_count = 0;
  next = 0;
  errors = [];
  arg_places = [];
  line_start = start;
  line_spans = [];
}

-- A parser at the start, by its arguments: an input, the style of its literal, a snippet, and
-- whether a newline was appended to the input.
abbrev pub first_state : Mode → Text → Option ℕ → Option Text → Bool → State
first_state mode input style snippet appended =
    fresh_state mode (world input style snippet appended) input (quote_offset style)

-- The next call.
abbrev pub next_call : State → Call
next_call s = call s.mode s.next s.rest

-- The lines after a call in the state s. A call at the end of the input adds the last line, which
-- ends at the end of the text.
abbrev pub last_lines : State → List Place → List Place
last_lines s ls = if s.world.has_source && is_nil s.rest
    then with_last (s.line_start, s.world.end) ls else ls

-- The new state is the one after an allocation failure: the old state, but for the number of times
-- that the cursor was put back.
abbrev pub IsPutBack : State → State → Type 0
IsPutBack s new = new ≡ record s { undo_count = new.undo_count }

-- The state after the call k.
abbrev pub state_after : State → Call → State
state_after s k =
    let lines = lines_in s.world s.line_start k.texts in
    record s {
      rest = k.rest;
      rewinds = back_after s.rewinds k.tries;
      next = k.next;
      errors = add_errors s.errors (faults_in s.world k.faults);
      arg_places = s.arg_places ++ closed_places s.world k.closes;
      line_start = lines.0;
      line_spans = last_lines s (s.line_spans ++ lines.1);
    }

-- The call needs no allocation: it returns text or nothing, finds no fault, and ends no line of a
-- source literal.
abbrev pub NeedsNoMemory : State → Call → Type 0
NeedsNoMemory s k = GivesAtMostText k × ((state_after s k).line_spans ≡ s.line_spans)

-- The call adds nothing to the parser's lists: it finds no fault, closes no placeholder of a source
-- literal, and ends no line of one.
abbrev pub AddsNothing : State → Call → Type 0
AddsNothing s k = (k.faults ≡ []) × ((state_after s k).arg_places ≡ s.arg_places)
    × ((state_after s k).line_spans ≡ s.line_spans)

-- The call returned the piece q without its spans and found no fault. Then r is left, and n is the
-- next number.
pub record GivesPiece (given : Option (Piece Place)) (q : Piece (Unit {0})) (r : Text) (n : ℕ)
    (old new : State) : Type 0 where
  pub piece : option_map bare_piece given ≡ Some q
  pub rest : new.rest ≡ r
  pub next : new.next ≡ n
  pub errors : new.errors ≡ old.errors

-- The calls from this state on, up to the first that returns no piece.
abbrev pub calls : State → List Call
calls s = walk s.mode s.next s.rest

-- The state after these calls.
abbrev pub after_all : State → List Call → State
after_all s [] = s
after_all s (k ∷ ks) = after_all (state_after s k) ks

-- The characters that these calls read as text, in order.
abbrev pub texts_of : List Call → List (ℕ × ℕ)
texts_of [] = []
texts_of (k ∷ ks) = k.texts ++ texts_of ks

-- The places of the placeholders that these calls close, in order.
abbrev pub closed_of : World → List Call → List Place
closed_of w [] = []
closed_of w (k ∷ ks) = closed_places w k.closes ++ closed_of w ks

-- These calls, the first of which begins at t, reach the end: at the last one nothing is left to
-- read. A walk may stop before the end, at a closing brace that closes nothing.
abbrev pub reach_end : Text → List Call → Bool
reach_end t [] = false
reach_end t (k ∷ []) = is_nil t
reach_end t (k ∷ l ∷ ks) = reach_end k.rest (l ∷ ks)

-- The lines of a walk in a source literal. They are those of all that is read as text, and the last
-- line is added exactly if the walk reached the end, with errors or without.
pub record AreLines (s : State) (ks : List Call) (new : State) : Type 0 where
  pub lines : List Place
  pub are_lines : IsLines s.line_start (texts_in s.world (texts_of ks)) lines new.line_start
  pub kept : new.line_spans ≡ (let all = s.line_spans ++ lines in
      if reach_end s.rest ks then with_last (new.line_start, s.world.end) all else all)

-- The snippet is the source literal of the input, and the places are in it.
pub record ComesFrom (s : State) (style : Option ℕ) (snippet : Text)
    (appended : Bool) : Type 0 where
  pub is_source : IsSource s.input style snippet appended
  pub world_is : s.world ≡ world s.input style (Some snippet) appended

-- The pieces ps are those of a walk from the state `old`, and `new` is the state after its last
-- call.
pub record Walks (old : State) (ps : List (Piece Place)) (new : State) : Type 0 where
  pub calls : List Call
  pub is_walk : IsWalk old.mode old.next old.rest calls
  pub pieces : ps ≡ pieces_in old.world (pieces_of calls)
  pub state : new ≡ after_all old calls
