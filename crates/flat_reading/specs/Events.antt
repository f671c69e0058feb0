-- The calls of a parser up to and including the one at the end of its input, as a caller sees them,
-- and the call that a step describes.
use Rattle.std.specs.Prelude.{ℕ, zero, suc, ◌-◌, ◌++◌, Bool, true, false, not, ◌&&◌, if◌then◌else◌}
use Rattle.std.specs.Prelude.{List, [], ◌∷◌, length, map, Option, Some, None}
use Rattle.std.specs.Prelude.{option_map, is_none, sum_by}
use Rattle.std.specs.List.{filter}
use Rattle.rustc_parse_format.specs.Characters.{Text, byte_length, is_nil, after_first}
use Rattle.rustc_parse_format.specs.Types.{Alignment, Left, Right, Center, Unknown, Count, Is, Name}
use Rattle.rustc_parse_format.specs.Types.{Param, Star, Implied, Spec, Piece, Lit, NextArgument}
use Rattle.rustc_parse_format.specs.Faults.{Fault, is_front}
use Rattle.rustc_parse_format.specs.Call.{Call}
use Rattle.rustc_parse_format.specs.Lines.{closed_in}
use Rattle.rustc_parse_format.specs.World.{World, Place, piece_in}
use Rattle.rustc_parse_format.specs.State.{State, first_of, next_call, state_after, after_all}
use Rattle.flat_reading.specs.declared.records.Step.{Step}
use Rattle.flat_reading.specs.declared.records.Peek.{Peek}
use Rattle.flat_reading.specs.declared.records.Spec.{Spec as SpecRecord}
use Rattle.flat_reading.specs.Meaning.{maybe_place, piece_meant, spec_at}

-- A call and the state after it, as a step describes them.
pub record Event : Type 0 where
  pub piece : Option (Piece Place)
  -- The place of the placeholder that the call closed. Without a source literal there is none.
  pub place : Option Place
  -- The byte offset in the input after the last character that was read.
  pub offset : ℕ
  -- The number that the next implicit argument takes.
  pub next_index : ℕ
  -- The number of lines.
  pub lines : ℕ

-- The number of bytes of the input before the suffix that is left.
abbrev pub position : Text → Text → ℕ
position input rest = byte_length input - byte_length rest

-- The place of the first character of a suffix. None at the end.
abbrev pub place_of_first : State → Text → Option Place
place_of_first s t = option_map (λ x. x.0) (first_of s.world s.input t)

-- The event of the call k, which leaves the parser in the state t.
abbrev pub event_of : World → Call → State → Event
event_of w k t = record {
  piece = option_map (piece_in w) k.piece;
  place = closed_in w k.closes;
  offset = position t.input t.rest;
  next_index = t.next;
  lines = length t.line_spans;
}

-- The event of the next call.
abbrev pub event : State → Event
event s = event_of s.world (next_call s) (state_after s (next_call s))

-- The piece that the next call returns.
abbrev pub given_piece : State → Option (Piece Place)
given_piece s = option_map (piece_in s.world) (next_call s).piece

-- The states before each call, up to the call at the end of the input, and at most n calls before
-- it. Each of those reads a character.
abbrev pub states_for : ℕ → State → List State
states_for zero s = s ∷ []
states_for (suc n) s = s ∷ (if is_nil s.rest then [] else states_for n
    (state_after s (next_call s)))

-- The states before each call, up to the call at the end of the input.
unfoldable pub states : State → List State
states s = states_for (length s.rest) s

-- All calls up to and including the one at the end of the input. A call that returns no piece at a
-- closing brace is not the last.
abbrev pub calls : State → List Call
calls s = map next_call (states s)

-- The events of all calls.
abbrev pub events : State → List Event
events s = map event (states s)

-- The places of the next two characters. Each is None where there is no such character.
pub record Lookahead : Type 0 where
  pub first : Option Place
  pub second : Option Place

-- The places of the two characters that come next at a state.
abbrev pub lookahead : State → Lookahead
lookahead s = record {
  first = place_of_first s s.rest;
  second = place_of_first s (after_first s.rest);
}

-- The places of the two characters that come next before each call.
abbrev pub lookaheads : State → List Lookahead
lookaheads s = map lookahead (states s)

-- The state after all calls.
abbrev pub end_of : State → State
end_of s = after_all s (calls s)

-- The list of the calls that found the errors, after a call with the number n that finds these
-- faults. It grows as the list of errors does.
abbrev pub add_finders : {A : Type 0} → ℕ → List ℕ → List (Fault A) → List ℕ
add_finders n old [] = old
add_finders n old (f ∷ fs) = add_finders n (if is_front f then n ∷ old else old ++ n ∷ []) fs

-- The list of the calls that found the errors, after these calls, of which the first has the number
-- n.
abbrev pub finders_from : ℕ → List ℕ → List Call → List ℕ
finders_from n old [] = old
finders_from n old (k ∷ ks) = finders_from (suc n) (add_finders n old k.faults) ks

-- For each error, in the order of the list of errors, the number of the call that found it.
abbrev pub finders_of : State → List ℕ
finders_of s = finders_from 0 [] (calls s)

-- The number of errors of a call that are added at the start of the list.
abbrev pub fronts_in : Call → ℕ
fronts_in k = length (filter is_front k.faults)

-- The number of errors of all calls that are added at the start of the list.
abbrev pub fronts_of : State → ℕ
fronts_of s = sum_by fronts_in (calls s)

-- The count is absent.
abbrev pub is_implied : {A : Type 0} → Count A → Bool
is_implied (Is n) = false
is_implied (Name w s) = false
is_implied (Param n) = false
is_implied (Star n) = false
is_implied Implied = true

-- The alignment is absent.
abbrev pub is_unknown : Alignment → Bool
is_unknown Left = false
is_unknown Right = false
is_unknown Center = false
is_unknown Unknown = true

-- The fill, the alignment and the flags of the specification are absent, and so are their spans.
abbrev pub has_no_flags : {A : Type 0} → Spec A → Bool
has_no_flags s =
    is_none s.fill
    && (is_none s.fill_span
    && (is_unknown s.align
    && (is_none s.sign
    && (not s.alternate && (not s.zero_pad && is_none s.debug_hex)))))

-- The specification has neither a width nor a precision.
abbrev pub has_no_counts : {A : Type 0} → Spec A → Bool
has_no_counts s = is_implied s.width
    && (is_none s.width_span && (is_implied s.precision && is_none s.precision_span))

-- The specification has no type.
abbrev pub has_no_type : {A : Type 0} → Spec A → Bool
has_no_type s = is_nil s.ty && is_none s.ty_span

-- Each part of the specification is absent.
abbrev pub is_default : {A : Type 0} → Spec A → Bool
is_default s = has_no_flags s && (has_no_counts s && has_no_type s)

-- The number of records of specifications that a piece takes: one unless each part of its
-- specification is absent.
abbrev pub specs_in : {A : Type 0} → Option (Piece A) → ℕ
specs_in None = 0
specs_in (Some (Lit t)) = 0
specs_in (Some (NextArgument a)) = if is_default a.format then 0 else 1

-- The number of records of specifications: one for each specification that has a part.
abbrev pub spec_count : State → ℕ
spec_count s = sum_by (λ (t : State). specs_in (given_piece t)) (states s)

-- The event that a step describes.
abbrev pub step_meant : List ℕ → List SpecRecord → Step → Event
step_meant input specs r = record {
  piece = piece_meant input (spec_at input specs r.spec) r;
  place = maybe_place r.has_place r.place;
  offset = r.offset;
  next_index = r.next_index;
  lines = r.lines;
}

-- The places of two characters that a record means.
abbrev pub peek_meant : Peek → Lookahead
peek_meant r = record {
  first = maybe_place r.has_peek r.peek;
  second = maybe_place r.has_peek_ahead r.peek_ahead;
}
