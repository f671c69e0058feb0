-- The places of the texts of a piece in the input, and what a walk has written so far. Private
-- definitions, for contracts of private functions.
use Rattle.std.specs.Prelude.{◌≡◌, ◌≢◌, ℕ, ◌+◌, ◌-◌, ◌<◌, ◌≤◌, ◌^◌, ◌⊎◌, ◌||◌, List, [], ◌∷◌, ◌++◌}
use Rattle.std.specs.Prelude.{length, map, sum_by, take, drop, set, option_map, Bool, true, false}
use Rattle.std.specs.Prelude.{Option, Some, None, IfNone, IfSome, is_some, chars, codes}
use Rattle.std.specs.Prelude.{encode_utf8_all, slice_range}
use Rattle.std.specs.Str.{IsCharBoundary, IsUtf8}
use Rattle.rustc_parse_format.specs.Characters.{Text}
use Rattle.rustc_parse_format.specs.Characters.{byte_length}
use Rattle.rustc_parse_format.specs.Types.{Position, Implicit, Index, Named, Count, Is, Name, Param}
use Rattle.rustc_parse_format.specs.Types.{Star, Implied, Spec, Argument, Piece, Lit, NextArgument}
use Rattle.rustc_parse_format.specs.Types.{Mode}
use Rattle.rustc_parse_format.specs.Views.{seen_mode}
use Rattle.rustc_parse_format.specs.Call.{call}
use Rattle.rustc_parse_format.specs.World.{World, Place, piece_in, plain_world}
use Rattle.rustc_parse_format.specs.State.{State, state_after, after_all, next_call}
use Rattle.flat_reading.specs.declared.specification.SpecBuffer.{SpecBuffer}
use Rattle.flat_reading.specs.declared.records.Step.{Step}
use Rattle.flat_reading.specs.declared.records.Peek.{Peek}
use Rattle.flat_reading.specs.declared.records.Spec.{Spec as SpecRecord}
use Rattle.flat_reading.specs.declared.texts.SpecTexts.{SpecTexts}
use Rattle.flat_reading.specs.declared.reading.Reading.{Reading}
use Rattle.flat_reading.specs.Events.{Event, add_finders, end_of, event, events, finders_from}
use Rattle.flat_reading.specs.Events.{finders_of, fronts_in, fronts_of, given_piece, spec_count}
use Rattle.flat_reading.specs.Events.{lookahead, lookaheads, peek_meant, specs_in}
use Rattle.flat_reading.specs.Events.{states, step_meant}
use Rattle.flat_reading.specs.ErrorRecords.{FinderList}
use Rattle.flat_reading.specs.Meaning.{text_at, type_meant}

-- The input has these bytes from the offset `start` on.
abbrev pub HasBytes : List ℕ → ℕ → List ℕ → Type 0
HasBytes input start bytes = (start + length bytes ≤ length input)
    × (slice_range input start (start + length bytes) ≡ bytes)

-- The input has the bytes of this text from the offset `start` on.
abbrev pub Stands : List ℕ → ℕ → Text → Type 0
Stands input start t = HasBytes input start (encode_utf8_all t)

-- The input has the bytes of this text from the offset `start` on, unless the text is empty.
abbrev pub StandsAt : List ℕ → ℕ → Text → Type 0
StandsAt input start t = t ≢ [] → Stands input start t

-- The text is in the input at the offset `start`, or these bytes and then the text are.
abbrev pub StandsAfter : List ℕ → List ℕ → ℕ → Text → Type 0
StandsAfter input prefix start t = StandsAt input start t
    ⊎ HasBytes input start (prefix ++ encode_utf8_all t)

-- The text was read last: it ends at the offset `read`.
abbrev pub IsLast : List ℕ → ℕ → Text → Type 0
IsLast input read t = text_at input (record { start = read - byte_length t; end = read }) ≡ t

-- The name in a count, if it has one, is in the input at the start of its span, less the offset.
abbrev pub CountStands : List ℕ → ℕ → Count Place → Type 0
CountStands input offset (Is n) = Unit {0}
CountStands input offset (Name w s) = StandsAt input (s.0 - offset) w
CountStands input offset (Param n) = Unit {0}
CountStands input offset (Star n) = Unit {0}
CountStands input offset Implied = Unit {0}

-- The type is one that may have no span: it is empty, `x`, `X` or `?`.
abbrev pub IsListed : Text → Type 0
IsListed t = (t ≡ []) ⊎ ((t ≡ codes "x") ⊎ ((t ≡ codes "X") ⊎ (t ≡ codes "?")))

-- A type with a span is in the input at the start of its span, less the offset, or after a colon
-- there. A type without a span is one that may have none.
abbrev pub TypeStands : List ℕ → ℕ → Option Place → Text → Type 0
TypeStands input offset None t = IsListed t
TypeStands input offset (Some s) t = StandsAfter input (codes ":") (s.0 - offset) t

-- The texts of a specification are in the input at the start of their spans, less the offset.
pub record SpecStands (input : List ℕ) (offset : ℕ) (s : Spec Place) : Type 0 where
  pub width : CountStands input offset s.width
  pub precision : CountStands input offset s.precision
  pub ty : TypeStands input offset s.ty_span s.ty

-- The name of a position, if it has one, is in the input at the offset `start`, or after an `r#`
-- there.
abbrev pub PositionStands : List ℕ → ℕ → Position → Type 0
PositionStands input start (Implicit n) = Unit {0}
PositionStands input start (Index n) = Unit {0}
PositionStands input start (Named w) = StandsAfter input (codes "r#") start w

-- The texts of an argument are in the input at the start of their spans, less the offset.
pub record ArgumentStands (input : List ℕ) (offset : ℕ) (a : Argument Place) : Type 0 where
  pub position : PositionStands input (a.position_span.0 - offset) a.position
  pub format : SpecStands input offset a.format

-- A piece that is a run of text was read last.
abbrev pub RunStands : List ℕ → ℕ → Option (Piece Place) → Type 0
RunStands input read None = Unit {0}
RunStands input read (Some (Lit t)) = IsLast input read t
RunStands input read (Some (NextArgument a)) = Unit {0}

-- The texts of a piece that is an argument are in the input at the start of their spans, less the
-- offset.
abbrev pub PlaceholderStands : List ℕ → ℕ → Option (Piece Place) → Type 0
PlaceholderStands input offset None = Unit {0}
PlaceholderStands input offset (Some (Lit t)) = Unit {0}
PlaceholderStands input offset (Some (NextArgument a)) = ArgumentStands input offset a

-- The count has a name.
abbrev pub is_name : {A : Type 0} → Count A → Bool
is_name (Is n) = false
is_name (Name w s) = true
is_name (Param n) = false
is_name (Star n) = false
is_name Implied = false

-- The specification has a text that is found by a span: a name, or a type with a span.
abbrev pub has_texts : {A : Type 0} → Spec A → Bool
has_texts s = is_name s.width || (is_name s.precision || is_some s.ty_span)

-- A parser in this mode with this next number, which has the input from the byte `start` on left,
-- returns this piece, whatever its world is.
pub record IsReadAt (input : List ℕ) (mode : Mode) (next start : ℕ)
    (o : Option (Piece Place)) : Type 0 where
  pub starts : IsCharBoundary input start
  pub fits : next + length (chars (drop start input)) < 2 ^ 64
  pub world : World
  pub gives : o ≡ option_map (piece_in world) (call mode next (chars (drop start input))).piece

-- The text t is the name in a count, if it has one.
abbrev pub CountAt : {A : Type 0} → Text → Count A → Type 0
CountAt t (Is n) = Unit {0}
CountAt t (Name w s) = t ≡ w
CountAt t (Param n) = Unit {0}
CountAt t (Star n) = Unit {0}
CountAt t Implied = Unit {0}

-- The ranges in x hold the texts of the specification.
pub record SpecAt {A : Type 0} (input : List ℕ) (x : SpecTexts) (s : Spec A) : Type 0 where
  pub width : CountAt (text_at input x.width) s.width
  pub precision : CountAt (text_at input x.precision) s.precision
  pub ty : type_meant input x.type_kind x.ty ≡ s.ty

-- The text t is the name of a position, if it has one.
abbrev pub PositionAt : Text → Position → Type 0
PositionAt t (Implicit n) = Unit {0}
PositionAt t (Index n) = Unit {0}
PositionAt t (Named w) = t ≡ w

-- Each place of the parser is that in the input, moved by `offset` bytes.
abbrev pub IsPlain : State → ℕ → Type 0
IsPlain s offset = (b : Bool) × (e : ℕ) × (s.world ≡ plain_world b offset s.input e)

-- The second text is a suffix of the first.
abbrev pub EndsWith : Text → Text → Type 0
EndsWith input rest = (front : Text) × (input ≡ front ++ rest)

-- The count of specifications grew by n. They are written after the others, as far as there is
-- room. Nothing else is written.
pub record Adds (n : ℕ) (old new : SpecBuffer) : Type 0 where
  pub same : new.records.ghost_name ≡ old.records.ghost_name
  pub room : length new.records.now ≡ length old.records.now
  pub used : new.count ≡ old.count + n
  pub front : take old.count new.records.now ≡ take old.count old.records.now
  pub kept : drop new.count new.records.now ≡ drop new.count old.records.now

-- The rest of the input is a suffix of the whole, and the places of the parser are those in the
-- input, moved by the offset, or its mode is known.
pub record IsOnItsWay (r : Reading) (s : State) : Type 0 where
  pub utf8 : IsUtf8 r.input.now
  pub input : chars r.input.now ≡ s.input
  pub left : EndsWith s.input s.rest
  pub plain : IfNone r.escapes (IsPlain s r.offset)
  pub mode : IfSome r.escapes (λ m. seen_mode m ≡ s.mode)

-- The parser made the next call, which has this number, and the errors that it found were recorded.
pub record MakesCall (number : ℕ) (r : Reading) (old new : State)
    (found more : FinderList) : Type 0 where
  pub state : new ≡ state_after old (next_call old)
  pub ready : IsOnItsWay r new
  pub finders : more.calls
      ≡ add_finders number found.calls (next_call old).faults
  pub front_count : more.front_count
      ≡ found.front_count + fronts_in (next_call old)

-- A step that describes the event was written at the index `count`, if there is room. By then
-- `used` specifications are counted.
pub record IsAdded (input : List ℕ) (e : Event) (count used : ℕ) (old new : List Step)
    (specs : List SpecRecord) : Type 0 where
  pub step : Step
  pub put : (count < length old → new ≡ set old count step) × (length old ≤ count → new ≡ old)
  pub few : step.spec ≤ used
  pub described : used ≤ length specs → step_meant input specs step ≡ e

-- A record of the two characters that come next at the state was written at the index `count`, if
-- there is room.
pub record IsSeen (s : State) (count : ℕ) (old new : List Peek) : Type 0 where
  pub room : count < length old
      → (p : Peek) × ((new ≡ set old count p) × (peek_meant p ≡ lookahead s))
  pub full : length old ≤ count → new ≡ old

-- The two steps say the same about the state after the call.
abbrev pub SameAfter : Step → Step → Type 0
SameAfter old new =
    (new.has_place ≡ old.has_place) × (new.place ≡ old.place) × (new.offset ≡ old.offset)
    × (new.next_index ≡ old.next_index) × (new.lines ≡ old.lines)

-- The numbers of the specifications of these steps are at most k.
abbrev pub AllFew : ℕ → List Step → Type 0
AllFew k [] = Unit {0}
AllFew k (r ∷ rs) = (r.spec ≤ k) × AllFew k rs

-- So far so many steps and specifications are noted of the calls from the state s0 on, which came
-- to s; the calls at the states `todo` are left.
pub record IsUpTo (input : List ℕ) (s0 : State) (todo : List State) (s : State) (count used : ℕ)
    (found : FinderList) (steps : List Step) (specs : List SpecRecord)
    (peeks : List Peek) : Type 0 where
  pub counted : count + length todo ≡ length (states s0)
  pub specs_counted : used + sum_by (λ (t : State). specs_in (given_piece t)) todo ≡ spec_count s0
  pub fewer : used ≤ count
  pub state : after_all s (map next_call todo) ≡ end_of s0
  pub finders : finders_from count found.calls (map next_call todo) ≡ finders_of s0
  pub front_count : found.front_count + sum_by fronts_in (map next_call todo) ≡ fronts_of s0
  pub few : AllFew used (take count steps)
  pub written : count ≤ length steps → used ≤ length specs
      → map (step_meant input specs) (take count steps) ++ map event todo ≡ events s0
  pub seen : count ≤ length peeks
      → map peek_meant (take count peeks) ++ map lookahead todo ≡ lookaheads s0
