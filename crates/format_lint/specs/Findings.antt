-- The error of a source that the compiler shows; and all its faults in the order in which they are
-- shown, with which of them follow from others.
use Rattle.std.specs.Prelude.{ℕ, zero, suc, ◌+◌, ◌++◌, Bool, true, false, ◌&&◌, ◌||◌, List, [], ◌∷◌}
use Rattle.std.specs.Prelude.{Option, None, Some, if◌then◌else◌, length}
use Rattle.std.specs.Prelude.{◌≡◌, take}
use Rattle.rustc_parse_format.specs.Characters.{Text}
use Rattle.rustc_parse_format.specs.Types.{Mode}
use Rattle.rustc_parse_format.specs.Faults.{Fault, FillBrace, MissingBrace, UnmatchedBrace}
use Rattle.rustc_parse_format.specs.Faults.{Message, add_errors, is_front}
use Rattle.rustc_parse_format.specs.Call.{call}
use Rattle.rustc_parse_format.specs.World.{World, Place, faults_in}
use Rattle.rustc_parse_format.specs.State.{State}

-- The error that the compiler shows of the calls from t on, with at most n calls. It stops at the
-- first call that leaves an error, and shows the first in the list of the parser.
abbrev pub first_error_within : World → ℕ → Mode → ℕ → Text → Option (Message Place)
first_error_within w n mode c [] = None
first_error_within w zero mode c (b ∷ t) = None
first_error_within w (suc n) mode c (b ∷ t) =
    let k = call mode c (b ∷ t) in
    elim (add_errors [] (faults_in w k.faults)) [
      | [] ↦ first_error_within w n mode k.next k.rest
      | m ∷ ms ↦ Some m
    ]

-- The same of all calls of a parser without errors. Each call reads a character.
unfoldable pub first_error : State → Option (Message Place)
first_error s = first_error_within s.world (length s.rest) s.mode s.next s.rest

-- A fault, and whether it follows from an earlier one. One that does not is a mistake of its own.
pub record Finding : Type 0 where
  pub fault : Fault Place
  pub is_consequence : Bool

-- Faults with others after them, which are given in the order in which they are found. Their order
-- is that of their errors in the list of a parser (`add_errors`).
abbrev pub add_faults : List (Fault Place) → List (Fault Place) → List (Fault Place)
add_faults old [] = old
add_faults old (f ∷ fs) = add_faults (if is_front f then f ∷ old else old ++ f ∷ []) fs

-- The fault is a closing brace that closes nothing.
abbrev pub is_lone_brace : Fault Place → Bool
is_lone_brace (UnmatchedBrace s) = true
is_lone_brace f = false

-- Whether a placeholder waits for its closing brace after a fault, if `is_waiting` says so of what
-- is before it. The next closing brace that closes nothing is the one that it waits for.
abbrev pub waits_after : Bool → Fault Place → Bool
waits_after is_waiting (MissingBrace c s o) = true
waits_after is_waiting (FillBrace c s o) = true
waits_after is_waiting (UnmatchedBrace s) = false
waits_after is_waiting f = is_waiting

-- The same after these faults.
abbrev pub waits_after_all : Bool → List (Fault Place) → Bool
waits_after_all is_waiting [] = is_waiting
waits_after_all is_waiting (f ∷ fs) = waits_after_all (waits_after is_waiting f) fs

-- A fault as it is shown. It follows if the parser went on after another one of the same call, or
-- if it is the closing brace that a placeholder waits for.
abbrev pub marked_finding : Bool → Bool → Fault Place → Finding
marked_finding is_waiting later f = record {
  fault = f;
  is_consequence =
      later || (is_waiting && is_lone_brace f);
}

-- The faults of a call as they are shown, where `later` says whether others of the call are before
-- them.
abbrev pub marked_findings : Bool → Bool → List (Fault Place) → List Finding
marked_findings is_waiting later [] = []
marked_findings is_waiting later (f ∷ fs) =
    marked_finding is_waiting later f ∷ marked_findings (waits_after is_waiting f) true fs

-- The faults of the calls from t on, with at most n calls. A call that returns no piece before the
-- end, as at a lone closing brace, is followed by others.
abbrev pub findings_within : World → ℕ → Mode → Bool → ℕ → Text → List Finding
findings_within w n mode is_waiting c [] = []
findings_within w zero mode is_waiting c (b ∷ t) = []
findings_within w (suc n) mode is_waiting c (b ∷ t) =
    let k = call mode c (b ∷ t) in
    let fs = add_faults [] (faults_in w k.faults) in
    marked_findings is_waiting false fs
    ++ findings_within w n mode (waits_after_all is_waiting fs) k.next k.rest

-- The faults of all calls of a parser, up to the end of its input and in the order of the calls.
-- Those of a call are in the order of their errors in the list of a parser, so that the error of
-- the first of all is the one that the compiler shows.
unfoldable pub findings_from : Bool → State → List Finding
findings_from is_waiting s = findings_within s.world (length s.rest) s.mode is_waiting s.next s.rest

-- How many of these faults are mistakes of their own.
abbrev pub mistake_count : List Finding → ℕ
mistake_count [] = 0
mistake_count (f ∷ fs) = (if f.is_consequence then 0 else 1) + mistake_count fs

-- The most faults that are drawn.
abbrev pub most_drawn : ℕ
most_drawn = 10

-- The first of these faults, the number of others, and how many of all are mistakes of their own.
pub record AreCounted (first : List Finding) (others own : ℕ) (fs : List Finding) : Type 0 where
  pub first_are : first ≡ take most_drawn fs
  pub all_are : length first + others ≡ length fs
  pub own_are : own ≡ mistake_count fs
