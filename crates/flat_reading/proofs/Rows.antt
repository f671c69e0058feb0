-- Worked examples, each computed: the meaning of records, the calls that there are, and those of
-- them that found the errors.
use Rattle.std.proofs.Common.{◌≡◌, ℕ, [], ◌∷◌, Some, None, length, map, refl, codes, false, true}
use Rattle.rustc_parse_format.specs.Characters.{Text}
use Rattle.rustc_parse_format.specs.Types.{Format, default_spec, Lit}
use Rattle.rustc_parse_format.specs.Faults.{UnmatchedBrace, RawIdentifier}
use Rattle.rustc_parse_format.specs.World.{Place}
use Rattle.rustc_parse_format.specs.State.{State, first_state}
use Rattle.rustc_parse_format.proofs.Rows.Definitions.{computing}
use Rattle.flat_reading.specs.Meaning.{spec_at, text_at}
use Rattle.flat_reading.specs.Interface.{refusal}
use Rattle.flat_reading.specs.Events.{Event, add_finders, events, finders_of, fronts_of, is_default}
use Rattle.flat_reading.specs.Events.{states}

start : Text → State
start t = first_state Format t None None false

-- Of three errors of one call the middle one goes to the front, and so do its finders.
finders-go_as_errors : add_finders {A = ℕ} 3 (1 ∷ []) (UnmatchedBrace 0 ∷ RawIdentifier 0 0
    ∷ UnmatchedBrace 0 ∷ []) ≡ 3 ∷ 1 ∷ 3 ∷ 3 ∷ []
finders-go_as_errors = refl

-- A lone closing brace gives no piece, the calls go on after it, and the one at the end is the
-- last.
calls-go_on : map (λ (e : Event). e.piece) (events (start (codes "}a")))
    ≡ None ∷ Some (Lit (codes "a")) ∷ None ∷ []
unfolding computing states start
calls-go_on = refl

calls-read_on : map (λ (e : Event). e.offset) (events (start (codes "}a"))) ≡ 1 ∷ 2 ∷ 2 ∷ []
unfolding computing states start
calls-read_on = refl

nothing-has_one_call : length (states (start [])) ≡ 1
unfolding computing states start
nothing-has_one_call = refl

-- The third call finds the raw identifier, whose error stands first.
raw-is_found_later : finders_of (start (codes "}a{r#b}")) ≡ 2 ∷ 0 ∷ []
unfolding computing states start
raw-is_found_later = refl

raw-is_one_front : fronts_of (start (codes "}a{r#b}")) ≡ 1
unfolding computing states start
raw-is_one_front = refl

-- Half of a character is no text.
half-is_no_text : text_at (97 ∷ 195 ∷ 169 ∷ []) (record { start = 1; end = 2 }) ≡ 1114112 ∷ []
unfolding text_at
half-is_no_text = refl

-- Nor is what runs backwards, though nothing stands there.
backwards-is_no_text : text_at (97 ∷ 98 ∷ []) (record { start = 2; end = 0 }) ≡ 1114112 ∷ []
unfolding text_at
backwards-is_no_text = refl

-- No record is there for the number 1.
beyond-is_no_spec : spec_at [] [] 1 ≡ record (default_spec {A = Place}) { fill = Some 1114112 }
unfolding spec_at
beyond-is_no_spec = refl

mode-is_refused : refusal [] []
    (record {
      mode = 4;
      is_raw = 0;
      hashes = 0;
      has_snippet = 0;
      appended_newline = 0;
    })
    ≡ Some 5
mode-is_refused = refl

default-is_default : is_default {A = Place} default_spec ≡ true
default-is_default = refl
