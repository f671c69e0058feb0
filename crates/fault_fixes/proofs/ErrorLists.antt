-- Errors in two lists.
use Rattle.std.proofs.Common.{◌≡◌, ◌++◌, ◌==◌, ◌∙◌, Bool, List, [], ◌∷◌, Option, ap, chars, length}
use Rattle.std.proofs.Common.{map, refl, reverse, sym, true, ℕ}
use Rattle.std.proofs.lemmas.Bool.{eqb-true}
use Rattle.std.proofs.lemmas.List.{map-append, nil_from_length, reverse-append}
use Rattle.std.proofs.lemmas.Str.{chars-nil}
use Rattle.rustc_parse_format.specs.Faults.{Message, add_errors}
use Rattle.rustc_parse_format.specs.Characters.{Text, is_nil}
use Rattle.rustc_parse_format.specs.State.{State, state_after, first_state, next_call}
use Rattle.rustc_parse_format.specs.Types.{Mode}
use Rattle.rustc_parse_format.specs.World.{Place, faults_in}
use Rattle.fault_fixes.specs.Fixing.{all_errors}
use Rattle.fault_fixes.proofs.CallFaults.{all_errors-end}

pub map-reverse : {X Y : Type 0} (f : X → Y) (xs : List X)
    → map f (reverse xs) ≡ reverse (map f xs)
map-reverse f [] = refl
map-reverse f (x ∷ xs) =
    ap (map f) (reverse-append (x ∷ []) xs) ∙ map-append f (reverse xs) (x ∷ [])
    ∙ ap (λ ys. ys ++ f x ∷ []) (map-reverse f xs)
    ∙ sym (reverse-append (f x ∷ []) (map f xs))

-- A parser with errors that are kept apart goes on as one that has them.
pub apart-step : (s new : State) (old es : List (Message Place))
    → new ≡ record (state_after s (next_call s)) { errors = [] }
    → es ≡ add_errors old (faults_in s.world (next_call s).faults)
    → record new { errors = es }
    ≡ state_after (record s { errors = old }) (next_call (record s { errors = old }))
apart-step s new old es e f = rw (e, f) refl

-- An empty input has no errors.
pub none-of : (mode : Mode) (input : List ℕ) (style : Option ℕ) (snippet : Option Text) (b : Bool)
    → (length input == 0) ≡ true → all_errors (first_state mode (chars input) style snippet b) ≡ []
none-of mode input style snippet b e =
    all_errors-end (first_state mode (chars input) style snippet b)
    (ap is_nil (ap chars (nil_from_length input (eqb-true (length input) 0 e)) ∙ chars-nil))
