-- The faults of all calls are those of the first and then those of the others.
use Rattle.std.proofs.Common.{◌≡◌, true, false, ℕ, suc, zero, ◌≤◌, ◌++◌, List, [], ◌∷◌, length}
use Rattle.std.proofs.Common.{refl, sym, ◌∙◌, ap, arith}
use Rattle.std.proofs.lemmas.List.{map-append}
use Rattle.rustc_parse_format.specs.Characters.{Text, is_nil}
use Rattle.rustc_parse_format.specs.State.{State, state_after, next_call}
use Rattle.rustc_parse_format.specs.Types.{Mode}
use Rattle.rustc_parse_format.specs.Faults.{Message, add_errors, map_fault}
use Rattle.rustc_parse_format.specs.Call.{Call, call}
use Rattle.rustc_parse_format.specs.World.{World, Place, faults_in, place_of}
use Rattle.rustc_parse_format.proofs.Readers.Errors.{add_errors-append}
use Rattle.rustc_parse_format.proofs.Walking.Progress.{call-lt}
use Rattle.fault_fixes.specs.Fixing.{faults_within, all_faults, all_errors}

call-shorter : (mode : Mode) (c b : ℕ) (t : Text)
    → length (call mode c (b ∷ t)).rest ≤ length t
call-shorter mode c b t = omega (arith, call-lt mode c (b ∷ t) (λ e. absurd (cc)))

-- As many calls as there are characters are enough.
within-enough : (n m : ℕ) (mode : Mode) (c : ℕ) (t : Text) → length t ≤ n → length t ≤ m
    → faults_within n mode c t ≡ faults_within m mode c t
within-enough n m mode c [] h k = refl
within-enough zero m mode c (b ∷ t) h k = absurd (omega arith)
within-enough (suc n) zero mode c (b ∷ t) h k = absurd (omega arith)
within-enough (suc n) (suc m) mode c (b ∷ t) h k =
    let a : Call = call mode c (b ∷ t) in
    ap (λ fs. a.faults ++ fs) (within-enough n m mode a.next a.rest
    (omega (arith, call-shorter mode c b t)) (omega (arith, call-shorter mode c b t)))

-- The faults of all calls are those of the first and those of the calls after it.
pub all_faults-step : (mode : Mode) (c b : ℕ) (t : Text) → all_faults mode c (b ∷ t)
    ≡ (call mode c (b ∷ t)).faults
    ++ all_faults mode (call mode c (b ∷ t)).next (call mode c (b ∷ t)).rest
unfolding all_faults
all_faults-step mode c b t =
    let a : Call = call mode c (b ∷ t) in
    ap (λ fs. a.faults ++ fs) (within-enough (length t) (length a.rest) mode a.next a.rest
    (call-shorter mode c b t) (omega arith))

-- After a call before the end, the errors of all calls are the same.
pub all_errors-step : (s new : State) → new ≡ state_after s (next_call s) → is_nil s.rest ≡ false
    → all_errors new ≡ all_errors s
all_errors-step s new e h = ap all_errors e ∙ step s.world s.mode s.next s.rest s.errors h
  where
    step : (w : World) (mode : Mode) (c : ℕ) (t : Text) (old : List (Message Place))
        → is_nil t ≡ false → add_errors (add_errors old (faults_in w (call mode c t).faults))
        (faults_in w (all_faults mode (call mode c t).next (call mode c t).rest))
        ≡ add_errors old (faults_in w (all_faults mode c t))
    step w mode c [] old h = absurd (cc)
    step w mode c (b ∷ t) old h =
        let a : Call = call mode c (b ∷ t) in
        sym (ap (λ fs. add_errors old (faults_in w fs)) (all_faults-step mode c b t)
        ∙ ap (add_errors old) (map-append (map_fault (place_of w)) a.faults
        (all_faults mode a.next a.rest))
        ∙ add_errors-append old (faults_in w a.faults)
        (faults_in w (all_faults mode a.next a.rest)))

-- At the end there are no more errors.
pub all_errors-end : (s : State) → is_nil s.rest ≡ true → all_errors s ≡ s.errors
unfolding all_faults
all_errors-end s h = at_end s.mode s.next s.rest h
  where
    at_end : (mode : Mode) (c : ℕ) (t : Text) → is_nil t ≡ true
        → add_errors s.errors (faults_in s.world (faults_within (length t) mode c t)) ≡ s.errors
    at_end mode c [] e = refl
    at_end mode c (b ∷ t) e = absurd (cc)
