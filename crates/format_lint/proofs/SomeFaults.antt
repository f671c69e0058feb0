-- The first fault is the one that the compiler shows, and there is a mistake exactly where there is
-- an error.
use Rattle.std.proofs.Common.{◌≡◌, ◌↔◌, ◌++◌, ◌∷◌, ◌∙◌, ◌+◌, ℕ, zero, suc, Bool, true, false, ap}
use Rattle.std.proofs.Common.{List, [], Option, Some, arith, length, length-append, map, nat_lt}
use Rattle.std.proofs.Common.{refl, sym}
use Rattle.std.proofs.Common.{◌-◌, flat_map, if◌then◌else◌, take}
use Rattle.std.proofs.lemmas.Bool.{cond_both}
use Rattle.std.proofs.lemmas.Bool.Decides.{nat_tests}
use Rattle.std.proofs.lemmas.List.{length-take, map-append, nil_from_length}
use Rattle.rustc_parse_format.specs.Call.{Call, call}
use Rattle.rustc_parse_format.specs.Characters.{Text}
use Rattle.rustc_parse_format.specs.Faults.{Fault, Message, add_errors, is_front, map_fault}
use Rattle.rustc_parse_format.specs.Faults.{message}
use Rattle.rustc_parse_format.specs.State.{State}
use Rattle.rustc_parse_format.specs.Types.{Mode}
use Rattle.rustc_parse_format.specs.World.{Place, World, faults_in, place_of}
use Rattle.rustc_parse_format.proofs.Walking.FaultlessStates.{add_errors-length}
use Rattle.fault_fixes.specs.Fixing.{all_errors, all_faults, faults_within}
use Rattle.drawn_lines.specs.Places.{Picture}
use Rattle.format_lint.specs.Findings.{AreCounted, Finding, add_faults, findings_from}
use Rattle.format_lint.specs.Findings.{findings_within, first_error}
use Rattle.format_lint.specs.Findings.{first_error_within, marked_findings, mistake_count}
use Rattle.format_lint.specs.Findings.{waits_after_all}
use Rattle.format_lint.specs.Findings.{most_drawn}
use Rattle.format_lint.specs.Lint.{drawings, drawn_finding, first_drawing, more_line, shown_error}

-- The list of a parser has the errors of the faults in their order.
listed : (old fs : List (Fault Place))
    → add_errors (map message old) fs ≡ map message (add_faults old fs)
listed old [] = refl
listed old (f ∷ fs) =
    cond_both (is_front f) (message f ∷ map message old) (map message old ++ message f ∷ [])
    (λ es. add_errors es fs ≡ map message (add_faults old (f ∷ fs)))
    (λ e. rw e (listed (f ∷ old) fs))
    (λ e. rw (e, sym (map-append message old (f ∷ []))) (listed (old ++ f ∷ []) fs))

-- The drawing of the first of these errors, or of what a later call finds.
abbrev first_or : Mode → Picture → Option (Message Place) → List (Message Place) → List ℕ
first_or d p later es = shown_error d p (elim es [ [] ↦ later | m ∷ ms ↦ Some m ])

step-first : (d : Mode) (p : Picture) (later : Option (Message Place)) (is_waiting : Bool)
    (l : List (Fault Place)) (fs : List Finding) → shown_error d p later ≡ first_drawing d p fs
    → first_or d p later (map message l) ≡ first_drawing d p
    (marked_findings is_waiting false l ++ fs)
step-first d p later is_waiting [] fs h = h
step-first d p later is_waiting (f ∷ l) fs h = refl

within-first : (d : Mode) (p : Picture) (w : World) (n : ℕ) (mode : Mode) (is_waiting : Bool)
    (c : ℕ)
    (t : Text)
    → shown_error d p (first_error_within w n mode c t)
    ≡ first_drawing d p (findings_within w n mode is_waiting c t)
within-first d p w n mode is_waiting c [] = refl
within-first d p w zero mode is_waiting c (b ∷ t) = refl
within-first d p w (suc n) mode is_waiting c (b ∷ t) =
    let a : Call = call mode c (b ∷ t) in
    let fs = add_faults [] (faults_in w a.faults) in
    ap (first_or d p (first_error_within w n mode a.next a.rest)) (listed [] (faults_in w a.faults))
    ∙ step-first d p (first_error_within w n mode a.next a.rest) is_waiting fs
    (findings_within w n mode (waits_after_all is_waiting fs) a.next a.rest)
    (within-first d p w n mode (waits_after_all is_waiting fs) a.next a.rest)

-- The drawing of the error that the compiler shows is that of the first fault that is kept.
pub first-shown : (d : Mode) (p : Picture) (m : ℕ) (s : State)
    → first_drawing d p (take (suc m) (findings_from false s)) ≡ shown_error d p (first_error s)
unfolding findings_from first_error
first-shown d p m s =
    head (findings_from false s)
    ∙ sym (within-first d p s.world (length s.rest) s.mode false s.next s.rest)
  where
    head : (l : List Finding) → first_drawing d p (take (suc m) l) ≡ first_drawing d p l
    head [] = refl
    head (f ∷ l) = refl

-- Whether a list has an element.
some : {A : Type 0} → List A → Bool
some [] = false
some (x ∷ l) = true

positive : {A : Type 0} (l : List A) → nat_lt 0 (length l) ≡ some l
unfolding some
positive [] = refl
positive (x ∷ l) = grind arith

add_faults-length : (old fs : List (Fault Place))
    → length (add_faults old fs) ≡ length old + length fs
add_faults-length old [] = omega arith
add_faults-length old (f ∷ fs) =
    cond_both (is_front f) (f ∷ old) (old ++ f ∷ [])
    (λ gs. length (add_faults gs fs) ≡ length old + length (f ∷ fs))
    (λ e. omega (arith, add_faults-length (f ∷ old) fs))
    (λ e. omega (
      arith,
      add_faults-length (old ++ f ∷ []) fs,
      length-append old (f ∷ []),
    ))

-- Lists of the same length both have an element, or none.
as-long : {A B : Type 0} (a : List A) (b : List B) → length a ≡ length b → some a ≡ some b
unfolding some
as-long [] [] e = refl
as-long [] (y ∷ b) e = absurd (omega arith)
as-long (x ∷ a) [] e = absurd (omega arith)
as-long (x ∷ a) (y ∷ b) e = refl

-- A call with faults decides, and after one without no placeholder waits.
within-some : (w : World) (n : ℕ) (mode : Mode) (c : ℕ) (t : Text)
    → nat_lt 0 (mistake_count (findings_within w n mode false c t))
    ≡ some (faults_in w (faults_within n mode c t))
unfolding some
within-some w n mode c [] = grind arith
within-some w zero mode c (b ∷ t) = grind arith
within-some w (suc n) mode c (b ∷ t) =
    let a : Call = call mode c (b ∷ t) in
    let fs = faults_in w a.faults in
    let later = faults_within n mode a.next a.rest in
    by_faults a (add_faults [] fs) fs (faults_in w later)
    (omega (arith, add_faults-length [] fs)) (within-some w n mode a.next a.rest)
    ∙ ap some (sym (map-append (map_fault (place_of w)) a.faults later))
  where
    by_faults : (a : Call) (l fs later : List (Fault Place)) → length l ≡ length fs
        → nat_lt 0 (mistake_count (findings_within w n mode false a.next a.rest)) ≡ some later
        → nat_lt 0 (mistake_count (marked_findings false false l
        ++ findings_within w n mode (waits_after_all false l) a.next a.rest)) ≡ some (fs ++ later)
    by_faults a [] [] later e h = h
    by_faults a [] (g ∷ fs) later e h = absurd (omega arith)
    by_faults a (f ∷ l) [] later e h = absurd (omega arith)
    by_faults a (f ∷ l) (g ∷ fs) later e h = grind arith

errors-some : (s : State) → s.errors ≡ []
    → some (all_errors s) ≡ some (faults_in s.world (all_faults s.mode s.next s.rest))
errors-some s e =
    let fs = faults_in s.world (all_faults s.mode s.next s.rest) in
    as-long (all_errors s) fs (omega (arith, add_errors-length s.errors fs, ap length e))

own-some : (s : State) → s.errors ≡ []
    → nat_lt 0 (mistake_count (findings_from false s)) ≡ nat_lt 0 (length (all_errors s))
unfolding findings_from all_faults
own-some s e =
    within-some s.world (length s.rest) s.mode s.next s.rest ∙ sym (errors-some s e)
    ∙ sym (positive (all_errors s))

-- There is no mistake exactly where there is no error.
pub no_mistakes : (s : State) → s.errors ≡ []
    → (mistake_count (findings_from false s) ≡ 0) ↔ (all_errors s ≡ [])
no_mistakes s e =
    let same = own-some s e in (
      (λ none. nil_from_length (all_errors s) (grind (arith, nat_tests, same, none))),
      (λ none. grind (arith, nat_tests, same, ap length none)),
    )

-- The drawings of the faults that are kept.
abbrev pub kept_drawings : Bool → Mode → Picture → List Finding → ℕ → List ℕ
kept_drawings all d p first others =
    if all then flat_map (drawn_finding d p) first ++ more_line others else first_drawing d p first

-- They are those of all faults.
pub kept-drawn : (all : Bool) (d : Mode) (p : Picture) (s : State) (first : List Finding)
    (others own : ℕ) → AreCounted first others own (findings_from false s)
    → kept_drawings all d p first others
    ≡ (if all then drawings d p (findings_from false s) else shown_error d p (first_error s))
kept-drawn true d p s first others own h =
    let fs = findings_from false s in
    let rest : others ≡ length fs - most_drawn =
    omega (arith, h.all_are, ap length h.first_are, length-take most_drawn fs) in
    rw (h.first_are, rest) refl
kept-drawn false d p s first others own h =
    ap (first_drawing d p) h.first_are ∙ first-shown d p 9 s
