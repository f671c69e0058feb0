-- Recovery: how it is read, the rest after it, how many numbers it takes, and where its spans
-- and the characters that it reads are.
use Rattle.std.proofs.Common.{◌≡◌, ℕ, ◌+◌, ◌≤◌, ◌==◌, ◌&&◌, Bool, true, false, not, List, [], ◌∷◌}
use Rattle.std.proofs.Common.{length, refl, sym, ap, ◌∙◌}
use Rattle.std.proofs.Common.{arith, Option, Some, None, if◌then◌else◌}
use Rattle.std.specs.Prelude.{option_map}
use Rattle.std.proofs.lemmas.Bool.{cond_both}
use Rattle.std.proofs.lemmas.List.{append-nil}
use Rattle.rustc_parse_format.specs.Characters.{Text, is_align, begins_with, after_first}
use Rattle.rustc_parse_format.specs.Characters.{after_brace, first}
use Rattle.rustc_parse_format.specs.Types.{Mode, Argument, map_argument}
use Rattle.rustc_parse_format.specs.Marks.{Mark, Span, over_first}
use Rattle.rustc_parse_format.specs.Placeholder.{cut}
use Rattle.rustc_parse_format.specs.Faults.{Fault, map_fault}
use Rattle.rustc_parse_format.specs.Identifiers.{is_identifier}
use Rattle.rustc_parse_format.specs.Recovery.{Recovery, finds, sign_fault, sign, late_debug, field}
use Rattle.rustc_parse_format.specs.Recovery.{recovery}
use Rattle.rustc_parse_format.specs.World.{Place, number_of, place_of}
use Rattle.rustc_parse_format.specs.CallStates.{CallState, after_sign, read_texts, read_to}
use Rattle.rustc_parse_format.specs.CallStates.{recovered_state}
use Rattle.rustc_parse_format.proofs.Grammar.Identifiers.{identifier-map}
use Rattle.rustc_parse_format.proofs.Grammar.Rests.{IsRest, IsRest-self, IsRest-trans, IsRest-le}
use Rattle.rustc_parse_format.proofs.Grammar.Rests.{after_first_rest, after_word_rest, cut_rest}
use Rattle.rustc_parse_format.proofs.Grammar.Numbers.{number_after_field-le}
use Rattle.rustc_parse_format.proofs.Lines.StateLines.{lines_in-nil}

-- How it is read. Where nothing is read as text, there are no lines.
pub read_no_texts : (s : CallState) → read_texts s [] ≡ s
read_no_texts s = rw (lines_in-nil s.world s.line_start, append-nil s.lines) refl

-- where nothing is found and nothing is read
recovered-nothing : (s : CallState) → recovered_state s (finds s.next [] s.rest) ≡ s
recovered-nothing s = read_no_texts (read_to s s.rest s.next [])
    ∙ ap (λ (fs : List (Fault Place)). record s { faults = fs }) (append-nil s.faults)

map-if : {A B : Type 0} (g : A → B) (b : Bool) (x y : Option A) (z w : Option B)
    → option_map g x ≡ z → option_map g y ≡ w →
    option_map g (if b then x else y) ≡ (if b then z else w)
map-if g true x y z w e f = e
map-if g false x y z w e f = f

-- the fault of a sign, put through a world
sign_fault-map : {A B : Type 0} (g : A → B) (x y : ℕ) (s o : A)
    → option_map (map_fault g) (sign_fault x y s o) ≡ sign_fault x y (g s) (g o)
sign_fault-map g x y s o =
    let m = map_fault g in
    map-if m (is_align x) _ _ _ _ refl
    (map-if m (x == 44) _ _ _ _ refl (map-if m (x == 43) _ _ _ _ refl
    (map-if m (x == 61 && y == 125) _ _ _ _ refl
    (map-if m (x == 63 && y == 125) _ _ _ _ refl refl))))

sign-read : (s : CallState) (o : Option (Fault Span))
    → after_sign s (option_map (map_fault (place_of s.world)) o)
    ≡ recovered_state s (sign s.next o s.rest)
sign-read s None = sym (recovered-nothing s)
sign-read s (Some f) = sym (read_no_texts (read_to s (after_first s.rest) s.next (f ∷ [])))

-- the test of a field, of an argument and of the same put through a world
pub field_decided : (g : Span → Place) (x : ℕ) (b : Bool) (s : Argument Place) (a : Argument Span)
    → b ≡ (x == 46 && is_identifier s) →
    s ≡ map_argument g a → (x == 46 && is_identifier a) ≡ b
field_decided g x b s a e f =
    sym (e ∙ (ap (λ (v : Argument Place). x == 46 && is_identifier v) f
    ∙ ap (λ v. x == 46 && v) (identifier-map g a)))

-- a sign that is read with its fault, where the placeholder opens at o
pub sign-taken : (s : CallState) (x y : ℕ) (o : Text) (opening : Place)
    → opening ≡ place_of s.world (over_first o) →
    after_sign s (sign_fault x y (place_of s.world (over_first s.rest)) opening)
    ≡ recovered_state s (sign s.next (sign_fault x y (over_first s.rest) (over_first o)) s.rest)
sign-taken s x y o opening e =
    ap (λ p. after_sign s (sign_fault x y (place_of s.world (over_first s.rest)) p)) e
    ∙ (ap (after_sign s)
    (sym (sign_fault-map (place_of s.world) x y (over_first s.rest) (over_first o)))
    ∙ sign-read s (sign_fault x y (over_first s.rest) (over_first o)))

-- With fewer than two characters left nothing is read.
pub recovery-short : (s : CallState) (mode : Mode) (o t : Text) (a : Argument Span) → t ≡ s.rest
    → first (after_first t) ≡ None →
    s ≡ recovered_state s (recovery mode s.next o a s.rest)
unfolding recovery
recovery-short s mode o [] a e f = rw (← e) (sym (recovered-nothing (record s { rest = [] })))
recovery-short s mode o (x ∷ []) a e f =
    rw (← e) (sym (recovered-nothing (record s { rest = x ∷ [] })))
recovery-short s mode o (x ∷ y ∷ t) a e f = absurd cc

-- The recovery that two characters decide: a field,
pub recovery-field : (mode : Mode) (c : ℕ) (o t : Text) (a : Argument Span) (x y : ℕ)
    → first t ≡ Some x → first (after_first t) ≡ Some y →
    (x == 46 && is_identifier a) ≡ true → recovery mode c o a t
    ≡ field mode c a.position_span.from t
unfolding recovery
recovery-field mode c o [] a x y e f h = absurd cc
recovery-field mode c o (u ∷ []) a x y e f h = absurd cc
recovery-field mode c o (u ∷ v ∷ t) a x y e f h = let at : u ≡ x = cc in rw (at, h) refl

-- a `?` that no brace follows,
pub recovery-late_debug : (mode : Mode) (c : ℕ) (o t : Text) (a : Argument Span) (x y : ℕ)
    → first t ≡ Some x → first (after_first t) ≡ Some y →
    (x == 46 && is_identifier a) ≡ false → (x == 63 && not (y == 125)) ≡ true
    → recovery mode c o a t ≡ late_debug c t
unfolding recovery
recovery-late_debug mode c o [] a x y e f h k = absurd cc
recovery-late_debug mode c o (u ∷ []) a x y e f h k = absurd cc
recovery-late_debug mode c o (u ∷ v ∷ t) a x y e f h k = let at : u ≡ x = cc in
    let same : v ≡ y = cc in rw (at, same, h, k) refl

-- or else a sign.
pub recovery-sign : (mode : Mode) (c : ℕ) (o t : Text) (a : Argument Span) (x y : ℕ)
    → first t ≡ Some x → first (after_first t) ≡ Some y →
    (x == 46 && is_identifier a) ≡ false → (x == 63 && not (y == 125)) ≡ false →
    recovery mode c o a t ≡ sign c (sign_fault x y (over_first t) (over_first o)) t
unfolding recovery
recovery-sign mode c o [] a x y e f h k = absurd cc
recovery-sign mode c o (u ∷ []) a x y e f h k = absurd cc
recovery-sign mode c o (u ∷ v ∷ t) a x y e f h k = let at : u ≡ x = cc in let same : v ≡ y = cc in
    rw (at, same, h, k) refl

pub nothing_left : (t : Text) → first t ≡ None → first (after_first t) ≡ None
nothing_left [] e = refl
nothing_left (c ∷ t) e = absurd cc

-- Each reader reads as the recovery says, of any placeholder and any argument that are seen so.
abbrev pub Recovers : CallState → Mode → Place → Argument Place → CallState → Type 0
Recovers s mode opening seen new = (o : Text) (a : Argument Span)
    → opening ≡ place_of s.world (over_first o) →
    seen ≡ map_argument (place_of s.world) a
    → new ≡ recovered_state s (recovery mode s.next o a s.rest)

pub short-recovers : (s : CallState) (mode : Mode) (opening : Place) (seen : Argument Place)
    → first (after_first s.rest) ≡ None → Recovers s mode opening seen s
short-recovers s mode opening seen e o a f g = recovery-short s mode o s.rest a refl e

pub field-recovers : (s new : CallState) (mode : Mode) (opening : Place) (seen : Argument Place)
    (x y : ℕ) → first s.rest ≡ Some x →
    first (after_first s.rest) ≡ Some y → true ≡ (x == 46 && is_identifier seen) →
    ((m : Mark) → seen.position_span.0 ≡ number_of s.world m → new
    ≡ recovered_state s (field mode s.next m s.rest)) → Recovers s mode opening seen new
field-recovers s new mode opening seen x y e f b k o a g h =
    k a.position_span.from (ap (λ (v : Argument Place). v.position_span.0) h)
    ∙ ap (recovered_state s)
    (sym (recovery-field mode s.next o s.rest a x y e f
    (field_decided (place_of s.world) x true seen a b h)))

pub late_debug-recovers : (s new : CallState) (mode : Mode) (opening : Place)
    (seen : Argument Place) (x y : ℕ) → first s.rest ≡ Some x →
    first (after_first s.rest) ≡ Some y → false ≡ (x == 46 && is_identifier seen)
    → true ≡ (x == 63 && not (y == 125)) →
    new ≡ recovered_state s (late_debug s.next s.rest) → Recovers s mode opening seen new
late_debug-recovers s new mode opening seen x y e f b d k o a g h =
    k ∙ ap (recovered_state s)
    (sym (recovery-late_debug mode s.next o s.rest a x y e f
    (field_decided (place_of s.world) x false seen a b h) (sym d)))

pub sign-recovers : (s new : CallState) (mode : Mode) (opening : Place) (seen : Argument Place)
    (x y : ℕ) → first s.rest ≡ Some x →
    first (after_first s.rest) ≡ Some y → false ≡ (x == 46 && is_identifier seen)
    → false ≡ (x == 63 && not (y == 125)) →
    new ≡ after_sign s (sign_fault x y (place_of s.world (over_first s.rest)) opening)
    → Recovers s mode opening seen new
sign-recovers s new mode opening seen x y e f b d k o a g h =
    k ∙ (sign-taken s x y o opening g
    ∙ ap (recovered_state s)
    (sym (recovery-sign mode s.next o s.rest a x y e f
    (field_decided (place_of s.world) x false seen a b h) (sym d))))

-- A recovery leaves a rest.
pub after_brace_rest : (t : Text) → IsRest t (after_brace t)
after_brace_rest t = cond_both {A = Text} (begins_with 125 t) _ _ (IsRest t)
    (λ e. after_first_rest t) (λ e. IsRest-self t)

field_rest : (mode : Mode) (c : ℕ) (m : Mark) (t : Text) → IsRest t (field mode c m t).rest
unfolding field
field_rest mode c m t =
    IsRest-trans (after_first_rest t)
    (IsRest-trans (cut_rest mode (after_first t))
    (after_brace_rest (cut mode (after_first t)).rest))

late_debug_rest : (c : ℕ) (t : Text) → IsRest t (late_debug c t).rest
unfolding late_debug
late_debug_rest c t =
    cond_both {A = Recovery} (begins_with 58 (after_first t)) _ _ (λ k. IsRest t k.rest)
    (λ e. IsRest-trans (after_first_rest t)
    (IsRest-trans (after_first_rest (after_first t))
    (after_word_rest (after_first (after_first t)))))
    (λ e. after_first_rest t)

sign_rest : (c : ℕ) (f : Option (Fault Span)) (t : Text) → IsRest t (sign c f t).rest
sign_rest c None t = IsRest-self t
sign_rest c (Some f) t = after_first_rest t

pub recovery_rest : (mode : Mode) (c : ℕ) (o : Text) (a : Argument Span) (t : Text)
    → IsRest t (recovery mode c o a t).rest
unfolding recovery
recovery_rest mode c o a [] = IsRest-self []
recovery_rest mode c o a (x ∷ []) = IsRest-self (x ∷ [])
recovery_rest mode c o a (x ∷ y ∷ t) =
    cond_both {A = Recovery} (x == 46 && is_identifier a) _ _ (λ k. IsRest (x ∷ y ∷ t) k.rest)
    (λ e. field_rest mode c a.position_span.from (x ∷ y ∷ t))
    (λ e. cond_both {A = Recovery} (x == 63 && not (y == 125)) _ _ (λ k. IsRest (x ∷ y ∷ t) k.rest)
    (λ h. late_debug_rest c (x ∷ y ∷ t))
    (λ h. sign_rest c (sign_fault x y (over_first (x ∷ y ∷ t)) (over_first o)) (x ∷ y ∷ t)))

-- It takes no more numbers than characters.
abbrev Counts : ℕ → Text → Recovery → Type 0
Counts c t k = k.next + length k.rest ≤ c + length t

field_counts : (mode : Mode) (c x : ℕ) (m : Mark) (t : Text)
    → Counts c (x ∷ t) (field mode c m (x ∷ t))
unfolding field
field_counts mode c x m t = omega (
  arith,
  number_after_field-le mode c t,
  IsRest-le (after_brace_rest (cut mode t).rest),
)

late_debug_counts : (c : ℕ) (t : Text) → Counts c t (late_debug c t)
unfolding late_debug
late_debug_counts c t =
    let first = IsRest-le (after_first_rest t) in
    cond_both {A = Recovery} (begins_with 58 (after_first t)) _ _ (Counts c t)
    (λ e. omega (
      arith,
      first,
      IsRest-le (after_first_rest (after_first t)),
      IsRest-le (after_word_rest (after_first (after_first t))),
    ))
    (λ e. omega (arith, first))

sign_counts : (c : ℕ) (f : Option (Fault Span)) (t : Text) → Counts c t (sign c f t)
sign_counts c None t = omega arith
sign_counts c (Some f) t = omega (arith, IsRest-le (after_first_rest t))

pub recovery_next-le : (mode : Mode) (c : ℕ) (o : Text) (a : Argument Span) (t : Text) →
    (recovery mode c o a t).next + length (recovery mode c o a t).rest ≤ c + length t
unfolding recovery
recovery_next-le mode c o a [] = omega arith
recovery_next-le mode c o a (x ∷ []) = omega arith
recovery_next-le mode c o a (x ∷ y ∷ t) =
    cond_both {A = Recovery} (x == 46 && is_identifier a) _ _ (Counts c (x ∷ y ∷ t))
    (λ e. field_counts mode c x a.position_span.from (y ∷ t))
    (λ e. cond_both {A = Recovery} (x == 63 && not (y == 125)) _ _ (Counts c (x ∷ y ∷ t))
    (λ h. late_debug_counts c (x ∷ y ∷ t))
    (λ h. sign_counts c (sign_fault x y (over_first (x ∷ y ∷ t)) (over_first o)) (x ∷ y ∷ t)))
