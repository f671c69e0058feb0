-- The effect of a flag that moves in front of the type `?`.
use Rattle.std.proofs.Common.{◌≡◌, ℕ, ◌++◌, Bool, true, false, cond, List, [], ◌∷◌, length, map}
use Rattle.std.proofs.Common.{refl, ap, ◌∙◌, sym, arith, append-nil, append_assoc, subst}
use Rattle.std.proofs.Common.{length-append, inl, inr, not}
use Rattle.std.specs.Char.{is_whitespace}
use Rattle.std.proofs.lemmas.Bool.{cond-true, false≢true, false_from_ne_true, or_cases, eqb-true}
use Rattle.rustc_parse_format.specs.Characters.{Text, begins_with, rest_after, after_white, front}
use Rattle.rustc_parse_format.specs.Characters.{is_brace, is_no_brace}
use Rattle.rustc_parse_format.specs.Types.{Format, DebugHex, Lower, Upper}
use Rattle.rustc_parse_format.specs.Marks.{Mark, Start, End, Span, span_through, over_first}
use Rattle.rustc_parse_format.specs.Faults.{Fault, map_fault, UnmatchedBrace, MissingBrace}
use Rattle.rustc_parse_format.specs.Faults.{FillBrace, Underscore, TooLarge, Unnamed}
use Rattle.rustc_parse_format.specs.Faults.{TextAfterColon, RawIdentifier, LateFlag, MissingColon}
use Rattle.rustc_parse_format.specs.Faults.{LateDebug, LateAlign, Grouping, DebugPrint, LateSign}
use Rattle.rustc_parse_format.specs.Faults.{FieldAccess, TupleIndex}
use Rattle.rustc_parse_format.specs.Placeholder.{Cut, cut, position}
use Rattle.rustc_parse_format.specs.Specification.{alternate_at, type_at, format_text}
use Rattle.rustc_parse_format.specs.Syntax.{PositionText, FormatText, Formatting}
use Rattle.rustc_parse_format.specs.PartFaults.{position_faults, is_debug_flag, format_faults}
use Rattle.rustc_parse_format.specs.Values.{number_after_position, number_after_precision}
use Rattle.rustc_parse_format.specs.Meaning.{argument}
use Rattle.rustc_parse_format.specs.Call.{call, closed_call, text_call, unmatched_call}
use Rattle.rustc_parse_format.specs.Call.{unclosed_call, unclosed_fault}
use Rattle.rustc_parse_format.proofs.Rows.Definitions.{computing}
use Rattle.fault_fixes.specs.Fixing.{all_faults}
use Rattle.fault_fixes.specs.Losing.{LosesOnly, MovesFlag, late_flag_faults}
use Rattle.fault_fixes.proofs.Moving.{span_of}
use Rattle.fault_fixes.proofs.CallMoves.{cut_call}
use Rattle.fault_fixes.proofs.PositionMoves.{Replaces, position_faults-moves, cut_of, calls}
use Rattle.fault_fixes.proofs.PositionMoves.{call-stops, cut-stops, three-lose, unmatched}
use Rattle.fault_fixes.proofs.FlagSpecs.{Reorders, ReadsHex, number_sign-spec, hex-spec, lower-hex}
use Rattle.fault_fixes.proofs.FlagSpecs.{upper-hex}
use Rattle.fault_fixes.proofs.Stopping.{colon-stops}

-- A fault whose spans stay.
stays : (f : Fault Span) → map_fault (λ x. x) f ≡ f
stays (UnmatchedBrace s) = refl
stays (MissingBrace c s o) = refl
stays (FillBrace c s o) = refl
stays (Underscore s) = refl
stays (TooLarge ds s) = refl
stays (Unnamed s) = refl
stays (TextAfterColon s) = refl
stays (RawIdentifier s p) = refl
stays (LateFlag c s b) = refl
stays (MissingColon s) = refl
stays (LateDebug w s) = refl
stays (LateAlign c s) = refl
stays (Grouping s o) = refl
stays (DebugPrint s o) = refl
stays (LateSign s) = refl
stays (FieldAccess s) = refl
stays (TupleIndex s) = refl

all_stay : (fs : List (Fault Span)) → map (map_fault (λ x. x)) fs ≡ fs
all_stay [] = refl
all_stay (f ∷ fs) = let e = stays f in let g = all_stay fs in cc

-- A text of as many characters after the colon moves nothing.
same-length : (p q : Text) → length p ≡ length q → Replaces (λ x. x) 58 p 58 q
same-length p q e = record {
  old_stops = colon-stops;
  new_stops = colon-stops;
  up_to = λ v w. both (ap Start (alike v)) (ap Start (alike w));
  through = λ v w. both (ap Start (alike v)) (ap End (alike w));
}
  where
    alike : (v : Text) → length (v ++ 58 ∷ q) ≡ length (v ++ 58 ∷ p)
    alike v = omega (arith, e, length-append v (58 ∷ p), length-append v (58 ∷ q))

    both : {x y u v : Mark} → x ≡ y → u ≡ v → span_of x u ≡ span_of y v
    both e f = cc

-- The cut of a placeholder with a specification.
abbrev spec_cut : PositionText → Text → Text → Text → FormatText × Text → Cut
spec_cut p t v s x = record {
  field = record { position = p; space = front is_whitespace v; spec = Formatting x.0 };
  position_at = t;
  spec_at = s;
  rest = x.1;
}

specified : (p : PositionText) (t v x : Text)
    → cut_of Format p t v (58 ∷ x) ≡ spec_cut p t v (58 ∷ x) (format_text x)
unfolding computing
specified p t v x = refl

-- Only white space is before the brace, and so there is no other brace.
white-no_brace : (c : ℕ) → is_whitespace c ≡ true → is_no_brace c ≡ true
unfolding computing
white-no_brace c h = ap not (false_from_ne_true (is_brace c) (λ e. elim (or_cases _ _ e) [
  | inl o ↦ false≢true (ap is_whitespace (sym (eqb-true c 123 o)) ∙ h)
  | inr o ↦ false≢true (ap is_whitespace (sym (eqb-true c 125 o)) ∙ h)
]))

-- The character is no flag,
white-no_flag : (c : ℕ) → is_whitespace c ≡ true → is_debug_flag c ≡ false
unfolding computing
white-no_flag c h = false_from_ne_true (is_debug_flag c) (λ e. elim (or_cases _ _ e) [
  | inl o ↦ elim (or_cases _ _ o) [
    | inl i ↦ false≢true (ap is_whitespace (sym (eqb-true c 35 i)) ∙ h)
    | inr i ↦ false≢true (ap is_whitespace (sym (eqb-true c 120 i)) ∙ h)
  ]
  | inr o ↦ false≢true (ap is_whitespace (sym (eqb-true c 88 o)) ∙ h)
])

first-no_flag : (d : ℕ) (z r : Text) → after_white (d ∷ z) ≡ 125 ∷ r → is_debug_flag d ≡ false
unfolding after_white
first-no_flag d z r h = by_test (is_whitespace d) refl h
  where
    by_test : (b : Bool) → is_whitespace d ≡ b
        → cond b (rest_after is_whitespace z) (d ∷ z) ≡ 125 ∷ r → is_debug_flag d ≡ false
    by_test true e k = white-no_flag d e
    by_test false e k = let same : d ≡ 125 = cc in rw same refl

run-ends : (z r : Text) → after_white z ≡ 125 ∷ r → rest_after is_no_brace z ≡ 125 ∷ r
unfolding after_white
run-ends [] r h = h
run-ends (c ∷ z) r h = by_test (is_whitespace c) refl h (run-ends z r)
  where
    by_test : (b : Bool) → is_whitespace c ≡ b
        → cond b (rest_after is_whitespace z) (c ∷ z) ≡ 125 ∷ r
        → (rest_after is_whitespace z ≡ 125 ∷ r → rest_after is_no_brace z ≡ 125 ∷ r)
        → rest_after is_no_brace (c ∷ z) ≡ 125 ∷ r
    by_test true e k ih = cond-true (is_no_brace c) _ _ (white-no_brace c e) ∙ ih k
    by_test false e k ih = let same : c ≡ 125 = cc in let rest : z ≡ r = cc in rw (same, rest) refl

-- The next number after a placeholder with this position and specification.
abbrev next_of : ℕ → PositionText → FormatText → ℕ
next_of c p b = number_after_position (number_after_precision c b.precision) p

-- The readings of the call before the edit and of that after it, for this flag.
record ReadsFlag (f : ℕ) : Type 0 where
  faults : (c : ℕ) (o : Text) (p : PositionText) (t v s : Text) (b : FormatText) (d : ℕ) (z : Text)
      → let k = spec_cut p t v s (b, f ∷ d ∷ z) in
      (cut_call Format c o k).faults ≡ ((position_faults t p ++ []) ++ format_faults b (f ∷ d ∷ z))
      ++ unclosed_fault o (argument c k).format (f ∷ d ∷ z) ∷ []
  rest : (c : ℕ) (o : Text) (p : PositionText) (t v s : Text) (b : FormatText) (d : ℕ) (z : Text)
      → (cut_call Format c o (spec_cut p t v s (b, f ∷ d ∷ z))).rest ≡ f ∷ d ∷ z
  next : (c : ℕ) (o : Text) (p : PositionText) (t v s : Text) (b : FormatText) (d : ℕ) (z : Text)
      → (cut_call Format c o (spec_cut p t v s (b, f ∷ d ∷ z))).next ≡ next_of c p b
  text : (c : ℕ) (z : Text) → call Format c (f ∷ z) ≡ text_call c [] (f ∷ z)
  run : (z : Text) → rest_after is_no_brace (f ∷ z) ≡ rest_after is_no_brace z

number_sign-reads : ReadsFlag 35
unfolding computing
number_sign-reads = record {
  faults = λ c o p t v s b d z. refl;
  rest = λ c o p t v s b d z. refl;
  next = λ c o p t v s b d z. refl;
  text = λ c z. refl;
  run = λ z. refl;
}

lower_hex-reads : ReadsFlag 120
unfolding computing
lower_hex-reads = record {
  faults = λ c o p t v s b d z. refl;
  rest = λ c o p t v s b d z. refl;
  next = λ c o p t v s b d z. refl;
  text = λ c z. refl;
  run = λ z. refl;
}

upper_hex-reads : ReadsFlag 88
unfolding computing
upper_hex-reads = record {
  faults = λ c o p t v s b d z. refl;
  rest = λ c o p t v s b d z. refl;
  next = λ c o p t v s b d z. refl;
  text = λ c z. refl;
  run = λ z. refl;
}

-- The reading of a closed call.
closed-faults : (c : ℕ) (o : Text) (p : PositionText) (t v s : Text) (b : FormatText) (z w : Text)
    → (closed_call Format c o (spec_cut p t v s (b, z)) w).faults
    ≡ (position_faults t p ++ []) ++ format_faults b z
unfolding computing
closed-faults c o p t v s b z w = refl

closed-next : (c : ℕ) (o : Text) (p : PositionText) (t v s : Text) (b : FormatText) (z w : Text)
    → (closed_call Format c o (spec_cut p t v s (b, z)) w).next ≡ next_of c p b
unfolding computing
closed-next c o p t v s b z w = refl

with_two : {A : Type 0} (xs ys : List A) (y z : A)
    → ((xs ++ []) ++ (ys ++ y ∷ [])) ++ z ∷ [] ≡ (xs ++ ys) ++ (y ∷ z ∷ [])
with_two xs ys y z = rw (append-nil xs, sym (append_assoc xs ys (y ∷ [])))
    (append_assoc (xs ++ ys) (y ∷ []) (z ∷ []))

reorders-at : (f : ℕ) → ReadsFlag f → (c : ℕ) (u s : Text) (d : ℕ) (z r : Text) (b a : FormatText)
    (own : List (Fault Span)) → (cut Format u).spec_at ≡ [] → Reorders f s d z b a own
    → after_white (d ∷ z) ≡ 125 ∷ r → begins_with 125 r ≡ false
    → LosesOnly (late_flag_faults c u s f (d ∷ z) r) (λ x. x)
    (all_faults Format c (123 ∷ (u ++ 58 ∷ (s ++ 63 ∷ f ∷ d ∷ z))))
    (all_faults Format c (123 ∷ (u ++ 58 ∷ (s ++ f ∷ 63 ∷ d ∷ z))))
reorders-at f k c u s d z r b a own e h w n =
    let p : PositionText = (position u).0 in
    let x : Text = s ++ 63 ∷ f ∷ d ∷ z in
    let y : Text = s ++ f ∷ 63 ∷ d ∷ z in
    let old : Text = u ++ 58 ∷ x in
    let new : Text = u ++ 58 ∷ y in
    let next : ℕ = next_of c p b in
    let later : List (Fault Span) = all_faults Format next r in
    let v : Text = (position u).1 ++ 58 ∷ x in
    let i : Text = (position u).1 ++ 58 ∷ y in
    let before : Cut = spec_cut p old v (58 ∷ x) (b, f ∷ d ∷ z) in
    let after : Cut = spec_cut p new i (58 ∷ y) (a, d ∷ z) in
    let is_before : cut_of Format p old v (58 ∷ x) ≡ before =
    specified p old v x ∙ ap (spec_cut p old v (58 ∷ x)) h.was in
    let is_after : cut_of Format p new i (58 ∷ y) ≡ after =
    specified p new i y ∙ ap (spec_cut p new i (58 ∷ y)) h.is in
    let closes : cut_call Format c (123 ∷ new) after
    ≡ closed_call Format c (123 ∷ new) after (125 ∷ r) =
    ap (λ t. cond (begins_with 125 t) (closed_call Format c (123 ∷ new) after t)
    (unclosed_call Format c (123 ∷ new) after t)) w in
    let last : all_faults Format next (125 ∷ r)
    ≡ (UnmatchedBrace (over_first (125 ∷ r)) ∷ []) ++ later =
    calls Format next 125 r (unmatched_call next (125 ∷ r) r) _ next r
    (unmatched Format next r n) refl refl refl in
    let middle : all_faults Format next (f ∷ d ∷ z) ≡ all_faults Format next (125 ∷ r) =
    calls Format next f (d ∷ z) (text_call next [] (f ∷ d ∷ z)) [] next (125 ∷ r)
    (k.text next (d ∷ z)) refl refl (k.run (d ∷ z) ∙ run-ends (d ∷ z) r w) in
    let late : Fault Span = LateFlag f (over_first (f ∷ d ∷ z))
    (span_through (63 ∷ f ∷ d ∷ z) (f ∷ d ∷ z)) in
    let brace : Fault Span = unclosed_fault (123 ∷ old) (argument c before).format (f ∷ d ∷ z) in
    let alone : Fault Span = UnmatchedBrace (over_first (125 ∷ r)) in
    let first : List (Fault Span) = position_faults old p ++ own in
    let moved : List (Fault Span) = position_faults new p ++ own in
    let was : all_faults Format c (123 ∷ old)
    ≡ (first ++ late ∷ brace ∷ []) ++ all_faults Format next (f ∷ d ∷ z) =
    calls Format c 123 old (cut_call Format c (123 ∷ old) before) _ next (f ∷ d ∷ z)
    (call-stops Format c u 58 x colon-stops e ∙ ap (cut_call Format c (123 ∷ old)) is_before)
    (k.faults c (123 ∷ old) p old v (58 ∷ x) b d z
    ∙ ap (λ fs. ((position_faults old p ++ []) ++ fs) ++ brace ∷ []) h.was_faults
    ∙ with_two (position_faults old p) own late brace)
    (k.next c (123 ∷ old) p old v (58 ∷ x) b d z)
    (k.rest c (123 ∷ old) p old v (58 ∷ x) b d z) in
    let is : all_faults Format c (123 ∷ new) ≡ moved ++ later =
    calls Format c 123 new (closed_call Format c (123 ∷ new) after (125 ∷ r)) _ next r
    (call-stops Format c u 58 y colon-stops e ∙ ap (cut_call Format c (123 ∷ new)) is_after
    ∙ closes)
    (closed-faults c (123 ∷ new) p new i (58 ∷ y) a (d ∷ z) (125 ∷ r)
    ∙ ap (λ fs. (position_faults new p ++ []) ++ fs) h.is_faults
    ∙ ap (λ l. l ++ own) (append-nil (position_faults new p)))
    (closed-next c (123 ∷ new) p new i (58 ∷ y) a (d ∷ z) (125 ∷ r)
    ∙ ap (λ q. number_after_position (number_after_precision c q) p) h.precision) refl in
    let as_long : length x ≡ length y =
    omega (arith, length-append s (63 ∷ f ∷ d ∷ z), length-append s (f ∷ 63 ∷ d ∷ z)) in
    let stay : moved ≡ map (map_fault (λ x. x)) first =
    ap (λ l. l ++ own) (position_faults-moves (λ x. x) 58 x 58 y u (same-length x y as_long)
    ∙ all_stay (position_faults old p)) ∙ sym (all_stay first) in
    subst (λ (j : Cut). LosesOnly
    (late ∷ unclosed_fault (123 ∷ old) (argument c j).format (f ∷ d ∷ z) ∷ alone ∷ []) (λ x. x)
    (all_faults Format c (123 ∷ old)) (all_faults Format c (123 ∷ new)))
    (sym (cut-stops Format u 58 x colon-stops e ∙ is_before))
    (three-lose (λ x. x) late brace alone first later moved _ _
    (was ∙ ap (λ fs. (first ++ late ∷ brace ∷ []) ++ fs) (middle ∙ last)) is stay
    (all_stay later))

none-ends : (r : Text) → after_white [] ≡ 125 ∷ r → ⊥
unfolding after_white
none-ends r h = absurd (cc)

pub number_sign-reorders : MovesFlag 35 (λ s. alternate_at s)
number_sign-reorders c u s [] r e h w n = absurd (none-ends r w)
number_sign-reorders c u s (d ∷ z) r e h w n =
    reorders-at 35 number_sign-reads c u s d z r _ _ [] e
    (number_sign-spec s d z h (first-no_flag d z r w)) w n

hex-reorders : (f : ℕ) (h : DebugHex) → ReadsFlag f → ReadsHex f h
    → MovesFlag f (λ s. type_at s)
hex-reorders f h k x c u s [] r e l w n = absurd (none-ends r w)
hex-reorders f h k x c u s (d ∷ z) r e l w n =
    reorders-at f k c u s d z r _ _ _ e (hex-spec f h x s d z l) w n

pub lower_hex-reorders : MovesFlag 120 (λ s. type_at s)
lower_hex-reorders = hex-reorders 120 Lower lower_hex-reads lower-hex

pub upper_hex-reorders : MovesFlag 88 (λ s. type_at s)
upper_hex-reorders = hex-reorders 88 Upper upper_hex-reads upper-hex
