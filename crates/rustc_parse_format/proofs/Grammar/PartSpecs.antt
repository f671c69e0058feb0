-- The computed parts of a specification are those that are written.
use Prim.Native.Char.{code}
use Rattle.std.proofs.Common.{◌≡◌, ◌++◌, ℕ, Bool, true, false, [], ◌∷◌, refl, sym, ◌∙◌, ap, subst}
use Rattle.std.proofs.Common.{codes, ◌⊎◌, inl, inr, Option, Some, None}
use Rattle.std.specs.Prelude.{◌==◌, ◌||◌, not}
use Rattle.std.proofs.lemmas.Bool.{cond_both, cond-true, cond-false, or_from, or_parts, or_cases}
use Rattle.std.proofs.lemmas.Bool.{or_left, or_right, not-true, false≢true, eqb-true}
use Rattle.rustc_parse_format.specs.Characters.{Text, is_align, is_no_brace, word, after_word}
use Rattle.rustc_parse_format.specs.Characters.{after_first, begins_with, first_passes}
use Rattle.rustc_parse_format.specs.Spelling.{IsPart, fixed_part, absent_part, run}
use Rattle.rustc_parse_format.specs.Spelling.{optional_identifier}
use Rattle.rustc_parse_format.specs.Types.{Mode, Format, InlineAsm, Diagnostic, DiagnosticNamed}
use Rattle.rustc_parse_format.specs.Types.{Alignment, Left}
use Rattle.rustc_parse_format.specs.Types.{Right, Center, Unknown, Sign, Plus, Minus, DebugHex}
use Rattle.rustc_parse_format.specs.Types.{Lower}
use Rattle.rustc_parse_format.specs.Types.{Upper}
use Rattle.rustc_parse_format.specs.Syntax.{WidthText, width_part, PrecisionText, precision_part}
use Rattle.rustc_parse_format.specs.Syntax.{fill_part, align_part, is_sign, sign_part}
use Rattle.rustc_parse_format.specs.Syntax.{alternate_part}
use Rattle.rustc_parse_format.specs.Syntax.{is_type_character, TypeText, DebugHexType}
use Rattle.rustc_parse_format.specs.Syntax.{CharacterType, WordType, type_part, FormatText}
use Rattle.rustc_parse_format.specs.Syntax.{format_part, SpecText}
use Rattle.rustc_parse_format.specs.Syntax.{Default, Formatting, Modifier, DiagnosticText}
use Rattle.rustc_parse_format.specs.Syntax.{spec_part}
use Rattle.rustc_parse_format.specs.Counts.{width, precision}
use Rattle.rustc_parse_format.specs.Specification.{fill, align, sign, alternate, after_hex, type}
use Rattle.rustc_parse_format.specs.Specification.{align_at, sign_at, alternate_at, width_at}
use Rattle.rustc_parse_format.specs.Specification.{precision_at}
use Rattle.rustc_parse_format.specs.Specification.{type_at, format_text, after_colon}
use Rattle.rustc_parse_format.specs.Specification.{specification}
use Rattle.rustc_parse_format.proofs.Grammar.PartLaws.{Finds, IsPart-moved, absent-same}
use Rattle.rustc_parse_format.proofs.Grammar.PartLaws.{absent-here, fixed-there, letter-there}
use Rattle.rustc_parse_format.proofs.Grammar.PartLaws.{row-two, two-split, IsRow, then, last}
use Rattle.rustc_parse_format.proofs.Grammar.PartLaws.{opened, only}
use Rattle.rustc_parse_format.proofs.Grammar.PartFronts.{run-finds, optional_identifier-finds}
use Rattle.rustc_parse_format.proofs.Grammar.PartCounts.{width-finds, precision-finds}

-- fills
fill-sound : (t : Text) → IsPart t (fill_part (fill t).0) (fill t).1
fill-sound [] = absent-here [] (λ r. first_passes is_align (after_first r)) refl
fill-sound (c ∷ []) = absent-here (c ∷ []) (λ r. first_passes is_align (after_first r)) refl
fill-sound (c ∷ d ∷ t) =
    cond_both {A = Option ℕ × Text} (is_align d) _ _ (λ x. IsPart (c ∷ d ∷ t) (fill_part x.0) x.1)
    (λ e. record { whole = refl; formed = refl; ends = e })
    (λ e. absent-here (c ∷ d ∷ t) (λ r. first_passes is_align (after_first r)) e)

fill-some : (c : ℕ) (r : Text) → first_passes is_align r ≡ true → fill (c ∷ r) ≡ (Some c, r)
fill-some c [] e = absurd (false≢true e)
fill-some c (d ∷ r) e = cond-true (is_align d) _ _ e

fill-none : (t : Text) → first_passes is_align (after_first t) ≡ false → fill t ≡ (None, t)
fill-none [] e = refl
fill-none (c ∷ []) e = refl
fill-none (c ∷ d ∷ t) e = cond-false (is_align d) _ _ e

fill-complete : (t : Text) (f : Option ℕ) (r : Text) → IsPart t (fill_part f) r → fill t ≡ (f, r)
fill-complete t (Some c) r h = ap fill h.whole ∙ fill-some c r h.ends
fill-complete t None r h = ap fill (absent-same t _ r h) ∙ fill-none r (not-true _ h.ends)

-- alignments
align-sound : (t : Text) → IsPart t (align_part (align t).0) (align t).1
align-sound [] = absent-here [] (first_passes is_align) refl
align-sound (c ∷ t) =
    cond_both {A = Alignment × Text} (c == code "<") _ _ (λ x. IsPart (c ∷ t) (align_part x.0) x.1)
    (λ e. letter-there c (code "<") t e)
    (λ e. cond_both {A = Alignment × Text} (c == code ">") _ _
    (λ x. IsPart (c ∷ t) (align_part x.0) x.1)
    (λ f. letter-there c (code ">") t f)
    (λ f. cond_both {A = Alignment × Text} (c == code "^") _ _
    (λ x. IsPart (c ∷ t) (align_part x.0) x.1)
    (λ g. letter-there c (code "^") t g)
    (λ g. absent-here (c ∷ t) (first_passes is_align) (or_from _ _ (or_from _ _ e f) g))))

align-none : (t : Text) → first_passes is_align t ≡ false → align t ≡ (Unknown, t)
align-none [] e = refl
align-none (c ∷ t) e =
    let front = or_parts _ _ (or_parts _ _ e).0 in
    cond-false (c == code "<") _ _ front.0
    ∙ (cond-false (c == code ">") _ _ front.1
    ∙ cond-false (c == code "^") _ _ (or_parts _ _ e).1)

align-complete : (t : Text) (a : Alignment) (r : Text) → IsPart t (align_part a) r
    → align t ≡ (a, r)
align-complete t Left r h = ap align h.whole
align-complete t Right r h = ap align h.whole
align-complete t Center r h = ap align h.whole
align-complete t Unknown r h = ap align (absent-same t _ r h) ∙ align-none r (not-true _ h.ends)

-- signs
sign-sound : (t : Text) → IsPart t (sign_part (sign t).0) (sign t).1
sign-sound [] = absent-here [] (first_passes is_sign) refl
sign-sound (c ∷ t) =
    cond_both {A = Option Sign × Text} (c == code "+") _ _ (λ x. IsPart (c ∷ t) (sign_part x.0) x.1)
    (λ e. letter-there c (code "+") t e)
    (λ e. cond_both {A = Option Sign × Text} (c == code "-") _ _
    (λ x. IsPart (c ∷ t) (sign_part x.0) x.1)
    (λ f. letter-there c (code "-") t f)
    (λ f. absent-here (c ∷ t) (first_passes is_sign) (or_from _ _ e f)))

sign-none : (t : Text) → first_passes is_sign t ≡ false → sign t ≡ (None, t)
sign-none [] e = refl
sign-none (c ∷ t) e = cond-false (c == code "+") _ _ (or_parts _ _ e).0
    ∙ cond-false (c == code "-") _ _ (or_parts _ _ e).1

sign-complete : (t : Text) (g : Option Sign) (r : Text) → IsPart t (sign_part g) r → sign t ≡ (g, r)
sign-complete t (Some Plus) r h = ap sign h.whole
sign-complete t (Some Minus) r h = ap sign h.whole
sign-complete t None r h = ap sign (absent-same t _ r h) ∙ sign-none r (not-true _ h.ends)

-- the `#`
alternate-sound : (t : Text) → IsPart t (alternate_part (alternate t).0) (alternate t).1
alternate-sound [] = absent-here [] (begins_with (code "#")) refl
alternate-sound (c ∷ t) =
    cond_both {A = Bool × Text} (c == code "#") _ _ (λ x. IsPart (c ∷ t) (alternate_part x.0) x.1)
    (λ e. letter-there c (code "#") t e) (λ e. absent-here (c ∷ t) (begins_with (code "#")) e)

alternate-none : (t : Text) → begins_with (code "#") t ≡ false → alternate t ≡ (false, t)
alternate-none [] e = refl
alternate-none (c ∷ t) e = cond-false (c == code "#") _ _ e

alternate-complete : (t : Text) (b : Bool) (r : Text) → IsPart t (alternate_part b) r
    → alternate t ≡ (b, r)
alternate-complete t true r h = ap alternate h.whole
alternate-complete t false r h = ap alternate (absent-same t _ r h)
    ∙ alternate-none r (not-true _ h.ends)

-- types
letter : DebugHex → ℕ
letter Lower = code "x"
letter Upper = code "X"

letter_question : (h : DebugHex) (t : Text)
    → IsPart (letter h ∷ codes "?" ++ t) (type_part (DebugHexType h)) t
unfolding letter
letter_question Lower t = fixed-there (codes "x?") t
letter_question Upper t = fixed-there (codes "X?") t

letter_is_sign : (h : DebugHex) → is_type_character (letter h) ≡ true
unfolding letter
letter_is_sign Lower = refl
letter_is_sign Upper = refl

letter_alone : (h : DebugHex) (t : Text) → begins_with (code "?") t ≡ false
    → IsPart (letter h ∷ t) (type_part (CharacterType (letter h))) t
letter_alone h t e = record {
  whole = refl;
  formed = letter_is_sign h;
  ends = or_right _ _ (ap not e);
}

hex-sound : (h : DebugHex) (t : Text)
    → IsPart (letter h ∷ t) (type_part (after_hex h (letter h) t).0) (after_hex h (letter h) t).1
hex-sound h [] = letter_alone h [] refl
hex-sound h (d ∷ t) =
    cond_both {A = TypeText × Text} (d == code "?") _ _
    (λ x. IsPart (letter h ∷ d ∷ t) (type_part x.0) x.1)
    (λ e. IsPart-moved _ (letter h ∷ codes "?" ++ t) _ t
    (ap (λ x. letter h ∷ x ∷ t) (eqb-true d (code "?") e)) (letter_question h t))
    (λ e. letter_alone h (d ∷ t) e)

pub type-sound : (t : Text) → IsPart t (type_part (type t).0) (type t).1
unfolding letter
type-sound [] = record { whole = refl; formed = refl; ends = refl }
type-sound (c ∷ t) =
    cond_both {A = TypeText × Text} (c == code "x") _ _ (λ x. IsPart (c ∷ t) (type_part x.0) x.1)
    (λ e. subst (λ d. IsPart (d ∷ t) (type_part (after_hex Lower d t).0) (after_hex Lower d t).1)
    (sym (eqb-true c (code "x") e)) (hex-sound Lower t))
    (λ e. cond_both {A = TypeText × Text} (c == code "X") _ _
    (λ x. IsPart (c ∷ t) (type_part x.0) x.1)
    (λ f. subst (λ d. IsPart (d ∷ t) (type_part (after_hex Upper d t).0) (after_hex Upper d t).1)
    (sym (eqb-true c (code "X") f)) (hex-sound Upper t))
    (λ f. cond_both {A = TypeText × Text} (c == code "?") _ _
    (λ x. IsPart (c ∷ t) (type_part x.0) x.1)
    (λ g. record { whole = refl; formed = or_right _ _ g; ends = or_left _ _ g })
    (λ g. row-two (c ∷ t) (c ∷ t) (absent_part (first_passes is_type_character))
    (optional_identifier (word (c ∷ t))) (after_word (c ∷ t))
    (absent-here (c ∷ t) (first_passes is_type_character) (or_from _ _ (or_from _ _ e f) g))
    (optional_identifier-finds.sound (c ∷ t)))))

hex-alone : (h : DebugHex) (c : ℕ) (r : Text) → begins_with (code "?") r ≡ false
    → after_hex h c r ≡ (CharacterType c, r)
hex-alone h c [] e = refl
hex-alone h c (d ∷ r) e = cond-false (d == code "?") _ _ e

-- how `x`, `X` and `?` are read, each where it may stand
abbrev IsRead : Text → ℕ → Type 0
IsRead r c = ((c == code "?") || not (begins_with (code "?") r)) ≡ true
    → type (c ∷ r) ≡ (CharacterType c, r)

sign-read : (c : ℕ) (r : Text) → is_type_character c ≡ true → IsRead r c
sign-read c r e = by_sign (or_cases _ _ e)
  where
    by_hex : ((c == code "x") ≡ true) ⊎ ((c == code "X") ≡ true) → IsRead r c
    by_hex (inl f) = subst (IsRead r) (sym (eqb-true c (code "x") f))
        (λ n. hex-alone Lower (code "x") r (not-true _ n))
    by_hex (inr f) = subst (IsRead r) (sym (eqb-true c (code "X") f))
        (λ n. hex-alone Upper (code "X") r (not-true _ n))

    by_sign : (((c == code "x") || (c == code "X")) ≡ true) ⊎ ((c == code "?") ≡ true) → IsRead r c
    by_sign (inl f) = by_hex (or_cases _ _ f)
    by_sign (inr f) = subst (IsRead r) (sym (eqb-true c (code "?") f)) (λ n. refl)

type-word : (t : Text) → first_passes is_type_character t ≡ false
    → type t ≡ (WordType (word t), after_word t)
unfolding word after_word
type-word [] e = refl
type-word (c ∷ t) e =
    let front = or_parts _ _ (or_parts _ _ e).0 in
    cond-false (c == code "x") _ _ front.0
    ∙ (cond-false (c == code "X") _ _ front.1
    ∙ cond-false (c == code "?") _ _ (or_parts _ _ e).1)

type-complete : (t : Text) (y : TypeText) (r : Text) → IsPart t (type_part y) r → type t ≡ (y, r)
type-complete t (DebugHexType Lower) r h = ap type h.whole
type-complete t (DebugHexType Upper) r h = ap type h.whole
type-complete t (CharacterType c) r h = ap type h.whole ∙ sign-read c r h.formed h.ends
type-complete t (WordType w) r h =
    let s = two-split t (absent_part (first_passes is_type_character))
    (optional_identifier w) r h in
    ap type (absent-same t _ s.seam s.first)
    ∙ (type-word s.seam (not-true _ s.first.ends)
    ∙ ap (λ x. (WordType x.0, x.1)) (optional_identifier-finds.complete s.seam w r s.second))

-- format specifications
format-sound : (t : Text) → IsPart t (format_part (format_text t).0) (format_text t).1
unfolding format_text
format-sound t =
    (then (fill-sound t)
    (then (align-sound (align_at t))
    (then (sign-sound (sign_at t)) (then (alternate-sound (alternate_at t))
    (then (width-finds.sound (width_at t))
    (then (precision-finds.sound (precision_at t)) (last (type-sound (type_at t))))))))).part

with_parts : Option ℕ → Alignment → Option Sign → Bool → WidthText → PrecisionText → TypeText → Text
    → FormatText × Text
with_parts f a g n w c y r =
    (record { fill = f; align = a; sign = g; alternate = n; width = w; precision = c; type = y }, r)

same_with : (f i : Option ℕ) (a b : Alignment) (g h : Option Sign) (n m : Bool) (w x : WidthText)
    (c d : PrecisionText) (y z : TypeText) (r s : Text) →
    f ≡ i → a ≡ b → g ≡ h → n ≡ m → w ≡ x → c ≡ d → y ≡ z → r ≡ s
    → with_parts f a g n w c y r ≡ with_parts i b h m x d z s
same_with f i a b g h n m w x c d y z r s e1 e2 e3 e4 e5 e6 e7 e8 = cc

same_parts : (x : FormatText × Text) (p : FormatText) (r : Text) → x.0.fill ≡ p.fill
    → x.0.align ≡ p.align → x.0.sign ≡ p.sign → x.0.alternate ≡ p.alternate
    → x.0.width ≡ p.width → x.0.precision ≡ p.precision → x.0.type ≡ p.type → x.1 ≡ r → x ≡ (p, r)
unfolding with_parts
same_parts x p r =
    same_with x.0.fill p.fill x.0.align p.align x.0.sign p.sign x.0.alternate p.alternate x.0.width
    p.width x.0.precision p.precision x.0.type
    p.type x.1 r

format-complete : (t : Text) (p : FormatText) (r : Text) → IsPart t (format_part p) r
    → format_text t ≡ (p, r)
unfolding format_text
format-complete t p r h =
    let whole : IsRow t (fill_part p.fill ∷ align_part p.align ∷ sign_part p.sign
    ∷ alternate_part p.alternate ∷ width_part p.width ∷ precision_part
    p.precision ∷ type_part p.type ∷ []) r = record { part = h } in
    let f = opened whole in
    let a = opened f.others in
    let g = opened a.others in
    let n = opened g.others in
    let w = opened n.others in
    let c = opened w.others in
    let fe = fill-complete t p.fill f.seam f.first in
    let ae = align-complete f.seam p.align a.seam a.first in
    let ge = sign-complete a.seam p.sign g.seam g.first in
    let ne = alternate-complete g.seam p.alternate n.seam n.first in
    let we = width-finds.complete n.seam p.width w.seam w.first in
    let ce = precision-finds.complete w.seam p.precision c.seam c.first in
    let ye = type-complete c.seam p.type r (only c.others) in
    let at_align : align_at t ≡ f.seam = ap (λ x. x.1) fe in
    let at_sign : sign_at t ≡ a.seam = ap (λ u. (align u).1) at_align ∙ ap (λ x. x.1) ae in
    let at_alternate : alternate_at t ≡ g.seam = ap (λ u. (sign u).1) at_sign ∙ ap (λ x. x.1) ge in
    let at_width : width_at t ≡ n.seam = ap (λ u. (alternate u).1) at_alternate
    ∙ ap (λ x. x.1) ne in
    let at_precision : precision_at t ≡ w.seam = ap (λ u. (width u).1) at_width
    ∙ ap (λ x. x.1) we in
    let at_type : type_at t ≡ c.seam = ap (λ u. (precision u).1) at_precision ∙ ap (λ x. x.1) ce in
    same_parts (format_text t) p r (ap (λ x. x.0) fe)
    (ap (λ u. (align u).0) at_align ∙ ap (λ x. x.0) ae)
    (ap (λ u. (sign u).0) at_sign ∙ ap (λ x. x.0) ge)
    (ap (λ u. (alternate u).0) at_alternate ∙ ap (λ x. x.0) ne)
    (ap (λ u. (width u).0) at_width ∙ ap (λ x. x.0) we)
    (ap (λ u. (precision u).0) at_precision ∙ ap (λ x. x.0) ce)
    (ap (λ u. (type u).0) at_type ∙ ap (λ x. x.0) ye)
    (ap (λ u. (type u).1) at_type ∙ ap (λ x. x.1) ye)

-- specifications
colon-sound : (mode : Mode) (t : Text)
    → IsPart (codes ":" ++ t) (spec_part mode (after_colon mode t).0) (after_colon mode t).1
colon-sound Format t = (then (fixed-there (codes ":") t) (last (format-sound t))).part
colon-sound InlineAsm t =
    (then (fixed-there (codes ":") t) (last (optional_identifier-finds.sound t))).part
colon-sound Diagnostic t =
    (then (fixed-there (codes ":") t) (last ((run-finds is_no_brace).sound t))).part
colon-sound DiagnosticNamed t =
    (then (fixed-there (codes ":") t) (last ((run-finds is_no_brace).sound t))).part

spec-sound : (mode : Mode) (t : Text)
    → IsPart t (spec_part mode (specification mode t).0) (specification mode t).1
spec-sound mode [] = absent-here [] (begins_with (code ":")) refl
spec-sound mode (c ∷ t) =
    cond_both {A = SpecText × Text} (c == code ":") _ _
    (λ x. IsPart (c ∷ t) (spec_part mode x.0) x.1)
    (λ e. IsPart-moved _ (codes ":" ++ t) _ _ (ap (λ x. x ∷ t) (eqb-true c (code ":") e))
    (colon-sound mode t))
    (λ e. absent-here (c ∷ t) (begins_with (code ":")) e)

spec-none : (mode : Mode) (t : Text) → begins_with (code ":") t ≡ false
    → specification mode t ≡ (Default, t)
spec-none mode [] e = refl
spec-none mode (c ∷ t) e = cond-false (c == code ":") _ _ e

text-complete : (t u r : Text) → IsPart t (spec_part Diagnostic (DiagnosticText u)) r
    → specification Diagnostic t ≡ (DiagnosticText u, r)
text-complete t u r h =
    let s = two-split t (fixed_part (codes ":")) (run is_no_brace u) r h in
    ap (specification Diagnostic) s.first.whole
    ∙ ap (λ x. (DiagnosticText x.0, x.1)) ((run-finds is_no_brace).complete s.seam u r s.second)

diagnostics-read_alike : (t : Text) → specification DiagnosticNamed t ≡ specification Diagnostic t
diagnostics-read_alike [] = refl
diagnostics-read_alike (c ∷ t) = refl

spec-complete : (mode : Mode) (t : Text) (s : SpecText) (r : Text) → IsPart t (spec_part mode s) r
    → specification mode t ≡ (s, r)
spec-complete mode t Default r h = ap (specification mode) (absent-same t _ r h)
    ∙ spec-none mode r (not-true _ h.ends)
spec-complete Format t (Formatting p) r h =
    let s = two-split t (fixed_part (codes ":")) (format_part p) r h in
    ap (specification Format) s.first.whole
    ∙ ap (λ x. (Formatting x.0, x.1)) (format-complete s.seam p r s.second)
spec-complete InlineAsm t (Modifier w) r h =
    let s = two-split t (fixed_part (codes ":")) (optional_identifier w) r h in
    ap (specification InlineAsm) s.first.whole
    ∙ ap (λ x. (Modifier x.0, x.1)) (optional_identifier-finds.complete s.seam w r s.second)
spec-complete Diagnostic t (DiagnosticText u) r h = text-complete t u r h
spec-complete DiagnosticNamed t (DiagnosticText u) r h = diagnostics-read_alike t
    ∙ text-complete t u r h
spec-complete Format t (Modifier w) r h = absurd (false≢true h.formed)
spec-complete Format t (DiagnosticText u) r h = absurd (false≢true h.formed)
spec-complete InlineAsm t (Formatting p) r h = absurd (false≢true h.formed)
spec-complete InlineAsm t (DiagnosticText u) r h = absurd (false≢true h.formed)
spec-complete Diagnostic t (Formatting p) r h = absurd (false≢true h.formed)
spec-complete Diagnostic t (Modifier w) r h = absurd (false≢true h.formed)
spec-complete DiagnosticNamed t (Formatting p) r h = absurd (false≢true h.formed)
spec-complete DiagnosticNamed t (Modifier w) r h = absurd (false≢true h.formed)

pub spec-finds : (mode : Mode) → Finds (spec_part mode) (specification mode)
spec-finds mode = record { sound = spec-sound mode; complete = spec-complete mode }
