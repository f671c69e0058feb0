-- A width or a precision that is clean, and for which no word `_` was tried, has no fault.
use Rattle.std.proofs.Common.{◌≡◌, ◌==◌, ℕ, [], ◌∷◌, refl, ap}
use Rattle.std.proofs.lemmas.Bool.{cond_both}
use Rattle.std.specs.Char.{is_ascii_digit}
use Rattle.rustc_parse_format.specs.Characters.{Text, is_id_start, word, after_word, digits}
use Rattle.rustc_parse_format.specs.Characters.{after_digits}
use Rattle.rustc_parse_format.specs.Syntax.{CountText, NoCount, WidthText, PaddedWidth}
use Rattle.rustc_parse_format.specs.Syntax.{ZeroIndexWidth, PlainWidth, PrecisionText, DotPrecision}
use Rattle.rustc_parse_format.specs.Counts.{count, after_number, after_name, width, after_zero}
use Rattle.rustc_parse_format.specs.Counts.{precision, after_dot}
use Rattle.rustc_parse_format.specs.Grammar.{IsNamed, IsSmall, IsCleanCount, IsCleanWidth}
use Rattle.rustc_parse_format.specs.Grammar.{IsCleanPrecision}
use Rattle.rustc_parse_format.specs.PartFaults.{argument_faults, width_faults, precision_faults}
use Rattle.rustc_parse_format.proofs.Grammar.CleanWords.{none_both, unnamed, unlarge, choose}
use Rattle.rustc_parse_format.proofs.Grammar.CleanWords.{no_word, no_digits, digit_word}
use Rattle.rustc_parse_format.proofs.Grammar.CleanWords.{no_word_at_end, no_digits_at_end}

-- where there is no count, the word that was tried is not `_`
abbrev pub IsTriedNamed : CountText → Text → Type 0
IsTriedNamed k r = k ≡ NoCount → IsNamed (word r)

number_small : (ds r : Text) → IsCleanCount (after_number ds r).0 → IsSmall ds
number_small ds [] h = h
number_small ds (c ∷ r) h = choose {B = Text} (λ k. IsCleanCount k → IsSmall ds) (c == 36) _ _
    (λ z h. h) (λ z h. h) h

abbrev Faultless : Text → CountText × Text → Type 0
Faultless t k = IsCleanCount k.0 → IsTriedNamed k.0 k.1 → argument_faults t ≡ []

name_named : (t r : Text) → IsCleanCount (after_name t (word t) r).0
    → IsTriedNamed (after_name t (word t) r).0 (after_name t (word t) r).1 →
    IsNamed (word t)
name_named t [] h f = f refl
name_named t (c ∷ r) h f =
    cond_both {A = CountText × Text} (c == 36) _ _ (λ k. IsCleanCount k.0 → IsTriedNamed k.0 k.1
    → IsNamed (word t)) (λ z h f. h) (λ z h f. f refl) h f

no_count_at_end : argument_faults [] ≡ []
unfolding argument_faults
no_count_at_end = none_both _ _ no_digits_at_end no_word_at_end

count_faultless : (t : Text) → Faultless t (count t)
unfolding argument_faults
count_faultless [] h f = no_count_at_end
count_faultless (c ∷ t) h f =
    cond_both {A = CountText × Text} (is_ascii_digit c) _ _ (Faultless (c ∷ t))
    (λ d h f. none_both _ _
    (unlarge (c ∷ t) (number_small (digits (c ∷ t)) (after_digits (c ∷ t)) h))
    (digit_word c t d))
    (λ d. cond_both {A = CountText × Text} (is_id_start c) _ _ (Faultless (c ∷ t))
    (λ i h f. none_both _ _ (no_digits c t d)
    (unnamed (c ∷ t) (name_named (c ∷ t) (after_word (c ∷ t)) h f)))
    (λ i h f. none_both _ _ (no_digits c t d) (no_word c t i)))
    h f

-- where a width has no count, the word that was tried is not `_`
abbrev pub IsWidthTriedNamed : WidthText → Text → Type 0
IsWidthTriedNamed (PaddedWidth k) r = IsTriedNamed k r
IsWidthTriedNamed ZeroIndexWidth r = Unit {0}
IsWidthTriedNamed (PlainWidth k) r = IsTriedNamed k r

pub tried_named : (w : WidthText) (r : Text) → IsNamed (word r) → IsWidthTriedNamed w r
tried_named (PaddedWidth k) r h = λ e. h
tried_named ZeroIndexWidth r h = tt
tried_named (PlainWidth k) r h = λ e. h

abbrev FaultlessWidth : Text → WidthText × Text → Type 0
FaultlessWidth t w = IsCleanWidth w.0 → IsWidthTriedNamed w.0 w.1 → width_faults t w.0 ≡ []

zero_faultless : (c : ℕ) (t : Text) → FaultlessWidth (c ∷ t) (after_zero t)
zero_faultless c [] = λ h f. no_count_at_end
zero_faultless c (d ∷ t) =
    cond_both {A = WidthText × Text} (d == 36) _ _ (FaultlessWidth (c ∷ d ∷ t))
    (λ z h f. refl) (λ z h f. count_faultless (d ∷ t) h f)

pub width_faultless : (t : Text) → FaultlessWidth t (width t)
width_faultless [] = λ h f. no_count_at_end
width_faultless (c ∷ t) =
    cond_both {A = WidthText × Text} (c == 48) _ _ (FaultlessWidth (c ∷ t))
    (λ z. zero_faultless c t) (λ z h f. count_faultless (c ∷ t) h f)

abbrev FaultlessPrecision : Text → PrecisionText × Text → Type 0
FaultlessPrecision t p = IsCleanPrecision p.0 → (p.0 ≡ DotPrecision NoCount → IsNamed (word p.1))
    → precision_faults t p.0 ≡ []

dot_faultless : (d : ℕ) (t : Text) → FaultlessPrecision (d ∷ t) (after_dot t)
dot_faultless d [] = λ h f. no_count_at_end
dot_faultless d (c ∷ t) =
    cond_both {A = PrecisionText × Text} (c == 42) _ _ (FaultlessPrecision (d ∷ c ∷ t))
    (λ z h f. refl) (λ z h f. count_faultless (c ∷ t) h (λ e. f (ap DotPrecision e)))

pub precision_faultless : (t : Text) → FaultlessPrecision t (precision t)
precision_faultless [] = λ h f. refl
precision_faultless (c ∷ t) =
    cond_both {A = PrecisionText × Text} (c == 46) _ _ (FaultlessPrecision (c ∷ t))
    (λ z. dot_faultless c t) (λ z h f. refl)
