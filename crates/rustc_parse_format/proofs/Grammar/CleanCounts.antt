-- A width or a precision has no fault exactly if it is clean and no word `_` was tried for a count
-- in it.
use Rattle.std.proofs.Common.{◌≡◌, ◌==◌, ℕ, [], ◌∷◌}
use Rattle.std.proofs.lemmas.Bool.{cond_both}
use Rattle.std.specs.Char.{is_ascii_digit}
use Rattle.rustc_parse_format.specs.Characters.{Text, is_id_start, word, after_word, digits}
use Rattle.rustc_parse_format.specs.Characters.{after_digits}
use Rattle.rustc_parse_format.specs.Syntax.{NumberCount, IndexCount, NameCount, NoCount, WidthText}
use Rattle.rustc_parse_format.specs.Counts.{count, after_number, after_name, width, after_zero}
use Rattle.rustc_parse_format.specs.Counts.{precision, after_dot}
use Rattle.rustc_parse_format.specs.Grammar.{IsNamed, IsSmall, IsCleanCount, IsCleanWidth}
use Rattle.rustc_parse_format.specs.Grammar.{IsCleanPrecision}
use Rattle.rustc_parse_format.specs.PartFaults.{number_faults, argument_faults, width_faults}
use Rattle.rustc_parse_format.specs.PartFaults.{precision_faults}
use Rattle.rustc_parse_format.proofs.Grammar.CleanWords.{none_left, none_right, named, small}
use Rattle.rustc_parse_format.proofs.Grammar.CleanWords.{choose}

number_clean : (ds r : Text) → IsSmall ds → IsCleanCount (after_number ds r).0
number_clean ds [] h = h
number_clean ds (c ∷ r) h = choose IsCleanCount (c == 36) (IndexCount ds, r) (NumberCount ds, c ∷ r)
    (λ e. h) (λ e. h)

name_clean : (t w r : Text) → IsNamed w → IsCleanCount (after_name t w r).0
name_clean t w [] h = tt
name_clean t w (c ∷ r) h = choose IsCleanCount (c == 36) (NameCount w, r) (NoCount, t) (λ e. h)
    (λ e. tt)

count_clean : (t : Text) → argument_faults t ≡ [] → IsCleanCount (count t).0
unfolding argument_faults
count_clean [] e = tt
count_clean (c ∷ t) e =
    choose IsCleanCount (is_ascii_digit c) _ _
    (λ d. number_clean (digits (c ∷ t)) (after_digits (c ∷ t)) (small (c ∷ t) (none_left _ _ e)))
    (λ d. choose IsCleanCount (is_id_start c) _ _
    (λ i. name_clean (c ∷ t) (word (c ∷ t)) (after_word (c ∷ t))
    (named (c ∷ t) (none_right (number_faults (c ∷ t)) _ e)))
    (λ i. tt))

abbrev WidthClean : Text → WidthText × Text → Type 0
WidthClean t w = width_faults t w.0 ≡ [] → IsCleanWidth w.0

zero_clean : (c : ℕ) (t : Text) → WidthClean (c ∷ t) (after_zero t)
zero_clean c [] e = tt
zero_clean c (d ∷ t) e =
    cond_both {A = WidthText × Text} (d == 36) _ _ (WidthClean (c ∷ d ∷ t))
    (λ z h. tt) (λ z h. count_clean (d ∷ t) h) e

pub width_clean : (t : Text) → width_faults t (width t).0 ≡ [] → IsCleanWidth (width t).0
width_clean [] e = tt
width_clean (c ∷ t) e =
    cond_both {A = WidthText × Text} (c == 48) _ _ (WidthClean (c ∷ t))
    (λ z. zero_clean c t) (λ z h. count_clean (c ∷ t) h) e

dot_clean : (d : ℕ) (t : Text) → precision_faults (d ∷ t) (after_dot t).0 ≡ []
    → IsCleanPrecision (after_dot t).0
dot_clean d [] e = tt
dot_clean d (c ∷ t) e =
    choose {B = Text} (λ p. precision_faults (d ∷ c ∷ t) p ≡ [] → IsCleanPrecision p) (c == 42) _ _
    (λ z h. tt) (λ z h. count_clean (c ∷ t) h) e

pub precision_clean : (t : Text) → precision_faults t (precision t).0 ≡ []
    → IsCleanPrecision (precision t).0
precision_clean [] e = tt
precision_clean (c ∷ t) e =
    choose {B = Text} (λ p. precision_faults (c ∷ t) p ≡ [] → IsCleanPrecision p) (c == 46) _ _
    (λ z h. dot_clean c t h) (λ z h. tt) e
