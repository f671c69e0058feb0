-- The faults of a width and a precision do not depend on what follows the specification.
use Rattle.std.proofs.Common.{◌≡◌, ℕ, ◌++◌, ◌==◌, false, true, cond, List, [], ◌∷◌, length, refl}
use Rattle.std.proofs.Common.{ap, ◌∙◌, sym, arith, codes, append-nil, append_assoc, length-append}
use Rattle.std.specs.Prelude.{bytes_eq}
use Rattle.std.specs.Char.{is_ascii_digit}
use Rattle.std.proofs.lemmas.Bool.{cond_both, cond-false, cond-true, false≢true, false_from_ne_true}
use Rattle.rustc_parse_format.specs.Characters.{Text, is_id_start, is_over, word, after_word}
use Rattle.rustc_parse_format.specs.Characters.{digits, after_digits, front}
use Rattle.rustc_parse_format.specs.Marks.{Mark, Start, End, Span, span_through, up_to}
use Rattle.rustc_parse_format.specs.Faults.{Fault, TooLarge, Underscore}
use Rattle.rustc_parse_format.specs.PartFaults.{argument_faults, number_faults, word_faults}
use Rattle.rustc_parse_format.specs.PartFaults.{width_faults, precision_faults}
use Rattle.rustc_parse_format.specs.Syntax.{CountText, NumberCount, IndexCount, NameCount, NoCount}
use Rattle.rustc_parse_format.specs.Syntax.{WidthText, PaddedWidth, ZeroIndexWidth, PlainWidth}
use Rattle.rustc_parse_format.specs.Syntax.{PrecisionText, NoPrecision, StarPrecision, DotPrecision}
use Rattle.rustc_parse_format.specs.Syntax.{count_part, width_part, precision_part}
use Rattle.rustc_parse_format.specs.Counts.{count, width, precision, after_number, after_name}
use Rattle.rustc_parse_format.specs.Counts.{after_zero, after_dot}
use Rattle.rustc_parse_format.proofs.Grammar.PartFronts.{start-no_digit}
use Rattle.rustc_parse_format.proofs.Rows.Definitions.{computing}
use Rattle.fault_fixes.proofs.Moving.{span_of}
use Rattle.fault_fixes.proofs.PositionMoves.{number_faults-at, word_faults-at}
use Rattle.fault_fixes.proofs.Stopping.{Stops}

-- No fault of a count is found at x with p after it.
pub record Quiet (x : ℕ) (p : Text) : Type 0 where
  pub digit : is_ascii_digit x ≡ false
  pub faults : argument_faults (x ∷ p) ≡ []

dot-quiet : (p : Text) → Quiet 46 p
unfolding computing
dot-quiet p = record { digit = refl; faults = refl }

dollar-stops : Stops 36
unfolding computing
dollar-stops = record {
  digit = refl;
  start = refl;
  continue = refl;
  white = refl;
  letter = refl;
  hash = refl;
  opening = refl;
}

-- No word begins at the digits of a number.
abbrev IsNumber : CountText → Type 0
IsNumber (NumberCount ds) = (v : Text) → word_faults (ds ++ v) ≡ []
IsNumber (IndexCount ds) = Unit {0}
IsNumber (NameCount w) = Unit {0}
IsNumber NoCount = Unit {0}

abbrev pub IsNumberWidth : WidthText → Type 0
IsNumberWidth (PaddedWidth k) = IsNumber k
IsNumberWidth ZeroIndexWidth = Unit {0}
IsNumberWidth (PlainWidth k) = IsNumber k

abbrev pub IsNumberPrecision : PrecisionText → Type 0
IsNumberPrecision NoPrecision = Unit {0}
IsNumberPrecision StarPrecision = Unit {0}
IsNumberPrecision (DotPrecision k) = IsNumber k

digit-no_start : (c : ℕ) → is_ascii_digit c ≡ true → is_id_start c ≡ false
digit-no_start c h =
    false_from_ne_true (is_id_start c) (λ s. false≢true (sym (start-no_digit c s) ∙ h))

empty-word : (c : ℕ) (t : Text) → is_id_start c ≡ false → word (c ∷ t) ≡ []
unfolding word
empty-word c t h = cond-false (is_id_start c) _ _ h

no_word : (c : ℕ) (t : Text) → is_id_start c ≡ false → word_faults (c ∷ t) ≡ []
no_word c t h =
    ap (λ w. cond (bytes_eq w (codes "_")) (Underscore (up_to (c ∷ t) (after_word (c ∷ t))) ∷ [])
    []) (empty-word c t h)

digits-no_word : (c : ℕ) (t v : Text) → is_ascii_digit c ≡ true
    → word_faults (digits (c ∷ t) ++ v) ≡ []
unfolding digits
digits-no_word c t v h =
    ap (λ ds. word_faults (ds ++ v)) (cond-true (is_ascii_digit c) _ _ h)
    ∙ no_word c (front is_ascii_digit t ++ v) (digit-no_start c h)

number-is : (ds u : Text) → ((v : Text) → word_faults (ds ++ v) ≡ [])
    → IsNumber (after_number ds u).0
number-is ds [] h = h
number-is ds (c ∷ u) h =
    cond_both {A = CountText × Text} (c == 36) _ _ (λ x. IsNumber x.0) (λ e. tt) (λ e. h)

name-is : (t w u : Text) → IsNumber (after_name t w u).0
name-is t w [] = tt
name-is t w (c ∷ u) =
    cond_both {A = CountText × Text} (c == 36) _ _ (λ x. IsNumber x.0) (λ e. tt) (λ e. tt)

count-is : (t : Text) → IsNumber (count t).0
count-is [] = tt
count-is (c ∷ t) =
    cond_both {A = CountText × Text} (is_ascii_digit c) _ _ (λ x. IsNumber x.0)
    (λ e. number-is (digits (c ∷ t)) (after_digits (c ∷ t)) (λ v. digits-no_word c t v e))
    (λ e. cond_both {A = CountText × Text} (is_id_start c) _ _ (λ x. IsNumber x.0)
    (λ g. name-is (c ∷ t) (word (c ∷ t)) (after_word (c ∷ t))) (λ g. tt))

zero-is : (t : Text) → IsNumberWidth (after_zero t).0
zero-is [] = tt
zero-is (c ∷ t) = cond_both {A = WidthText × Text} (c == 36) _ _ (λ x. IsNumberWidth x.0)
    (λ e. tt) (λ e. count-is (c ∷ t))

pub width-is : (t : Text) → IsNumberWidth (width t).0
width-is [] = tt
width-is (c ∷ t) = cond_both {A = WidthText × Text} (c == 48) _ _ (λ x. IsNumberWidth x.0)
    (λ e. zero-is t) (λ e. count-is (c ∷ t))

dot-is : (t : Text) → IsNumberPrecision (after_dot t).0
dot-is [] = tt
dot-is (c ∷ t) = cond_both {A = PrecisionText × Text} (c == 42) _ _ (λ x. IsNumberPrecision x.0)
    (λ e. tt) (λ e. count-is (c ∷ t))

pub precision-is : (t : Text) → IsNumberPrecision (precision t).0
precision-is [] = tt
precision-is (c ∷ t) =
    cond_both {A = PrecisionText × Text} (c == 46) _ _ (λ x. IsNumberPrecision x.0)
    (λ e. dot-is t) (λ e. tt)

-- Spans before texts of the same length are the same.
length-alike : (v : Text) (x : ℕ) (p : Text) (y : ℕ) (q : Text) → length p ≡ length q
    → length (v ++ x ∷ p) ≡ length (v ++ y ∷ q)
length-alike v x p y q e = omega (arith, e, length-append v (x ∷ p), length-append v (y ∷ q))

both : {x y u v : Mark} → x ≡ y → u ≡ v → span_of x u ≡ span_of y v
both e f = cc

numbers-alike : (u : Text) (x : ℕ) (p : Text) (y : ℕ) (q : Text) → is_ascii_digit x ≡ false
    → is_ascii_digit y ≡ false → length p ≡ length q
    → number_faults (u ++ x ∷ p) ≡ number_faults (u ++ y ∷ q)
numbers-alike u x p y q h k e =
    let same : span_through (u ++ x ∷ p) (after_digits u ++ x ∷ p)
    ≡ span_through (u ++ y ∷ q) (after_digits u ++ y ∷ q) =
    both (ap Start (length-alike u x p y q e))
    (ap End (length-alike (after_digits u) x p y q e)) in
    number_faults-at u x p h
    ∙ ap (λ s. cond (is_over (digits u)) (TooLarge (digits u) s ∷ []) []) same
    ∙ sym (number_faults-at u y q k)

words-alike : (u p q : Text) → length p ≡ length q
    → word_faults (u ++ 36 ∷ p) ≡ word_faults (u ++ 36 ∷ q)
words-alike u p q e =
    let same : up_to (u ++ 36 ∷ p) (after_word u ++ 36 ∷ p)
    ≡ up_to (u ++ 36 ∷ q) (after_word u ++ 36 ∷ q) =
    both (ap Start (length-alike u 36 p 36 q e))
    (ap Start (length-alike (after_word u) 36 p 36 q e)) in
    word_faults-at u 36 p dollar-stops
    ∙ ap (λ s. cond (bytes_eq (word u) (codes "_")) (Underscore s ∷ []) []) same
    ∙ sym (word_faults-at u 36 q dollar-stops)

joined : {xs ys us vs : List (Fault Span)} → xs ≡ ys → us ≡ vs → xs ++ us ≡ ys ++ vs
joined e f = cc

-- A parameter, which ends in a `$`.
parameters-alike : (u p q : Text) → length p ≡ length q
    → argument_faults ((u ++ 36 ∷ []) ++ p) ≡ argument_faults ((u ++ 36 ∷ []) ++ q)
unfolding argument_faults
parameters-alike u p q e = rw (append_assoc u (36 ∷ []) p, append_assoc u (36 ∷ []) q)
    (joined (numbers-alike u 36 p 36 q dollar-stops.digit dollar-stops.digit e)
    (words-alike u p q e))

counts-alike : (k : CountText) (x : ℕ) (p : Text) (y : ℕ) (q : Text) → IsNumber k → Quiet x p
    → Quiet y q → length p ≡ length q → argument_faults ((count_part k).spelling ++ x ∷ p)
    ≡ argument_faults ((count_part k).spelling ++ y ∷ q)
unfolding argument_faults
counts-alike (NumberCount ds) x p y q n h k e = rw (append-nil ds)
    (joined (numbers-alike ds x p y q h.digit k.digit e) (n (x ∷ p) ∙ sym (n (y ∷ q))))
counts-alike (IndexCount ds) x p y q n h k e =
    parameters-alike ds (x ∷ p) (y ∷ q) (length-alike [] x p y q e)
counts-alike (NameCount w) x p y q n h k e =
    parameters-alike w (x ∷ p) (y ∷ q) (length-alike [] x p y q e)
counts-alike NoCount x p y q n h k e = h.faults ∙ sym k.faults

-- The spelling of the last part of a row.
last-alike : (k : CountText) (x : ℕ) (p : Text) (y : ℕ) (q : Text) → IsNumber k → Quiet x p
    → Quiet y q → length p ≡ length q
    → argument_faults (((count_part k).spelling ++ []) ++ x ∷ p)
    ≡ argument_faults (((count_part k).spelling ++ []) ++ y ∷ q)
last-alike k x p y q n h i e =
    rw (append-nil (count_part k).spelling) (counts-alike k x p y q n h i e)

widths-alike : (w : WidthText) (x : ℕ) (p : Text) (y : ℕ) (q : Text) → IsNumberWidth w → Quiet x p
    → Quiet y q → length p ≡ length q → width_faults ((width_part w).spelling ++ x ∷ p) w
    ≡ width_faults ((width_part w).spelling ++ y ∷ q) w
widths-alike (PaddedWidth k) x p y q n h i e = last-alike k x p y q n h i e
widths-alike ZeroIndexWidth x p y q n h i e = refl
widths-alike (PlainWidth k) x p y q n h i e = last-alike k x p y q n h i e

-- The faults of the width w and the precision p, with t after them.
abbrev pub counted_faults : WidthText → PrecisionText → Text → List (Fault Span)
counted_faults w p t =
    width_faults ((width_part w).spelling ++ ((precision_part p).spelling ++ t)) w
    ++ precision_faults ((precision_part p).spelling ++ t) p

pub counted-alike : (w : WidthText) (k : PrecisionText) (x : ℕ) (p : Text) (y : ℕ) (q : Text)
    → IsNumberWidth w → IsNumberPrecision k → Quiet x p → Quiet y q → length p ≡ length q
    → counted_faults w k (x ∷ p) ≡ counted_faults w k (y ∷ q)
counted-alike w NoPrecision x p y q n m h i e = joined (widths-alike w x p y q n h i e) refl
counted-alike w StarPrecision x p y q n m h i e =
    joined (widths-alike w 46 (42 ∷ x ∷ p) 46 (42 ∷ y ∷ q) n (dot-quiet _) (dot-quiet _)
    (length-alike (42 ∷ []) x p y q e)) refl
counted-alike w (DotPrecision k) x p y q n m h i e =
    let u : Text = (count_part k).spelling ++ [] in
    joined (widths-alike w 46 (u ++ x ∷ p) 46 (u ++ y ∷ q) n (dot-quiet _) (dot-quiet _)
    (length-alike u x p y q e))
    (last-alike k x p y q m h i e)
