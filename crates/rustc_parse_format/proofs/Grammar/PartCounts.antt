-- The computed position, count, width and precision are those that are written.
use Prim.Native.Char.{code}
use Rattle.std.proofs.Common.{◌≡◌, ◌++◌, Bool, true, false, [], ◌∷◌, refl, sym, ◌∙◌, ap, codes}
use Rattle.std.specs.Prelude.{◌==◌, ◌||◌, ◌&&◌}
use Rattle.std.specs.Char.{is_ascii_digit}
use Rattle.std.proofs.lemmas.Bool.{cond_both, cond-true, cond-false, and_left, and_parts, and_right}
use Rattle.std.proofs.lemmas.Bool.{or_from, or_parts, not-true, false≢true, eqb-true}
use Rattle.std.proofs.lemmas.Bool.{false_from_ne_true}
use Rattle.unicode_ident.proofs.Computing.{unicode_ident}
use Rattle.rustc_parse_format.specs.Characters.{Text, is_id_start, word, after_word, digits}
use Rattle.rustc_parse_format.specs.Characters.{after_digits, begins_with, begins_raw}
use Rattle.rustc_parse_format.specs.Characters.{after_prefix}
use Rattle.rustc_parse_format.specs.Characters.{first_passes}
use Rattle.rustc_parse_format.specs.Spelling.{IsPart, fixed_part, part_unless, absent_part, integer}
use Rattle.rustc_parse_format.specs.Spelling.{identifier}
use Rattle.rustc_parse_format.specs.Syntax.{CountText, NumberCount, IndexCount, NameCount, NoCount}
use Rattle.rustc_parse_format.specs.Syntax.{name_part, count_part, WidthText, PaddedWidth}
use Rattle.rustc_parse_format.specs.Syntax.{ZeroIndexWidth, PlainWidth, width_part, PrecisionText}
use Rattle.rustc_parse_format.specs.Syntax.{NoPrecision, StarPrecision, DotPrecision}
use Rattle.rustc_parse_format.specs.Syntax.{precision_part}
use Rattle.rustc_parse_format.specs.Syntax.{PositionText, Digits, Word, RawWord, NoPosition}
use Rattle.rustc_parse_format.specs.Syntax.{position_part}
use Rattle.rustc_parse_format.specs.Counts.{after_number, after_name, count, width_with}
use Rattle.rustc_parse_format.specs.Counts.{after_zero}
use Rattle.rustc_parse_format.specs.Counts.{width, after_dot, precision}
use Rattle.rustc_parse_format.specs.Placeholder.{raw_word, position}
use Rattle.rustc_parse_format.proofs.Grammar.PartLaws.{Finds, IsPart-moved, unless-there}
use Rattle.rustc_parse_format.proofs.Grammar.PartLaws.{absent-same, absent-here, fixed-there}
use Rattle.rustc_parse_format.proofs.Grammar.PartLaws.{letter-there, row-two, two-split}
use Rattle.rustc_parse_format.proofs.Grammar.PartNames.{begins_count, named-identifier}
use Rattle.rustc_parse_format.proofs.Grammar.PartNames.{no_count-here, no_count-read}
use Rattle.rustc_parse_format.proofs.Grammar.PartFronts.{integer-sound, integer-complete}
use Rattle.rustc_parse_format.proofs.Grammar.PartFronts.{identifier-sound, identifier-complete}
use Rattle.rustc_parse_format.proofs.Grammar.PartFronts.{start-no_digit}

-- positions
raw-sound : (t : Text) → begins_raw t ≡ true
    → IsPart t (position_part (raw_word (after_prefix t)).0) (raw_word (after_prefix t)).1
raw-sound [] e = absurd (false≢true e)
raw-sound (c ∷ []) e = absurd (false≢true (and_parts (c == code "r") false e).1)
raw-sound (c ∷ d ∷ []) e =
    absurd (false≢true (and_parts (d == code "#") false (and_parts (c == code "r") _ e).1).1)
raw-sound (c ∷ d ∷ i ∷ t) e =
    let later = and_parts (d == code "#") (is_id_start i) (and_parts (c == code "r") _ e).1 in
    let letter = eqb-true c (code "r") (and_parts (c == code "r") _ e).0 in
    let hash = eqb-true d (code "#") later.0 in
    row-two (c ∷ d ∷ i ∷ t) (i ∷ t) (fixed_part (codes "r#")) (identifier (word (i ∷ t)))
    (after_word (i ∷ t))
    (IsPart-moved _ (codes "r#" ++ i ∷ t) _ (i ∷ t) (ap (λ x. x ∷ d ∷ i ∷ t) letter
    ∙ ap (λ x. code "r" ∷ x ∷ i ∷ t) hash) (fixed-there (codes "r#") (i ∷ t)))
    (identifier-sound i t later.1)

position-sound : (t : Text) → IsPart t (position_part (position t).0) (position t).1
position-sound [] = record { whole = refl; formed = refl; ends = refl }
position-sound (c ∷ t) =
    cond_both {A = PositionText × Text} (is_ascii_digit c) _ _
    (λ x. IsPart (c ∷ t) (position_part x.0) x.1)
    (λ d. integer-sound c t d)
    (λ d. cond_both {A = PositionText × Text} (begins_raw (c ∷ t)) _ _
    (λ x. IsPart (c ∷ t) (position_part x.0) x.1)
    (λ r. raw-sound (c ∷ t) r)
    (λ r. cond_both {A = PositionText × Text} (is_id_start c) _ _
    (λ x. IsPart (c ∷ t) (position_part x.0) x.1)
    (λ i. row-two (c ∷ t) (c ∷ t) (absent_part begins_raw) (identifier (word (c ∷ t)))
    (after_word (c ∷ t)) (absent-here (c ∷ t) begins_raw r)
    (identifier-sound c t i))
    (λ i. absent-here (c ∷ t) (λ u. first_passes is_ascii_digit u || first_passes is_id_start u)
    (or_from _ _ d i))))

position-digits : (t : Text) → first_passes is_ascii_digit t ≡ true
    → position t ≡ (Digits (digits t), after_digits t)
position-digits [] e = absurd (false≢true e)
position-digits (c ∷ t) e = cond-true (is_ascii_digit c) _ _ e

position-word : (t : Text) → begins_raw t ≡ false → first_passes is_id_start t ≡ true
    → position t ≡ (Word (word t), after_word t)
position-word [] n e = absurd (false≢true e)
position-word (c ∷ t) n e =
    cond-false (is_ascii_digit c) _ _ (start-no_digit c e)
    ∙ (cond-false (begins_raw (c ∷ t)) _ _ n ∙ cond-true (is_id_start c) _ _ e)

position-raw : (t : Text) → first_passes is_id_start t ≡ true
    → position (codes "r#" ++ t) ≡ raw_word t
position-raw [] e = absurd (false≢true e)
position-raw (c ∷ t) e = cond-true (is_id_start c) _ _ e

letter-starts : is_id_start (code "r") ≡ true
unfolding unicode_ident
letter-starts = refl

-- where no word begins, no raw one does
no_word-no_raw : (t : Text) → first_passes is_id_start t ≡ false → begins_raw t ≡ false
no_word-no_raw [] e = refl
no_word-no_raw (c ∷ t) e =
    and_left _ _
    (false_from_ne_true (c == code "r")
    (λ h. false≢true (sym e ∙ (ap is_id_start (eqb-true c (code "r") h) ∙ letter-starts))))

position-none : (t : Text) → (first_passes is_ascii_digit t || first_passes is_id_start t) ≡ false
    → position t ≡ (NoPosition, t)
position-none [] e = refl
position-none (c ∷ t) e =
    let both = or_parts _ _ e in
    cond-false (is_ascii_digit c) _ _ both.0
    ∙ (cond-false (begins_raw (c ∷ t)) _ _ (no_word-no_raw (c ∷ t) both.1)
    ∙ cond-false (is_id_start c) _ _ both.1)

position-complete : (t : Text) (p : PositionText) (r : Text) → IsPart t (position_part p) r
    → position t ≡ (p, r)
position-complete t (Digits ds) r h =
    let k = integer-complete t ds r h in
    position-digits t k.digit
    ∙ (ap (λ u. (Digits u, after_digits t)) k.read ∙ ap (λ u. (Digits ds, u)) k.rest_after)
position-complete t (Word w) r h =
    let s = two-split t (absent_part begins_raw) (identifier w) r h in
    let k = identifier-complete s.seam w r s.second in
    ap position (absent-same t begins_raw s.seam s.first)
    ∙ (position-word s.seam (not-true _ s.first.ends) k.first_passes
    ∙ (ap (λ u. (Word u, after_word s.seam)) k.read ∙ ap (λ u. (Word w, u)) k.rest_after))
position-complete t (RawWord w) r h =
    let s = two-split t (fixed_part (codes "r#")) (identifier w) r h in
    let k = identifier-complete s.seam w r s.second in
    ap position s.first.whole
    ∙ (position-raw s.seam k.first_passes
    ∙ (ap (λ u. (RawWord u, after_word s.seam)) k.read ∙ ap (λ u. (RawWord w, u)) k.rest_after))
position-complete t NoPosition r h = ap position (absent-same t _ r h)
    ∙ position-none r (not-true _ h.ends)

pub position-finds : Finds position_part position
position-finds = record { sound = position-sound; complete = position-complete }

-- counts
number-sound : (t ds s : Text) → IsPart t (integer ds) s
    → IsPart t (count_part (after_number ds s).0) (after_number ds s).1
number-sound t ds [] h = row-two t [] (integer ds) (absent_part (begins_with (code "$"))) [] h
    (absent-here [] (begins_with (code "$")) refl)
number-sound t ds (d ∷ s) h =
    cond_both {A = CountText × Text} (d == code "$") _ _ (λ x. IsPart t (count_part x.0) x.1)
    (λ e. row-two t (d ∷ s) (integer ds) (fixed_part (codes "$")) s h
    (letter-there d (code "$") s e))
    (λ e. row-two t (d ∷ s) (integer ds) (absent_part (begins_with (code "$"))) (d ∷ s) h
    (absent-here (d ∷ s) (begins_with (code "$")) e))

name-sound : (t w s : Text) → IsPart t (identifier w) s
    → (begins_with (code "$") s ≡ false → begins_count t ≡ false) →
    IsPart t (count_part (after_name t w s).0) (after_name t w s).1
name-sound t w [] h f = no_count-here t (f refl)
name-sound t w (d ∷ s) h f =
    cond_both {A = CountText × Text} (d == code "$") _ _ (λ x. IsPart t (count_part x.0) x.1)
    (λ e. row-two t (d ∷ s) (name_part w) (fixed_part (codes "$")) s
    (record { whole = h.whole; formed = h.formed; ends = e }) (letter-there d (code "$") s e))
    (λ e. no_count-here t (f e))

count-sound : (t : Text) → IsPart t (count_part (count t).0) (count t).1
count-sound [] = no_count-here [] refl
count-sound (c ∷ t) =
    cond_both {A = CountText × Text} (is_ascii_digit c) _ _
    (λ x. IsPart (c ∷ t) (count_part x.0) x.1)
    (λ d. number-sound (c ∷ t) _ _ (integer-sound c t d))
    (λ d. cond_both {A = CountText × Text} (is_id_start c) _ _
    (λ x. IsPart (c ∷ t) (count_part x.0) x.1)
    (λ i. name-sound (c ∷ t) _ _ (identifier-sound c t i) (λ e. or_from _ _ d (and_right _ _ e)))
    (λ i. no_count-here (c ∷ t) (or_from _ _ d (and_left _ _ i))))

count-digits : (t : Text) → first_passes is_ascii_digit t ≡ true
    → count t ≡ after_number (digits t) (after_digits t)
count-digits [] e = absurd (false≢true e)
count-digits (c ∷ t) e = cond-true (is_ascii_digit c) _ _ e

count-word : (t : Text) → first_passes is_id_start t ≡ true
    → count t ≡ after_name t (word t) (after_word t)
count-word [] e = absurd (false≢true e)
count-word (c ∷ t) e = cond-false (is_ascii_digit c) _ _ (start-no_digit c e)
    ∙ cond-true (is_id_start c) _ _ e

number-alone : (ds s : Text) → begins_with (code "$") s ≡ false
    → after_number ds s ≡ (NumberCount ds, s)
number-alone ds [] e = refl
number-alone ds (c ∷ s) e = cond-false (c == code "$") _ _ e

no_name : (t w s : Text) → begins_with (code "$") s ≡ false → after_name t w s ≡ (NoCount, t)
no_name t w [] e = refl
no_name t w (c ∷ s) e = cond-false (c == code "$") _ _ e

count-none : (t : Text) → begins_count t ≡ false → count t ≡ (NoCount, t)
count-none [] e = refl
count-none (c ∷ t) e =
    cond-false (is_ascii_digit c) _ _ (or_parts _ _ e).0
    ∙ cond_both {A = CountText × Text} (is_id_start c) _ _ (λ x. x ≡ (NoCount, c ∷ t))
    (λ i. no_name (c ∷ t) (word (c ∷ t)) (after_word (c ∷ t))
    (after_true _ _ i (or_parts _ _ e).1)) (λ i. refl)
  where
    after_true : (x y : Bool) → x ≡ true → (x && y) ≡ false → y ≡ false
    after_true true y i f = f
    after_true false y i f = absurd (false≢true i)

count-complete : (t : Text) (k : CountText) (r : Text) → IsPart t (count_part k) r
    → count t ≡ (k, r)
count-complete t (NumberCount ds) r h =
    let s = two-split t (integer ds) (absent_part (begins_with (code "$"))) r h in
    let i = integer-complete t ds s.seam s.first in
    count-digits t i.digit
    ∙ (ap (λ u. after_number u (after_digits t)) i.read
    ∙ (ap (after_number ds) (i.rest_after ∙ absent-same s.seam (begins_with (code "$")) r s.second)
    ∙ number-alone ds r (not-true _ s.second.ends)))
count-complete t (IndexCount ds) r h =
    let s = two-split t (integer ds) (fixed_part (codes "$")) r h in
    let i = integer-complete t ds s.seam s.first in
    count-digits t i.digit
    ∙ (ap (λ u. after_number u (after_digits t)) i.read
    ∙ ap (after_number ds) (i.rest_after ∙ s.second.whole))
count-complete t (NameCount w) r h =
    let s = two-split t (name_part w) (fixed_part (codes "$")) r h in
    let i = identifier-complete t w s.seam (named-identifier t w s.seam s.first) in
    count-word t i.first_passes
    ∙ (ap (λ u. after_name t u (after_word t)) i.read
    ∙ ap (after_name t w) (i.rest_after ∙ s.second.whole))
count-complete t NoCount r h = ap count h.whole ∙ count-none r (no_count-read t r h)

-- widths
plain : (t : Text) → begins_with (code "0") t ≡ false
    → IsPart t (width_part (width_with PlainWidth t).0) (width_with PlainWidth t).1
plain t e = row-two t t (absent_part (begins_with (code "0"))) (count_part (count t).0) (count t).1
    (absent-here t (begins_with (code "0")) e) (count-sound t)

padded : (t : Text) → begins_with (code "$") t ≡ false
    → IsPart (codes "0" ++ t) (width_part (width_with PaddedWidth t).0) (width_with PaddedWidth t).1
padded t e =
    row-two (codes "0" ++ t) t (part_unless (codes "0") (begins_with (code "$")))
    (count_part (count t).0) (count t).1
    (unless-there (begins_with (code "$")) (codes "0") t e) (count-sound t)

zero-sound : (t : Text) → IsPart (codes "0" ++ t) (width_part (after_zero t).0) (after_zero t).1
zero-sound [] = padded [] refl
zero-sound (c ∷ t) =
    cond_both {A = WidthText × Text} (c == code "$") _ (width_with PaddedWidth (c ∷ t))
    (λ x. IsPart (codes "0" ++ c ∷ t) (width_part x.0) x.1)
    (λ e. IsPart-moved _ _ _ t (ap (λ x. codes "0" ++ x ∷ t) (eqb-true c (code "$") e))
    (fixed-there (codes "0$") t))
    (λ e. padded (c ∷ t) e)

width-sound : (t : Text) → IsPart t (width_part (width t).0) (width t).1
width-sound [] = plain [] refl
width-sound (c ∷ t) =
    cond_both {A = WidthText × Text} (c == code "0") _ (width_with PlainWidth (c ∷ t))
    (λ x. IsPart (c ∷ t) (width_part x.0) x.1)
    (λ e. IsPart-moved _ _ _ _ (ap (λ x. x ∷ t) (eqb-true c (code "0") e)) (zero-sound t))
    (λ e. plain (c ∷ t) e)

zero-flag : (t : Text) → begins_with (code "$") t ≡ false → after_zero t ≡ width_with PaddedWidth t
zero-flag [] e = refl
zero-flag (c ∷ t) e = cond-false (c == code "$") _ _ e

width-plain : (t : Text) → begins_with (code "0") t ≡ false → width t ≡ width_with PlainWidth t
width-plain [] e = refl
width-plain (c ∷ t) e = cond-false (c == code "0") _ _ e

counted-as : (make : CountText → WidthText) (t : Text) (k : CountText) (r : Text)
    → IsPart t (count_part k) r → width_with make t ≡ (make k, r)
counted-as make t k r h = ap (λ x. (make x.0, x.1)) (count-complete t k r h)

width-complete : (t : Text) (w : WidthText) (r : Text) → IsPart t (width_part w) r
    → width t ≡ (w, r)
width-complete t (PaddedWidth k) r h =
    let s = two-split t (part_unless (codes "0") (begins_with (code "$"))) (count_part k) r h in
    ap width s.first.whole
    ∙ (zero-flag s.seam (not-true _ s.first.ends) ∙ counted-as PaddedWidth s.seam k r s.second)
width-complete t ZeroIndexWidth r h = ap width h.whole
width-complete t (PlainWidth k) r h =
    let s = two-split t (absent_part (begins_with (code "0"))) (count_part k) r h in
    ap width (absent-same t _ s.seam s.first)
    ∙ (width-plain s.seam (not-true _ s.first.ends) ∙ counted-as PlainWidth s.seam k r s.second)

pub width-finds : Finds width_part width
width-finds = record { sound = width-sound; complete = width-complete }

-- precisions
dotted : (t : Text) → begins_with (code "*") t ≡ false
    → IsPart (codes "." ++ t) (precision_part (DotPrecision (count t).0)) (count t).1
dotted t e = row-two (codes "." ++ t) t (part_unless (codes ".") (begins_with (code "*")))
    (count_part (count t).0) (count t).1
    (unless-there (begins_with (code "*")) (codes ".") t e) (count-sound t)

dot-sound : (t : Text) → IsPart (codes "." ++ t) (precision_part (after_dot t).0) (after_dot t).1
dot-sound [] = dotted [] refl
dot-sound (c ∷ t) =
    cond_both {A = PrecisionText × Text} (c == code "*") _ _
    (λ x. IsPart (codes "." ++ c ∷ t) (precision_part x.0) x.1)
    (λ e. IsPart-moved _ _ _ t (ap (λ x. codes "." ++ x ∷ t) (eqb-true c (code "*") e))
    (fixed-there (codes ".*") t))
    (λ e. dotted (c ∷ t) e)

precision-sound : (t : Text) → IsPart t (precision_part (precision t).0) (precision t).1
precision-sound [] = absent-here [] (begins_with (code ".")) refl
precision-sound (c ∷ t) =
    cond_both {A = PrecisionText × Text} (c == code ".") _ _
    (λ x. IsPart (c ∷ t) (precision_part x.0) x.1)
    (λ e. IsPart-moved _ _ _ _ (ap (λ x. x ∷ t) (eqb-true c (code ".") e)) (dot-sound t))
    (λ e. absent-here (c ∷ t) (begins_with (code ".")) e)

dot-count : (t : Text) → begins_with (code "*") t ≡ false → after_dot t
    ≡ (DotPrecision (count t).0, (count t).1)
dot-count [] e = refl
dot-count (c ∷ t) e = cond-false (c == code "*") _ _ e

precision-none : (t : Text) → begins_with (code ".") t ≡ false → precision t ≡ (NoPrecision, t)
precision-none [] e = refl
precision-none (c ∷ t) e = cond-false (c == code ".") _ _ e

precision-complete : (t : Text) (p : PrecisionText) (r : Text) → IsPart t (precision_part p) r
    → precision t ≡ (p, r)
precision-complete t NoPrecision r h = ap precision (absent-same t _ r h)
    ∙ precision-none r (not-true _ h.ends)
precision-complete t StarPrecision r h = ap precision h.whole
precision-complete t (DotPrecision k) r h =
    let s = two-split t (part_unless (codes ".") (begins_with (code "*"))) (count_part k) r h in
    ap precision s.first.whole
    ∙ (dot-count s.seam (not-true _ s.first.ends)
    ∙ ap (λ x. (DotPrecision x.0, x.1)) (count-complete s.seam k r s.second))

pub precision-finds : Finds precision_part precision
precision-finds = record { sound = precision-sound; complete = precision-complete }
