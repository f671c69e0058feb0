-- The tokens of a count, by what it means.
use Rattle.std.proofs.Common.{◌≡◌, ℕ, ◌++◌, Bool, false, List, [], chars, refl, ap}
use Rattle.std.proofs.Common.{◌∙◌, codes}
use Rattle.std.specs.Char.{is_ascii_digit}
use Rattle.std.specs.Int.{from_bool}
use Rattle.std.proofs.lemmas.Bool.{not-true}
use Rattle.rustc_parse_format.specs.Characters.{Text, begins_with, byte_length, digits, front}
use Rattle.rustc_parse_format.specs.Spelling.{IsPart, absent_part, fixed_part, integer, part_unless}
use Rattle.rustc_parse_format.specs.Syntax.{CountText, NumberCount, IndexCount, NameCount, NoCount}
use Rattle.rustc_parse_format.specs.Syntax.{WidthText, PaddedWidth, ZeroIndexWidth, PlainWidth}
use Rattle.rustc_parse_format.specs.Syntax.{PrecisionText, NoPrecision, StarPrecision, DotPrecision}
use Rattle.rustc_parse_format.specs.Syntax.{count_part, name_part, precision_part, width_part}
use Rattle.rustc_parse_format.specs.Types.{Count, Is, Name, Param, Star, Implied}
use Rattle.rustc_parse_format.specs.Values.{count_value, is_padded, precision_value, width_value}
use Rattle.rustc_parse_format.proofs.Grammar.PartFronts.{integer-complete}
use Rattle.rustc_parse_format.proofs.Grammar.PartLaws.{IsPart-moved, absent-same, fixed-there}
use Rattle.rustc_parse_format.proofs.Grammar.PartLaws.{row-two, two-split}
use Rattle.format_tokens.specs.declared.kinds.Kind.TheVariants.{Asterisk, DollarSign, Dot}
use Rattle.format_tokens.specs.declared.kinds.Kind.TheVariants.{Identifier, Zero}
use Rattle.format_tokens.specs.declared.kinds.Label.{Label as Sized}
use Rattle.format_tokens.specs.Labels.{Adds}
use Rattle.format_tokens.specs.Tokens.{count_tokens, integer_kind, precision_tokens, token}
use Rattle.format_tokens.specs.Tokens.{width_tokens, word_kind}
use Rattle.format_tokens.proofs.Taking.{Takes, as_kind, moved, then, width-nil}

-- The digits at the front are those of an integer there.
pub integer-width : (t ds r : Text) → IsPart t (integer ds) r
    → byte_length (front is_ascii_digit t) ≡ byte_length ds
unfolding digits
integer-width t ds r h = ap byte_length (integer-complete t ds r h).read

pub integer-kind : (t ds r : Text) → IsPart t (integer ds) r
    → integer_kind (front is_ascii_digit t) ≡ integer_kind ds
unfolding digits
integer-kind t ds r h = ap integer_kind (integer-complete t ds r h).read

pub count-is : (t left : List ℕ) (x y : List Sized) (n w : ℕ)
    → n ≡ byte_length (front is_ascii_digit (chars t))
    → Takes (integer_kind (front is_ascii_digit (chars t))) n t x y left
    → (k : CountText) (r : Text) → IsPart (chars t) (count_part k) r → Is w ≡ count_value k
    → Adds (count_tokens k) r x y left
count-is t left x y n w e takes (NumberCount ds) r h v =
    let s = two-split (chars t) (integer ds) (absent_part (begins_with 36)) r h in
    as_kind ds (integer-kind (chars t) ds s.seam s.first)
    (takes ds r (s.first.whole ∙ ap (λ u. ds ++ u) (absent-same s.seam _ r s.second))
    (e ∙ integer-width (chars t) ds s.seam s.first))
count-is t left x y n w e takes (IndexCount ds) r h v = absurd (cc v)
count-is t left x y n w e takes (NameCount ds) r h v = absurd (cc v)
count-is t left x y n w e takes NoCount r h v = absurd (cc v)

pub count-param : (t d left : List ℕ) (x y z : List Sized) (n w : ℕ)
    → n ≡ byte_length (front is_ascii_digit (chars t))
    → Takes (integer_kind (front is_ascii_digit (chars t))) n t x y d
    → Takes DollarSign 1 d y z left
    → (k : CountText) (r : Text) → IsPart (chars t) (count_part k) r → Param w ≡ count_value k
    → Adds (count_tokens k) r x z left
count-param t d left x y z n w e takes dollar (IndexCount ds) r h v =
    let s = two-split (chars t) (integer ds) (fixed_part (codes "$")) r h in
    let first = as_kind ds (integer-kind (chars t) ds s.seam s.first)
    (takes ds s.seam s.first.whole (e ∙ integer-width (chars t) ds s.seam s.first)) in
    then first (dollar (codes "$") r (first.leaves ∙ s.second.whole) refl)
count-param t d left x y z n w e takes dollar (NumberCount ds) r h v = absurd (cc v)
count-param t d left x y z n w e takes dollar (NameCount ds) r h v = absurd (cc v)
count-param t d left x y z n w e takes dollar NoCount r h v = absurd (cc v)

pub count-name : (t d left : List ℕ) (x y z : List Sized) (w : Text) (n : ℕ)
    → n ≡ byte_length w → Takes (word_kind Identifier w) n t x y d → Takes DollarSign 1 d y z left
    → (k : CountText) (r : Text) → IsPart (chars t) (count_part k) r → Name w tt ≡ count_value k
    → Adds (count_tokens k) r x z left
count-name t d left x y z w n e takes dollar (NameCount v) r h i =
    let s = two-split (chars t) (name_part v) (fixed_part (codes "$")) r h in
    let same : w ≡ v = cc i in
    let first = as_kind v (ap (word_kind Identifier) same)
    (takes v s.seam s.first.whole (e ∙ ap byte_length same)) in
    then first (dollar (codes "$") r (first.leaves ∙ s.second.whole) refl)
count-name t d left x y z w n e takes dollar (NumberCount ds) r h v = absurd (cc v)
count-name t d left x y z w n e takes dollar (IndexCount ds) r h v = absurd (cc v)
count-name t d left x y z w n e takes dollar NoCount r h v = absurd (cc v)

-- What `count` says of a count there that means v.
abbrev pub CountsFrom : Count (Unit {0}) → List ℕ → List Sized → List Sized → List ℕ → Type 0
CountsFrom v t x y left = (k : CountText) (r : Text) → IsPart (chars t) (count_part k) r
    → v ≡ count_value k → Adds (count_tokens k) r x y left

-- The argument 0 that `0$` means is written as an index.
zero-index : (t r : Text) → IsPart t (fixed_part (codes "0$")) r
    → IsPart t (count_part (IndexCount (codes "0"))) r
zero-index t r h = row-two t (codes "$" ++ r) (integer (codes "0")) (fixed_part (codes "$")) r
    (record { whole = h.whole; formed = refl; ends = refl })
    (fixed-there (codes "$") r)

pub width-takes : (t b left : List ℕ) (x y z : List Sized) (n : ℕ) (p : Bool) (v : Count (Unit {0}))
    → n ≡ from_bool p → Takes Zero n t x y b → CountsFrom v b y z left
    → (k : WidthText) (r : Text) → IsPart (chars t) (width_part k) r → p ≡ is_padded k
    → v ≡ width_value k → Adds (width_tokens k) r x z left
width-takes t b left x y z n p v e zero counts (PaddedWidth k) r h f i =
    let s = two-split (chars t) (part_unless (codes "0") (begins_with 36)) (count_part k) r h in
    let first = zero (codes "0") s.seam s.first.whole (e ∙ ap from_bool f) in
    then first (counts k r (IsPart-moved _ _ _ _ first.leaves s.second) i)
width-takes t b left x y z n p v e zero counts ZeroIndexWidth r h f i =
    let first = zero [] (chars t) refl (e ∙ (ap from_bool f ∙ width-nil)) in
    then first (counts (IndexCount (codes "0")) r
    (IsPart-moved _ _ _ _ first.leaves (zero-index (chars t) r h)) i)
width-takes t b left x y z n p v e zero counts (PlainWidth k) r h f i =
    let s = two-split (chars t) (absent_part (begins_with 48)) (count_part k) r h in
    let first = zero [] s.seam s.first.whole (e ∙ (ap from_bool f ∙ width-nil)) in
    then first (counts k r (IsPart-moved _ _ _ _ first.leaves s.second) i)

pub precision-takes : (t b left : List ℕ) (x y z : List Sized) (n : ℕ) (v : Count (Unit {0}))
    → n ≡ from_bool (begins_with 46 (chars t)) → Takes Dot n t x y b → CountsFrom v b y z left
    → ((m : ℕ) (r : Text) → chars b ≡ codes "*" ++ r → v ≡ Star m
    → Adds (token Asterisk (codes "*")) r y z left)
    → (v ≡ Implied → Adds [] (chars b) y z left)
    → (k : PrecisionText) (m : ℕ) (r : Text) → IsPart (chars t) (precision_part k) r
    → v ≡ precision_value m k → Adds (precision_tokens k) r x z left
precision-takes t b left x y z n v e dot counts star none NoPrecision m r h i =
    let undotted : begins_with 46 (chars t) ≡ false = ap (begins_with 46) h.whole
    ∙ not-true (begins_with 46 r) h.ends in
    let first = dot [] r h.whole (e ∙ (ap from_bool undotted ∙ width-nil)) in
    then first (moved first.leaves (none i))
precision-takes t b left x y z n v e dot counts star none StarPrecision m r h i =
    let first = dot (codes ".") (codes "*" ++ r) h.whole
    (e ∙ ap (λ u. from_bool (begins_with 46 u)) h.whole) in
    then first (star m r first.leaves i)
precision-takes t b left x y z n v e dot counts star none (DotPrecision k) m r h i =
    let s = two-split (chars t) (part_unless (codes ".") (begins_with 42)) (count_part k) r h in
    let first = dot (codes ".") s.seam s.first.whole
    (e ∙ ap (λ u. from_bool (begins_with 46 u)) s.first.whole) in
    then first (counts k r (IsPart-moved _ _ _ _ first.leaves s.second) i)
