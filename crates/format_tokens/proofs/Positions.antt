-- The tokens of a position, by what it means.
use Rattle.std.proofs.Common.{◌≡◌, ℕ, ◌++◌, Bool, true, false, cond, List, [], ◌∷◌, chars, refl}
use Rattle.std.proofs.Common.{sym, ap, ◌∙◌, codes}
use Rattle.std.specs.Prelude.{◌&&◌}
use Rattle.std.specs.Char.{is_ascii_digit}
use Rattle.std.proofs.lemmas.Bool.{and_parts, and_from, eq-eqb, eqb-true, false≢true, not-true}
use Rattle.std.proofs.lemmas.Bool.{false_from_ne_true}
use Rattle.rustc_parse_format.specs.Characters.{Text, begins_raw, begins_with, after_first}
use Rattle.rustc_parse_format.specs.Characters.{byte_length, first_passes, front, is_id_start}
use Rattle.rustc_parse_format.specs.Spelling.{IsPart, absent_part, fixed_part, identifier, is_word}
use Rattle.rustc_parse_format.specs.Syntax.{PositionText, Digits, Word, RawWord, NoPosition}
use Rattle.rustc_parse_format.specs.Syntax.{position_part}
use Rattle.rustc_parse_format.specs.Types.{Index, Named}
use Rattle.rustc_parse_format.specs.Values.{position_of}
use Rattle.rustc_parse_format.proofs.Grammar.PartLaws.{absent-same, two-split}
use Rattle.format_tokens.specs.declared.kinds.Kind.TheVariants.{Identifier, RawPrefix}
use Rattle.format_tokens.specs.declared.kinds.Label.{Label as Sized}
use Rattle.format_tokens.specs.Labels.{Adds, names_raw}
use Rattle.format_tokens.specs.Tokens.{integer_kind, position_tokens, word_kind}
use Rattle.format_tokens.proofs.Counts.{integer-kind, integer-width}
use Rattle.format_tokens.proofs.Taking.{Takes, as_kind, then, width-nil}

pub position-is : (t left : List ℕ) (x y : List Sized) (n w : ℕ)
    → n ≡ byte_length (front is_ascii_digit (chars t))
    → Takes (integer_kind (front is_ascii_digit (chars t))) n t x y left
    → (p : PositionText) (c : ℕ) (r : Text) → IsPart (chars t) (position_part p) r
    → Index w ≡ position_of c p → Adds (position_tokens p) r x y left
position-is t left x y n w e takes (Digits ds) c r h v =
    as_kind ds (integer-kind (chars t) ds r h)
    (takes ds r h.whole (e ∙ integer-width (chars t) ds r h))
position-is t left x y n w e takes (Word u) c r h v = absurd (cc v)
position-is t left x y n w e takes (RawWord u) c r h v = absurd (cc v)
position-is t left x y n w e takes NoPosition c r h v = absurd (cc v)

begins-passes : (p : ℕ → Bool) (c : ℕ) (t : Text) → p c ≡ true → begins_with c t ≡ true
    → first_passes p t ≡ true
begins-passes p c [] h e = absurd (false≢true e)
begins-passes p c (d ∷ t) h e = ap p (eqb-true d c e) ∙ h

-- A text that begins with `r#` and the start of a word begins with a raw identifier.
raw_from_names : (t w : Text) → is_word w ≡ true → names_raw t w ≡ true → begins_raw t ≡ true
raw_from_names t [] i e = absurd (false≢true e)
raw_from_names t (c ∷ w) i e =
    let a = and_parts (begins_with 114 t && begins_with 35 (after_first t)) _ e in
    let b = and_parts (begins_with 114 t) (begins_with 35 (after_first t)) a.0 in
    and_from _ _ b.0 (and_from _ _ b.1
    (begins-passes is_id_start c (after_first (after_first t)) (and_parts _ _ i).0 a.1))

names_raw-raw : (w r : Text) → is_word w ≡ true → names_raw (codes "r#" ++ (w ++ r)) w ≡ true
names_raw-raw [] r i = absurd (false≢true i)
names_raw-raw (c ∷ w) r i = eq-eqb c c refl

-- The byte length of a prefix that is there, or not.
abbrev pub prefix_width : Bool → ℕ
prefix_width b = cond b 2 0

pub position-named : (t d left : List ℕ) (x y z : List Sized) (w : Text) (m n : ℕ)
    → m ≡ prefix_width (names_raw (chars t) w) → n ≡ byte_length w
    → Takes RawPrefix m t x y d → Takes (word_kind Identifier w) n d y z left
    → (p : PositionText) (c : ℕ) (r : Text) → IsPart (chars t) (position_part p) r
    → Named w ≡ position_of c p → Adds (position_tokens p) r x z left
position-named t d left x y z w m n e f prefix takes (Word v) c r h i =
    let s = two-split (chars t) (absent_part begins_raw) (identifier v) r h in
    let same : w ≡ v = cc i in
    let here : chars t ≡ s.seam = absent-same (chars t) begins_raw s.seam s.first in
    let plain : names_raw (chars t) w ≡ false = false_from_ne_true _
    (λ raw. false≢true (sym (not-true (begins_raw s.seam) s.first.ends)
    ∙ ap begins_raw (sym here)
    ∙ raw_from_names (chars t) v s.second.formed (ap (names_raw (chars t)) (sym same) ∙ raw))) in
    let first = prefix [] s.seam here (e ∙ ap prefix_width plain ∙ width-nil) in
    then first (as_kind v (ap (word_kind Identifier) same)
    (takes v r (first.leaves ∙ s.second.whole) (f ∙ ap byte_length same)))
position-named t d left x y z w m n e f prefix takes (RawWord v) c r h i =
    let s = two-split (chars t) (fixed_part (codes "r#")) (identifier v) r h in
    let same : w ≡ v = cc i in
    let whole : chars t ≡ codes "r#" ++ (v ++ r) = s.first.whole
    ∙ ap (λ u. codes "r#" ++ u) s.second.whole in
    let raw : names_raw (chars t) w ≡ true =
    ap (λ u. names_raw u w) whole ∙ ap (λ u. names_raw (codes "r#" ++ (v ++ r)) u) same
    ∙ names_raw-raw v r s.second.formed in
    let first = prefix (codes "r#") s.seam s.first.whole (e ∙ ap prefix_width raw) in
    then first (as_kind v (ap (word_kind Identifier) same)
    (takes v r (first.leaves ∙ s.second.whole) (f ∙ ap byte_length same)))
position-named t d left x y z w m n e f prefix takes (Digits ds) c r h i = absurd (cc i)
position-named t d left x y z w m n e f prefix takes NoPosition c r h i = absurd (cc i)
