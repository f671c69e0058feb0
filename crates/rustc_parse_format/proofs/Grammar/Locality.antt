-- A piece is written the same if less follows it. A placeholder ends at its brace, and no part
-- depends on what is after the brace. Only a fill may, and with less after it a fill is read no
-- more often.
use Prim.Native.Char.{code}
use Rattle.std.proofs.Common.{◌≡◌, ◌++◌, ℕ, Bool, true, false, not, [], ◌∷◌, List, refl, sym, ◌∙◌}
use Rattle.std.proofs.Common.{ap, append_assoc, Option, Some, None, cond, codes}
use Rattle.std.specs.Prelude.{◌==◌, ◌||◌, ◌&&◌}
use Rattle.std.proofs.lemmas.Bool.{and_parts, and_from, not_from_false, not-true}
use Rattle.unicode_ident.proofs.Computing.{unicode_ident}
use Rattle.std.specs.Char.{is_ascii_digit, is_whitespace}
use Rattle.rustc_parse_format.specs.Characters.{Text, is_align, is_no_brace, is_id_start}
use Rattle.rustc_parse_format.specs.Characters.{is_id_continue, rest_after, after_word, after_first}
use Rattle.rustc_parse_format.specs.Characters.{begins_with}
use Rattle.rustc_parse_format.specs.Characters.{begins_raw, first_passes}
use Rattle.rustc_parse_format.specs.Types.{Mode, Format, InlineAsm, Diagnostic, DiagnosticNamed}
use Rattle.rustc_parse_format.specs.Types.{Alignment, Left}
use Rattle.rustc_parse_format.specs.Types.{Right, Center, Unknown, Sign, Plus, Minus, Lower, Upper}
use Rattle.rustc_parse_format.specs.Spelling.{Part, IsPart, row, fixed_part, part_unless}
use Rattle.rustc_parse_format.specs.Spelling.{absent_part, run}
use Rattle.rustc_parse_format.specs.Spelling.{integer, identifier, optional_identifier}
use Rattle.rustc_parse_format.specs.Spelling.{begins_with_part}
use Rattle.rustc_parse_format.proofs.Grammar.PartNames.{begins_count, begins_with_part-count}
use Rattle.rustc_parse_format.specs.Syntax.{PositionText, Digits, Word, RawWord, NoPosition}
use Rattle.rustc_parse_format.specs.Syntax.{position_part, fill_part, align_part, is_sign}
use Rattle.rustc_parse_format.specs.Syntax.{sign_part}
use Rattle.rustc_parse_format.specs.Syntax.{alternate_part, CountText, NumberCount, IndexCount}
use Rattle.rustc_parse_format.specs.Syntax.{NameCount, NoCount, name_part, count_part, WidthText}
use Rattle.rustc_parse_format.specs.Syntax.{PaddedWidth}
use Rattle.rustc_parse_format.specs.Syntax.{ZeroIndexWidth, PlainWidth, width_part, PrecisionText}
use Rattle.rustc_parse_format.specs.Syntax.{NoPrecision, StarPrecision, DotPrecision}
use Rattle.rustc_parse_format.specs.Syntax.{precision_part}
use Rattle.rustc_parse_format.specs.Syntax.{TypeText, DebugHexType, CharacterType, WordType}
use Rattle.rustc_parse_format.specs.Syntax.{is_type_character, type_part, FormatText, format_part}
use Rattle.rustc_parse_format.specs.Syntax.{SpecText}
use Rattle.rustc_parse_format.specs.Syntax.{Default, Formatting, Modifier, DiagnosticText}
use Rattle.rustc_parse_format.specs.Syntax.{spec_part, FieldText, field_part, placeholder_part}
use Rattle.rustc_parse_format.specs.Syntax.{PieceText}
use Rattle.rustc_parse_format.specs.Syntax.{RunText, DoubledText, PlaceholderText, piece_part}

-- with z gone from after the brace, what passed still passes
abbrev IsLocal : (Text → Bool) → Type 0
IsLocal f = (u q z : Text) → f (u ++ 125 ∷ (q ++ z)) ≡ true → f (u ++ 125 ∷ q) ≡ true

-- the text after the brace makes no difference
abbrev IsBlind : (Text → Bool) → Type 0
IsBlind f = (u r s : Text) → f (u ++ 125 ∷ r) ≡ f (u ++ 125 ∷ s)

blind : (f : Text → Bool) → IsBlind f → IsLocal f
blind f h u q z e = h u q (q ++ z) ∙ e

blind_not : (f : Text → Bool) → IsBlind f → IsLocal (λ t. not (f t))
blind_not f h u q z e = ap not (h u q (q ++ z)) ∙ e

always : IsLocal (λ t. true)
always u q z e = refl

first_passes-blind : (p : ℕ → Bool) → IsBlind (first_passes p)
first_passes-blind p [] r s = refl
first_passes-blind p (c ∷ u) r s = refl

begins_with-blind : (c : ℕ) → IsBlind (begins_with c)
begins_with-blind c [] r s = refl
begins_with-blind c (d ∷ u) r s = refl

-- the rest after a front that the brace ends
abbrev IsLeft : (Text → Text) → Text → Type 0
IsLeft f u = (left : Text) × ((r : Text) → f (u ++ 125 ∷ r) ≡ left ++ 125 ∷ r)

rest_after-left : (p : ℕ → Bool) → p 125 ≡ false → (u : Text) → IsLeft (rest_after p) u
rest_after-left p h [] = ([], λ r. rw h refl)
rest_after-left p h (c ∷ u) =
    elim (p c) as (λ b. (left : Text)
    × ((r : Text) → cond b (rest_after p (u ++ 125 ∷ r)) (c ∷ u ++ 125 ∷ r) ≡ left ++ 125 ∷ r)) [
      | true ↦ rest_after-left p h u
      | false ↦ (c ∷ u, λ r. refl)
    ]

word-left : (u : Text) → IsLeft after_word u
unfolding after_word unicode_ident
word-left [] = ([], λ r. refl)
word-left (c ∷ u) =
    elim (is_id_start c) as (λ b. (left : Text)
    × ((r : Text) → cond b (rest_after is_id_continue (u ++ 125 ∷ r)) (c ∷ u ++ 125 ∷ r)
    ≡ left ++ 125 ∷ r)) [
      | true ↦ rest_after-left is_id_continue refl u
      | false ↦ (c ∷ u, λ r. refl)
    ]

count-blind : IsBlind begins_count
count-blind u r s =
    let w = word-left u in
    let name : begins_with (code "$") (after_word (u ++ 125 ∷ r))
    ≡ begins_with (code "$") (after_word (u ++ 125 ∷ s)) =
    ap (begins_with (code "$")) (w.1 r)
    ∙ (begins_with-blind (code "$") w.0 r s ∙ ap (begins_with (code "$")) (sym (w.1 s))) in
    ap (λ b. b || (first_passes is_id_start (u ++ 125 ∷ r)
    && begins_with (code "$") (after_word (u ++ 125 ∷ r))))
    (first_passes-blind is_ascii_digit u r s)
    ∙ (ap (λ b. first_passes is_ascii_digit (u ++ 125 ∷ s)
    || (b && begins_with (code "$") (after_word (u ++ 125 ∷ r))))
    (first_passes-blind is_id_start u r s)
    ∙ ap (λ b. first_passes is_ascii_digit (u ++ 125 ∷ s)
    || (first_passes is_id_start (u ++ 125 ∷ s) && b)) name)

abbrev PartIsLocal : Part → Type 0
PartIsLocal p = IsLocal p.may_precede

-- A row is local where its parts are.
abbrev AreLocal : List Part → Type 0
AreLocal [] = Unit {0}
AreLocal (p ∷ ps) = PartIsLocal p × AreLocal ps

row-local : (ps : List Part) → AreLocal ps → PartIsLocal (row ps)
row-local [] h u q z e = refl
row-local (p ∷ ps) h u q z e =
    let both = and_parts _ _ e in
    let w = (row ps).spelling in
    let far = h.0 (w ++ u) q z (ap p.may_precede (append_assoc w u (125 ∷ (q ++ z))) ∙ both.0) in
    and_from _ _ (ap p.may_precede (sym (append_assoc w u (125 ∷ q))) ∙ far)
    (row-local ps h.1 u q z both.1)

two-local : (p q : Part) → PartIsLocal p → PartIsLocal q → PartIsLocal (row (p ∷ q ∷ []))
two-local p q h k = row-local (p ∷ q ∷ []) (h, (k, tt))

class_ends : (p : ℕ → Bool) → IsLocal (λ t. not (first_passes p t))
class_ends p = blind_not (first_passes p) (first_passes-blind p)

letter_ends : (c : ℕ) → IsLocal (λ t. not (begins_with c t))
letter_ends c = blind_not (begins_with c) (begins_with-blind c)

either-blind : (p q : ℕ → Bool) → IsBlind (λ t. first_passes p t || first_passes q t)
either-blind p q [] r s = refl
either-blind p q (c ∷ u) r s = refl

raw-blind : IsBlind begins_raw
raw-blind [] r s = refl
raw-blind (c ∷ []) r s = refl
raw-blind (c ∷ d ∷ []) r s = refl
raw-blind (c ∷ d ∷ e ∷ u) r s = refl

position-local : (p : PositionText) → PartIsLocal (position_part p)
position-local (Digits ds) = class_ends is_ascii_digit
position-local (Word w) = two-local (absent_part begins_raw) (identifier w)
    (blind_not begins_raw raw-blind) (class_ends is_id_continue)
position-local (RawWord w) = two-local (fixed_part (codes "r#")) (identifier w) always
    (class_ends is_id_continue)
position-local NoPosition = blind_not (λ t. first_passes is_ascii_digit t
    || first_passes is_id_start t) (either-blind is_ascii_digit is_id_start)

fill-local : (f : Option ℕ) → PartIsLocal (fill_part f)
fill-local (Some c) = blind (first_passes is_align) (first_passes-blind is_align)
fill-local None = second
  where
    second : IsLocal (λ t. not (first_passes is_align (after_first t)))
    second [] [] z e = refl
    second [] (d ∷ q) z e = e
    second (c ∷ u) q z e = class_ends is_align u q z e

align-local : (a : Alignment) → PartIsLocal (align_part a)
align-local Left = always
align-local Right = always
align-local Center = always
align-local Unknown = class_ends is_align

sign-local : (g : Option Sign) → PartIsLocal (sign_part g)
sign-local (Some Plus) = always
sign-local (Some Minus) = always
sign-local None = class_ends is_sign

alternate-local : (b : Bool) → PartIsLocal (alternate_part b)
alternate-local true = always
alternate-local false = letter_ends (code "#")

count-local : (k : CountText) → PartIsLocal (count_part k)
count-local (NumberCount ds) = two-local (integer ds) (absent_part (begins_with (code "$")))
    (class_ends is_ascii_digit) (letter_ends (code "$"))
count-local (IndexCount ds) = two-local (integer ds) (fixed_part (codes "$"))
    (class_ends is_ascii_digit) always
count-local (NameCount w) = two-local (name_part w) (fixed_part (codes "$"))
    (blind (begins_with (code "$")) (begins_with-blind (code "$"))) always
count-local NoCount = blind_not (λ t. first_passes is_ascii_digit t || begins_with_part name_part t)
    (λ u r s. begins_with_part-count (u ++ 125 ∷ r)
    ∙ (count-blind u r s ∙ sym (begins_with_part-count (u ++ 125 ∷ s))))

width-local : (w : WidthText) → PartIsLocal (width_part w)
width-local (PaddedWidth k) = two-local (part_unless (codes "0") (begins_with (code "$")))
    (count_part k)
    (letter_ends (code "$")) (count-local k)
width-local ZeroIndexWidth = always
width-local (PlainWidth k) = two-local (absent_part (begins_with (code "0"))) (count_part k)
    (letter_ends (code "0")) (count-local k)

precision-local : (p : PrecisionText) → PartIsLocal (precision_part p)
precision-local NoPrecision = letter_ends (code ".")
precision-local StarPrecision = always
precision-local (DotPrecision k) =
    two-local (part_unless (codes ".") (begins_with (code "*"))) (count_part k)
    (letter_ends (code "*"))
    (count-local k)

word-local : (w : Text) → PartIsLocal (optional_identifier w)
word-local [] = class_ends is_id_start
word-local (c ∷ w) = class_ends is_id_continue

type-local : (y : TypeText) → PartIsLocal (type_part y)
type-local (DebugHexType Lower) = always
type-local (DebugHexType Upper) = always
type-local (CharacterType c) = λ u q z e. ap (λ b. (c == code "?") || not b)
    (begins_with-blind (code "?") u q (q ++ z)) ∙ e
type-local (WordType w) = two-local (absent_part (first_passes is_type_character))
    (optional_identifier w) (class_ends is_type_character) (word-local w)

format-local : (p : FormatText) → PartIsLocal (format_part p)
format-local p =
    row-local (fill_part p.fill ∷ align_part p.align ∷ sign_part p.sign ∷ alternate_part p.alternate
    ∷ width_part p.width ∷ precision_part p.precision ∷
    type_part p.type ∷ []) (
      fill-local p.fill,
      (
        align-local p.align,
        (
          sign-local p.sign,
          (
            alternate-local p.alternate,
            (width-local p.width, (precision-local p.precision, (type-local p.type, tt))),
          ),
        ),
      ),
    )

spec-local : (mode : Mode) (s : SpecText) → PartIsLocal (spec_part mode s)
spec-local mode Default = letter_ends (code ":")
spec-local Format (Formatting p) =
    two-local (fixed_part (codes ":")) (format_part p) always (format-local p)
spec-local Format (Modifier w) = always
spec-local Format (DiagnosticText u) = always
spec-local InlineAsm (Formatting p) = always
spec-local InlineAsm (Modifier w) =
    two-local (fixed_part (codes ":")) (optional_identifier w) always (word-local w)
spec-local InlineAsm (DiagnosticText u) = always
spec-local Diagnostic (Formatting p) = always
spec-local Diagnostic (Modifier w) = always
spec-local Diagnostic (DiagnosticText u) =
    two-local (fixed_part (codes ":")) (run is_no_brace u) always (class_ends is_no_brace)
spec-local DiagnosticNamed (Formatting p) = always
spec-local DiagnosticNamed (Modifier w) = always
spec-local DiagnosticNamed (DiagnosticText u) =
    two-local (fixed_part (codes ":")) (run is_no_brace u) always (class_ends is_no_brace)

field-local : (mode : Mode) (a : FieldText) → PartIsLocal (field_part mode a)
field-local mode a =
    row-local (position_part a.position ∷ run is_whitespace a.space ∷ spec_part mode a.spec ∷ [])
    (position-local a.position, (class_ends is_whitespace, (spec-local mode a.spec, tt)))

placeholder-local : (mode : Mode) (a : FieldText) (w t q z : Text)
    → IsPart t (placeholder_part mode a w) (q ++ z) →
    IsPart ((placeholder_part mode a w).spelling ++ q) (placeholder_part mode a w) q
placeholder-local mode a w t q z h =
    let after_field : (field_part mode a).may_precede (w ++ 125 ∷ [] ++ (q ++ z))
    ≡ true = (and_parts _ _ (and_parts true _ h.ends).1).0 in
    let far =
    field-local mode a w q z
    (ap (field_part mode a).may_precede (sym (append_assoc w (125 ∷ []) (q ++ z)))
    ∙ after_field) in
    record {
      whole = refl;
      formed = h.formed;
      ends = and_from ((field_part mode a).may_precede (w ++ 125 ∷ [] ++ q)) true
          (ap (field_part mode a).may_precede (append_assoc w (125 ∷ []) q) ∙ far) refl;
    }

-- a run ends where less follows too
run-local : (p : ℕ → Bool) (q z : Text) → first_passes p (q ++ z) ≡ false → first_passes p q ≡ false
run-local p [] z e = refl
run-local p (c ∷ q) z e = e

-- So a piece that is written in front of q and z is written in front of q alone.
pub piece-local : (mode : Mode) (x : PieceText) (t q z : Text)
    → IsPart t (piece_part mode x) (q ++ z) →
    IsPart ((piece_part mode x).spelling ++ q) (piece_part mode x) q
piece-local mode (RunText u) t q z h =
    record {
      whole = refl;
      formed = h.formed;
      ends = not_from_false _ (run-local is_no_brace q z (not-true _ h.ends));
    }
piece-local mode (DoubledText b u) t q z h =
    let p = and_parts _ _ (and_parts true _ h.ends).1 in
    record {
      whole = refl;
      formed = h.formed;
      ends = and_from true _ refl
          (and_from _ true (not_from_false _ (run-local is_no_brace q z (not-true _ p.0))) refl);
    }
piece-local mode (PlaceholderText a w) t q z h = placeholder-local mode a w t q z h
