-- Where the texts of a piece are in the rest of the input, by the marks of their spans.
use Prim.Native.Char.{code}
use Rattle.std.proofs.Common.{◌≡◌, ◌≢◌, ◌++◌, ◌⊎◌, ℕ, Bool, true, false, [], ◌∷◌, length, refl, sym}
use Rattle.std.proofs.Common.{subst, ◌∙◌, ap, append_assoc, codes, inl, inr, Option}
use Rattle.std.proofs.Common.{Some, None}
use Rattle.std.specs.Prelude.{◌==◌, ◌||◌}
use Rattle.std.proofs.lemmas.Bool.{cond_both, false≢true, not-true, or_cases, eqb-true}
use Rattle.rustc_parse_format.specs.Characters.{Text, begins_raw, begins_with, after_first}
use Rattle.rustc_parse_format.specs.Characters.{first_passes, is_brace, is_no_brace}
use Rattle.rustc_parse_format.specs.Marks.{Mark, Start, Span}
use Rattle.rustc_parse_format.specs.Types.{Mode, Format, InlineAsm, Diagnostic, DiagnosticNamed}
use Rattle.rustc_parse_format.specs.Types.{Position, Implicit, Index, Named, Count, Is, Name, Param}
use Rattle.rustc_parse_format.specs.Types.{Star, Implied, Spec, Argument, Piece, Lit, NextArgument}
use Rattle.rustc_parse_format.specs.Spelling.{Part, IsPart, absent_part, fixed_part, identifier}
use Rattle.rustc_parse_format.specs.Spelling.{is_word}
use Rattle.rustc_parse_format.specs.Spelling.{optional_identifier, run, part_unless}
use Rattle.rustc_parse_format.specs.Syntax.{PositionText, Digits, Word, RawWord, NoPosition}
use Rattle.rustc_parse_format.specs.Syntax.{position_part, CountText, NumberCount, IndexCount}
use Rattle.rustc_parse_format.specs.Syntax.{NameCount}
use Rattle.rustc_parse_format.specs.Syntax.{NoCount, name_part, count_part, WidthText, PaddedWidth}
use Rattle.rustc_parse_format.specs.Syntax.{ZeroIndexWidth, PlainWidth, width_part, PrecisionText}
use Rattle.rustc_parse_format.specs.Syntax.{NoPrecision, StarPrecision, DotPrecision}
use Rattle.rustc_parse_format.specs.Syntax.{precision_part, TypeText, DebugHexType, CharacterType}
use Rattle.rustc_parse_format.specs.Syntax.{WordType}
use Rattle.rustc_parse_format.specs.Syntax.{is_type_character, type_part, FormatText, format_part}
use Rattle.rustc_parse_format.specs.Syntax.{fill_part, align_part, sign_part, alternate_part}
use Rattle.rustc_parse_format.specs.Syntax.{SpecText}
use Rattle.rustc_parse_format.specs.Syntax.{Default, Formatting, Modifier, DiagnosticText}
use Rattle.rustc_parse_format.specs.Syntax.{spec_part, FieldText, IsCut}
use Rattle.std.specs.Char.{is_whitespace}
use Rattle.rustc_parse_format.specs.Placeholder.{Cut, cut, cut_of}
use Rattle.rustc_parse_format.specs.Values.{number_after_spec, position_of, type_of}
use Rattle.rustc_parse_format.specs.Meaning.{argument, count_of, format_of, from_precision}
use Rattle.rustc_parse_format.specs.Meaning.{from_type, from_width, precision_of, spec_of}
use Rattle.rustc_parse_format.specs.Meaning.{type_span, width_of}
use Rattle.rustc_parse_format.specs.Meaning.{word_span}
use Rattle.rustc_parse_format.specs.Call.{Call, call, placeholder, text_call}
use Rattle.rustc_parse_format.proofs.Grammar.Fronts.{front-rest_after}
use Rattle.rustc_parse_format.proofs.Grammar.PartCuts.{cut-sound, cut-placed}
use Rattle.rustc_parse_format.proofs.Grammar.PartLaws.{IsRow, absent-same, only, opened, two-split}
use Rattle.rustc_parse_format.proofs.Readers.Placeholders.{placeholder-piece}
use Rattle.rustc_parse_format.proofs.Grammar.Rests.{IsRest, IsRest-cons, IsRest-self, IsRest-trans}

-- The texts of a piece, with spans of any kind: L is said of text, N of the name of an argument and
-- its span, and P of each other text and its span.

-- a type without a span
abbrev pub IsShort : Text → Type 0
IsShort ty = (ty ≡ []) ⊎ ((ty ≡ codes "x") ⊎ ((ty ≡ codes "X") ⊎ (ty ≡ codes "?")))

-- the text at the span of a type: in a diagnostic the colon, too
abbrev pub written_type : Mode → Text → Text
written_type Format ty = ty
written_type InlineAsm ty = ty
written_type Diagnostic ty = code ":" ∷ ty
written_type DiagnosticNamed ty = code ":" ∷ ty

abbrev pub CountTexts : {A : Type 0} → (A → Text → Type 0) → Count A → Type 0
CountTexts P (Is n) = Unit {0}
CountTexts P (Name w s) = P s w
CountTexts P (Param n) = Unit {0}
CountTexts P (Star n) = Unit {0}
CountTexts P Implied = Unit {0}

abbrev pub TypeTexts : {A : Type 0} → (A → Text → Type 0) → Mode → Text → Option A → Type 0
TypeTexts P mode ty None = IsShort ty
TypeTexts P mode ty (Some s) = P s (written_type mode ty)

pub record SpecTexts {A : Type 0} (P : A → Text → Type 0) (mode : Mode) (f : Spec A) : Type 0 where
  pub width : CountTexts P f.width
  pub precision : CountTexts P f.precision
  pub ty : TypeTexts P mode f.ty f.ty_span

abbrev pub PositionTexts : {A : Type 0} → (A → Text → Type 0) → A → Position → Type 0
PositionTexts N s (Implicit n) = Unit {0}
PositionTexts N s (Index n) = Unit {0}
PositionTexts N s (Named w) = N s w

pub record ArgumentTexts {A : Type 0} (N P : A → Text → Type 0) (mode : Mode)
    (a : Argument A) : Type 0 where
  pub position : PositionTexts N a.position_span a.position
  pub format : SpecTexts P mode a.format

abbrev pub PieceTexts : {A : Type 0} → (Text → Type 0) → (A → Text → Type 0) → (A → Text → Type 0)
    → Mode → Option (Piece A) → Type 0
PieceTexts L N P mode None = Unit {0}
PieceTexts L N P mode (Some (Lit w)) = L w
PieceTexts L N P mode (Some (NextArgument a)) = ArgumentTexts N P mode a

-- The text w, which is not empty, stands in t, and m is the mark of its start.
pub record StandsAt (t : Text) (m : Mark) (w : Text) : Type 0 where
  pub some : w ≢ []
  pub before : Text
  pub after : Text
  pub whole : t ≡ before ++ (w ++ after)
  pub mark : m ≡ Start (length (w ++ after))

-- The name w stands so, and no raw identifier does,
pub record IsPlainName (t : Text) (m : Mark) (w : Text) : Type 0 where
  pub formed : is_word w ≡ true
  pub stands : StandsAt t m w
  pub no_raw : begins_raw (w ++ stands.after) ≡ false

-- or `r#` and then the name.
pub record IsRawName (t : Text) (m : Mark) (w : Text) : Type 0 where
  pub some : w ≢ []
  pub stands : StandsAt t m (codes "r#" ++ w)

abbrev pub NameStands : Text → Mark → Text → Type 0
NameStands t m w = IsPlainName t m w ⊎ IsRawName t m w

-- text is the last that is read of t, where r is left
abbrev pub EndsAt : Text → Text → Text → Type 0
EndsAt t r w = (before : Text) × (t ≡ before ++ (w ++ r))

-- each text of a piece stands in t, and r is left
abbrev pub PieceStands : Mode → Text → Text → Option (Piece Span) → Type 0
PieceStands mode t r o = PieceTexts (EndsAt t r) (λ (s : Span) w. NameStands t s.from w)
    (λ (s : Span) w. StandsAt t s.from w) mode o

-- In a longer text.
earlier : {t u : Text} {m : Mark} {w : Text} → IsRest t u → StandsAt u m w → StandsAt t m w
earlier h x = record {
  some = x.some;
  before = h.front ++ x.before;
  after = x.after;
  whole = h.whole ∙ (ap (λ v. h.front ++ v) x.whole ∙ sym (append_assoc h.front x.before _));
  mark = x.mark;
}

at_front : (t w r : Text) → w ≢ [] → t ≡ w ++ r → StandsAt t (Start (length t)) w
at_front t w r some e = record {
  some = some;
  before = [];
  after = r;
  whole = e;
  mark = ap (λ v. Start (length v)) e;
}

is_some : (w : Text) → is_word w ≡ true → w ≢ []
is_some [] e = absurd (false≢true e)
is_some (c ∷ w) e = λ f. cc f

rest_of : {t : Text} {p : Part} {r : Text} → IsPart t p r → IsRest t r
rest_of {p = p} h = record { front = p.spelling; whole = h.whole }

-- Positions.
abbrev PositionStands : Text → Mark → Position → Type 0
PositionStands t m p = PositionTexts (λ (k : Mark) w. NameStands t k w) m p

position_stands : (t r : Text) (n : ℕ) (p : PositionText) → IsPart t (position_part p) r
    → PositionStands t (Start (length t)) (position_of n p)
unfolding at_front
position_stands t r n (Digits ds) h = tt
position_stands t r n (Word w) h =
    let s = two-split t (absent_part begins_raw) (identifier w) r h in
    let e : t ≡ w ++ r = absent-same t begins_raw s.seam s.first ∙ s.second.whole in
    inl (record {
      formed = s.second.formed;
      stands = at_front t w r (is_some w s.second.formed) e;
      no_raw = ap begins_raw (sym s.second.whole) ∙ not-true _ s.first.ends;
    })
position_stands t r n (RawWord w) h =
    let s = two-split t (fixed_part (codes "r#")) (identifier w) r h in
    inr (record {
      some = is_some w s.second.formed;
      stands = at_front t (codes "r#" ++ w) r (λ f. cc f) (s.first.whole
          ∙ ap (λ u. codes "r#" ++ u) s.second.whole);
    })
position_stands t r n NoPosition h = tt

earlier_name : (t u : Text) (m : Mark) (w : Text) → IsRest t u → NameStands u m w → NameStands t m w
unfolding earlier
earlier_name t u m w h (inl x) =
    inl (record { formed = x.formed; stands = earlier h x.stands; no_raw = x.no_raw })
earlier_name t u m w h (inr x) = inr (record { some = x.some; stands = earlier h x.stands })

earlier_position : (t u : Text) (m : Mark) (p : Position) → IsRest t u → PositionStands u m p
    → PositionStands t m p
earlier_position t u m (Implicit n) h x = tt
earlier_position t u m (Index n) h x = tt
earlier_position t u m (Named w) h x = earlier_name t u m w h x

-- Counts.
abbrev CountStands : Text → Count Span → Type 0
CountStands t k = CountTexts (λ (s : Span) w. StandsAt t s.from w) k

earlier_count : (t u : Text) (k : Count Span) → IsRest t u → CountStands u k → CountStands t k
earlier_count t u (Is n) h x = tt
earlier_count t u (Name w s) h x = earlier h x
earlier_count t u (Param n) h x = tt
earlier_count t u (Star n) h x = tt
earlier_count t u Implied h x = tt

count_stands : (t : Text) (k : CountText) (r : Text) → IsPart t (count_part k) r
    → CountStands t (count_of t k r)
count_stands t (NumberCount ds) r h = tt
count_stands t (IndexCount ds) r h = tt
count_stands t (NameCount w) r h =
    let s = two-split t (name_part w) (fixed_part (codes "$")) r h in
    at_front t w s.seam (is_some w s.first.formed) s.first.whole
count_stands t NoCount r h = tt

-- with a character in front of it
count_after : (t : Text) (p : Text → Bool) (c : ℕ) (k : CountText) (r s : Text)
    → IsPart t (part_unless (c ∷ []) p) s → IsPart s (count_part k) r
    → CountStands t (count_of (after_first t) k r)
count_after t p c k r s h i =
    subst (λ u. CountStands t (count_of u k r)) (sym (ap after_first h.whole))
    (earlier_count t s (count_of s k r) (rest_of h) (count_stands s k r i))

width_stands : (t : Text) (x : WidthText) (r : Text) → IsPart t (width_part x) r
    → CountStands t (width_of t x r)
width_stands t (PaddedWidth k) r h =
    let s = two-split t (part_unless (codes "0") (begins_with (code "$"))) (count_part k) r h in
    count_after t (begins_with (code "$")) (code "0") k r s.seam s.first s.second
width_stands t ZeroIndexWidth r h = tt
width_stands t (PlainWidth k) r h =
    let s = two-split t (absent_part (begins_with (code "0"))) (count_part k) r h in
    let e : t ≡ s.seam = absent-same t (begins_with (code "0")) s.seam s.first in
    subst (λ u. CountStands u (count_of u k r)) (sym e) (count_stands s.seam k r s.second)

precision_stands : (n : ℕ) (t : Text) (x : PrecisionText) (r : Text) → IsPart t (precision_part x) r
    → CountStands t (precision_of n t x r)
precision_stands n t NoPrecision r h = tt
precision_stands n t StarPrecision r h = tt
precision_stands n t (DotPrecision k) r h =
    let s = two-split t (part_unless (codes ".") (begins_with (code "*"))) (count_part k) r h in
    count_after t (begins_with (code "*")) (code ".") k r s.seam s.first s.second

-- Types.
abbrev TypeStands : Mode → Text → Text → Option Span → Type 0
TypeStands mode t ty o = TypeTexts (λ (s : Span) w. StandsAt t s.from w) mode ty o

earlier_type : (mode : Mode) (t u ty : Text) (o : Option Span) → IsRest t u → TypeStands mode u ty o
    → TypeStands mode t ty o
earlier_type mode t u ty None h x = x
earlier_type mode t u ty (Some s) h x = earlier h x

short_type : (c : ℕ) → is_type_character c ≡ true → IsShort (c ∷ [])
short_type c e = by_sign (or_cases _ _ e)
  where
    by_hex : ((c == code "x") ≡ true) ⊎ ((c == code "X") ≡ true) → IsShort (c ∷ [])
    by_hex (inl f) = inr (inl (ap (λ d. d ∷ []) (eqb-true c (code "x") f)))
    by_hex (inr f) = inr (inr (inl (ap (λ d. d ∷ []) (eqb-true c (code "X") f))))

    by_sign : (((c == code "x") || (c == code "X")) ≡ true) ⊎ ((c == code "?") ≡ true)
        → IsShort (c ∷ [])
    by_sign (inl f) = by_hex (or_cases _ _ f)
    by_sign (inr f) = inr (inr (inr (ap (λ d. d ∷ []) (eqb-true c (code "?") f))))

word_stands : (t w r : Text) → t ≡ w ++ r → TypeStands Format t w (word_span t w r)
word_stands t [] r e = inl refl
word_stands t (c ∷ w) r e = at_front t (c ∷ w) r (λ f. cc f) e

optional_whole : (t w r : Text) → IsPart t (optional_identifier w) r → t ≡ w ++ r
optional_whole t [] r h = h.whole
optional_whole t (c ∷ w) r h = h.whole

type_stands : (t : Text) (y : TypeText) (r : Text) → IsPart t (type_part y) r
    → TypeStands Format t (type_of y) (type_span t y r)
type_stands t (DebugHexType d) r h = inr (inr (inr refl))
type_stands t (CharacterType c) r h = short_type c h.formed
type_stands t (WordType w) r h =
    let s = two-split t (absent_part (first_passes is_type_character))
    (optional_identifier w) r h in
    word_stands t w r (absent-same t _ s.seam s.first ∙ optional_whole s.seam w r s.second)

-- Specifications.
abbrev SpecStands : Mode → Text → Spec Span → Type 0
SpecStands mode t f = SpecTexts (λ (s : Span) w. StandsAt t s.from w) mode f

earlier_spec : (mode : Mode) (t u : Text) (f : Spec Span) → IsRest t u → SpecStands mode u f
    → SpecStands mode t f
earlier_spec mode t u f h x = record {
  width = earlier_count t u f.width h x.width;
  precision = earlier_count t u f.precision h x.precision;
  ty = earlier_type mode t u f.ty f.ty_span h x.ty;
}

format_stands : (n : ℕ) (o t : Text) (p : FormatText) (r : Text) → IsPart t (format_part p) r
    → SpecStands Format t (format_of n o p r)
unfolding format_of
format_stands n o t p r h =
    let whole : IsRow t (fill_part p.fill ∷ align_part p.align ∷ sign_part p.sign
    ∷ alternate_part p.alternate ∷ width_part p.width ∷ precision_part
    p.precision ∷ type_part p.type ∷ []) r = record { part = h } in
    let f = opened whole in
    let a = opened f.others in
    let g = opened a.others in
    let b = opened g.others in
    let w = opened b.others in
    let c = opened w.others in
    let y = only c.others in
    let at_type : c.seam ≡ from_type p r = y.whole in
    let at_precision : w.seam ≡ from_precision p r = c.first.whole
    ∙ ap (λ u. (precision_part p.precision).spelling ++ u) at_type in
    let at_width : b.seam ≡ from_width p r = w.first.whole
    ∙ ap (λ u. (width_part p.width).spelling ++ u) at_precision in
    let to_width = IsRest-trans (rest_of f.first)
    (IsRest-trans (rest_of a.first) (IsRest-trans (rest_of g.first) (rest_of b.first))) in
    let to_precision = IsRest-trans to_width (rest_of w.first) in
    let to_type = IsRest-trans to_precision (rest_of c.first) in
    let width : CountStands t (width_of b.seam p.width w.seam) =
    earlier_count t b.seam _ to_width (width_stands b.seam p.width w.seam w.first) in
    let precision : CountStands t (precision_of n w.seam p.precision c.seam) =
    earlier_count t w.seam _ to_precision (precision_stands n w.seam p.precision c.seam c.first) in
    let ty : TypeStands Format t (type_of p.type) (type_span c.seam p.type r) =
    earlier_type Format t c.seam _ (type_span c.seam p.type r) to_type
    (type_stands c.seam p.type r y) in
    record {
      width = subst (λ u. CountStands t (width_of u p.width (from_precision p r))) at_width
          (subst (λ u. CountStands t (width_of b.seam p.width u)) at_precision width);
      precision =
          subst (λ u. CountStands t (precision_of n u p.precision (from_type p r))) at_precision
          (subst (λ u. CountStands t (precision_of n w.seam p.precision u)) at_type precision);
      ty = subst (λ u. TypeStands Format t (type_of p.type) (type_span u p.type r)) at_type ty;
    }

modifier_stands : (n : ℕ) (t w r : Text) → IsPart t (spec_part InlineAsm (Modifier w)) r
    → SpecStands InlineAsm t (spec_of n t (Modifier w) r)
modifier_stands n t w r h =
    let s = two-split t (fixed_part (codes ":")) (optional_identifier w) r h in
    let ty : TypeStands InlineAsm t w (word_span s.seam w r) =
    earlier_type InlineAsm t s.seam w (word_span s.seam w r) (rest_of s.first)
    (word_stands s.seam w r (optional_whole s.seam w r s.second)) in
    record {
      width = tt;
      precision = tt;
      ty = subst (λ u. TypeStands InlineAsm t w (word_span u w r))
          (sym (ap after_first s.first.whole)) ty;
    }

text_stands : (t u r : Text) → IsPart t (spec_part Diagnostic (DiagnosticText u)) r
    → StandsAt t (Start (length t)) (code ":" ∷ u)
text_stands t u r h =
    let s = two-split t (fixed_part (codes ":")) (run is_no_brace u) r h in
    at_front t (code ":" ∷ u) r (λ f. cc f) (s.first.whole ∙ ap (λ v. code ":" ∷ v) s.second.whole)

spec_stands : (mode : Mode) (n : ℕ) (t : Text) (s : SpecText) (r : Text)
    → IsPart t (spec_part mode s) r → SpecStands mode t (spec_of n t s r)
spec_stands mode n t Default r h = record { width = tt; precision = tt; ty = inl refl }
spec_stands Format n t (Formatting p) r h =
    let s = two-split t (fixed_part (codes ":")) (format_part p) r h in
    earlier_spec Format t s.seam (format_of n (after_first t) p r) (rest_of s.first)
    (format_stands n (after_first t) s.seam p r s.second)
spec_stands InlineAsm n t (Modifier w) r h = modifier_stands n t w r h
spec_stands Diagnostic n t (DiagnosticText u) r h =
    record { width = tt; precision = tt; ty = text_stands t u r h }
spec_stands DiagnosticNamed n t (DiagnosticText u) r h =
    record { width = tt; precision = tt; ty = text_stands t u r h }
spec_stands Format n t (Modifier w) r h = absurd (false≢true h.formed)
spec_stands Format n t (DiagnosticText u) r h = absurd (false≢true h.formed)
spec_stands InlineAsm n t (Formatting p) r h = absurd (false≢true h.formed)
spec_stands InlineAsm n t (DiagnosticText u) r h = absurd (false≢true h.formed)
spec_stands Diagnostic n t (Formatting p) r h = absurd (false≢true h.formed)
spec_stands Diagnostic n t (Modifier w) r h = absurd (false≢true h.formed)
spec_stands DiagnosticNamed n t (Formatting p) r h = absurd (false≢true h.formed)
spec_stands DiagnosticNamed n t (Modifier w) r h = absurd (false≢true h.formed)

-- Arguments.
abbrev ArgumentStands : Mode → Text → Argument Span → Type 0
ArgumentStands mode t a = ArgumentTexts (λ (s : Span) w. NameStands t s.from w)
    (λ (s : Span) w. StandsAt t s.from w) mode a

placed_stands : (mode : Mode) (n : ℕ) (t : Text) (a : FieldText) (r : Text) → IsCut mode t a r
    → ArgumentStands mode t (argument n (cut_of mode a r))
unfolding argument
placed_stands mode n t a r h =
    let whole : IsRow t (position_part a.position ∷ run is_whitespace a.space
    ∷ spec_part mode a.spec ∷ []) r = record { part = h } in
    let p = opened whole in
    let w = opened p.others in
    let s = only w.others in
    let format : SpecStands mode t (spec_of n w.seam a.spec r) =
    earlier_spec mode t w.seam (spec_of n w.seam a.spec r)
    (IsRest-trans (rest_of p.first) (rest_of w.first)) (spec_stands mode n w.seam a.spec r s) in
    record {
      position =
          subst (λ u. PositionStands t (Start (length u))
          (position_of (number_after_spec n a.spec) a.position)) h.whole
          (position_stands t p.seam (number_after_spec n a.spec) a.position p.first);
      format = subst (λ u. SpecStands mode t (spec_of n u a.spec r)) s.whole format;
    }

argument_stands : (mode : Mode) (n : ℕ) (t : Text) → ArgumentStands mode t (argument n (cut mode t))
argument_stands mode n t =
    let sound = cut-sound mode t in
    subst (λ (a : Cut). ArgumentStands mode t (argument n a))
    (sym (cut-placed mode t (cut mode t).field (cut mode t).rest sound))
    (placed_stands mode n t (cut mode t).field (cut mode t).rest sound)

earlier_argument : (mode : Mode) (t u : Text) (a : Argument Span) → IsRest t u
    → ArgumentStands mode u a → ArgumentStands mode t a
earlier_argument mode t u a h x = record {
  position = earlier_position t u a.position_span.from a.position h x.position;
  format = earlier_spec mode t u a.format h x.format;
}

-- Calls.
begun_by : (b : ℕ) (t : Text) → begins_with b t ≡ true → t ≡ b ∷ after_first t
begun_by b [] e = absurd (false≢true e)
begun_by b (c ∷ t) e = ap (λ x. x ∷ t) (eqb-true c b e)

doubled_stands : (mode : Mode) (n b : ℕ) (t : Text) → begins_with b t ≡ true
    → PieceStands mode (b ∷ t) (text_call n (b ∷ []) (after_first t)).rest
    (text_call n (b ∷ []) (after_first t)).piece
doubled_stands mode n b t e = (
  b ∷ [],
  ap (λ u. b ∷ u) (begun_by b t e
      ∙ ap (λ u. b ∷ u) (front-rest_after is_no_brace (after_first t))),
)

placeholder_stands : (mode : Mode) (n b : ℕ) (t : Text)
    → PieceStands mode (b ∷ t) (placeholder mode n (b ∷ t) t).rest
    (placeholder mode n (b ∷ t) t).piece
placeholder_stands mode n b t =
    subst (λ o. PieceStands mode (b ∷ t) (placeholder mode n (b ∷ t) t).rest o)
    (sym (placeholder-piece mode n (b ∷ t) t))
    (earlier_argument mode (b ∷ t) t (argument n (cut mode t)) (IsRest-cons b (IsRest-self t))
    (argument_stands mode n t))

-- Each text of the piece of a call stands in its text.
pub call_stands : (mode : Mode) (n : ℕ) (t : Text)
    → PieceStands mode t (call mode n t).rest (call mode n t).piece
unfolding call
call_stands mode n [] = tt
call_stands mode n (b ∷ t) =
    cond_both {A = Call} (is_brace b) _ _ (λ k. PieceStands mode (b ∷ t) k.rest k.piece)
    (λ e. cond_both {A = Call} (begins_with b t) _ _ (λ k. PieceStands mode (b ∷ t) k.rest k.piece)
    (λ d. doubled_stands mode n b t d)
    (λ d. cond_both {A = Call} (b == code "{") _ _ (λ k. PieceStands mode (b ∷ t) k.rest k.piece)
    (λ o. placeholder_stands mode n b t) (λ o. tt)))
    (λ e. ([], front-rest_after is_no_brace (b ∷ t)))
