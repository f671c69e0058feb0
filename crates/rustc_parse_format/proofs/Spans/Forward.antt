-- Each span of an argument, of its faults and of a placeholder that is closed is forward in the
-- text that is read.
use Rattle.std.proofs.Common.{◌≡◌, ℕ, ◌+◌, ◌-◌, ◌≤◌, ◌++◌, ◌==◌, Bool, true, false, not, ◌&&◌, List}
use Rattle.std.proofs.Common.{[], ◌∷◌, length, refl, ap, ◌∙◌, arith, Option, Some, None}
use Rattle.std.proofs.Common.{length-append, codes, cond}
use Rattle.std.specs.Prelude.{bytes_eq, is_some}
use Rattle.std.specs.List.{AllByRecursion}
use Rattle.std.proofs.lemmas.Bool.{false≢true}
use Rattle.rustc_parse_format.specs.Characters.{Text, word, after_word, digits, after_digits}
use Rattle.rustc_parse_format.specs.Characters.{first, after_first, after_prefix, after_white}
use Rattle.rustc_parse_format.specs.Characters.{is_over}
use Rattle.rustc_parse_format.specs.Spelling.{IsPart, fixed_part, optional_identifier}
use Rattle.rustc_parse_format.specs.Types.{Mode, Format, InlineAsm, Diagnostic, DiagnosticNamed}
use Rattle.rustc_parse_format.specs.Types.{wants_names, Position, NextArgument}
use Rattle.rustc_parse_format.specs.Syntax.{CountText, NumberCount, IndexCount, NameCount, NoCount}
use Rattle.rustc_parse_format.specs.Syntax.{count_part, WidthText, PaddedWidth, ZeroIndexWidth}
use Rattle.rustc_parse_format.specs.Syntax.{PlainWidth, width_part, PrecisionText, NoPrecision}
use Rattle.rustc_parse_format.specs.Syntax.{StarPrecision, DotPrecision, precision_part, TypeText}
use Rattle.rustc_parse_format.specs.Syntax.{DebugHexType, CharacterType, WordType, type_part}
use Rattle.rustc_parse_format.specs.Syntax.{FormatText, format_part, SpecText, Default, Formatting}
use Rattle.rustc_parse_format.specs.Syntax.{Modifier, DiagnosticText, spec_part, fill_part}
use Rattle.rustc_parse_format.specs.Syntax.{align_part, sign_part, alternate_part, PositionText}
use Rattle.rustc_parse_format.specs.Syntax.{Digits, Word, RawWord}
use Rattle.rustc_parse_format.specs.Syntax.{NoPosition}
use Rattle.rustc_parse_format.specs.Placeholder.{cut, position}
use Rattle.rustc_parse_format.specs.Marks.{Span, Start, up_to, span_through, over_first}
use Rattle.rustc_parse_format.specs.Meaning.{count_of, count_span, width_of, width_span}
use Rattle.rustc_parse_format.specs.Meaning.{precision_of, precision_span, word_span, type_span}
use Rattle.rustc_parse_format.specs.Meaning.{fill_span}
use Rattle.rustc_parse_format.specs.Meaning.{from_type, from_precision, from_width, format_of}
use Rattle.rustc_parse_format.specs.Meaning.{spec_of, argument}
use Rattle.rustc_parse_format.specs.Faults.{Fault, Underscore, TooLarge, Unnamed, TextAfterColon}
use Rattle.rustc_parse_format.specs.Faults.{LateFlag}
use Rattle.rustc_parse_format.specs.PartFaults.{word_faults, number_faults, argument_faults}
use Rattle.rustc_parse_format.specs.PartFaults.{width_faults, precision_faults, type_faults}
use Rattle.rustc_parse_format.specs.PartFaults.{format_faults}
use Rattle.rustc_parse_format.specs.PartFaults.{raw_faults, position_faults, name_faults}
use Rattle.rustc_parse_format.specs.PartFaults.{text_faults}
use Rattle.rustc_parse_format.specs.PartFaults.{spec_faults, cut_faults, is_debug_flag, late_flag}
use Rattle.rustc_parse_format.specs.PartFaults.{flag_faults}
use Rattle.rustc_parse_format.specs.Values.{given_position, is_name}
use Rattle.rustc_parse_format.specs.ReadBack.{IsForward, optional_list, spans_of_count}
use Rattle.rustc_parse_format.specs.ReadBack.{spans_of_spec}
use Rattle.rustc_parse_format.specs.ReadBack.{spans_of, spans_of_fault}
use Rattle.rustc_parse_format.proofs.Grammar.PartLaws.{IsRow, opened, only, two-split}
use Rattle.rustc_parse_format.proofs.Grammar.PartSpecs.{spec-finds}
use Rattle.rustc_parse_format.proofs.Grammar.Rests.{IsRest-le, IsRest-trans, raw_rest}
use Rattle.rustc_parse_format.proofs.Grammar.Rests.{position_rest, after_white_rest}
use Rattle.rustc_parse_format.proofs.Grammar.Rests.{after_word_rest, after_digits_rest}

-- all of these spans are forward
abbrev pub AreForward : ℕ → List Span → Type 0
AreForward n ss = AllByRecursion (IsForward n) ss

-- all spans of each fault
abbrev pub AreFaultsForward : ℕ → List (Fault Span) → Type 0
AreFaultsForward n fs = AllByRecursion (λ f. AreForward n (spans_of_fault f)) fs

pub all-append : {X : Type 0} (P : X → Type 0) (xs ys : List X) → AllByRecursion P xs
    → AllByRecursion P ys → AllByRecursion P (xs ++ ys)
all-append P [] ys a b = b
all-append P (x ∷ xs) ys a b = (a.0, all-append P xs ys a.1 b)

pub all-weaker : {X : Type 0} (P Q : X → Type 0) (xs : List X) → ((x : X) → P x → Q x)
    → AllByRecursion P xs → AllByRecursion Q xs
all-weaker P Q [] f a = tt
all-weaker P Q (x ∷ xs) f a = (f x a.0, all-weaker P Q xs f a.1)

pub up_to-forward : (n : ℕ) (t r : Text) → length r ≤ length t → length t ≤ n
    → IsForward n (up_to t r)
up_to-forward n t r h k = record { from_start = tt; in_order = h; within = k }

pub through-forward : (n : ℕ) (t r : Text) → length r ≤ length t → length t ≤ n
    → IsForward n (span_through t r)
through-forward n t r h k = record { from_start = tt; in_order = h; within = k }

after_first-length : (t : Text) → length (after_first t) ≡ length t - 1
after_first-length [] = refl
after_first-length (c ∷ t) = omega arith

-- The spelling u and the rest r after it are together no longer than t.
abbrev Fits : Text → Text → Text → Type 0
Fits t u r = length u + length r ≤ length t

count_of-forward : (n : ℕ) (t : Text) (k : CountText) (r : Text) → Fits t (count_part k).spelling r
    → length t ≤ n →
    AreForward n (spans_of_count (count_of t k r))
count_of-forward n t (NumberCount ds) r h l = tt
count_of-forward n t (IndexCount ds) r h l = tt
count_of-forward n t (NameCount w) r h l =
    (up_to-forward n t (codes "$" ++ r) (omega (arith, h, length-append w (codes "$"))) l, tt)
count_of-forward n t NoCount r h l = tt

count_span-forward : (n : ℕ) (t : Text) (k : CountText) (r : Text)
    → Fits t (count_part k).spelling r → length t ≤ n →
    AreForward n (optional_list (count_span t k r))
count_span-forward n t (NumberCount ds) r h l = (up_to-forward n t r (omega (arith, h)) l, tt)
count_span-forward n t (IndexCount ds) r h l = (up_to-forward n t r (omega (arith, h)) l, tt)
count_span-forward n t (NameCount w) r h l = (up_to-forward n t r (omega (arith, h)) l, tt)
count_span-forward n t NoCount r h l = tt

padded-fits : (t : Text) (k : CountText) (r : Text) → Fits t (width_part (PaddedWidth k)).spelling r
    → Fits (after_first t) (count_part k).spelling r
padded-fits t k r h = omega (
  arith,
  h,
  after_first-length t,
  length-append (count_part k).spelling [],
)

plain-fits : (t : Text) (k : CountText) (r : Text) → Fits t (width_part (PlainWidth k)).spelling r
    → Fits t (count_part k).spelling r
plain-fits t k r h = omega (arith, h, length-append (count_part k).spelling [])

width_of-forward : (n : ℕ) (t : Text) (w : WidthText) (r : Text) → Fits t (width_part w).spelling r
    → length t ≤ n →
    AreForward n (spans_of_count (width_of t w r))
width_of-forward n t (PaddedWidth k) r h l =
    count_of-forward n (after_first t) k r (padded-fits t k r h)
    (omega (arith, l, after_first-length t))
width_of-forward n t ZeroIndexWidth r h l = tt
width_of-forward n t (PlainWidth k) r h l = count_of-forward n t k r (plain-fits t k r h) l

width_span-forward : (n : ℕ) (t : Text) (w : WidthText) (r : Text)
    → Fits t (width_part w).spelling r → length t ≤ n →
    AreForward n (optional_list (width_span t w r))
width_span-forward n t (PaddedWidth k) r h l =
    count_span-forward n (after_first t) k r (padded-fits t k r h)
    (omega (arith, l, after_first-length t))
width_span-forward n t ZeroIndexWidth r h l =
    (through-forward n t (after_first t) (omega (arith, after_first-length t)) l, tt)
width_span-forward n t (PlainWidth k) r h l = count_span-forward n t k r (plain-fits t k r h) l

precision_of-forward : (n c : ℕ) (t : Text) (p : PrecisionText) (r : Text)
    → Fits t (precision_part p).spelling r → length t ≤ n →
    AreForward n (spans_of_count (precision_of c t p r))
precision_of-forward n c t NoPrecision r h l = tt
precision_of-forward n c t StarPrecision r h l = tt
precision_of-forward n c t (DotPrecision k) r h l =
    let fits : Fits (after_first t) (count_part k).spelling r =
    omega (arith, h, after_first-length t, length-append (count_part k).spelling []) in
    count_of-forward n (after_first t) k r fits (omega (arith, l, after_first-length t))

precision_span-forward : (n : ℕ) (t : Text) (p : PrecisionText) (r : Text)
    → Fits t (precision_part p).spelling r → length t ≤ n →
    AreForward n (optional_list (precision_span t p r))
precision_span-forward n t NoPrecision r h l = tt
precision_span-forward n t StarPrecision r h l = (up_to-forward n t r (omega (arith, h)) l, tt)
precision_span-forward n t (DotPrecision k) r h l = (up_to-forward n t r (omega (arith, h)) l, tt)

word_span-forward : (n : ℕ) (t w r : Text) → length r ≤ length t → length t ≤ n
    → AreForward n (optional_list (word_span t w r))
word_span-forward n t [] r h l = tt
word_span-forward n t (c ∷ w) r h l = (up_to-forward n t r h l, tt)

type_span-forward : (n : ℕ) (t : Text) (y : TypeText) (r : Text) → length r ≤ length t
    → length t ≤ n → AreForward n (optional_list (type_span t y r))
type_span-forward n t (DebugHexType h) r k l = tt
type_span-forward n t (CharacterType c) r k l = tt
type_span-forward n t (WordType w) r k l = word_span-forward n t w r k l

fill_span-forward : (n : ℕ) (t : Text) (f : Option ℕ) → length t ≤ n
    → AreForward n (optional_list (fill_span t f))
fill_span-forward n t None l = tt
fill_span-forward n t (Some c) l = (through-forward n t t (omega arith) l, tt)

-- The parts of a format specification that stands at t, with r after it, have room there.
record FormatFits (t : Text) (p : FormatText) (r : Text) : Type 0 where
  width : length (from_width p r) ≤ length t
  precision : length (from_precision p r) ≤ length t
  type : length (from_type p r) ≤ length t
  width_fits : Fits (from_width p r) (width_part p.width).spelling (from_precision p r)
  precision_fits : Fits (from_precision p r) (precision_part p.precision).spelling (from_type p r)
  type_fits : length r ≤ length (from_type p r)

part-length : (t : Text) (u s : Text) → t ≡ u ++ s → length s ≤ length t
part-length t u s e = omega (arith, ap length e, length-append u s)

format-fits : (t : Text) (p : FormatText) (r : Text) → IsPart t (format_part p) r → FormatFits t p r
format-fits t p r h =
    let whole : IsRow t (fill_part p.fill ∷ align_part p.align ∷ sign_part p.sign
    ∷ alternate_part p.alternate ∷ width_part p.width ∷ precision_part
    p.precision ∷ type_part p.type ∷ []) r = record { part = h } in
    let f = opened whole in
    let a = opened f.others in
    let g = opened a.others in
    let n = opened g.others in
    let w = opened n.others in
    let c = opened w.others in
    let y = only c.others in
    let at_precision : w.seam ≡ from_precision p r = c.first.whole
    ∙ ap (λ u. (precision_part p.precision).spelling ++ u) y.whole in
    let at_width : n.seam ≡ from_width p r = w.first.whole
    ∙ ap (λ u. (width_part p.width).spelling ++ u) at_precision in
    let to_width : length (from_width p r) ≤ length t = omega (
      arith,
      ap length at_width,
      part-length t (fill_part p.fill).spelling f.seam f.first.whole,
      part-length f.seam (align_part p.align).spelling a.seam a.first.whole,
      part-length a.seam (sign_part p.sign).spelling g.seam g.first.whole,
      part-length g.seam (alternate_part p.alternate).spelling n.seam n.first.whole,
    ) in
    let widths = length-append (width_part p.width).spelling (from_precision p r) in
    let precisions = length-append (precision_part p.precision).spelling (from_type p r) in
    record {
      width = to_width;
      precision = omega (arith, to_width, widths);
      type = omega (arith, to_width, widths, precisions);
      width_fits = omega (arith, widths);
      precision_fits = omega (arith, precisions);
      type_fits = omega (arith, length-append (type_part p.type).spelling r);
    }

format_of-forward : (n c : ℕ) (t : Text) (p : FormatText) (r : Text) → IsPart t (format_part p) r
    → length t ≤ n →
    AreForward n (spans_of_spec (format_of c t p r))
unfolding format_of
format_of-forward n c t p r h l =
    let k = format-fits t p r h in
    let w : length (from_width p r) ≤ n = omega (arith, l, k.width) in
    let d : length (from_precision p r) ≤ n = omega (arith, l, k.precision) in
    let y : length (from_type p r) ≤ n = omega (arith, l, k.type) in
    all-append (IsForward n) _ _
    (all-append (IsForward n) _ _
    (all-append (IsForward n) _ _
    (all-append (IsForward n) _ _ (all-append (IsForward n) _ _
    (fill_span-forward n t p.fill l)
    (width_of-forward n (from_width p r) p.width (from_precision p r) k.width_fits w))
    (width_span-forward n (from_width p r) p.width (from_precision p r) k.width_fits w))
    (precision_of-forward n c (from_precision p r) p.precision (from_type p r) k.precision_fits d))
    (precision_span-forward n (from_precision p r) p.precision (from_type p r) k.precision_fits d))
    (type_span-forward n (from_type p r) p.type r k.type_fits y)

-- The same of a specification, with its colon.
spec_of-forward : (n c : ℕ) (mode : Mode) (t : Text) (s : SpecText) (r : Text)
    → IsPart t (spec_part mode s) r → length t ≤ n →
    AreForward n (spans_of_spec (spec_of c t s r))
spec_of-forward n c mode t Default r h l = tt
spec_of-forward n c Format t (Formatting p) r h l =
    let s = two-split t (fixed_part (codes ":")) (format_part p) r h in
    let seam : after_first t ≡ s.seam = ap after_first s.first.whole in
    let here : IsPart (after_first t) (format_part p) r = rw seam s.second in
    format_of-forward n c (after_first t) p r here (omega (arith, l, after_first-length t))
spec_of-forward n c InlineAsm t (Modifier w) r h l =
    let s = two-split t (fixed_part (codes ":")) (optional_identifier w) r h in
    let seam : after_first t ≡ s.seam = ap after_first s.first.whole in
    let rest : length r ≤ length (after_first t) =
    omega (
      arith,
      ap length seam,
      part-length s.seam (optional_identifier w).spelling r s.second.whole,
    ) in
    word_span-forward n (after_first t) w r rest (omega (arith, l, after_first-length t))
spec_of-forward n c Diagnostic t (DiagnosticText u) r h l = (
  up_to-forward n t r
      (part-length t (spec_part Diagnostic (DiagnosticText u)).spelling r h.whole) l,
  tt,
)
spec_of-forward n c Format t (Modifier w) r h l = absurd (false≢true h.formed)
spec_of-forward n c Format t (DiagnosticText u) r h l = absurd (false≢true h.formed)
spec_of-forward n c InlineAsm t (Formatting p) r h l = absurd (false≢true h.formed)
spec_of-forward n c InlineAsm t (DiagnosticText u) r h l = absurd (false≢true h.formed)
spec_of-forward n c Diagnostic t (Formatting p) r h l = absurd (false≢true h.formed)
spec_of-forward n c Diagnostic t (Modifier w) r h l = absurd (false≢true h.formed)
spec_of-forward n c DiagnosticNamed t (DiagnosticText u) r h l = (
  up_to-forward n t r
      (part-length t (spec_part DiagnosticNamed (DiagnosticText u)).spelling r h.whole) l,
  tt,
)
spec_of-forward n c DiagnosticNamed t (Formatting p) r h l = absurd (false≢true h.formed)
spec_of-forward n c DiagnosticNamed t (Modifier w) r h l = absurd (false≢true h.formed)

-- the specification of a cut, and where it stands
pub cut-spec : (mode : Mode) (t : Text)
    → IsPart (cut mode t).spec_at (spec_part mode (cut mode t).field.spec) (cut mode t).rest
unfolding cut
cut-spec mode t = (spec-finds mode).sound (after_white (position t).1)

pub cut-spec_at : (mode : Mode) (t : Text) → length (cut mode t).spec_at ≤ length t
unfolding cut
cut-spec_at mode t = IsRest-le (IsRest-trans (position_rest t) (after_white_rest (position t).1))

cut-position_at : (mode : Mode) (t : Text) → (cut mode t).position_at ≡ t
unfolding cut
cut-position_at mode t = refl

-- an argument starts where its position does
pub argument-start : (c : ℕ) (mode : Mode) (t : Text) → (argument c (cut mode t)).position_span.from
    ≡ Start (length t)
unfolding argument cut
argument-start c mode t = refl

pub argument-forward : (n c : ℕ) (mode : Mode) (t : Text) → length t ≤ n
    → AreForward n (spans_of (NextArgument (argument c (cut mode t))))
unfolding argument
argument-forward n c mode t l =
    let a = cut mode t in
    let here : length a.position_at ≡ length t = ap length (cut-position_at mode t) in
    let later = cut-spec_at mode t in (
      up_to-forward n a.position_at a.spec_at (omega (arith, here, later)) (omega (arith, here, l)),
      spec_of-forward n c mode a.spec_at a.field.spec a.rest (cut-spec mode t)
          (omega (arith, l, later)),
    )

-- The faults of a cut.
fault_either : (n : ℕ) (b : Bool) (f : Fault Span) → AreForward n (spans_of_fault f)
    → AreFaultsForward n (cond b (f ∷ []) [])
fault_either n true f h = (h, tt)
fault_either n false f h = tt

pub word_faults-forward : (n : ℕ) (t : Text) → length t ≤ n → AreFaultsForward n (word_faults t)
word_faults-forward n t l =
    fault_either n (bytes_eq (word t) (codes "_")) (Underscore (up_to t (after_word t)))
    (up_to-forward n t (after_word t) (IsRest-le (after_word_rest t)) l, tt)

number_faults-forward : (n : ℕ) (t : Text) → length t ≤ n → AreFaultsForward n (number_faults t)
number_faults-forward n t l =
    fault_either n (is_over (digits t)) (TooLarge (digits t) (span_through t (after_digits t)))
    (through-forward n t (after_digits t) (IsRest-le (after_digits_rest t)) l, tt)

argument_faults-forward : (n : ℕ) (t : Text) → length t ≤ n → AreFaultsForward n (argument_faults t)
unfolding argument_faults
argument_faults-forward n t l = all-append _ _ _ (number_faults-forward n t l)
    (word_faults-forward n t l)

raw_faults-forward : (n : ℕ) (t : Text) → length t ≤ n → AreFaultsForward n (raw_faults t)
raw_faults-forward n t l =
    let first = after_first-length t in
    let second = after_first-length (after_first t) in
    all-append _ _ _
    (word_faults-forward n (after_prefix t) (omega (arith, l, first, second))) (
      (
        up_to-forward n t (after_word (after_prefix t)) (IsRest-le (raw_rest t)) l,
        (through-forward n t (after_first t) (omega (arith, first)) l, tt),
      ),
      tt,
    )

position_faults-forward : (n : ℕ) (t : Text) (p : PositionText) → length t ≤ n
    → AreFaultsForward n (position_faults t p)
position_faults-forward n t (Digits ds) l = number_faults-forward n t l
position_faults-forward n t (Word w) l = word_faults-forward n t l
position_faults-forward n t (RawWord w) l = raw_faults-forward n t l
position_faults-forward n t NoPosition l = tt

width_faults-forward : (n : ℕ) (t : Text) (w : WidthText) → length t ≤ n
    → AreFaultsForward n (width_faults t w)
width_faults-forward n t (PaddedWidth k) l =
    argument_faults-forward n (after_first t) (omega (arith, l, after_first-length t))
width_faults-forward n t ZeroIndexWidth l = tt
width_faults-forward n t (PlainWidth k) l = argument_faults-forward n t l

precision_faults-forward : (n : ℕ) (t : Text) (p : PrecisionText) → length t ≤ n
    → AreFaultsForward n (precision_faults t p)
precision_faults-forward n t NoPrecision l = tt
precision_faults-forward n t StarPrecision l = tt
precision_faults-forward n t (DotPrecision k) l =
    argument_faults-forward n (after_first t) (omega (arith, l, after_first-length t))

late_flag-forward : (n : ℕ) (t u : Text) → length u ≤ length t → length t ≤ n
    → AreFaultsForward n (late_flag (first u) (over_first u) (span_through t u))
late_flag-forward n t [] h l = tt
late_flag-forward n t (c ∷ u) h l =
    fault_either n (is_debug_flag c) (LateFlag c (over_first (c ∷ u)) (span_through t (c ∷ u))) (
      through-forward n (c ∷ u) (c ∷ u) (omega arith) (omega (arith, h, l)),
      (through-forward n t (c ∷ u) h l, tt),
    )

flags-forward : (n : ℕ) (b : Bool) (t : Text) → length t ≤ n
    → AreFaultsForward n (cond b (flag_faults t) [])
flags-forward n true t l = late_flag-forward n t (after_first t)
    (omega (arith, after_first-length t)) l
flags-forward n false t l = tt

type_faults-forward : (n : ℕ) (t : Text) (y : TypeText) → length t ≤ n
    → AreFaultsForward n (type_faults t y)
type_faults-forward n t (DebugHexType h) l = tt
type_faults-forward n t (CharacterType c) l = flags-forward n (c == 63) t l
type_faults-forward n t (WordType w) l = word_faults-forward n t l

format_faults-forward : (n : ℕ) (t : Text) (p : FormatText) (r : Text) → IsPart t (format_part p) r
    → length t ≤ n → AreFaultsForward n (format_faults p r)
unfolding format_faults
format_faults-forward n t p r h l =
    let k = format-fits t p r h in
    all-append _ _ _ (all-append _ _ _
    (width_faults-forward n (from_width p r) p.width (omega (arith, l, k.width)))
    (precision_faults-forward n (from_precision p r) p.precision (omega (arith, l, k.precision))))
    (type_faults-forward n (from_type p r) p.type (omega (arith, l, k.type)))

name_faults-forward : (n : ℕ) (mode : Mode) (given : Option Position) (s : Span) → IsForward n s
    → AreFaultsForward n (name_faults mode given s)
name_faults-forward n mode given s h =
    fault_either n (wants_names mode && not (is_name given)) (Unnamed s) (h, tt)

text_faults-forward : (n : ℕ) (mode : Mode) (u : Text) (s : Span) → IsForward n s
    → AreFaultsForward n (text_faults mode u s)
text_faults-forward n mode u s h =
    fault_either n (wants_names mode && is_some (first u)) (TextAfterColon s) (h, tt)

spec_faults-forward : (n : ℕ) (mode : Mode) (t : Text) (s : SpecText) (r : Text)
    → IsPart t (spec_part mode s) r → length t ≤ n →
    AreFaultsForward n (spec_faults mode t s r)
spec_faults-forward n mode t Default r h l = tt
spec_faults-forward n Format t (Formatting p) r h l =
    let s = two-split t (fixed_part (codes ":")) (format_part p) r h in
    format_faults-forward n s.seam p r s.second
    (omega (arith, l, part-length t (codes ":") s.seam s.first.whole))
spec_faults-forward n InlineAsm t (Modifier w) r h l =
    word_faults-forward n (after_first t) (omega (arith, l, after_first-length t))
spec_faults-forward n Diagnostic t (DiagnosticText u) r h l =
    text_faults-forward n Diagnostic u (up_to t r)
    (up_to-forward n t r
    (part-length t (spec_part Diagnostic (DiagnosticText u)).spelling r h.whole) l)
spec_faults-forward n Format t (Modifier w) r h l = absurd (false≢true h.formed)
spec_faults-forward n Format t (DiagnosticText u) r h l = absurd (false≢true h.formed)
spec_faults-forward n InlineAsm t (Formatting p) r h l = absurd (false≢true h.formed)
spec_faults-forward n InlineAsm t (DiagnosticText u) r h l = absurd (false≢true h.formed)
spec_faults-forward n Diagnostic t (Formatting p) r h l = absurd (false≢true h.formed)
spec_faults-forward n Diagnostic t (Modifier w) r h l = absurd (false≢true h.formed)
spec_faults-forward n DiagnosticNamed t (DiagnosticText u) r h l =
    text_faults-forward n DiagnosticNamed u (up_to t r)
    (up_to-forward n t r
    (part-length t (spec_part DiagnosticNamed (DiagnosticText u)).spelling r h.whole) l)
spec_faults-forward n DiagnosticNamed t (Formatting p) r h l = absurd (false≢true h.formed)
spec_faults-forward n DiagnosticNamed t (Modifier w) r h l = absurd (false≢true h.formed)

pub cut_faults-forward : (n : ℕ) (mode : Mode) (t : Text) → length t ≤ n
    → AreFaultsForward n (cut_faults mode (cut mode t))
unfolding cut_faults
cut_faults-forward n mode t l =
    let a = cut mode t in
    let here : length a.position_at ≡ length t = ap length (cut-position_at mode t) in
    let later = cut-spec_at mode t in
    all-append _ _ _ (all-append _ _ _
    (position_faults-forward n a.position_at a.field.position (omega (arith, l, here)))
    (name_faults-forward n mode (given_position a.field.position) (up_to a.position_at a.spec_at)
    (up_to-forward n a.position_at a.spec_at (omega (arith, here, later))
    (omega (arith, here, l)))))
    (spec_faults-forward n mode a.spec_at a.field.spec a.rest (cut-spec mode t)
    (omega (arith, l, later)))
