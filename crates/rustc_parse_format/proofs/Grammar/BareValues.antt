-- The argument that a cut means, without its spans, is the one that its field means.
use Rattle.std.proofs.Common.{◌≡◌, ℕ, refl, ap}
use Rattle.rustc_parse_format.specs.Characters.{Text}
use Rattle.rustc_parse_format.specs.Types.{bare_count, bare_spec, bare_argument}
use Rattle.rustc_parse_format.specs.Syntax.{CountText, NumberCount, IndexCount, NameCount, NoCount}
use Rattle.rustc_parse_format.specs.Syntax.{WidthText, PaddedWidth, ZeroIndexWidth, PlainWidth}
use Rattle.rustc_parse_format.specs.Syntax.{PrecisionText, NoPrecision, StarPrecision, DotPrecision}
use Rattle.rustc_parse_format.specs.Syntax.{SpecText, Default, Formatting, Modifier, DiagnosticText}
use Rattle.rustc_parse_format.specs.Values.{count_value, width_value, precision_value, spec_value}
use Rattle.rustc_parse_format.specs.Values.{number_after_spec, position_of, argument_value}
use Rattle.rustc_parse_format.specs.Placeholder.{Cut}
use Rattle.rustc_parse_format.specs.Meaning.{count_of, width_of, precision_of, from_type}
use Rattle.rustc_parse_format.specs.Meaning.{from_precision, from_width, format_of, spec_of}
use Rattle.rustc_parse_format.specs.Meaning.{argument}
use Rattle.rustc_parse_format.specs.Characters.{after_first}

count-bare : (t : Text) (k : CountText) (r : Text) → bare_count (count_of t k r) ≡ count_value k
count-bare t (NumberCount ds) r = refl
count-bare t (IndexCount ds) r = refl
count-bare t (NameCount w) r = refl
count-bare t NoCount r = refl

width-bare : (t : Text) (w : WidthText) (r : Text) → bare_count (width_of t w r) ≡ width_value w
width-bare t (PaddedWidth k) r = count-bare (after_first t) k r
width-bare t ZeroIndexWidth r = refl
width-bare t (PlainWidth k) r = count-bare t k r

precision-bare : (c : ℕ) (t : Text) (p : PrecisionText) (r : Text)
    → bare_count (precision_of c t p r) ≡ precision_value c p
precision-bare c t NoPrecision r = refl
precision-bare c t StarPrecision r = refl
precision-bare c t (DotPrecision k) r = count-bare (after_first t) k r

spec-bare : (c : ℕ) (t r : Text) (k : SpecText) → bare_spec (spec_of c t k r) ≡ spec_value c k
unfolding format_of
spec-bare c t r Default = refl
spec-bare c t r (Formatting p) =
    rw (
      width-bare (from_width p r) p.width (from_precision p r),
      precision-bare c (from_precision p r) p.precision (from_type p r),
    ) refl
spec-bare c t r (Modifier w) = refl
spec-bare c t r (DiagnosticText w) = refl

pub argument-bare : (c : ℕ) (a : Cut) → bare_argument (argument c a) ≡ argument_value c a.field
unfolding argument
argument-bare c a =
    ap (λ f. record {
      position = position_of (number_after_spec c a.field.spec) a.field.position;
      position_span = tt;
      format = f;
    })
    (spec-bare c a.spec_at a.rest a.field.spec)
