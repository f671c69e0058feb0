-- The reading of a specification whose flag moves in front of the `?`.
use Rattle.std.proofs.Common.{◌≡◌, ℕ, ◌++◌, false, List, [], ◌∷◌, refl, ap, ◌∙◌, sym, append-nil}
use Rattle.rustc_parse_format.specs.Characters.{Text, is_align}
use Rattle.rustc_parse_format.specs.Types.{DebugHex, Lower, Upper}
use Rattle.rustc_parse_format.specs.Marks.{Span, span_through, over_first}
use Rattle.rustc_parse_format.specs.Faults.{Fault, LateFlag}
use Rattle.rustc_parse_format.specs.Specification.{fill, align, sign, align_at, sign_at}
use Rattle.rustc_parse_format.specs.Specification.{alternate_at, width_at, precision_at, type_at}
use Rattle.rustc_parse_format.specs.Specification.{format_text}
use Rattle.rustc_parse_format.specs.Counts.{width, precision}
use Rattle.rustc_parse_format.specs.Syntax.{FormatText, WidthText, PrecisionText, TypeText}
use Rattle.rustc_parse_format.specs.Syntax.{CharacterType, DebugHexType}
use Rattle.rustc_parse_format.specs.PartFaults.{is_debug_flag, format_faults}
use Rattle.rustc_parse_format.proofs.Rows.Definitions.{computing}
use Rattle.fault_fixes.proofs.SpecEnds.{EndsSigns, EndsCounts, format_from, format_with, signs-end}
use Rattle.fault_fixes.proofs.SpecEnds.{spec-ends}
use Rattle.fault_fixes.proofs.SpecFaults.{Quiet, counted_faults, counted-alike, width-is}
use Rattle.fault_fixes.proofs.SpecFaults.{precision-is}

-- The readings of the specification before and after the edit. The faults `own` stay.
pub record Reorders (f : ℕ) (s : Text) (d : ℕ) (z : Text) (b a : FormatText)
    (own : List (Fault Span)) : Type 0 where
  pub was : format_text (s ++ 63 ∷ f ∷ d ∷ z) ≡ (b, f ∷ d ∷ z)
  pub is : format_text (s ++ f ∷ 63 ∷ d ∷ z) ≡ (a, d ∷ z)
  pub was_faults : format_faults b (f ∷ d ∷ z) ≡ own ++ LateFlag f (over_first (f ∷ d ∷ z))
      (span_through (63 ∷ f ∷ d ∷ z) (f ∷ d ∷ z)) ∷ []
  pub is_faults : format_faults a (d ∷ z) ≡ own
  pub precision : a.precision ≡ b.precision

question-ends : (f : ℕ) → is_align f ≡ false → (z : Text) → EndsSigns 63 (f ∷ z)
question-ends f h z = record {
  no_align = refl;
  left = refl;
  right = refl;
  center = refl;
  plus = refl;
  minus = refl;
  no_fill = h;
}

-- The flag `#`, where nothing is after the sign.
number_sign-ends : (z : Text) → EndsSigns 35 (63 ∷ z)
number_sign-ends z = record {
  no_align = refl;
  left = refl;
  right = refl;
  center = refl;
  plus = refl;
  minus = refl;
  no_fill = refl;
}

pub number_sign-spec : (s : Text) (d : ℕ) (z : Text) → alternate_at s ≡ [] → is_debug_flag d ≡ false
    → Reorders 35 s d z
    (format_from (fill s).0 (align (align_at s)).0 (sign (sign_at s)).0 (63 ∷ 35 ∷ d ∷ z)).0
    (format_from (fill s).0 (align (align_at s)).0 (sign (sign_at s)).0 (35 ∷ 63 ∷ d ∷ z)).0 []
unfolding computing
number_sign-spec s d z h k =
    let at : Text → FormatText × Text =
    λ t. format_from (fill s).0 (align (align_at s)).0 (sign (sign_at s)).0 t in
    record {
      was = signs-end s 63 (35 ∷ d ∷ z) (question-ends 35 refl (d ∷ z))
          ∙ ap (λ l. at (l ++ 63 ∷ 35 ∷ d ∷ z)) h;
      is = signs-end s 35 (63 ∷ d ∷ z) (number_sign-ends (d ∷ z))
          ∙ ap (λ l. at (l ++ 35 ∷ 63 ∷ d ∷ z)) h;
      was_faults = refl;
      is_faults = rw k refl;
      precision = refl;
    }

-- The parts of s in front of a type, and this type.
abbrev pub typed : Text → TypeText → FormatText
typed s t = record (format_with s []).0 { type = t }

-- A flag f that is read with the `?` after it, where all of s is in front of the type.
pub record ReadsHex (f : ℕ) (h : DebugHex) : Type 0 where
  question : (z : Text) → EndsCounts 63 (f ∷ z)
  flag : (z : Text) → EndsCounts f (63 ∷ z)
  was_quiet : (z : Text) → Quiet 63 (f ∷ z)
  is_quiet : (z : Text) → Quiet f (63 ∷ z)
  was : (s z : Text) → format_with s (63 ∷ f ∷ z) ≡ (typed s (CharacterType 63), f ∷ z)
  is : (s z : Text) → format_with s (f ∷ 63 ∷ z) ≡ (typed s (DebugHexType h), z)
  was_faults : (s z : Text) → format_faults (typed s (CharacterType 63)) (f ∷ z)
      ≡ counted_faults (width (width_at s)).0 (precision (precision_at s)).0 (63 ∷ f ∷ z)
      ++ LateFlag f (over_first (f ∷ z)) (span_through (63 ∷ f ∷ z) (f ∷ z)) ∷ []
  is_faults : (s z : Text) → format_faults (typed s (DebugHexType h)) z
      ≡ counted_faults (width (width_at s)).0 (precision (precision_at s)).0 (f ∷ 63 ∷ z) ++ []

question-counts : (f : ℕ) → is_align f ≡ false → (z : Text) → EndsCounts 63 (f ∷ z)
unfolding computing
question-counts f h z = record {
  signs = question-ends f h z;
  no_alternate = refl;
  no_width = refl;
  no_precision = refl;
  no_count = refl;
  digit = refl;
  dollar = refl;
  star = refl;
  no_name = refl;
}

pub lower-hex : ReadsHex 120 Lower
unfolding computing
lower-hex = record {
  question = question-counts 120 refl;
  flag = λ z. record {
    signs = record {
      no_align = refl;
      left = refl;
      right = refl;
      center = refl;
      plus = refl;
      minus = refl;
      no_fill = refl;
    };
    no_alternate = refl;
    no_width = refl;
    no_precision = refl;
    no_count = refl;
    digit = refl;
    dollar = refl;
    star = refl;
    no_name = refl;
  };
  was_quiet = λ z. record { digit = refl; faults = refl };
  is_quiet = λ z. record { digit = refl; faults = refl };
  was = λ s z. refl;
  is = λ s z. refl;
  was_faults = λ s z. refl;
  is_faults = λ s z. refl;
}

pub upper-hex : ReadsHex 88 Upper
unfolding computing
upper-hex = record {
  question = question-counts 88 refl;
  flag = λ z. record {
    signs = record {
      no_align = refl;
      left = refl;
      right = refl;
      center = refl;
      plus = refl;
      minus = refl;
      no_fill = refl;
    };
    no_alternate = refl;
    no_width = refl;
    no_precision = refl;
    no_count = refl;
    digit = refl;
    dollar = refl;
    star = refl;
    no_name = refl;
  };
  was_quiet = λ z. record { digit = refl; faults = refl };
  is_quiet = λ z. record { digit = refl; faults = refl };
  was = λ s z. refl;
  is = λ s z. refl;
  was_faults = λ s z. refl;
  is_faults = λ s z. refl;
}

pub hex-spec : (f : ℕ) (h : DebugHex) → ReadsHex f h → (s : Text) (d : ℕ) (z : Text)
    → type_at s ≡ [] → Reorders f s d z (typed s (CharacterType 63)) (typed s (DebugHexType h))
    (counted_faults (width (width_at s)).0 (precision (precision_at s)).0 (63 ∷ f ∷ d ∷ z))
hex-spec f h k s d z e =
    let w : WidthText = (width (width_at s)).0 in
    let p : PrecisionText = (precision (precision_at s)).0 in
    record {
      was = spec-ends s 63 (f ∷ d ∷ z) (k.question (d ∷ z)) e ∙ k.was s (d ∷ z);
      is = spec-ends s f (63 ∷ d ∷ z) (k.flag (d ∷ z)) e ∙ k.is s (d ∷ z);
      was_faults = k.was_faults s (d ∷ z);
      is_faults = k.is_faults s (d ∷ z)
          ∙ append-nil (counted_faults w p (f ∷ 63 ∷ d ∷ z))
          ∙ sym (counted-alike w p 63 (f ∷ d ∷ z) f (63 ∷ d ∷ z) (width-is (width_at s))
          (precision-is (precision_at s)) (k.was_quiet (d ∷ z)) (k.is_quiet (d ∷ z)) refl);
      precision = refl;
    }
