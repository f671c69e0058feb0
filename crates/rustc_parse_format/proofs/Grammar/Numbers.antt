-- A cut reads at least one character for each number that it takes.
use Rattle.std.proofs.Common.{ℕ, ◌+◌, ◌≤◌, ◌==◌, [], ◌∷◌, length, arith}
use Rattle.std.proofs.lemmas.Bool.{cond_both}
use Rattle.rustc_parse_format.specs.Characters.{Text, after_white}
use Rattle.rustc_parse_format.specs.Types.{Mode, Format, InlineAsm, Diagnostic, DiagnosticNamed}
use Rattle.rustc_parse_format.specs.Syntax.{PrecisionText, SpecText, PositionText, Digits, Word}
use Rattle.rustc_parse_format.specs.Syntax.{RawWord, NoPosition}
use Rattle.rustc_parse_format.specs.Counts.{precision, after_dot}
use Rattle.rustc_parse_format.specs.Specification.{align_at, precision_at, type_at, format_text}
use Rattle.rustc_parse_format.specs.Specification.{specification, after_colon}
use Rattle.rustc_parse_format.specs.Placeholder.{position, cut}
use Rattle.rustc_parse_format.specs.Values.{number_after_precision, number_after_spec}
use Rattle.rustc_parse_format.specs.Values.{number_after_position, number_after_field}
use Rattle.rustc_parse_format.proofs.Grammar.Rests.{IsRest-le, position_rest, after_white_rest}
use Rattle.rustc_parse_format.proofs.Grammar.Rests.{count_rest, align_at_rest, precision_from_align}
use Rattle.rustc_parse_format.proofs.Grammar.Rests.{type_rest}
use Rattle.rustc_parse_format.proofs.Grammar.Rests.{specification_rest}

dot_number : (c : ℕ) (t : Text) → number_after_precision c (after_dot t).0
    + length (after_dot t).1 ≤ c + 1 + length t
dot_number c [] = omega arith
dot_number c (d ∷ t) =
    cond_both {A = PrecisionText × Text} (d == 42) _ _ (λ p. number_after_precision c p.0
    + length p.1 ≤ c + 1 + length (d ∷ t))
    (λ e. omega arith) (λ e. omega (arith, IsRest-le (count_rest (d ∷ t))))

precision_number : (c : ℕ) (t : Text) → number_after_precision c (precision t).0
    + length (precision t).1 ≤ c + length t
precision_number c [] = omega arith
precision_number c (d ∷ t) =
    cond_both {A = PrecisionText × Text} (d == 46) _ _ (λ p. number_after_precision c p.0
    + length p.1 ≤ c + length (d ∷ t))
    (λ e. omega (arith, dot_number c t)) (λ e. omega arith)

format_number : (c : ℕ) (t : Text) → number_after_precision c (format_text t).0.precision
    + length (format_text t).1 ≤ c + length t
unfolding format_text
format_number c t =
    let before : length (precision_at t) ≤ length (align_at t) =
    IsRest-le (precision_from_align t) in
    omega (
      arith,
      precision_number c (precision_at t),
      IsRest-le (type_rest (type_at t)),
      before,
      IsRest-le (align_at_rest t),
    )

colon_number : (mode : Mode) (c : ℕ) (t : Text) → number_after_spec c (after_colon mode t).0
    + length (after_colon mode t).1 ≤ c + 1 + length t
colon_number Format c t = omega (arith, format_number c t)
colon_number InlineAsm c t = omega (arith, IsRest-le (specification_rest InlineAsm (58 ∷ t)))
colon_number Diagnostic c t = omega (arith, IsRest-le (specification_rest Diagnostic (58 ∷ t)))
colon_number DiagnosticNamed c t =
    omega (arith, IsRest-le (specification_rest DiagnosticNamed (58 ∷ t)))

pub specification_number : (mode : Mode) (c : ℕ) (t : Text)
    → number_after_spec c (specification mode t).0 + length (specification mode t).1 ≤ c + length t
specification_number mode c [] = omega arith
specification_number mode c (d ∷ t) =
    cond_both {A = SpecText × Text} (d == 58) _ _ (λ s. number_after_spec c s.0 + length s.1
    ≤ c + length (d ∷ t))
    (λ e. omega (arith, colon_number mode c t)) (λ e. omega arith)

number_after_position-le : (c : ℕ) (p : PositionText) → number_after_position c p ≤ c + 1
number_after_position-le c (Digits ds) = omega arith
number_after_position-le c (Word w) = omega arith
number_after_position-le c (RawWord w) = omega arith
number_after_position-le c NoPosition = omega arith

-- with the opening brace, which stands in front of t
pub number_after_field-le : (mode : Mode) (c : ℕ) (t : Text)
    → number_after_field c (cut mode t).field + length (cut mode t).rest ≤ c + 1 + length t
unfolding cut number_after_field
number_after_field-le mode c t =
    let u = after_white (position t).1 in
    let s = specification mode u in
    omega (
      arith,
      number_after_position-le (number_after_spec c s.0) (position t).0,
      specification_number mode c u,
      IsRest-le (position_rest t),
      IsRest-le
          (after_white_rest (position t).1),
    )
