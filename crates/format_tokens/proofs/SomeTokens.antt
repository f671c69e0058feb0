-- Each token of a text has a character.
use Rattle.std.proofs.Common.{ℕ, suc, zero, ◌++◌, ◌-◌, ◌==◌, List, [], ◌∷◌, length}
use Rattle.std.proofs.Common.{take, arith, codes}
use Rattle.std.specs.Char.{is_whitespace}
use Rattle.std.proofs.lemmas.Bool.{cond_both}
use Rattle.rustc_parse_format.specs.Call.{call}
use Rattle.rustc_parse_format.specs.Characters.{Text, after_first, after_white, begins_with, front}
use Rattle.rustc_parse_format.specs.Characters.{is_brace, is_no_brace}
use Rattle.rustc_parse_format.specs.Placeholder.{cut}
use Rattle.rustc_parse_format.specs.Syntax.{CountText, NumberCount, IndexCount, NameCount, NoCount}
use Rattle.rustc_parse_format.specs.Syntax.{DiagnosticText, FieldText, FormatText, Formatting}
use Rattle.rustc_parse_format.specs.Syntax.{Default, DotPrecision, Modifier, NoPrecision}
use Rattle.rustc_parse_format.specs.Syntax.{PaddedWidth, PlainWidth, PrecisionText, StarPrecision}
use Rattle.rustc_parse_format.specs.Syntax.{PositionText, Digits, Word, RawWord, NoPosition}
use Rattle.rustc_parse_format.specs.Syntax.{SpecText, WidthText, ZeroIndexWidth, align_part}
use Rattle.rustc_parse_format.specs.Syntax.{alternate_part, fill_part, sign_part, type_part}
use Rattle.rustc_parse_format.specs.Types.{Mode}
use Rattle.rustc_parse_format.specs.Values.{type_of}
use Rattle.format_tokens.specs.declared.kinds.Kind.{Kind}
use Rattle.format_tokens.specs.declared.kinds.Kind.TheVariants.{Alignment, Asterisk, CloseBrace}
use Rattle.format_tokens.specs.declared.kinds.Kind.TheVariants.{Colon}
use Rattle.format_tokens.specs.declared.kinds.Kind.TheVariants.{DollarSign, Dot, EscapedBrace, Fill}
use Rattle.format_tokens.specs.declared.kinds.Kind.TheVariants.{Identifier, Integer, NumberSign}
use Rattle.format_tokens.specs.declared.kinds.Kind.TheVariants.{Modifier as ModifierKind, OpenBrace}
use Rattle.format_tokens.specs.declared.kinds.Kind.TheVariants.{DiagnosticText as DiagnosticKind}
use Rattle.format_tokens.specs.declared.kinds.Kind.TheVariants.{Text as TextKind, RawPrefix, Sign}
use Rattle.format_tokens.specs.declared.kinds.Kind.TheVariants.{«Type» as TypeKind, Unexpected}
use Rattle.format_tokens.specs.declared.kinds.Kind.TheVariants.{Whitespace, Zero}
use Rattle.format_tokens.specs.Tokens.{Label, count_tokens, format_tokens}
use Rattle.format_tokens.specs.Tokens.{integer_kind, opened_tokens, position_tokens}
use Rattle.format_tokens.specs.Tokens.{precision_tokens, spec_tokens, token, width_tokens}
use Rattle.format_tokens.specs.Tokens.{word_kind}
use Rattle.format_tokens.specs.Walk.{call_tokens, is_closed, placeholder_tokens, skipped_tokens}
use Rattle.format_tokens.specs.Walk.{tokens_within, up_to_rest}
use Rattle.format_tokens.proofs.Covering.{AreSome}

-- Each of these tokens has a character.
record Filled (ls : List Label) : Type 0 where
  some : AreSome ls

none : Filled []
none = record { some = tt }

one : (k : Kind) (u : Text) → Filled (token k u)
one k [] = none
one k (c ∷ u) = record { some = (omega arith, tt) }

some-both : (x y : List Label) → AreSome x → AreSome y → AreSome (x ++ y)
some-both [] y h k = k
some-both (l ∷ x) y h k = (h.0, some-both x y h.1 k)

both : {x y : List Label} → Filled x → Filled y → Filled (x ++ y)
both {x = x} {y = y} h k = record { some = some-both x y h.some k.some }

position : (p : PositionText) → Filled (position_tokens p)
position (Digits ds) = one (integer_kind ds) ds
position (Word w) = one (word_kind Identifier w) w
position (RawWord w) = both (one RawPrefix (codes "r#")) (one (word_kind Identifier w) w)
position NoPosition = none

count : (k : CountText) → Filled (count_tokens k)
count (NumberCount ds) = one (integer_kind ds) ds
count (IndexCount ds) = both (one (integer_kind ds) ds) (one DollarSign (codes "$"))
count (NameCount w) = both (one (word_kind Identifier w) w) (one DollarSign (codes "$"))
count NoCount = none

width : (w : WidthText) → Filled (width_tokens w)
width (PaddedWidth k) = both (one Zero (codes "0")) (count k)
width ZeroIndexWidth = both (one Integer (codes "0")) (one DollarSign (codes "$"))
width (PlainWidth k) = count k

precision : (p : PrecisionText) → Filled (precision_tokens p)
precision NoPrecision = none
precision StarPrecision = both (one Dot (codes ".")) (one Asterisk (codes "*"))
precision (DotPrecision k) = both (one Dot (codes ".")) (count k)

format : (p : FormatText) → Filled (format_tokens p)
format p =
    both (one Fill (fill_part p.fill).spelling)
    (both (one Alignment (align_part p.align).spelling)
    (both (one Sign (sign_part p.sign).spelling)
    (both (one NumberSign (alternate_part p.alternate).spelling)
    (both (width p.width)
    (both (precision p.precision)
    (one (word_kind TypeKind (type_of p.type)) (type_part p.type).spelling))))))

spec : (k : SpecText) → Filled (spec_tokens k)
spec Default = none
spec (Formatting p) = both (one Colon (codes ":")) (format p)
spec (Modifier w) = both (one Colon (codes ":")) (one (word_kind ModifierKind w) w)
spec (DiagnosticText u) = both (one Colon (codes ":")) (one DiagnosticKind u)

opened : (a : FieldText) (space : Text) → Filled (opened_tokens a space)
opened a space =
    both (one OpenBrace (codes "{"))
    (both (both (position a.position) (both (one Whitespace a.space) (spec a.spec)))
    (one Whitespace space))

skipped : (u : Text) → Filled (skipped_tokens u)
skipped u = cond_both (is_closed u)
    (token Unexpected (take (length u - 1) u) ++ token CloseBrace (codes "}")) (token Unexpected u)
    Filled (λ e. both (one Unexpected (take (length u - 1) u)) (one CloseBrace (codes "}")))
    (λ e. one Unexpected u)

placeholder : (mode : Mode) (t s : Text) → Filled (placeholder_tokens mode t s)
unfolding placeholder_tokens
placeholder mode t s =
    let a = cut mode t in
    let space = front is_whitespace a.rest in
    let r = after_white a.rest in
    cond_both {A = List Label} (begins_with 125 r) _ _ Filled
    (λ e. both (opened a.field space) (one CloseBrace (codes "}")))
    (λ e. both (opened a.field space) (skipped (up_to_rest r s)))

of_call : (mode : Mode) (t s : Text) → Filled (call_tokens mode t s)
unfolding call_tokens
of_call mode [] s = none
of_call mode (b ∷ t) s =
    cond_both {A = List Label} (is_brace b) _ _ Filled
    (λ e. cond_both {A = List Label} (begins_with b t) _ _ Filled
    (λ q. both (one EscapedBrace (b ∷ b ∷ [])) (one TextKind (front is_no_brace (after_first t))))
    (λ q. cond_both {A = List Label} (b == 123) _ _ Filled (λ o. placeholder mode t s)
    (λ o. one CloseBrace (b ∷ []))))
    (λ e. one TextKind (front is_no_brace (b ∷ t)))

within : (n : ℕ) (mode : Mode) (c : ℕ) (t : Text) → Filled (tokens_within n mode c t)
within zero mode c t = none
within (suc n) mode c [] = none
within (suc n) mode c (b ∷ t) =
    let k = call mode c (b ∷ t) in
    both (of_call mode (b ∷ t) k.rest) (within n mode k.next k.rest)

pub some-within : (n : ℕ) (mode : Mode) (c : ℕ) (t : Text) → AreSome (tokens_within n mode c t)
some-within n mode c t = (within n mode c t).some
