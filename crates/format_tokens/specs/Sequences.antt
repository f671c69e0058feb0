-- The escapes of a source text, one after the other: the law on the tokens of escapes is about
-- these.
use Rattle.std.specs.Prelude.{ℕ, suc, zero, ◌-◌, Bool, true, false, List, [], ◌∷◌, length}
use Rattle.std.specs.Prelude.{filter}
use Rattle.std.specs.Prelude.{Some, None}
use Rattle.rustc_parse_format.specs.Characters.{Text, byte_length}
use Rattle.format_tokens.specs.declared.kinds.Kind.{Kind}
use Rattle.format_tokens.specs.declared.kinds.Kind.TheVariants.{Text as TextKind, EscapedBrace}
use Rattle.format_tokens.specs.declared.kinds.Kind.TheVariants.{OpenBrace}
use Rattle.format_tokens.specs.declared.kinds.Kind.TheVariants.{CloseBrace, Integer, Identifier}
use Rattle.format_tokens.specs.declared.kinds.Kind.TheVariants.{RawPrefix, Whitespace, Colon, Fill}
use Rattle.format_tokens.specs.declared.kinds.Kind.TheVariants.{Alignment, Sign, NumberSign, Zero}
use Rattle.format_tokens.specs.declared.kinds.Kind.TheVariants.{DollarSign, Dot, Asterisk}
use Rattle.format_tokens.specs.declared.kinds.Kind.TheVariants.{«Type» as TypeKind, Modifier}
use Rattle.format_tokens.specs.declared.kinds.Kind.TheVariants.{DiagnosticText, Unexpected, Quote}
use Rattle.format_tokens.specs.declared.kinds.Kind.TheVariants.{EscapeSequence}
use Rattle.format_tokens.specs.Escapes.{Placed, escape_at, is_apart}

-- The token is an escape of the literal.
unfoldable pub is_sequence : Kind → Bool
is_sequence TextKind = false
is_sequence EscapedBrace = false
is_sequence OpenBrace = false
is_sequence CloseBrace = false
is_sequence Integer = false
is_sequence Identifier = false
is_sequence RawPrefix = false
is_sequence Whitespace = false
is_sequence Colon = false
is_sequence Fill = false
is_sequence Alignment = false
is_sequence Sign = false
is_sequence NumberSign = false
is_sequence Zero = false
is_sequence DollarSign = false
is_sequence Dot = false
is_sequence Asterisk = false
is_sequence TypeKind = false
is_sequence Modifier = false
is_sequence DiagnosticText = false
is_sequence Unexpected = false
is_sequence Quote = false
is_sequence EscapeSequence = true

-- An escape in a source text: the text from its backslash on, the text that it stands for, and the
-- text that is left after it.
pub record SourceEscape : Type 0 where
  pub from : Text
  pub value : Text
  pub rest : Text

-- The escapes among the first n characters of a text.
abbrev pub escapes_within : ℕ → Text → List SourceEscape
escapes_within zero t = []
escapes_within (suc n) [] = []
escapes_within (suc n) (c ∷ t) = elim (escape_at (c ∷ t)) [
  | None ↦ escapes_within n t
  | Some x ↦ record { from = c ∷ t; value = x.0; rest = x.1 } ∷ escapes_within n x.1
]

-- The escapes of a text: `\n`, `\x41`, `\u{..}`, continued lines.
unfoldable pub escapes_of : Text → List SourceEscape
escapes_of t = escapes_within (length t) t

-- The tokens of an ordinary literal that are escapes.
abbrev pub sequences : List Placed → List Placed
sequences xs = filter (λ (x : Placed). is_sequence x.0) xs

-- The byte range of an escape in a text that ends at the byte e.
abbrev pub sequence : ℕ → SourceEscape → Placed
sequence e s = (EscapeSequence, (e - byte_length s.from, e - byte_length s.rest))

-- The escapes of a token of this kind and text that are tokens of their own: those in text, and
-- each continued line.
abbrev pub apart_escapes : Kind → Text → List SourceEscape
apart_escapes k t = filter (λ s. is_apart k s.value) (escapes_of t)
