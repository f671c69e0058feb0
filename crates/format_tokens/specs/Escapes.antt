-- Tokens over an ordinary source literal, cut so that an escape of the literal is a token of its
-- own: in text each escape, and elsewhere a string continuation, which stands for nothing. The rule
-- of escapes is that of string literals in the Rust Reference.
use Prim.Native.Char.{code}
use Rattle.std.specs.Prelude.{ℕ, suc, zero, ◌-◌, ◌++◌, ◌==◌, Bool, true, false, List, [], ◌∷◌}
use Rattle.std.specs.Prelude.{if◌then◌else◌, length, drop, nat_lt, not, Option, Some, None}
use Rattle.std.specs.Char.{len_utf8}
use Rattle.rustc_parse_format.specs.Characters.{Text, byte_length}
use Rattle.rustc_parse_format.specs.LiteralUnits.{meaning, unit_at}
use Rattle.format_tokens.specs.declared.kinds.Kind.{Kind}
use Rattle.format_tokens.specs.declared.kinds.Kind.TheVariants.{Text as TextKind, EscapedBrace}
use Rattle.format_tokens.specs.declared.kinds.Kind.TheVariants.{OpenBrace}
use Rattle.format_tokens.specs.declared.kinds.Kind.TheVariants.{CloseBrace, Integer, Identifier}
use Rattle.format_tokens.specs.declared.kinds.Kind.TheVariants.{RawPrefix, Whitespace, Colon, Fill}
use Rattle.format_tokens.specs.declared.kinds.Kind.TheVariants.{Alignment, Sign, NumberSign, Zero}
use Rattle.format_tokens.specs.declared.kinds.Kind.TheVariants.{DollarSign, Dot, Asterisk}
use Rattle.format_tokens.specs.declared.kinds.Kind.TheVariants.{«Type» as TypeKind, Modifier}
use Rattle.format_tokens.specs.declared.kinds.Kind.TheVariants.{DiagnosticText, Unexpected, Quote}
use Rattle.format_tokens.specs.declared.kinds.Kind.TheVariants.{EscapeSequence}
use Rattle.rustc_parse_format.specs.World.{Place}

-- A token and its byte range.
abbrev pub Placed : Type 0
Placed = Kind × Place

-- The token is text without braces.
unfoldable pub is_text : Kind → Bool
is_text TextKind = true
is_text EscapedBrace = false
is_text OpenBrace = false
is_text CloseBrace = false
is_text Integer = false
is_text Identifier = false
is_text RawPrefix = false
is_text Whitespace = false
is_text Colon = false
is_text Fill = false
is_text Alignment = false
is_text Sign = false
is_text NumberSign = false
is_text Zero = false
is_text DollarSign = false
is_text Dot = false
is_text Asterisk = false
is_text TypeKind = false
is_text Modifier = false
is_text DiagnosticText = false
is_text Unexpected = false
is_text Quote = false
is_text EscapeSequence = false

-- The byte is no backslash.
abbrev pub is_other : ℕ → Bool
is_other b = not (b == code "\\")

-- The text that the escape at the start stands for, and the rest after it. None if the text begins
-- with no escape.
abbrev pub escape_at : Text → Option (Text × Text)
escape_at [] = None
escape_at (c ∷ t) = if c == code "\\" then meaning (unit_at (c ∷ t)) else None

-- An escape that stands for this text is a token of its own inside a token of this kind.
abbrev pub is_apart : Kind → Text → Bool
is_apart k [] = true
is_apart k (c ∷ v) = is_text k

-- The token of a byte range. An empty range has none.
abbrev pub run : Kind → ℕ → ℕ → List Placed
run k from to = if nat_lt from to then (k, (from, to)) ∷ [] else []

-- The parts of a token of this kind that ends at the byte e, where t is left of its source
-- characters. The part that goes on there starts at the byte `from`.
abbrev pub parts_within : ℕ → Kind → ℕ → ℕ → Text → List Placed
parts_within zero k from e t = run k from e
parts_within (suc n) k from e [] = run k from e
parts_within (suc n) k from e (c ∷ t) = elim (escape_at (c ∷ t)) [
  | None ↦ parts_within n k from e t
  | Some x ↦ if is_apart k x.0
      then run k from (e - byte_length (c ∷ t))
      ++ (EscapeSequence, (e - byte_length (c ∷ t), e - byte_length x.1))
      ∷ parts_within n k (e - byte_length x.1) e x.1
      else parts_within n k from e x.1
]

-- The parts of a token with these source characters.
unfoldable pub parts : Placed → Text → List Placed
parts x t = parts_within (length t) x.0 x.1.0 x.1.1 t

-- The first characters of a text, as many as end within n bytes, and the rest after them.
abbrev pub front_within : ℕ → Text → Text
front_within n [] = []
front_within n (c ∷ t) = if nat_lt n (len_utf8 c) then [] else c ∷ front_within (n - len_utf8 c) t

abbrev pub rest_within : ℕ → Text → Text
rest_within n t = drop (length (front_within n t)) t

-- The tokens of a literal whose rest from the first of them on is t, each in its parts.
abbrev pub cut : Text → List Placed → List Placed
cut t [] = []
cut t (x ∷ xs) = let n = x.1.1 - x.1.0 in
    parts x (front_within n t) ++ cut (rest_within n t) xs
