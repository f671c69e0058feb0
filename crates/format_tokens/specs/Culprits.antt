-- The tokens that are out of place, and so mark a fault. Braces that stand alone pair: an opening
-- brace and the next brace that stands alone, if that is a closing one. A brace without its partner
-- is out of place, and so are text and doubled braces inside a pair: no field has them. In a mode
-- that accepts only names, a number and text after a colon are out of place, and so are the braces
-- around no argument.
use Rattle.std.specs.Prelude.{◌&&◌, ◌||◌, not, Bool, true, false, if◌then◌else◌, List, [], ◌∷◌}
use Rattle.format_tokens.specs.declared.culprits.Role.{Role}
use Rattle.format_tokens.specs.declared.culprits.Role.TheVariants.{OpenBrace, CloseBrace, Text}
use Rattle.format_tokens.specs.declared.culprits.Role.TheVariants.{Name, Number}
use Rattle.format_tokens.specs.declared.culprits.Role.TheVariants.{Message, Other}
use Rattle.format_tokens.specs.declared.kinds.Kind.{Kind}
use Rattle.format_tokens.specs.declared.kinds.Kind.TheVariants.{Text as TextKind, EscapedBrace}
use Rattle.format_tokens.specs.declared.kinds.Kind.TheVariants.{OpenBrace as OpenKind}
use Rattle.format_tokens.specs.declared.kinds.Kind.TheVariants.{CloseBrace as CloseKind}
use Rattle.format_tokens.specs.declared.kinds.Kind.TheVariants.{Integer, Identifier}
use Rattle.format_tokens.specs.declared.kinds.Kind.TheVariants.{RawPrefix, Whitespace, Colon, Fill}
use Rattle.format_tokens.specs.declared.kinds.Kind.TheVariants.{Alignment, Sign, NumberSign, Zero}
use Rattle.format_tokens.specs.declared.kinds.Kind.TheVariants.{DollarSign, Dot, Asterisk}
use Rattle.format_tokens.specs.declared.kinds.Kind.TheVariants.{«Type» as TypeKind, Modifier}
use Rattle.format_tokens.specs.declared.kinds.Kind.TheVariants.{DiagnosticText, Unexpected, Quote}
use Rattle.format_tokens.specs.declared.kinds.Kind.TheVariants.{EscapeSequence}

-- The role of a kind. A token that the call of a parser found out of place may stand for a name.
unfoldable pub role_of : Kind → Role
role_of TextKind = Text
role_of EscapedBrace = Text
role_of OpenKind = OpenBrace
role_of CloseKind = CloseBrace
role_of Integer = Number
role_of Identifier = Name
role_of RawPrefix = Name
role_of Whitespace = Other
role_of Colon = Other
role_of Fill = Other
role_of Alignment = Other
role_of Sign = Other
role_of NumberSign = Other
role_of Zero = Other
role_of DollarSign = Other
role_of Dot = Other
role_of Asterisk = Other
role_of TypeKind = Other
role_of Modifier = Other
role_of DiagnosticText = Message
role_of Unexpected = Name
role_of Quote = Other
role_of EscapeSequence = Other

-- Whether the first brace that stands alone is a closing one: what a token says of it, where the
-- flag is what those after it say.
abbrev pub closes_or : Bool → Role → Bool
closes_or others OpenBrace = false
closes_or others CloseBrace = true
closes_or others Text = others
closes_or others Name = others
closes_or others Number = others
closes_or others Message = others
closes_or others Other = others

-- The first brace that stands alone is a closing one.
abbrev pub closes : {A : Type 0} → List (Kind × A) → Bool
closes [] = false
closes (t ∷ ts) = closes_or (closes ts) (role_of t.0)

-- The role is that of an argument.
abbrev pub is_argument : Role → Bool
is_argument OpenBrace = false
is_argument CloseBrace = false
is_argument Text = false
is_argument Name = true
is_argument Number = true
is_argument Message = false
is_argument Other = false

-- The first token is that of an argument.
abbrev pub has_argument : {A : Type 0} → List (Kind × A) → Bool
has_argument [] = false
has_argument (t ∷ ts) = is_argument (role_of t.0)

-- A token of this role is in place before these tokens. The first flag says that only names are
-- accepted, the second that the token is inside a pair of braces.
abbrev pub fits : {A : Type 0} → Bool → Bool → List (Kind × A) → Role → Bool
fits names inside ts OpenBrace = closes ts && (not names || has_argument ts)
fits names inside ts CloseBrace = inside
fits names inside ts Text = not inside
fits names inside ts Name = true
fits names inside ts Number = not names
fits names inside ts Message = not names
fits names inside ts Other = true

-- The tokens after one of this role are inside a pair. The first flag says that it is inside one,
-- the second that it is in place.
abbrev pub inside_after : Bool → Bool → Role → Bool
inside_after inside fits OpenBrace = fits
inside_after inside fits CloseBrace = false
inside_after inside fits Text = inside
inside_after inside fits Name = inside
inside_after inside fits Number = inside
inside_after inside fits Message = inside
inside_after inside fits Other = inside

-- The tokens, where those that are out of place are `Unexpected`.
abbrev pub marked_tokens : {A : Type 0} → Bool → Bool → List (Kind × A) → List (Kind × A)
marked_tokens names inside [] = []
marked_tokens names inside (t ∷ ts) =
    let f = fits names inside ts (role_of t.0) in
    ((if f then t.0 else Unexpected), t.1)
    ∷ marked_tokens names (inside_after inside f (role_of t.0)) ts
