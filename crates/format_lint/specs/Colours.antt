-- The tokens of a source as they are shown: in the colours of their kinds, or each in a line.
use Rattle.std.specs.Prelude.{ℕ, ◌-◌, ◌++◌, Bool, true, false, List, [], ◌∷◌, Option, None}
use Rattle.std.specs.Prelude.{Some, codes, drop, length}
use Rattle.std.specs.Str.{encode_utf8_all}
use Rattle.rustc_parse_format.specs.Characters.{Text}
use Rattle.piece_listing.specs.Listing.{quoted_text, span_text}
use Rattle.drawn_lines.specs.Glyphs.{glyph_bytes, glyphs, is_non_ascii_drawn_as_is, is_drawn_as_is}
use Rattle.drawn_lines.specs.Places.{front_within}
use Rattle.format_tokens.specs.Escapes.{Placed}
use Rattle.format_tokens.specs.declared.kinds.Kind.{Kind}
use Rattle.format_tokens.specs.declared.kinds.Kind.TheVariants.{Text as TextKind, EscapedBrace}
use Rattle.format_tokens.specs.declared.kinds.Kind.TheVariants.{OpenBrace}
use Rattle.format_tokens.specs.declared.kinds.Kind.TheVariants.{CloseBrace, Integer, Identifier}
use Rattle.format_tokens.specs.declared.kinds.Kind.TheVariants.{RawPrefix, Whitespace, Colon, Fill}
use Rattle.format_tokens.specs.declared.kinds.Kind.TheVariants.{Alignment, Sign, NumberSign, Zero}
use Rattle.format_tokens.specs.declared.kinds.Kind.TheVariants.{DollarSign, Dot, Asterisk}
use Rattle.format_tokens.specs.declared.kinds.Kind.TheVariants.{«Type» as TypeKind, Modifier}
use Rattle.format_tokens.specs.declared.kinds.Kind.TheVariants.{DiagnosticText, Unexpected, Quote}
use Rattle.format_tokens.specs.declared.kinds.Kind.TheVariants.{EscapeSequence}

-- The name of a kind in a list of tokens.
unfoldable pub kind_name : Kind → List ℕ
kind_name TextKind = codes "text"
kind_name EscapedBrace = codes "escape"
kind_name OpenBrace = codes "open"
kind_name CloseBrace = codes "close"
kind_name Integer = codes "integer"
kind_name Identifier = codes "identifier"
kind_name RawPrefix = codes "raw-prefix"
kind_name Whitespace = codes "whitespace"
kind_name Colon = codes "colon"
kind_name Fill = codes "fill"
kind_name Alignment = codes "align"
kind_name Sign = codes "sign"
kind_name NumberSign = codes "number-sign"
kind_name Zero = codes "zero"
kind_name DollarSign = codes "dollar-sign"
kind_name Dot = codes "dot"
kind_name Asterisk = codes "asterisk"
kind_name TypeKind = codes "type"
kind_name Modifier = codes "modifier"
kind_name DiagnosticText = codes "diagnostic-text"
kind_name Unexpected = codes "unexpected"
kind_name Quote = codes "quote"
kind_name EscapeSequence = codes "escape-sequence"

-- The colour of a kind, as a number of SGR, the escapes for a terminal: blue for a doubled brace,
-- bright blue for an escape of the literal, magenta for the marks that part a placeholder, cyan for
-- an argument or a number, yellow for the fill and the flags, green for the type, red for text that
-- is wrong. Plain text has none.
unfoldable pub colour : Kind → Option (List ℕ)
colour TextKind = None
colour EscapedBrace = Some (codes "34")
colour OpenBrace = Some (codes "35")
colour CloseBrace = Some (codes "35")
colour Integer = Some (codes "36")
colour Identifier = Some (codes "36")
colour RawPrefix = Some (codes "36")
colour Whitespace = None
colour Colon = Some (codes "35")
colour Fill = Some (codes "33")
colour Alignment = Some (codes "33")
colour Sign = Some (codes "33")
colour NumberSign = Some (codes "33")
colour Zero = Some (codes "33")
colour DollarSign = Some (codes "35")
colour Dot = Some (codes "35")
colour Asterisk = Some (codes "36")
colour TypeKind = Some (codes "32")
colour Modifier = Some (codes "32")
colour DiagnosticText = None
colour Unexpected = Some (codes "31")
colour Quote = None
colour EscapeSequence = Some (codes "94")

-- A text in a colour: between the escape that sets the colour and the one that resets it.
abbrev pub in_colour : Option (List ℕ) → List ℕ → List ℕ
in_colour None u = u
in_colour (Some n) u = codes "\u{1b}[" ++ (n ++ (codes "m" ++ (u ++ codes "\u{1b}[0m")))

-- A token as it is shown: its text in the colour of its kind, or a line with its kind, its byte
-- range, and its text in quotes. Both are drawn as a line of the source is.
abbrev pub shown_token : Bool → Placed → Text → List ℕ
shown_token true x u = in_colour (colour x.0) (encode_utf8_all (glyphs u))
shown_token false x u = kind_name x.0
    ++ (codes " " ++ (span_text x.1 ++ (codes " " ++ (glyph_bytes (quoted_text u) ++ codes "\n"))))

-- The byte is one of a character that is shown as it is in a colour, or that is quoted as it is.
abbrev pub stays_as_is : Bool → ℕ → Bool
stays_as_is true b = is_drawn_as_is b
stays_as_is false b = is_non_ascii_drawn_as_is b

-- The rest of a text after its first characters, as many as end within n bytes.
abbrev pub rest_after : ℕ → Text → Text
rest_after n t = drop (length (front_within n t)) t

-- The tokens of a text: each takes as many bytes from the rest of it as its range has.
abbrev pub shown_tokens : Bool → Text → List Placed → List ℕ
shown_tokens colours t [] = []
shown_tokens colours t (x ∷ xs) =
    let n = x.1.1 - x.1.0 in
    shown_token colours x (front_within n t) ++ shown_tokens colours (rest_after n t) xs
