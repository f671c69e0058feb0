-- The reason why a text is no string literal, and its place.
use Prim.Native.Char.{code}
use Rattle.std.specs.Prelude.{◌≡◌, ◌⊎◌, ◌+◌, ◌++◌, ◌==◌, ℕ, Bool, true, false, not}
use Rattle.std.specs.Prelude.{if◌then◌else◌, [], ◌∷◌, Option, Some, None, codes}
use Rattle.rustc_parse_format.specs.Characters.{Text, byte_length, first_passes, is_id_start}
use Rattle.rustc_parse_format.specs.Characters.{is_nil}
use Rattle.rustc_parse_format.specs.Literal.{IsLiteral, IsOrdinaryLiteral}
use Rattle.rust_tokens.specs.declared.kinds.Kind.{Kind}
use Rattle.rust_tokens.specs.declared.kinds.Kind.TheVariants.{RawStr}
use Rattle.rust_tokens.specs.Spans.{byte_length as token_length}
use Rattle.rust_tokens.specs.Tokens.{Begins, Lexeme}
use Rattle.literal_faults.specs.declared.fault.FaultKind.{FaultKind}
use Rattle.literal_faults.specs.declared.fault.FaultKind.TheVariants.{NoLiteral, NotString, Suffix}
use Rattle.literal_faults.specs.declared.fault.FaultKind.TheVariants.{UnterminatedString}
use Rattle.literal_faults.specs.declared.fault.FaultKind.TheVariants.{UnterminatedRawString}
use Rattle.literal_faults.specs.declared.fault.FaultKind.TheVariants.{BareCarriageReturn}
use Rattle.literal_faults.specs.declared.fault.FaultKind.TheVariants.{TrailingText}
use Rattle.literal_faults.specs.declared.fault.LiteralFault.{LiteralFault}
use Rattle.literal_faults.specs.Stops.{StopsAt}
use Rattle.literal_faults.specs.Escapes.{escape_fault}

-- The text is an ordinary string literal.
abbrev pub IsOrdinary : Text → Type 0
IsOrdinary t = (text : Text) × IsOrdinaryLiteral t text

-- The text is a string literal, of some style and for some text.
abbrev pub IsAnyLiteral : Text → Type 0
IsAnyLiteral t = (style : Option ℕ) × (text : Text) × IsLiteral style t text

-- The fault of a literal that is not alone, by whether a suffix follows it.
abbrev pub trailing_kind : Bool → FaultKind
trailing_kind true = Suffix
trailing_kind false = TrailingText

-- The fault at a place where no unit comes next. None if only the closing quote is left.
abbrev pub stop_fault : Text → Option FaultKind
stop_fault [] = Some UnterminatedString
stop_fault (c ∷ t) = if c == code "\"" then
    (if is_nil t then None else Some (trailing_kind (first_passes is_id_start t))) else
    (if c == code "\\" then Some (escape_fault t) else Some BareCarriageReturn)

-- The rest of the text from the fault on: a closing quote is none.
abbrev pub fault_rest : Text → Text
fault_rest [] = []
fault_rest (c ∷ t) = if c == code "\"" then t else c ∷ t

-- The fault of a text that begins with a quote: the one at the first place where no unit comes
-- next.
pub record IsStringFault (t : Text) (f : LiteralFault) : Type 0 where
  pub content : Text
  pub stop : Text
  pub opens : t ≡ codes "\"" ++ content
  pub stops : StopsAt content stop
  pub is_kind : stop_fault stop ≡ Some f.kind
  pub is_place : f.offset + byte_length (fault_rest stop) ≡ byte_length t

-- A raw string.
abbrev pub is_raw : Kind → Bool
is_raw RawStr = true
is_raw k = false

-- The fault of a raw string that is no literal alone.
abbrev pub raw_fault : Lexeme → FaultKind
raw_fault x = if x.is_ended then trailing_kind (not (is_nil x.suffix)) else UnterminatedRawString

-- The fault of a text that begins with the token x, where that is no ordinary string.
abbrev pub token_fault : Lexeme → LiteralFault
token_fault x = if is_raw x.kind
    then record { kind = raw_fault x; offset = token_length x.body }
    else record { kind = NotString x.kind; offset = 0 }

-- The fault of a text that does not begin with a quote.
pub record IsTokenFault (t : Text) (f : LiteralFault) : Type 0 where
  pub token : Lexeme
  pub rest : Text
  pub begins : Begins token t rest
  pub is_fault : f ≡ token_fault token

-- The text t is no string literal because of this fault.
abbrev pub IsFault : Text → LiteralFault → Type 0
IsFault [] f = f ≡ record { kind = NoLiteral; offset = 0 }
IsFault (c ∷ t) f = ((c ≡ code "\"") × IsStringFault (c ∷ t) f)
    ⊎ ((c ≡ code "\"" → ⊥) × IsTokenFault (c ∷ t) f)
