-- No token is empty.
use Rattle.std.proofs.Common.{◌≡◌, ℕ, ◌+◌, ◌<◌, Bool, true, false, ◌++◌, [], ◌∷◌, inl, inr}
use Rattle.std.proofs.Common.{◌⊎◌}
use Rattle.std.proofs.Common.{ap, ◌∙◌, length, length-append, arith}
use Rattle.std.specs.Prelude.{codes}
use Rattle.std.proofs.lemmas.Bool.{false≢true}
use Rattle.std.proofs.lemmas.Str.{len_utf8_bounds}
use Rattle.rust_tokens.specs.declared.kinds.Kind.{Kind}
use Rattle.rust_tokens.specs.declared.kinds.Kind.TheVariants.{Whitespace, LineComment, OuterLineDoc}
use Rattle.rust_tokens.specs.declared.kinds.Kind.TheVariants.{InnerLineDoc, BlockComment}
use Rattle.rust_tokens.specs.declared.kinds.Kind.TheVariants.{OuterBlockDoc}
use Rattle.rust_tokens.specs.declared.kinds.Kind.TheVariants.{InnerBlockDoc, Ident, RawIdent}
use Rattle.rust_tokens.specs.declared.kinds.Kind.TheVariants.{Lifetime}
use Rattle.rust_tokens.specs.declared.kinds.Kind.TheVariants.{RawLifetime, BinaryInt, OctalInt}
use Rattle.rust_tokens.specs.declared.kinds.Kind.TheVariants.{DecimalInt, HexadecimalInt, Float}
use Rattle.rust_tokens.specs.declared.kinds.Kind.TheVariants.{Char}
use Rattle.rust_tokens.specs.declared.kinds.Kind.TheVariants.{Byte, Str, ByteStr, CStr, RawStr}
use Rattle.rust_tokens.specs.declared.kinds.Kind.TheVariants.{RawByteStr, RawCStr, Punct, Unknown}
use Rattle.rust_tokens.specs.declared.kinds.Kind.TheVariants.{Shebang, ByteOrderMark}
use Rattle.rust_tokens.specs.Texts.{Text}
use Rattle.rust_tokens.specs.Numbers.{IsPointed, IsFractional, IsScientific}
use Rattle.rust_tokens.specs.Comments.{IsBlock}
use Rattle.rust_tokens.specs.Strings.{IsString}
use Rattle.rust_tokens.specs.RawStrings.{IsRawString}
use Rattle.rust_tokens.specs.Tokens.{Stands, Lexeme, Begins}
use Rattle.rust_tokens.specs.Spans.{byte_length}

abbrev has_first : Text → Bool
has_first [] = false
has_first (c ∷ t) = true

first : (a b : Text) → a ≡ b → has_first a ≡ has_first b
first a b e = ap (λ t. has_first t) e

block : (k : Kind) (e : Bool) (b a : Text) → IsBlock k e b a → has_first b ≡ true
block k true b a x = first b _ x.2
block k false b a x = first b _ x.1

string : (c : ℕ) (p : Text) (e : Bool) (b a : Text) → IsString (c ∷ p) e b a → has_first b ≡ true
string c p true b a x = first b _ x.2
string c p false b a x = first b _ x.1

raw : (c : ℕ) (p : Text) (e : Bool) (b a : Text) → IsRawString (c ∷ p) e b a → has_first b ≡ true
raw c p true b a x = first b _ x.3
raw c p false b a x = first b _ x.2

float : (b a : Text) → (IsPointed b a ⊎ (IsFractional b a ⊎ IsScientific b a)) → has_first b ≡ true
float b a (inl x) = first b _ (x.2 ∙ ap (λ t. t ++ codes ".") x.1.4)
float b a (inr (inl x)) = first b _ (x.4 ∙ ap (λ t. t ++ (codes "." ++ x.1)) x.2.4)
float b a (inr (inr x)) = first b _ (x.6 ∙ ap (λ t. t ++ (x.1 ++ x.2)) x.3.4)

pub body-first : (k : Kind) (e : Bool) (b a : Text) → Stands k e b a → has_first b ≡ true
body-first Whitespace e b a x = first b _ x.1.4
body-first LineComment e b a x = first b _ x.1.2
body-first OuterLineDoc e b a x = first b _ x.1.2
body-first InnerLineDoc e b a x = first b _ x.1.2
body-first BlockComment e b a x = block BlockComment e b a x
body-first OuterBlockDoc e b a x = block OuterBlockDoc e b a x
body-first InnerBlockDoc e b a x = block InnerBlockDoc e b a x
body-first Ident e b a x = first b _ x.1.4
body-first RawIdent e b a x = first b _ x.3
body-first Lifetime e b a x = first b _ x.3
body-first RawLifetime e b a x = first b _ x.3
body-first BinaryInt e b a x = first b _ x.1.2
body-first OctalInt e b a x = first b _ x.1.2
body-first DecimalInt e b a x = first b _ x.1.0.4
body-first HexadecimalInt e b a x = first b _ x.1.2
body-first Float e b a x = float b a x.1
body-first Char true b a x = first b _ x.2
body-first Char false b a x = first b _ x.0
body-first Byte true b a x = first b _ x.2
body-first Byte false b a x = first b _ x.0
body-first Str true b a x = first b _ x.2
body-first Str false b a x = first b _ x.1
body-first ByteStr e b a x = string 98 [] e b a x
body-first CStr e b a x = string 99 [] e b a x
body-first RawStr e b a x = raw 114 [] e b a x
body-first RawByteStr e b a x = raw 98 (codes "r") e b a x
body-first RawCStr e b a x = raw 99 (codes "r") e b a x
body-first Punct e b a x = first b _ x.3
body-first Unknown e b a x = first b _ x.3
body-first Shebang e b a x = absurd x
body-first ByteOrderMark e b a x = absurd x

some_bytes : (b : Text) → has_first b ≡ true → 0 < byte_length b
some_bytes [] h = absurd (false≢true h)
some_bytes (c ∷ t) h = omega (arith, len_utf8_bounds c)

pub some_characters : (b : Text) → has_first b ≡ true → 0 < length b
some_characters [] h = absurd (false≢true h)
some_characters (c ∷ t) h = omega arith

pub body-bytes : (x : Lexeme) (whole r : Text) → Begins x whole r → 0 < byte_length x.body
body-bytes x whole r b =
    some_bytes x.body (body-first x.kind x.is_ended x.body (x.suffix ++ r) b.stands)

-- Less is left after a token.
pub less-left : (x : Lexeme) (whole r : Text) → Begins x whole r → length r < length whole
less-left x whole r b =
    let some = some_characters x.body (body-first x.kind x.is_ended x.body
    (x.suffix ++ r) b.stands) in
    let all : length whole ≡ length x.body + length (x.suffix ++ r) =
    ap (λ t. length t) b.joins ∙ length-append x.body (x.suffix ++ r) in
    let more : length (x.suffix ++ r) ≡ length x.suffix + length r = length-append x.suffix r in
    omega (arith, some, all, more)
