-- How many bytes a text takes.
use Rattle.std.proofs.Common.{◌≡◌, ℕ, ◌+◌, ◌++◌, List, [], ◌∷◌, length, refl, sym, ap, ◌∙◌, arith}
use Rattle.std.proofs.Common.{IsUtf8, chars, length-append}
use Rattle.std.specs.Prelude.{encode_utf8, encode_utf8_all}
use Rattle.std.specs.Char.{len_utf8}
use Rattle.std.proofs.lemmas.Str.{length-encode, encodes-chars}
use Rattle.std.proofs.lemmas.List.Sums.{sum_by-cons, sum_by-append}
use Rattle.rustc_parse_format.specs.Characters.{Text, byte_length}

pub width-cons : (c : ℕ) (t : Text) → byte_length (c ∷ t) ≡ len_utf8 c + byte_length t
width-cons c t = sum_by-cons len_utf8 c t

pub width-append : (s t : Text) → byte_length (s ++ t) ≡ byte_length s + byte_length t
width-append s t = sum_by-append len_utf8 s t

length-encodes : (t : Text) → length (encode_utf8_all t) ≡ byte_length t
length-encodes [] = refl
length-encodes (c ∷ t) = omega (
  arith,
  width-cons c t,
  length-encode c,
  length-encodes t,
  length-append (encode_utf8 c)
      (encode_utf8_all t),
)

-- the bytes of a text are as many as its characters take
pub width-chars : (bs : List ℕ) → IsUtf8 bs → byte_length (chars bs) ≡ length bs
width-chars bs u = sym (length-encodes (chars bs)) ∙ ap length (encodes-chars bs u)
