-- Tokens that begin with letters and are no plain word: literals with a prefix, and raw
-- identifiers.
use Prim.Native.Char.{code}
use Rattle.std.specs.Prelude.{◌≡◌, ◌⊎◌, ◌++◌, ◌&&◌, ◌==◌, ℕ, if◌then◌else◌, IsTrue, [], ◌∷◌}
use Rattle.std.specs.Prelude.{Option, Some, None, option_map, codes, replicate}
use Rattle.std.specs.Option.{option_or}
use Rattle.rust_tokens.specs.declared.kinds.Kind.{Kind}
use Rattle.rust_tokens.specs.declared.kinds.Kind.TheVariants.{Str, ByteStr, CStr, RawStr}
use Rattle.rust_tokens.specs.declared.kinds.Kind.TheVariants.{RawByteStr, RawCStr}
use Rattle.rust_tokens.specs.declared.openings.Opening.{Opening}
use Rattle.rust_tokens.specs.declared.openings.Opening.TheVariants.{Quote, Raw, ByteQuote, RawWord}
use Rattle.rust_tokens.specs.Texts.{Text, strip}
use Rattle.rust_tokens.specs.Runs.{rest_after, count, is_hash, is_id_start}

-- The letters of a literal and its quote: `"`, `b"`, `c"`, `b'`.
abbrev pub IsQuoteOpening : Text → Type 0
IsQuoteOpening p = (p ≡ codes "\"") ⊎ ((p ≡ codes "b\"") ⊎ ((p ≡ codes "c\"") ⊎ (p ≡ codes "b'")))

-- The letters of a raw literal, hashes and a quote: `r`, `br` or `cr`, any number of `#`, and `"`.
abbrev pub IsRawOpening : Text → Type 0
IsRawOpening p = (n : ℕ) × ((p ≡ codes "r" ++ (replicate n (code "#") ++ codes "\""))
    ⊎ ((p ≡ codes "br" ++ (replicate n (code "#") ++ codes "\""))
    ⊎ (p ≡ codes "cr" ++ (replicate n (code "#") ++ codes "\""))))

-- The text begins a literal in quotes or a raw identifier: an opening as above, or `r#` and the
-- first character of a word.
abbrev pub IsOpening : Text → Type 0
IsOpening p = IsQuoteOpening p ⊎ (IsRawOpening p
    ⊎ ((c : ℕ) × IsTrue (is_id_start c) × (p ≡ codes "r#" ++ (c ∷ []))))

-- Hashes and a quote: the opening of a raw string of this kind, and the rest after it.
abbrev pub raw_opening : Kind → Text → Option (Opening × Text)
raw_opening k t = option_map (λ u. (Raw k (count is_hash t), u)) (strip (code "\"")
    (rest_after is_hash t))

-- A hash and the first character of a word.
abbrev pub word_opening : Text → Option (Opening × Text)
word_opening [] = None
word_opening (c ∷ []) = None
word_opening (c ∷ d ∷ t) = if c == code "#" && is_id_start d then Some (RawWord, t) else None

-- The opening that has a `b` before this text: `b"`, `b'`, `br"`, `br#"` and so on.
abbrev pub byte_opening : Text → Option (Opening × Text)
byte_opening [] = None
byte_opening (c ∷ t) = if c == code "\"" then Some (Quote ByteStr, t) else
    (if c == code "'" then Some (ByteQuote, t) else
    (if c == code "r" then raw_opening RawByteStr t else None))

-- The opening that has a `c` before this text: `c"`, `cr"`, `cr#"` and so on.
abbrev pub c_opening : Text → Option (Opening × Text)
c_opening [] = None
c_opening (c ∷ t) = if c == code "\"" then Some (Quote CStr, t) else
    (if c == code "r" then raw_opening RawCStr t else None)

-- The opening of a literal in quotes, of a byte or of a raw identifier, and the rest after it: `"`,
-- `b"`, `c"`, `b'`; `r`, `br` or `cr` with any number of hashes and `"`; `r#` and the first
-- character of a word. None if none of these is at the start.
abbrev pub first_opening : Text → Option (Opening × Text)
first_opening [] = None
first_opening (c ∷ t) = if c == code "\"" then Some (Quote Str, t) else
    (if c == code "b" then byte_opening t else
    (if c == code "c" then c_opening t else
    (if c == code "r" then option_or (raw_opening RawStr t) (word_opening t) else None)))
