-- Bytes that are ASCII characters.
use Prim.Native.Char.{code}
use Rattle.std.specs.Prelude.{ℕ, Bool, not, ◌&&◌, ◌||◌, ◌==◌, nat_lt}
use Rattle.std.specs.Char.{is_ascii_alphabetic}
use Rattle.rust_tokens.specs.Runs.{is_id_continue, is_punct}

-- The byte is an ASCII character that passes the test.
abbrev pub is_ascii_in : (ℕ → Bool) → ℕ → Bool
is_ascii_in p b = nat_lt b 128 && p b

-- Punctuation that begins no comment.
abbrev pub is_sign : ℕ → Bool
is_sign b = is_punct b && not (b == code "/")

-- An ASCII letter with which no prefix begins, or `_`.
abbrev pub is_plain_start : ℕ → Bool
is_plain_start b = (b == code "_" || is_ascii_alphabetic b)
    && not (b == code "b" || (b == code "c" || b == code "r"))

-- A letter with which a prefix can begin.
abbrev pub is_prefix_letter : ℕ → Bool
is_prefix_letter b = b == code "b" || (b == code "c" || b == code "r")

-- These two bytes begin a word: the first cannot begin a prefix, or the second does not continue
-- it.
abbrev pub begins_word : ℕ → ℕ → Bool
begins_word b d = is_plain_start b
    || (is_prefix_letter b && (is_ascii_in is_id_continue d && not (d == code "r")))
