-- Texts as lists of characters, the classes of characters that the grammar names, and the longest
-- prefix of a text whose characters are all of one class. The rules are Unicode Standard Annex 31,
-- `char::is_whitespace` and the grammar in the documentation of `std::fmt`.
use Prim.Native.Char.{code}
use Rattle.std.specs.Prelude.{ℕ, ◌%◌, Bool, true, false, not, ◌&&◌, ◌||◌, ◌==◌, if◌then◌else◌}
use Rattle.std.specs.Prelude.{nat_lt, List, [], ◌∷◌, Option, Some, None, sum_by}
use Rattle.std.specs.Char.{is_whitespace, is_ascii_digit, len_utf8}
use Rattle.std.specs.Str.Parse.{digits_value}
use Rattle.unicode_ident.specs.Ident.{is_xid_start, is_xid_continue}

-- A text is the list of its characters, each by its code.
abbrev pub Text : Type 0
Text = List ℕ

-- The character may begin a word: it is `_` or has the property XID_Start.
abbrev pub is_id_start : ℕ → Bool
is_id_start c = (c == code "_") || is_xid_start c

-- The character may continue a word: it has the property XID_Continue, as `_` does.
abbrev pub is_id_continue : ℕ → Bool
is_id_continue c = is_xid_continue c

-- The character is `{` or `}`.
abbrev pub is_brace : ℕ → Bool
is_brace c = (c == code "{") || (c == code "}")

-- The character is not a brace, so it may be in a run of text.
abbrev pub is_no_brace : ℕ → Bool
is_no_brace c = not (is_brace c)

-- The character is neither a brace nor a newline.
abbrev pub is_in_line : ℕ → Bool
is_in_line c = is_no_brace c && not (c == code "\n")

-- The character is `<`, `>` or `^`.
abbrev pub is_align : ℕ → Bool
is_align c = (c == code "<") || (c == code ">") || (c == code "^")

-- The longest prefix of a text whose characters all pass the test p.
abbrev pub front : (ℕ → Bool) → Text → Text
front p [] = []
front p (c ∷ t) = if p c then c ∷ front p t else []

-- The rest of a text after the longest prefix whose characters all pass the test p.
abbrev pub rest_after : (ℕ → Bool) → Text → Text
rest_after p [] = []
rest_after p (c ∷ t) = if p c then rest_after p t else c ∷ t

-- The word at the start of a text. It is empty where no word begins.
unfoldable pub word : Text → Text
word [] = []
word (c ∷ t) = if is_id_start c then c ∷ front is_id_continue t else []

-- The rest of a text after the word at its start.
unfoldable pub after_word : Text → Text
after_word [] = []
after_word (c ∷ t) = if is_id_start c then rest_after is_id_continue t else c ∷ t

-- The digits at the start of a text.
unfoldable pub digits : Text → Text
digits t = front is_ascii_digit t

-- The rest of a text after the digits at its start.
unfoldable pub after_digits : Text → Text
after_digits t = rest_after is_ascii_digit t

-- The rest of a text after the white space at its start.
unfoldable pub after_white : Text → Text
after_white t = rest_after is_whitespace t

-- The text is empty.
abbrev pub is_nil : Text → Bool
is_nil [] = true
is_nil (c ∷ t) = false

-- The first character of a text, or None if the text is empty.
abbrev pub first : Text → Option ℕ
first [] = None
first (c ∷ t) = Some c

-- The text without its first character.
abbrev pub after_first : Text → Text
after_first [] = []
after_first (c ∷ t) = t

-- The first character of t, followed by u.
abbrev pub with_first : Text → Text → Text
with_first [] u = u
with_first (c ∷ t) u = c ∷ u

-- The text begins with the character c.
abbrev pub begins_with : ℕ → Text → Bool
begins_with c [] = false
begins_with c (d ∷ t) = d == c

-- The text has a first character, and it passes the test p.
abbrev pub first_passes : (ℕ → Bool) → Text → Bool
first_passes p [] = false
first_passes p (c ∷ t) = p c

-- The text begins with `r#`.
abbrev pub begins_prefix : Text → Bool
begins_prefix t = begins_with (code "r") t && begins_with (code "#") (after_first t)

-- The text begins with a raw identifier: `r#` and a character that may begin a word.
abbrev pub begins_raw : Text → Bool
begins_raw t = begins_with (code "r") t
    && (begins_with (code "#") (after_first t)
    && first_passes is_id_start (after_first (after_first t)))

-- The rest of a text after the `r#` of a raw identifier.
abbrev pub after_prefix : Text → Text
after_prefix t = after_first (after_first t)

-- The rest of a text after a closing brace. A text that does not begin with one is unchanged.
abbrev pub after_brace : Text → Text
after_brace t = if begins_with (code "}") t then after_first t else t

-- The number that these decimal digits write, modulo 65536.
abbrev pub number : Text → ℕ
number ds = digits_value 10 ds % 65536

-- The number that these digits write is above 65535, so it does not fit into 16 bits.
abbrev pub is_over : Text → Bool
is_over ds = nat_lt 65535 (digits_value 10 ds)

-- The length of a text in UTF-8, in bytes.
abbrev pub byte_length : Text → ℕ
byte_length t = sum_by len_utf8 t
