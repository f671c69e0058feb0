-- The bytes of a text and of a suffix of it, and prefixes of a text found by its bytes.
use Prim.Native.Char.{code}
use Rattle.std.specs.Prelude.{◌≡◌, ◌-◌, ◌≤◌, ◌==◌, ◌||◌, ◌&&◌, ℕ, Bool, not, true, false, List}
use Rattle.std.specs.Prelude.{length, nat_lt, take, drop}
use Rattle.std.specs.Char.{is_ascii_alphanumeric}
use Rattle.std.specs.List.{list_all}
use Rattle.std.specs.Str.{is_utf8}
use Rattle.rustc_parse_format.specs.Characters.{first_passes}
use Rattle.rustc_parse_format.specs.declared.blocks.Stops.{Stops}

-- The text `rest` is a suffix of the text `input`, and both are UTF-8.
pub record IsLeft (input rest : List ℕ) : Type 0 where
  pub valid : is_utf8 input ≡ true
  pub valid_rest : is_utf8 rest ≡ true
  pub within : length rest ≤ length input
  pub tail : drop (length input - length rest) input ≡ rest

-- The test is about ASCII: each character that is not ASCII passes it.
abbrev pub IsOfAscii : (ℕ → Bool) → Type 0
IsOfAscii p = (c : ℕ) → 128 ≤ c → p c ≡ true

-- The first n bytes pass the test, and the next byte, if there is one, does not.
pub record IsFront (p : ℕ → Bool) (bytes : List ℕ) (n : ℕ) : Type 0 where
  pub within : n ≤ length bytes
  pub pass : list_all p (take n bytes) ≡ true
  pub next : first_passes p (drop n bytes) ≡ false

-- The two texts begin with the same n bytes, and these pass the test.
pub record IsSharedFront (p : ℕ → Bool) (bytes others : List ℕ) (n : ℕ) : Type 0 where
  pub within : n ≤ length bytes
  pub within_others : n ≤ length others
  pub same : take n bytes ≡ take n others
  pub pass : list_all p (take n bytes) ≡ true

-- A run goes on at the byte: it is at least `low` and at most `high`, where 255 is no bound, and
-- none of the four others.
abbrev pub is_no_stop : Stops → ℕ → Bool
is_no_stop s x = not (nat_lt x s.low) && ((s.high == 255 || not (nat_lt s.high x))
    && (not (x == s.first) && (not (x == s.second) && (not (x == s.third) && not (x == s.fourth)))))

-- The byte is an ASCII character that can continue a word: a letter, a digit or `_`.
abbrev pub is_word_byte : ℕ → Bool
is_word_byte b = is_ascii_alphanumeric b || (b == code "_")
