-- The characters that a cursor has given back, to be read again. Reading forward changes nothing
-- here, so only the contracts of functions that may give a word back mention them.
use Rattle.std.specs.Prelude.{ℕ, ◌+◌, ◌-◌, ◌≤◌, ◌||◌, Bool, length}
use Rattle.rustc_parse_format.specs.Characters.{Text, is_id_start, is_id_continue, rest_after}

pub record Rewinds : Type 0 where
  -- The number of characters that the cursor went back over.
  pub count : ℕ
  -- The number of characters that were left when it last went back. Before that, the number that
  -- the input has.
  pub left : ℕ

-- The character may be part of a word.
abbrev pub is_word_part : ℕ → Bool
is_word_part c = is_id_start c || is_id_continue c

-- The number of characters that are left after the part of a word at the start of t.
abbrev pub after_part : Text → ℕ
after_part t = length (rest_after is_word_part t)

-- The cursor, with t left, is at least as far as any point where it went back.
abbrev pub IsFurthest : Text → Rewinds → Type 0
IsFurthest t b = length t ≤ b.left

-- The characters that were given back are at most those before the point where it last went back.
-- Between the current position and that point are only characters of a word.
pub record IsPaid (input rest : Text) (b : Rewinds) : Type 0 where
  pub count : b.count + b.left ≤ length input
  pub word : after_part rest ≤ b.left

-- Nothing was given back of this input.
abbrev pub nothing_back : Text → Rewinds
nothing_back t = record { count = 0; left = length t }

-- The characters that are given back after also going back from u to t, which are both suffixes of
-- the input.
abbrev pub given_back : Text → Text → Rewinds → Rewinds
given_back u t b = record { count = b.count + (length t - length u); left = length u }
