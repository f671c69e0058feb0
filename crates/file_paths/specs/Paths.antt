-- Paths as text.
use Rattle.std.specs.Prelude.{ℕ, ◌+◌, ◌*◌, ◌/◌, ◌%◌, Bool, not, ◌==◌, List, [], ◌∷◌, codes}
use Rattle.std.specs.Prelude.{flat_map, if◌then◌else◌}
use Rattle.std.specs.Char.{digit_char, digit_value}

-- The byte is not NUL.
abbrev pub is_not_nul : ℕ → Bool
is_not_nul b = not (b == 0)

-- The byte that two digits in base 16 name.
unfoldable pub byte_named : ℕ → ℕ → ℕ
byte_named high low = (16 * digit_value high + digit_value low) % 256

-- The text of a byte that is not UTF-8.
abbrev pub escape : ℕ → List ℕ
escape b = 0 ∷ digit_char (b / 16) ∷ digit_char (b % 16) ∷ []

-- The path of a text: NUL and two digits in base 16 stand for the byte that these name, and each
-- other byte for itself.
unfoldable pub path_bytes : List ℕ → List ℕ
path_bytes [] = []
path_bytes (b ∷ []) = b ∷ []
path_bytes (b ∷ high ∷ []) = b ∷ high ∷ []
path_bytes (b ∷ high ∷ low ∷ bs) = if b == 0 then byte_named high low ∷ path_bytes bs
    else b ∷ path_bytes (high ∷ low ∷ bs)

-- The path of a text as messages have it.
abbrev pub shown_path : List ℕ → List ℕ
shown_path text = flat_map (λ b. if b == 0 then codes "\\x" else b ∷ []) text
