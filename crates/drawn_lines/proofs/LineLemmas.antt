-- The first line of a text, by its characters.
use Rattle.std.proofs.Common.{◌≡◌, ℕ, ◌+◌, Bool, List, [], ◌∷◌, arith, chars, not, suc, IsUtf8}
use Rattle.std.proofs.Common.{refl}
use Rattle.std.proofs.lemmas.Bool.{and_from, cond_both}
use Rattle.std.proofs.lemmas.Bool.Decides.{nat_tests}
use Rattle.std.specs.List.{position_or_len}
use Rattle.rustc_parse_format.specs.Bytes.{IsFront}
use Rattle.rustc_parse_format.specs.Characters.{front}
use Rattle.rustc_parse_format.proofs.Bytes.ByteFronts.{chars-front}
use Rattle.drawn_lines.specs.Places.{first_line, is_line_feed}

-- The line goes on with this character.
abbrev pub goes_on : ℕ → Bool
goes_on c = not (is_line_feed c)

line-front : (s : List ℕ) → IsFront goes_on s (position_or_len is_line_feed s)
line-front [] = record { within = omega arith; pass = refl; next = refl }
line-front (b ∷ s) =
    let left = line-front s in
    let n = position_or_len is_line_feed s in
    let more : 1 + n ≡ suc n = omega arith in
    cond_both {A = ℕ} (goes_on b) (1 + n) 0 (IsFront goes_on (b ∷ s))
    (λ yes. rw more (record {
      within = omega (arith, left.within);
      pass = and_from _ _ yes left.pass;
      next = left.next;
    }))
    (λ no. record { within = omega arith; pass = refl; next = no })

-- It ends before the first line feed.
pub line-chars : (s : List ℕ) → IsUtf8 s → chars (first_line s) ≡ front goes_on (chars s)
line-chars s u =
    chars-front goes_on (λ c big. grind (arith, nat_tests)) s (position_or_len is_line_feed s) u
    (line-front s)
