-- Fronts of texts that read as the same tokens whatever follows.
use Prim.Native.Char.{code}
use Rattle.std.specs.Prelude.{◌≡◌, ℕ, Bool, not, ◌||◌, ◌==◌, ◌++◌, IsTrue, List, [], ◌∷◌}
use Rattle.rust_tokens.specs.Texts.{Text}
use Rattle.rust_tokens.specs.Runs.{is_id_start, is_id_continue}
use Rattle.rust_tokens.specs.Numbers.{is_sign}
use Rattle.rust_tokens.specs.Tokens.{Lexeme, ReadsTo}

-- The character stands in words, in numbers, or in what opens a literal.
abbrev pub is_inner : ℕ → Bool
is_inner c = c == code "#" || (c == code "\"" || (c == code "'" || (c == code "."
    || (is_sign c || is_id_continue c))))

-- The character may end a front: no token before it depends on what follows it.
abbrev pub is_barrier : ℕ → Bool
is_barrier c = not (is_inner c)

-- The last character of the text is a barrier.
abbrev pub EndsWithBarrier : Text → Type 0
EndsWithBarrier t = (u : Text) × (d : ℕ) × IsTrue (is_barrier d) × (t ≡ u ++ d ∷ [])

-- The text reads as these tokens wherever a word follows, whatever that word is and comes after it.
abbrev pub ReadsBeforeWords : Text → List Lexeme → Type 0
ReadsBeforeWords u xs = (c : ℕ) (t : Text) → IsTrue (is_id_start c)
    → ReadsTo (u ++ c ∷ t) xs (c ∷ t)
