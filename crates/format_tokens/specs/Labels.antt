-- The tokens that the functions for single parts add, as their contracts state them. Of public
-- functions only the contracts of `label` and `place_labels` cite it, the halves of `tokens`.
use Prim.Native.Char.{code}
use Rattle.std.specs.Prelude.{◌≡◌, ℕ, ◌++◌, ◌&&◌, Bool, false, List, [], ◌∷◌, length, map, chars}
use Rattle.std.specs.Char.{is_ascii_digit, is_whitespace}
use Rattle.rustc_parse_format.specs.Characters.{Text, begins_with, after_first}
use Rattle.format_tokens.specs.declared.kinds.Label.{Label as Sized}
use Rattle.format_tokens.specs.declared.parts.Run.{Run}
use Rattle.format_tokens.specs.declared.parts.Run.TheVariants.{Digits, Whitespace}
use Rattle.format_tokens.specs.Tokens.{Label}

-- The token with its length in place of its characters.
abbrev pub sized_token : Label → Sized
sized_token l = record { kind = l.0; width = length l.1 }

-- The tokens are added to a list, each with its length, and r is left of the text.
pub record Adds (ls : List Label) (r : Text) (old new : List Sized) (left : List ℕ) : Type 0 where
  pub adds : new ≡ old ++ map sized_token ls
  pub leaves : chars left ≡ r

-- The class of a run, as a test of characters.
abbrev pub passes : Run → ℕ → Bool
passes Digits = is_ascii_digit
passes Whitespace = is_whitespace

-- The text begins with `r#`, and then as the name does.
abbrev pub names_raw : Text → Text → Bool
names_raw t [] = false
names_raw t (c ∷ w) = begins_with (code "r") t && begins_with (code "#") (after_first t)
    && begins_with c (after_first (after_first t))
