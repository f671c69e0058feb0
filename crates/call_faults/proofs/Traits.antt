-- Types of one character.
use Rattle.std.proofs.Common.{◌≡◌, ℕ, ◌++◌, ◌==◌, Bool, true, false, not, List, [], ◌∷◌, Option}
use Rattle.std.proofs.Common.{Some}
use Rattle.std.proofs.Common.{None, refl, sym, ap, ◌∙◌, IsUtf8, chars, encode_utf8, codes}
use Rattle.std.specs.Prelude.{is_some}
use Rattle.std.specs.List.{list_any, slice_get}
use Rattle.std.proofs.lemmas.Str.{chars_past_char}
use Rattle.rustc_parse_format.specs.Characters.{Text, is_nil}
use Rattle.call_faults.specs.Lookups.{is_known}

last-only : (t : Text) (b : Bool) → is_some (slice_get t 0) ≡ not b → b ≡ is_nil t
last-only [] true e = refl
last-only [] false e = absurd cc
last-only (c ∷ t) true e = absurd cc
last-only (c ∷ t) false e = refl

-- a text whose first character is a type is one exactly if there is no second
pub known-one : (bs rest : List ℕ) (c : ℕ) (o : Option ℕ) (b : Bool) → IsUtf8 bs
    → bs ≡ encode_utf8 c ++ rest → o ≡ slice_get (chars rest) 0 → is_some o ≡ not b
    → list_any (λ d. c == d) (codes "?oxXpbeE") ≡ true → b ≡ is_known (chars bs)
known-one bs rest c o b u e f g h =
    rw (chars_past_char bs rest c u e, h) (last-only (chars rest) b (ap is_some (sym f) ∙ g))
