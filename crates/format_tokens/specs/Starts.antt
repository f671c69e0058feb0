-- Tokens by numbers of characters and the places where characters start: only the contracts of
-- private functions cite it.
use Rattle.std.specs.Prelude.{ℕ, ◌-◌, ◌++◌, List, [], ◌∷◌, map, min, ◌==◌, if◌then◌else◌}
use Rattle.rustc_parse_format.specs.Marks.{Start}
use Rattle.rustc_parse_format.specs.World.{World, Place, place_of}
use Rattle.format_tokens.specs.declared.kinds.Kind.{Kind}
use Rattle.format_tokens.specs.declared.kinds.Label.{Label as Sized}
use Rattle.format_tokens.specs.Escapes.{Placed}

-- The byte offsets where the characters of an input start, and that of the end of the text.
abbrev pub starts_of : World → List ℕ
starts_of w = map (λ (p : Place). p.0) w.places ++ w.end ∷ []

-- A kind and a number of characters.
abbrev pub Pair : Type 0
Pair = Kind × ℕ

-- The tokens as pairs, which `marked` takes.
abbrev pub pairs : List Sized → List Pair
pairs ss = map (λ (s : Sized). (s.kind, s.width)) ss

-- The tokens with their byte ranges, where n characters are left at the first of them, and the
-- first k of these are shown.
abbrev pub placed_sizes : World → ℕ → ℕ → List Pair → List Placed
placed_sizes w n k [] = []
placed_sizes w n k (s ∷ ss) =
    (if min s.1 k == 0 then []
    else (s.0, place_of w (record { from = Start n; to = Start (n - min s.1 k) })) ∷ [])
    ++ placed_sizes w (n - min s.1 k) (k - s.1) ss
