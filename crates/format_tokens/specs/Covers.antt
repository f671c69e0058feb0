-- The byte ranges of tokens: they cover the source literal, or the text if there is none, and each
-- reads back. A cut leaves each mark in its byte range.
use Rattle.std.specs.Prelude.{◌≡◌, ℕ, ◌<◌, ◌++◌, ◌⊎◌, Bool, List, [], ◌∷◌, map, Option}
use Rattle.std.specs.Prelude.{encode_utf8_all, slice_range}
use Rattle.std.specs.List.{AllByRecursion}
use Rattle.rustc_parse_format.specs.Characters.{Text}
use Rattle.rustc_parse_format.specs.ReadBack.{text_inside, source_units}
use Rattle.rustc_parse_format.specs.World.{Place, quote_offset}
use Rattle.format_tokens.specs.declared.kinds.Kind.{Kind}
use Rattle.format_tokens.specs.declared.kinds.Kind.TheVariants.{EscapeSequence, Quote}
use Rattle.format_tokens.specs.Escapes.{Placed}
use Rattle.format_tokens.specs.Sections.{has_mark, is_mark}
use Rattle.format_tokens.specs.Tokens.{Label}

-- The byte ranges go from one byte to another: each begins where the one before it ends, and none
-- is empty.
abbrev pub IsCover : ℕ → ℕ → List Place → Type 0
IsCover from to [] = from ≡ to
IsCover from to (p ∷ ps) = (p.0 ≡ from) × (from < p.1) × IsCover p.1 to ps

-- The byte ranges of tokens.
abbrev pub ranges_of : List Placed → List Place
ranges_of ts = map (λ (t : Placed). t.1) ts

-- The tokens ts are the parts of others: over the bytes of each of these are tokens of its kind and
-- escapes, and one of them is a mark exactly if it is one.
abbrev pub AreParts : List Placed → List Placed → Type 0
AreParts [] ts = ts ≡ []
AreParts (x ∷ xs) ts = (ys zs : List Placed) × (ts ≡ ys ++ zs)
    × IsCover x.1.0 x.1.1 (ranges_of ys)
    × AllByRecursion (λ (y : Placed). (y.0 ≡ x.0) ⊎ (y.0 ≡ EscapeSequence)) ys
    × (has_mark ys ≡ is_mark x.0) × AreParts xs zs

-- The tokens with the text that their byte ranges stand for in a source literal of the input, with
-- its escapes decoded.
abbrev pub read_back : Text → Option ℕ → Text → Bool → List Placed → List Label
read_back input style source appended ts = map (λ (t : Placed).
    (t.0, text_inside t.1 (quote_offset style) (source_units input style source appended))) ts

-- The tokens of a text in those of the quotes around it, which stand for no text.
abbrev pub in_quotes : List Label → List Label
in_quotes ls = (Quote, []) ∷ (ls ++ (Quote, []) ∷ [])

-- The tokens with the bytes of a text in their byte ranges.
abbrev pub slices : List ℕ → List Placed → List (Kind × List ℕ)
slices bytes ts = map (λ (t : Placed). (t.0, slice_range bytes t.1.0 t.1.1)) ts

-- The tokens with their characters in UTF-8.
abbrev pub encoded_tokens : List Label → List (Kind × List ℕ)
encoded_tokens ls = map (λ (l : Label). (l.0, encode_utf8_all l.1)) ls
