-- The tokens of an input with their byte ranges.
use Rattle.std.specs.Prelude.{ℕ, ◌+◌, ◌-◌, ◌++◌, Bool, if◌then◌else◌, List, [], ◌∷◌, length, take}
use Rattle.std.specs.Prelude.{Option}
use Rattle.std.specs.Prelude.{Some, None}
use Rattle.rustc_parse_format.specs.Characters.{Text, byte_length}
use Rattle.rustc_parse_format.specs.Marks.{Start}
use Rattle.rustc_parse_format.specs.Types.{Mode}
use Rattle.rustc_parse_format.specs.Source.{is_source, unappended_input}
use Rattle.rustc_parse_format.specs.World.{World, number_of, place_of, world}
use Rattle.format_tokens.specs.declared.kinds.Kind.TheVariants.{Quote}
use Rattle.format_tokens.specs.Tokens.{Label, token}
use Rattle.format_tokens.specs.Escapes.{Placed, cut}
use Rattle.format_tokens.specs.Walk.{tokens_of}

-- The tokens of the first n characters. One that goes on after these is shortened.
abbrev pub first_tokens : ℕ → List Label → List Label
first_tokens n [] = []
first_tokens n (l ∷ ls) = token l.0 (take n l.1) ++ first_tokens (n - length l.1) ls

-- The tokens of an input, faulty or not, without an appended newline.
abbrev pub input_tokens : Mode → Text → Bool → List Label
input_tokens mode input appended = first_tokens (length (unappended_input appended input))
    (tokens_of mode input)

-- The tokens with their byte ranges, where n characters are left at the first of them. A token goes
-- from where its first character starts to where the next character starts, or to the end of the
-- text.
abbrev pub placed_tokens : World → ℕ → List Label → List Placed
placed_tokens w n [] = []
placed_tokens w n (l ∷ ls) =
    (l.0, place_of w (record { from = Start n; to = Start (n - length l.1) }))
    ∷ placed_tokens w (n - length l.1) ls

-- The tokens of a text that starts at the byte `at`, with their byte ranges.
abbrev pub tokens_in_text : ℕ → List Label → List Placed
tokens_in_text at [] = []
tokens_in_text at (l ∷ ls) =
    (l.0, (at, at + byte_length l.1)) ∷ tokens_in_text (at + byte_length l.1) ls

-- The tokens of a text of n characters with their byte ranges in its source literal, between two
-- tokens around the text: one from the first byte of the literal to the start of the first
-- character, and one from the end of the text to the last byte.
abbrev pub tokens_in_literal : World → ℕ → Text → List Label → List Placed
tokens_in_literal w n literal ls = (Quote, (0, number_of w (Start n)))
    ∷ (placed_tokens w n ls ++ (Quote, (w.end, byte_length literal)) ∷ [])

-- The tokens of an input in its source literal, or in the input if the snippet is no source literal
-- of it. Escapes are in the tokens of the characters that they stand for.
unfoldable pub whole_tokens : Mode → Text → Option ℕ → Option Text → Bool → List Placed
whole_tokens mode input style None appended = tokens_in_text 0 (input_tokens mode input appended)
whole_tokens mode input style (Some snippet) appended =
    if is_source input style (Some snippet) appended
    then tokens_in_literal (world input style (Some snippet) appended) (length input) snippet
    (input_tokens mode input appended)
    else tokens_in_text 0 (input_tokens mode input appended)

-- The tokens cut at the escapes of a literal of this style. A raw literal has none.
abbrev pub cut_in : Option ℕ → Text → List Placed → List Placed
cut_in None literal ts = cut literal ts
cut_in (Some n) literal ts = ts

-- The tokens of an input. In its source literal they are cut at escapes.
unfoldable pub tokens : Mode → Text → Option ℕ → Option Text → Bool → List Placed
tokens mode input style None appended = whole_tokens mode input style None appended
tokens mode input style (Some snippet) appended =
    let ts = whole_tokens mode input style (Some snippet) appended in
    if is_source input style (Some snippet) appended then cut_in style snippet ts else ts
