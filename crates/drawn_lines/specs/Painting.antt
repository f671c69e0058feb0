-- Texts in the styles that rustc 1.95 gives them on a terminal.
use Rattle.std.specs.Prelude.{◌≡◌, ℕ, ◌++◌, ◌==◌, Bool, true, false, List, [], ◌∷◌, codes, flat_map}
use Rattle.std.specs.Prelude.{if◌then◌else◌, length}
use Rattle.std.specs.Char.{is_ascii_digit}
use Rattle.std.specs.List.{list_all}
use Rattle.drawn_lines.specs.Glyphs.{IsHarmless}
use Rattle.drawn_lines.specs.declared.paint.Palette.{Palette}
use Rattle.drawn_lines.specs.declared.paint.Palette.TheVariants.{Colourless, Error, Warning, Note}
use Rattle.drawn_lines.specs.declared.paint.Style.{Style}
use Rattle.drawn_lines.specs.declared.paint.Style.TheVariants.{Plain, Primary, PrimaryText}
use Rattle.drawn_lines.specs.declared.paint.Style.TheVariants.{Secondary, SecondaryText, Bold, Help}
use Rattle.drawn_lines.specs.declared.paint.Style.TheVariants.{Addition, Removal}

-- The colours of this level, if there are colours.
abbrev pub palette_of : Bool → Palette → Palette
palette_of colours level = if colours then level else Colourless

-- There are colours.
abbrev pub has_colours : Palette → Bool
has_colours Colourless = false
has_colours Error = true
has_colours Warning = true
has_colours Note = true

-- The escapes that set the colour of a level: bright red for an error, yellow for a warning, bright
-- green for a note.
abbrev pub level_escape : Palette → List ℕ
level_escape Colourless = []
level_escape Error = codes "\u{1b}[1m\u{1b}[91m"
level_escape Warning = codes "\u{1b}[1m\u{1b}[33m"
level_escape Note = codes "\u{1b}[1m\u{1b}[92m"

-- The escapes that set a style: labels that are not primary are bright blue, helps bright cyan,
-- what is new bright green, and what is left out bright red.
unfoldable pub escape : Palette → Style → List ℕ
escape p Plain = []
escape p Primary = level_escape p
escape p PrimaryText = level_escape p
escape p Secondary = codes "\u{1b}[1m\u{1b}[94m"
escape p SecondaryText = codes "\u{1b}[1m\u{1b}[94m"
escape p Bold = codes "\u{1b}[1m"
escape p Help = codes "\u{1b}[1m\u{1b}[96m"
escape p Addition = codes "\u{1b}[92m"
escape p Removal = codes "\u{1b}[91m"

-- A number of a style, another one for each.
abbrev pub rank : Style → ℕ
rank Plain = 0
rank Primary = 1
rank PrimaryText = 2
rank Secondary = 3
rank SecondaryText = 4
rank Bold = 5
rank Help = 6
rank Addition = 7
rank Removal = 8

-- The escape that ends a style, if it has one.
abbrev pub reset_of : Style → List ℕ
reset_of s = if rank s == 0 then [] else codes "\u{1b}[0m"

-- The escapes between a text of one style and a text of another.
abbrev pub change : Palette → Style → Style → List ℕ
change p s t = if rank s == rank t then [] else reset_of s ++ escape p t

-- The escapes before a text in a style, if there are colours.
abbrev pub opening : Palette → Style → List ℕ
opening p s = if has_colours p then escape p s else []

-- The escape after it.
abbrev pub closing : Palette → List ℕ
closing p = if has_colours p then codes "\u{1b}[0m" else []

-- A text in a style. No text has no style.
abbrev pub painted_text : Palette → Style → List ℕ → List ℕ
painted_text p s bs = if length bs == 0 then [] else opening p s ++ (bs ++ closing p)

-- A text of one style.
pub record Piece : Type 0 where
  pub style : Style
  pub text : List ℕ

-- A text of a style as a piece.
abbrev pub piece : Style → List ℕ → Piece
piece s bs = record { style = s; text = bs }

-- Pieces after one of the style s: between two that have something of the same style there are no
-- escapes.
abbrev pub pieces_after : Palette → Style → List Piece → List ℕ
pieces_after p s [] = reset_of s
pieces_after p s (x ∷ xs) =
    if length x.text == 0 then pieces_after p s xs
    else change p s x.style ++ (x.text ++ pieces_after p x.style xs)

-- Pieces without their styles.
abbrev pub plain_text : List Piece → List ℕ
plain_text xs = flat_map (λ x. x.text) xs

-- Pieces in their styles, if there are colours.
abbrev pub pieces : Palette → List Piece → List ℕ
pieces p xs = if has_colours p then pieces_after p Plain xs else plain_text xs

-- A part of a text for a terminal: a text, or an escape of SGR (of ECMA-48) with a number, which
-- sets a colour or resets it.
pub data Part : Type 0 where
  Text : List ℕ → Part
  Sgr : List ℕ → Part

-- The bytes of a part.
abbrev pub part_bytes : Part → List ℕ
part_bytes (Text bs) = bs
part_bytes (Sgr n) = codes "\u{1b}[" ++ (n ++ codes "m")

-- The bytes of a part without colours.
abbrev pub text_bytes : Part → List ℕ
text_bytes (Text bs) = bs
text_bytes (Sgr n) = []

-- A terminal obeys no character of a text, and of an escape it has digits alone.
abbrev pub AreSafe : List Part → Type 0
AreSafe [] = Unit {0}
AreSafe (Text bs ∷ ps) = IsHarmless bs × AreSafe ps
AreSafe (Sgr n ∷ ps) = (list_all is_ascii_digit n ≡ true) × AreSafe ps

-- A terminal obeys nothing of a text but colours.
abbrev pub IsColoured : List ℕ → Type 0
IsColoured t = (ps : List Part) × (t ≡ flat_map part_bytes ps) × AreSafe ps

-- A terminal obeys nothing of the text t but colours, and without these it is the text u.
pub record IsColourOf (t u : List ℕ) : Type 0 where
  pub parts : List Part
  pub are_all : t ≡ flat_map part_bytes parts
  pub are_plain : u ≡ flat_map text_bytes parts
  pub are_safe : AreSafe parts

-- A terminal obeys nothing of a text, but for colours if it may have some.
abbrev pub IsHarmlessWith : Bool → List ℕ → Type 0
IsHarmlessWith false t = IsHarmless t
IsHarmlessWith true t = IsColoured t
