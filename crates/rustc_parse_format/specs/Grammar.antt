-- The grammar: which pieces, without their spans, a text reads as. The public rule is the grammar
-- of format strings in the documentation of `std::fmt`.
use Rattle.std.specs.Prelude.{◌≡◌, ◌≢◌, ℕ, ◌≤◌, ◌<◌, ◌++◌, IsTrue, List, [], ◌∷◌, length, take}
use Rattle.std.specs.Prelude.{drop, codes}
use Rattle.std.specs.List.{AllByRecursion}
use Rattle.std.specs.Str.Parse.{digits_value}
use Rattle.rustc_parse_format.specs.Characters.{Text}
use Rattle.rustc_parse_format.specs.Spelling.{IsPart}
use Rattle.rustc_parse_format.specs.Types.{Mode, wants_names, Piece}
use Rattle.rustc_parse_format.specs.Syntax.{CountText, NumberCount, IndexCount, NameCount, NoCount}
use Rattle.rustc_parse_format.specs.Syntax.{WidthText, PaddedWidth, ZeroIndexWidth, PlainWidth}
use Rattle.rustc_parse_format.specs.Syntax.{PrecisionText, NoPrecision, StarPrecision, DotPrecision}
use Rattle.rustc_parse_format.specs.Syntax.{TypeText, DebugHexType, CharacterType, WordType}
use Rattle.rustc_parse_format.specs.Syntax.{FormatText, SpecText, Default, Formatting, Modifier}
use Rattle.rustc_parse_format.specs.Syntax.{DiagnosticText, PositionText, Digits, Word, RawWord}
use Rattle.rustc_parse_format.specs.Syntax.{NoPosition, FieldText, PieceText, RunText, DoubledText}
use Rattle.rustc_parse_format.specs.Syntax.{PlaceholderText, piece_part}
use Rattle.rustc_parse_format.specs.Values.{given_position, is_name, piece_value, number_after}

-- Some well-formed texts are outside the grammar: the word `_`, an integer above 65535, and a raw
-- identifier. In the mode DiagnosticNamed so are an argument without a name, and text after a
-- colon. A part is clean if it has none of these.

-- The word may be a name: it is not `_`.
abbrev pub IsNamed : Text → Type 0
IsNamed w = w ≢ codes "_"

-- The integer is at most 65535, so it fits into 16 bits.
abbrev pub IsSmall : Text → Type 0
IsSmall ds = digits_value 10 ds ≤ 65535

-- The position is clean. A raw identifier never is.
abbrev pub IsCleanPosition : PositionText → Type 0
IsCleanPosition (Digits ds) = IsSmall ds
IsCleanPosition (Word w) = IsNamed w
IsCleanPosition (RawWord w) = ⊥
IsCleanPosition NoPosition = Unit {0}

-- The count is clean.
abbrev pub IsCleanCount : CountText → Type 0
IsCleanCount (NumberCount ds) = IsSmall ds
IsCleanCount (IndexCount ds) = IsSmall ds
IsCleanCount (NameCount w) = IsNamed w
IsCleanCount NoCount = Unit {0}

-- The width is clean.
abbrev pub IsCleanWidth : WidthText → Type 0
IsCleanWidth (PaddedWidth k) = IsCleanCount k
IsCleanWidth ZeroIndexWidth = Unit {0}
IsCleanWidth (PlainWidth k) = IsCleanCount k

-- The precision is clean.
abbrev pub IsCleanPrecision : PrecisionText → Type 0
IsCleanPrecision NoPrecision = Unit {0}
IsCleanPrecision StarPrecision = Unit {0}
IsCleanPrecision (DotPrecision k) = IsCleanCount k

-- The type is clean.
abbrev pub IsCleanType : TypeText → Type 0
IsCleanType (DebugHexType h) = Unit {0}
IsCleanType (CharacterType c) = Unit {0}
IsCleanType (WordType w) = IsNamed w

-- A format specification is clean if its width, its precision and its type are.
pub record IsCleanFormat (p : FormatText) : Type 0 where
  pub width : IsCleanWidth p.width
  pub precision : IsCleanPrecision p.precision
  pub type : IsCleanType p.type

-- The part after the colon is clean. The text in a diagnostic is not a word, so `_` is clean there.
-- In the mode DiagnosticNamed it has to be empty.
abbrev pub IsCleanSpec : Mode → SpecText → Type 0
IsCleanSpec mode Default = Unit {0}
IsCleanSpec mode (Formatting p) = IsCleanFormat p
IsCleanSpec mode (Modifier w) = IsNamed w
IsCleanSpec mode (DiagnosticText u) = IsTrue (wants_names mode) → u ≡ []

-- A field is clean if its position and its specification are, and, in the mode DiagnosticNamed, if
-- its position is a name.
pub record IsClean (mode : Mode) (a : FieldText) : Type 0 where
  pub position : IsCleanPosition a.position
  pub name : IsTrue (wants_names mode) → IsTrue (is_name (given_position a.position))
  pub spec : IsCleanSpec mode a.spec

-- The piece is clean. Only a placeholder may not be.
abbrev pub IsCleanPiece : Mode → PieceText → Type 0
IsCleanPiece mode (RunText u) = Unit {0}
IsCleanPiece mode (DoubledText b u) = Unit {0}
IsCleanPiece mode (PlaceholderText a space) = IsClean mode a

-- The text t begins with the piece p, and r is left after it. The piece takes its numbers from c
-- on, and `next` is the next number after it.
pub record Begins (mode : Mode) (c : ℕ) (t : Text) (p : Piece (Unit {0})) (r : Text)
    (next : ℕ) : Type 0 where
  pub text : PieceText
  pub written : IsPart t (piece_part mode text) r
  pub clean : IsCleanPiece mode text
  pub means : p ≡ piece_value c text
  pub numbered : next ≡ number_after c text

-- The text reads as these pieces, one after the other and to its end. They take their numbers from
-- c on.
abbrev pub Reads : Mode → ℕ → Text → List (Piece (Unit {0})) → Type 0
Reads mode c t [] = t ≡ []
Reads mode c t (p ∷ ps) = (r : Text) × (next : ℕ) × Begins mode c t p r next × Reads mode next r ps

-- The text is in the grammar of the mode: it reads as some list of pieces.
abbrev pub IsInGrammar : Mode → Text → Type 0
IsInGrammar mode t = (ps : List (Piece (Unit {0}))) × Reads mode 0 t ps

-- Some of the pieces, the first ones, are the reading of a prefix of the text. The prefix ends
-- before the end of the text, and the rest begins with no piece, whatever the next number is.
pub record StopsInside (mode : Mode) (c : ℕ) (t : Text) (ps : List (Piece (Unit {0}))) :
    Type 0 where
  pub pieces : ℕ
  pub characters : ℕ
  pub inside : characters < length t
  pub reads : Reads mode c (take characters t) (take pieces ps)
  pub stops : (n : ℕ) (p : Piece (Unit {0})) (r : Text) (next : ℕ)
      → ¬ (Begins mode n (drop characters t) p r next)

-- The meanings of written pieces, one after the other. They take their numbers from c on.
abbrev pub piece_values : ℕ → List PieceText → List (Piece (Unit {0}))
piece_values c [] = []
piece_values c (x ∷ xs) = piece_value c x ∷ piece_values (number_after c x) xs

-- The spellings of written pieces, one after the other.
abbrev pub spelled_pieces : Mode → List PieceText → Text
spelled_pieces mode [] = []
spelled_pieces mode (x ∷ xs) = (piece_part mode x).spelling ++ spelled_pieces mode xs

-- There are written pieces, each well formed and clean, whose meanings are ps and whose spellings,
-- one after the other, are the whole text t.
pub record IsSpelled (mode : Mode) (c : ℕ) (t : Text) (ps : List (Piece (Unit {0}))) : Type 0 where
  pub texts : List PieceText
  pub formed : AllByRecursion (λ x. IsTrue (piece_part mode x).is_formed
      × IsCleanPiece mode x) texts
  pub means : piece_values c texts ≡ ps
  pub whole : spelled_pieces mode texts ≡ t
