-- The input `{{{x:>5}` through the most important definitions, one after the other: the example of
-- docs/DEFINITIONS.md.
use Prim.Native.Char.{code}
use Rattle.std.proofs.Common.{◌≡◌, ◌≢◌, ℕ, List, [], ◌∷◌, refl, ap, codes, map, Some, None, true}
use Rattle.std.proofs.Common.{false, arith}
use Rattle.rustc_parse_format.specs.Characters.{Text}
use Rattle.rustc_parse_format.specs.Marks.{Span, Start}
use Rattle.rustc_parse_format.specs.Types.{Format, Right, Named, Is, Piece, Lit, NextArgument}
use Rattle.rustc_parse_format.specs.Types.{default_spec}
use Rattle.rustc_parse_format.specs.Spelling.{IsPart}
use Rattle.rustc_parse_format.specs.Syntax.{Word, NumberCount, PlainWidth, NoPrecision, WordType}
use Rattle.rustc_parse_format.specs.Syntax.{FormatText, Formatting, PieceText, DoubledText}
use Rattle.rustc_parse_format.specs.Syntax.{PlaceholderText, fill_part, piece_part}
use Rattle.rustc_parse_format.specs.Grammar.{Begins, Reads, piece_values}
use Rattle.rustc_parse_format.specs.Call.{walk, pieces_of, faults_of}
use Rattle.rustc_parse_format.proofs.Grammar.Readings.{Reads-unique}
use Rattle.std.proofs.lemmas.Bool.{false≢true}
use Rattle.std.specs.Prelude.{is_some}
use Rattle.rustc_parse_format.specs.World.{Place}
use Rattle.rustc_parse_format.proofs.Rows.Definitions.{computing, pieces, start, ended}

abbrev input : Text
input = codes "{{{x:>5}"

abbrev rest : Text
rest = codes "{x:>5}"

-- As it is written.
abbrev braces : PieceText
braces = DoubledText (code "{") []

abbrev sized : FormatText
sized = record {
  fill = None;
  align = Right;
  sign = None;
  alternate = false;
  width = PlainWidth (NumberCount (codes "5"));
  precision = NoPrecision;
  type = WordType [];
}

abbrev placeholder : PieceText
placeholder =
    PlaceholderText (record { position = Word (codes "x"); space = []; spec = Formatting sized }) []

-- As it is read, without spans.
abbrev bare_pieces : List (Piece (Unit {0}))
bare_pieces =
    Lit (codes "{")
    ∷ NextArgument (record {
      position = Named (codes "x");
      position_span = tt;
      format = record default_spec { align = Right; width = Is 5 };
    })
    ∷ []

-- A fill may not be left out where the second character aligns.
no_fill-is_refused : ¬ (IsPart (codes ">>5}") (fill_part None) (codes ">>5}"))
no_fill-is_refused h = false≢true h.ends

-- The text is the doubled brace and then the rest, and the rest is the placeholder.
braces-are_written : IsPart input (piece_part Format braces) rest
unfolding computing
braces-are_written = record { whole = refl; formed = refl; ends = refl }

placeholder-is_written : IsPart rest (piece_part Format placeholder) []
unfolding computing
placeholder-is_written = record { whole = refl; formed = refl; ends = refl }

pieces-have_these_values : piece_values 0 (braces ∷ placeholder ∷ []) ≡ bare_pieces
unfolding computing
pieces-have_these_values = refl

-- So the text begins with a brace, which takes no number, and reads as both pieces.
brace-begins_it : Begins Format 0 input (Lit (codes "{")) rest 0
unfolding computing
brace-begins_it = record {
  text = braces;
  written = braces-are_written;
  clean = tt;
  means = refl;
  numbered = refl;
}

head : Text → ℕ
head [] = 0
head (c ∷ t) = c

name-is_no_underscore : codes "x" ≢ codes "_"
unfolding head
name-is_no_underscore e = let h : ◌≡◌ {A = ℕ} (code "x") (code "_") = ap head e in omega arith

input-reads_as_both : Reads Format 0 input bare_pieces
unfolding computing
input-reads_as_both = (
  rest,
  0,
  brace-begins_it,
  (
    [],
    0,
    record {
      text = placeholder;
      written = placeholder-is_written;
      clean = record {
        position = name-is_no_underscore;
        name = λ e. cc;
        spec = record { width = omega arith; precision = tt; type = λ e. cc e };
      };
      means = refl;
      numbered = refl;
    },
    refl,
  ),
)

input-reads_as_nothing_else : (ps : List (Piece (Unit {0}))) → Reads Format 0 input ps
    → ps ≡ bare_pieces
input-reads_as_nothing_else ps h = Reads-unique Format 0 input ps bare_pieces h input-reads_as_both

-- Three calls without a fault, the last without a piece,
calls-are_three : map (λ k. is_some k.piece) (walk Format 0 input) ≡ true ∷ true ∷ false ∷ []
unfolding computing
calls-are_three = refl

calls-find_no_fault : faults_of (walk Format 0 input) ≡ []
unfolding computing
calls-find_no_fault = refl

-- give the same with marks, by how many characters are left,
marked : List (Piece Span)
marked =
    Lit (codes "{")
    ∷ NextArgument (record {
      position = Named (codes "x");
      position_span = record { from = Start 5; to = Start 4 };
      format = record (default_spec {A = Span}) {
        align = Right;
        width = Is 5;
        width_span = Some (record { from = Start 2; to = Start 1 });
      };
    })
    ∷ []

calls-give_marks : pieces_of (walk Format 0 input) ≡ marked
unfolding computing marked
calls-give_marks = refl

-- and the world of a text after a quote makes them bytes.
placed : List (Piece Place)
placed =
    Lit (codes "{")
    ∷ NextArgument (record {
      position = Named (codes "x");
      position_span = (4, 5);
      format = record (default_spec {A = Place}) {
        align = Right;
        width = Is 5;
        width_span = Some (7, 8);
      };
    })
    ∷ []

world-makes_them_bytes : pieces input ≡ placed
unfolding computing placed
world-makes_them_bytes = refl

-- After the last call nothing is left, no number was taken, and there is no error; no word was
-- given back, since none was tried.
state-is_at_the_end : ended input ≡ record (start input) { rest = [] }
unfolding computing
state-is_at_the_end = refl
