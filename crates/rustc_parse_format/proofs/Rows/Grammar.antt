-- Worked examples of the parts of a placeholder: how a text is written, and other ways in which it
-- is not written.
use Prim.Native.Char.{code}
use Rattle.std.proofs.Common.{◌≡◌, [], ◌∷◌, List, refl, codes, Some, None, true, false, arith}
use Rattle.std.proofs.lemmas.Bool.{false≢true}
use Rattle.rustc_parse_format.specs.Types.{Format, Diagnostic, Left, Right, Unknown, Plus, Lower}
use Rattle.rustc_parse_format.specs.Types.{Implicit, Is, Piece, NextArgument, default_spec}
use Rattle.rustc_parse_format.specs.Spelling.{IsPart}
use Rattle.rustc_parse_format.specs.Syntax.{Word, RawWord, NoPosition, NumberCount, IndexCount}
use Rattle.rustc_parse_format.specs.Syntax.{NameCount, NoCount, PaddedWidth, ZeroIndexWidth}
use Rattle.rustc_parse_format.specs.Syntax.{PlainWidth, NoPrecision}
use Rattle.rustc_parse_format.specs.Syntax.{DotPrecision, DebugHexType, CharacterType, WordType}
use Rattle.rustc_parse_format.specs.Syntax.{FormatText, Default, Formatting, DiagnosticText}
use Rattle.rustc_parse_format.specs.Syntax.{FieldText}
use Rattle.rustc_parse_format.specs.Syntax.{PlaceholderText, opened_part, IsCut}
use Rattle.rustc_parse_format.specs.Grammar.{Reads}
use Rattle.rustc_parse_format.proofs.Grammar.Readings.{Reads-unique}
use Rattle.rustc_parse_format.proofs.Rows.Definitions.{computing}

-- a specification in which nothing is written
abbrev nothing : FormatText
nothing = record {
  fill = None;
  align = Unknown;
  sign = None;
  alternate = false;
  width = PlainWidth NoCount;
  precision = NoPrecision;
  type = WordType [];
}

abbrev spec : FormatText → FieldText
spec p = record { position = NoPosition; space = []; spec = Formatting p }

-- One placeholder, with what is written in it.
all_parts-are_written :
    IsCut Format (codes "a :*>+#05$.b$x?}")
    (record {
      position = Word (codes "a");
      space = codes " ";
      spec = Formatting
          (record {
            fill = Some (code "*");
            align = Right;
            sign = Some Plus;
            alternate = true;
            width = PaddedWidth (IndexCount (codes "5"));
            precision = DotPrecision (NameCount (codes "b"));
            type = DebugHexType Lower;
          });
    })
    (codes "}")
unfolding computing
all_parts-are_written = record { whole = refl; formed = refl; ends = refl }

brace_fill-is_no_end : IsCut Format (codes ":}<}")
    (spec (record nothing { fill = Some (code "}"); align = Left })) (codes "}")
unfolding computing
brace_fill-is_no_end = record { whole = refl; formed = refl; ends = refl }

zero_index-is_no_flag : IsCut Format (codes ":0$}")
    (spec (record nothing { width = ZeroIndexWidth })) (codes "}")
unfolding computing
zero_index-is_no_flag = record { whole = refl; formed = refl; ends = refl }

flag-stands_before_an_index : IsCut Format (codes ":00$}")
    (spec (record nothing { width = PaddedWidth (IndexCount (codes "0")) })) (codes "}")
unfolding computing
flag-stands_before_an_index = record { whole = refl; formed = refl; ends = refl }

hexadecimal_letter-leaves_the_word : IsCut Format (codes ":xyz}")
    (spec (record nothing { type = CharacterType (code "x") })) (codes "yz}")
unfolding computing
hexadecimal_letter-leaves_the_word = record { whole = refl; formed = refl; ends = refl }

raw_identifier-has_its_word : IsCut Format (codes "r#a}")
    (record { position = RawWord (codes "a"); space = []; spec = Default }) (codes "}")
unfolding computing
raw_identifier-has_its_word = record { whole = refl; formed = refl; ends = refl }

raw_identifier-has_a_word : IsCut Format (codes "r#}")
    (record { position = Word (codes "r"); space = []; spec = Default }) (codes "#}")
unfolding computing
raw_identifier-has_a_word = record { whole = refl; formed = refl; ends = refl }

diagnostic_text-is_no_specification : IsCut Diagnostic (codes "a:08 b}")
    (record { position = Word (codes "a"); space = []; spec = DiagnosticText (codes "08 b") })
    (codes "}")
unfolding computing
diagnostic_text-is_no_specification = record { whole = refl; formed = refl; ends = refl }

-- A field follows a single opening brace, whether a brace closes it or not.
unclosed-has_its_field : IsPart (codes "{a?")
    (opened_part Format (record { position = Word (codes "a"); space = []; spec = Default }))
    (codes "?")
unfolding computing
unclosed-has_its_field = record { whole = refl; formed = refl; ends = refl }

-- The same text is not cut in any of these other ways.
flag-is_no_digit : ¬
    (IsCut Format (codes ":05}")
    (spec (record nothing { width = PlainWidth (NumberCount (codes "05")) })) (codes "}"))
unfolding computing
flag-is_no_digit h = false≢true h.ends

word-is_not_cut_short : ¬
    (IsCut Format (codes "ab}") (record { position = Word (codes "a"); space = []; spec = Default })
    (codes "b}"))
unfolding computing
word-is_not_cut_short h = false≢true h.ends

raw_identifier-is_no_word : ¬
    (IsCut Format (codes "r#a}")
    (record { position = Word (codes "r"); space = []; spec = Default }) (codes "#a}"))
unfolding computing
raw_identifier-is_no_word h = false≢true h.ends

fill-is_taken : ¬ (IsCut Format (codes ":<<}") (spec (record nothing { align = Left }))
    (codes "<}"))
unfolding computing
fill-is_taken h = false≢true h.ends

name_count-is_taken : ¬
    (IsCut Format (codes ":a$}") (spec (record nothing { type = WordType (codes "a") }))
    (codes "$}"))
unfolding computing
name_count-is_taken h = false≢true h.ends

question-belongs_to_the_letter : ¬
    (IsCut Format (codes ":x?}") (spec (record nothing { type = CharacterType (code "x") }))
    (codes "?}"))
unfolding computing
question-belongs_to_the_letter h = false≢true h.ends

-- A whole text, with its reading, and no other one.
abbrev padded : List (Piece (Unit {0}))
padded =
    NextArgument (record {
      position = Implicit 0;
      position_span = tt;
      format = record default_spec { zero_pad = true; width = Is 5 };
    }) ∷ []

padded_number-has_this_reading : Reads Format 0 (codes "{:05}") padded
unfolding computing
padded_number-has_this_reading = (
  [],
  1,
  record {
    text = PlaceholderText
        (spec (record nothing { width = PaddedWidth (NumberCount (codes "5")) })) [];
    written = record { whole = refl; formed = refl; ends = refl };
    clean = record {
      position = tt;
      name = λ e. cc e;
      spec = record { width = omega arith; precision = tt; type = λ e. cc e };
    };
    means = refl;
    numbered = refl;
  },
  refl,
)

padded_number-has_no_other : (ps : List (Piece (Unit {0}))) → Reads Format 0 (codes "{:05}") ps
    → ps ≡ padded
padded_number-has_no_other ps h =
    Reads-unique Format 0 (codes "{:05}") ps padded h padded_number-has_this_reading
