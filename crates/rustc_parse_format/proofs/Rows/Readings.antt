-- Worked examples of whole texts: for each rule of the grammar texts that are in it and texts that
-- are not, and their readings and wrong readings.
use Prim.Native.Char.{code}
use Rattle.std.proofs.Common.{◌≡◌, ◌≢◌, ℕ, Bool, true, false, not, List, [], ◌∷◌, refl, sym, ap}
use Rattle.std.proofs.Common.{◌∙◌, codes, None, arith}
use Rattle.std.specs.List.{AllByRecursion, list_all}
use Rattle.std.proofs.lemmas.Bool.{and_parts, not-true, false≢true}
use Rattle.rustc_parse_format.specs.Characters.{Text}
use Rattle.rustc_parse_format.specs.Marks.{Span}
use Rattle.rustc_parse_format.specs.Types.{Mode, Format, InlineAsm, Diagnostic, DiagnosticNamed}
use Rattle.rustc_parse_format.specs.Types.{Unknown, Position}
use Rattle.rustc_parse_format.specs.Types.{Implicit, Index, Named, Star, Piece, Lit, NextArgument}
use Rattle.rustc_parse_format.specs.Types.{default_spec}
use Rattle.rustc_parse_format.specs.Syntax.{Word, NoPosition, NoCount, PlainWidth, StarPrecision}
use Rattle.rustc_parse_format.specs.Syntax.{WordType, FormatText, Default, Formatting, FieldText}
use Rattle.rustc_parse_format.specs.Syntax.{PieceText, RunText, DoubledText, PlaceholderText}
use Rattle.rustc_parse_format.specs.Syntax.{piece_part}
use Rattle.rustc_parse_format.specs.Spelling.{IsPart}
use Rattle.rustc_parse_format.specs.Grammar.{Reads, IsInGrammar, spelled_pieces, piece_values}
use Rattle.rustc_parse_format.specs.Faults.{Fault}
use Rattle.rustc_parse_format.specs.Call.{Call, walk}
use Rattle.rustc_parse_format.proofs.Walking.Progress.{walk-IsWalk}
use Rattle.rustc_parse_format.proofs.Grammar.Readings.{Reads-unique}
use Rattle.rustc_parse_format.proofs.Rows.Definitions.{computing}
use Rattle.rustc_parse_format.proofs.Walking.Walks.{Faultless, bare_pieces, faultless-reads}
use Rattle.rustc_parse_format.proofs.Walking.Walks.{reads-faultless}

-- The faults that computing finds decide whether a text is in the grammar.
abbrev is_none : List (Fault Span) → Bool
is_none [] = true
is_none (f ∷ fs) = false

abbrev is_clean : Mode → Text → Bool
is_clean mode t = list_all (λ k. is_none k.faults) (walk mode 0 t)

all_clean : (ks : List Call) → list_all (λ k. is_none k.faults) ks ≡ true → Faultless ks
all_clean [] e = tt
all_clean (k ∷ ks) e = (none k.faults (and_parts _ _ e).0, all_clean ks (and_parts _ _ e).1)
  where
    none : (fs : List (Fault Span)) → is_none fs ≡ true → fs ≡ []
    none [] h = refl
    none (f ∷ fs) h = absurd (false≢true h)

clean_all : (ks : List Call) → Faultless ks → list_all (λ k. is_none k.faults) ks ≡ true
clean_all [] f = refl
clean_all (k ∷ ks) f = rw f.0 (clean_all ks f.1)

is_in : (mode : Mode) (t : Text) → is_clean mode t ≡ true → IsInGrammar mode t
is_in mode t e = (
  bare_pieces (walk mode 0 t),
  faultless-reads mode 0 t (walk mode 0 t) (walk-IsWalk mode 0 t) (all_clean (walk mode 0 t) e),
)

not_in : (mode : Mode) (t : Text) → is_clean mode t ≡ false → ¬ (IsInGrammar mode t)
not_in mode t e (ps, r) =
    false≢true (sym e
    ∙ clean_all (walk mode 0 t)
    (reads-faultless mode 0 t (walk mode 0 t) ps (walk-IsWalk mode 0 t) r).0)

abbrev AreIn : Mode → List Text → Type 0
AreIn mode ts = AllByRecursion (λ t. IsInGrammar mode t) ts

abbrev AreNotIn : Mode → List Text → Type 0
AreNotIn mode ts = AllByRecursion (λ t. ¬ (IsInGrammar mode t)) ts

are_in : (mode : Mode) (ts : List Text) → list_all (is_clean mode) ts ≡ true → AreIn mode ts
are_in mode [] e = tt
are_in mode (t ∷ ts) e = (is_in mode t (and_parts _ _ e).0, are_in mode ts (and_parts _ _ e).1)

are_not_in : (mode : Mode) (ts : List Text) → list_all (λ t. not (is_clean mode t)) ts ≡ true
    → AreNotIn mode ts
are_not_in mode [] e = tt
are_not_in mode (t ∷ ts) e = (
  not_in mode t (not-true _ (and_parts _ _ e).0),
  are_not_in mode ts (and_parts _ _ e).1,
)

-- format_string := text [ maybe_format text ] *
abbrev strings : List Text
strings = [] ∷ codes "abc" ∷ codes "{{" ∷ codes "}}" ∷ codes "{{a}}b" ∷ codes "a{}b{}c"
    ∷ codes "{{{}}}" ∷ []

strings-are_in : AreIn Format strings
unfolding computing
strings-are_in = are_in Format strings refl

abbrev no_strings : List Text
no_strings = codes "{" ∷ codes "}" ∷ codes "a}" ∷ codes "}a" ∷ codes "{a" ∷ codes "{{{"
    ∷ codes "{}}" ∷ codes "{{}" ∷ []

no_strings-are_not_in : AreNotIn Format no_strings
unfolding computing
no_strings-are_not_in = are_not_in Format no_strings refl

-- format := '{' [ argument ] [ ':' format_spec ] [ ws ] * '}', argument := integer | identifier
abbrev positions : List Text
positions = codes "{}" ∷ codes "{a}" ∷ codes "{_a1}" ∷ codes "{r}" ∷ codes "{r2}" ∷ codes "{0}"
    ∷ codes "{007}" ∷ codes "{65535}" ∷ codes "{a }" ∷ codes
    "{ }" ∷ codes "{a \t\n: }" ∷ []

positions-are_in : AreIn Format positions
unfolding computing
positions-are_in = are_in Format positions refl

abbrev no_positions : List Text
no_positions = codes "{ a}" ∷ codes "{a b}" ∷ codes "{3a}" ∷ codes "{+}" ∷ codes "{a.b}"
    ∷ codes "{_}" ∷ codes "{65536}" ∷ codes "{r#a}" ∷ codes "{r#}" ∷ codes
    "{a?}" ∷ []

no_positions-are_not_in : AreNotIn Format no_positions
unfolding computing
no_positions-are_not_in = are_not_in Format no_positions refl

-- format_spec := [[fill]align][sign]['#']['0'][width]['.' precision]type, its flags
abbrev flags : List Text
flags = codes "{:}" ∷ codes "{:>}" ∷ codes "{:*<}" ∷ codes "{:}^}" ∷ codes "{:<<}" ∷ codes "{:+}"
    ∷ codes "{:-#}" ∷ codes "{:#}" ∷ codes "{:0}" ∷ codes "{:{<}"
    ∷ []

flags-are_in : AreIn Format flags
unfolding computing
flags-are_in = are_in Format flags refl

abbrev no_flags : List Text
no_flags = codes "{:*}" ∷ codes "{:>>>}" ∷ codes "{:}<" ∷ codes "{:+-}" ∷ codes "{:##}"
    ∷ codes "{:#+}" ∷ codes "{:0+}" ∷ codes "{: > 5}" ∷ []

no_flags-are_not_in : AreNotIn Format no_flags
unfolding computing
no_flags-are_not_in = are_not_in Format no_flags refl

-- width := count, precision := count | '*', count := parameter | integer, parameter := argument '$'
abbrev sizes : List Text
sizes = codes "{:5}" ∷ codes "{:05}" ∷ codes "{:1$}" ∷ codes "{:0$}" ∷ codes "{:00$}"
    ∷ codes "{:a$}" ∷ codes "{:0a$}" ∷ codes "{:.3}" ∷ codes "{:.1$}" ∷ codes
    "{:.a$}" ∷ codes "{:.*}" ∷ codes "{:.}" ∷ codes "{:a$.b$}" ∷ []

sizes-are_in : AreIn Format sizes
unfolding computing
sizes-are_in = are_in Format sizes refl

abbrev no_sizes : List Text
no_sizes = codes "{:$}" ∷ codes "{:0$$}" ∷ codes "{:5 5}" ∷ codes "{:a$$}" ∷ codes "{:*}"
    ∷ codes "{:.**}" ∷ codes "{:..3}" ∷ codes "{:65536}" ∷ codes
    "{:.65536$}" ∷ codes "{:_$}" ∷ codes "{:._$}" ∷ []

no_sizes-are_not_in : AreNotIn Format no_sizes
unfolding computing
no_sizes-are_not_in = are_not_in Format no_sizes refl

-- type := '' | '?' | 'x?' | 'X?' | identifier
abbrev types : List Text
types = codes "{:?}" ∷ codes "{:x}" ∷ codes "{:X}" ∷ codes "{:x?}" ∷ codes "{:X?}" ∷ codes "{:#?}"
    ∷ codes "{:e}" ∷ codes "{:abc}" ∷ codes "{:08.3x?}" ∷ []

types-are_in : AreIn Format types
unfolding computing
types-are_in = are_in Format types refl

abbrev no_types : List Text
no_types = codes "{:xyz}" ∷ codes "{:xx}" ∷ codes "{:x??}" ∷ codes "{:?x}" ∷ codes "{:?#}"
    ∷ codes "{:??}" ∷ codes "{:e?}" ∷ codes "{:_}" ∷ codes "{:!}" ∷ []

no_types-are_not_in : AreNotIn Format no_types
unfolding computing
no_types-are_not_in = are_not_in Format no_types refl

-- after the colon inline assembly has a word, and a diagnostic any text without braces
abbrev modifiers : List Text
modifiers = codes "{0:e}" ∷ codes "{a:}" ∷ codes "{:xyz}" ∷ codes "{{{}" ∷ []

modifiers-are_in : AreIn InlineAsm modifiers
unfolding computing
modifiers-are_in = are_in InlineAsm modifiers refl

abbrev no_modifiers : List Text
no_modifiers = codes "{:5}" ∷ codes "{:>}" ∷ codes "{:?}" ∷ codes "{:_}" ∷ codes "{a?}" ∷ []

no_modifiers-are_not_in : AreNotIn InlineAsm no_modifiers
unfolding computing
no_modifiers-are_not_in = are_not_in InlineAsm no_modifiers refl

abbrev diagnostics : List Text
diagnostics = codes "{}" ∷ codes "{a:}" ∷ codes "{a:08 b}" ∷ codes "{a:_}" ∷ codes "{0:65536 }"
    ∷ codes "{a:x\ny}" ∷ []

diagnostics-are_in : AreIn Diagnostic diagnostics
unfolding computing
diagnostics-are_in = are_in Diagnostic diagnostics refl

abbrev no_diagnostics : List Text
no_diagnostics = codes "{a:{}" ∷ codes "{a:}<}" ∷ codes "{_:a}" ∷ codes "{65536}" ∷ codes "{a b}"
    ∷ []

no_diagnostics-are_not_in : AreNotIn Diagnostic no_diagnostics
unfolding computing
no_diagnostics-are_not_in = are_not_in Diagnostic no_diagnostics refl

-- where names are wanted, nothing else is in a placeholder, but for a colon with nothing after it
abbrev names : List Text
names = codes "{foo}" ∷ codes "{foo:}" ∷ codes "{foo }" ∷ codes "a{{{foo :}}}b" ∷ []

names-are_in : AreIn DiagnosticNamed names
unfolding computing
names-are_in = are_in DiagnosticNamed names refl

abbrev no_names : List Text
no_names = codes "{}" ∷ codes "{0}" ∷ codes "{:}" ∷ codes "{foo:bar}" ∷ codes "{foo: }"
    ∷ codes "{a:_}" ∷ codes "{r#foo}" ∷ codes "{_}" ∷ codes "{65536}" ∷ []

no_names-are_not_in : AreNotIn DiagnosticNamed no_names
unfolding computing
no_names-are_not_in = are_not_in DiagnosticNamed no_names refl

-- Readings, each shown by what is written.
abbrev bare_piece : Type 0
bare_piece = Piece (Unit {0})

abbrev implicit : ℕ → bare_piece
implicit n =
    NextArgument (record { position = Implicit n; position_span = tt; format = default_spec })

-- a field in which nothing is written but perhaps its specification
abbrev plain_field : FieldText
plain_field = record { position = NoPosition; space = []; spec = Default }

text_and_placeholder-have_this_reading : Reads Format 0 (codes "a{}")
    (Lit (codes "a") ∷ implicit 0 ∷ [])
unfolding computing
text_and_placeholder-have_this_reading = (
  codes "{}",
  0,
  record {
    text = RunText (codes "a");
    written = record { whole = refl; formed = refl; ends = refl };
    clean = tt;
    means = refl;
    numbered = refl;
  },
  (
    [],
    1,
    record {
      text = PlaceholderText plain_field [];
      written = record { whole = refl; formed = refl; ends = refl };
      clean = record { position = tt; name = λ e. cc e; spec = tt };
      means = refl;
      numbered = refl;
    },
    refl,
  ),
)

doubled_braces-have_this_reading : Reads Format 0 (codes "{{a}}b")
    (Lit (codes "{a") ∷ Lit (codes "}b") ∷ [])
unfolding computing
doubled_braces-have_this_reading = (
  codes "}}b",
  0,
  record {
    text = DoubledText (code "{") (codes "a");
    written = record { whole = refl; formed = refl; ends = refl };
    clean = tt;
    means = refl;
    numbered = refl;
  },
  (
    [],
    0,
    record {
      text = DoubledText (code "}") (codes "b");
      written = record { whole = refl; formed = refl; ends = refl };
      clean = tt;
      means = refl;
      numbered = refl;
    },
    refl,
  ),
)

-- A star takes its number before the position does.
abbrev starred : List bare_piece
starred =
    NextArgument (record {
      position = Implicit 1;
      position_span = tt;
      format = record default_spec { precision = Star 0 };
    }) ∷ []

abbrev star : FormatText
star = record {
  fill = None;
  align = Unknown;
  sign = None;
  alternate = false;
  width = PlainWidth NoCount;
  precision = StarPrecision;
  type = WordType [];
}

star-has_this_reading : Reads Format 0 (codes "{:.*}") starred
unfolding computing
star-has_this_reading = (
  [],
  2,
  record {
    text = PlaceholderText (record plain_field { spec = Formatting star }) [];
    written = record { whole = refl; formed = refl; ends = refl };
    clean = record {
      position = tt;
      name = λ e. cc e;
      spec = record { width = tt; precision = tt; type = λ e. cc e };
    };
    means = refl;
    numbered = refl;
  },
  refl,
)

-- So no other list of pieces is a reading: numbers the other way round, a run that is cut, braces
-- that stay two.
no_other : (mode : Mode) (t : Text) (ps qs : List bare_piece) → Reads mode 0 t ps → ps ≢ qs
    → ¬ (Reads mode 0 t qs)
no_other mode t ps qs h other k = other (Reads-unique mode 0 t ps qs h k)

abbrev star_later : List bare_piece
star_later =
    NextArgument (record {
      position = Implicit 0;
      position_span = tt;
      format = record default_spec { precision = Star 1 };
    }) ∷ []

abbrev number_in : Position → ℕ
number_in (Implicit n) = n
number_in (Index n) = n
number_in (Named w) = 0

abbrev first_number : List bare_piece → ℕ
first_number [] = 0
first_number (Lit l ∷ ps) = 0
first_number (NextArgument a ∷ ps) = number_in a.position

star-takes_no_later_number : ¬ (Reads Format 0 (codes "{:.*}") star_later)
star-takes_no_later_number =
    no_other Format (codes "{:.*}") starred star_later star-has_this_reading
    (λ e. (let h : ◌≡◌ {A = ℕ} 1 0 = ap first_number e in omega arith))

abbrev one_run : List bare_piece
one_run = Lit (codes "a{}") ∷ []

text-is_no_whole_input : ¬ (Reads Format 0 (codes "a{}") one_run)
text-is_no_whole_input = no_other Format (codes "a{}") (Lit (codes "a") ∷ implicit 0
    ∷ []) one_run text_and_placeholder-have_this_reading (λ e. cc e)

abbrev two_braces : List bare_piece
two_braces = Lit (codes "{{a") ∷ Lit (codes "}}b") ∷ []

doubled_braces-are_one_brace : ¬ (Reads Format 0 (codes "{{a}}b") two_braces)
doubled_braces-are_one_brace = no_other Format (codes "{{a}}b")
    (Lit (codes "{a") ∷ Lit (codes "}b") ∷ []) two_braces doubled_braces-have_this_reading
    (λ e. cc e)

run-is_not_cut : ¬ (IsPart (codes "ab") (piece_part Format (RunText (codes "a"))) (codes "b"))
run-is_not_cut h = false≢true h.ends

run-has_a_character : ¬ (IsPart (codes "{}") (piece_part Format (RunText [])) (codes "{}"))
run-has_a_character h = false≢true h.formed

-- Pieces as written, with what they mean and how they are spelled.
abbrev written_pieces : List PieceText
written_pieces = DoubledText (code "{") (codes "a")
    ∷ PlaceholderText (record plain_field { position = Word (codes "b"); space = codes " " }) []
    ∷ RunText
    (codes "c") ∷ []

pieces-are_spelled : spelled_pieces Format written_pieces ≡ codes "{{a{b }c"
pieces-are_spelled = refl

pieces-have_these_values :
    piece_values 0 written_pieces ≡ Lit (codes "{a")
    ∷ NextArgument (record {
      position = Named (codes "b");
      position_span = tt;
      format = default_spec;
    }) ∷ Lit
    (codes "c") ∷ []
unfolding computing
pieces-have_these_values = refl
