-- In the mode DiagnosticNamed, a text in the grammar uses names and no numbers. In each other mode
-- some text uses a number.
use Rattle.std.proofs.Common.{◌≡◌, ℕ, ◌<◌, false, true, codes, IsTrue, List, [], ◌∷◌, ◌++◌, arith}
use Rattle.std.proofs.Common.{refl, sym, ◌∙◌}
use Rattle.std.specs.List.{AllByRecursion, Contains}
use Rattle.std.proofs.lemmas.Bool.{and_parts, false≢true}
use Rattle.std.proofs.lemmas.Bool.Decides.{not_from_Decides}
use Rattle.rustc_parse_format.specs.Characters.{Text}
use Rattle.rustc_parse_format.specs.Types.{Mode, Format, InlineAsm, Diagnostic, DiagnosticNamed}
use Rattle.rustc_parse_format.specs.Types.{wants_names}
use Rattle.rustc_parse_format.specs.Types.{Implicit, Piece, NextArgument, default_spec}
use Rattle.rustc_parse_format.specs.Spelling.{IsPart}
use Rattle.rustc_parse_format.specs.Syntax.{PositionText, Digits, Word, RawWord, NoPosition}
use Rattle.rustc_parse_format.specs.Syntax.{SpecText, Default, Formatting, Modifier, DiagnosticText}
use Rattle.rustc_parse_format.specs.Syntax.{spec_part, FieldText, PieceText, RunText, DoubledText}
use Rattle.rustc_parse_format.specs.Syntax.{PlaceholderText, piece_part}
use Rattle.rustc_parse_format.specs.Values.{given_position, is_name, position_of, spec_value}
use Rattle.rustc_parse_format.specs.Values.{piece_value}
use Rattle.rustc_parse_format.specs.Grammar.{IsCleanPiece, Reads}
use Rattle.rustc_parse_format.proofs.Rows.Definitions.{computing}
use Rattle.placeholder_check.specs.Uses.{Use, ByIndex, ByName, position_use, count_uses, piece_uses}
use Rattle.placeholder_check.specs.Uses.{uses}
use Rattle.placeholder_check.specs.Entries.{Lists}
use Rattle.placeholder_check.specs.Names.{IsByName, NamesAlone}
use Rattle.placeholder_check.specs.Report.{IsReport, Report}
use Rattle.placeholder_check.specs.Collection.{has_index}
use Rattle.placeholder_check.proofs.Noting.{has_index-Decides}

-- A position that is a name is used by its name,
position-named : (c : ℕ) (p : PositionText) → IsTrue (is_name (given_position p))
    → IsByName (position_use (position_of c p))
position-named c (Digits ds) h = absurd (false≢true h)
position-named c (Word w) h = tt
position-named c (RawWord w) h = tt
position-named c NoPosition h = absurd (false≢true h)

-- the text of a diagnostic uses nothing,
spec-named : (c : ℕ) (s : SpecText) → (spec_part DiagnosticNamed s).is_formed ≡ true →
    AllByRecursion IsByName (count_uses (spec_value c s).width
    ++ count_uses (spec_value c s).precision)
spec-named c Default h = tt
spec-named c (Formatting p) h = absurd (false≢true h)
spec-named c (Modifier w) h = tt
spec-named c (DiagnosticText u) h = tt

formed-spec : (a : FieldText) (space : Text)
    → (piece_part DiagnosticNamed (PlaceholderText a space)).is_formed ≡ true →
    (spec_part DiagnosticNamed a.spec).is_formed ≡ true
formed-spec a space h =
    let field = (and_parts _ _ (and_parts true _ h).1).0 in
    (and_parts _ true (and_parts _ _ (and_parts _ _ field).1).1).0

-- so each use of a piece is by name,
piece-named : (c : ℕ) (x : PieceText) → (piece_part DiagnosticNamed x).is_formed ≡ true
    → IsCleanPiece DiagnosticNamed x →
    AllByRecursion IsByName (piece_uses (piece_value c x))
piece-named c (RunText u) h k = tt
piece-named c (DoubledText b u) h k = tt
piece-named c (PlaceholderText a space) h k =
    (position-named _ a.position (k.name refl), spec-named c a.spec (formed-spec a space h))

all-append : (us vs : List Use) → AllByRecursion IsByName us → AllByRecursion IsByName vs
    → AllByRecursion IsByName (us ++ vs)
all-append [] vs a b = b
all-append (u ∷ us) vs a b = (a.0, all-append us vs a.1 b)

-- and each of a reading.
reading-named : (c : ℕ) (t : Text) (ps : List (Piece (Unit {0}))) → Reads DiagnosticNamed c t ps
    → AllByRecursion IsByName (uses ps)
reading-named c t [] h = tt
reading-named c t (p ∷ ps) (r, next, begins, later) =
    all-append (piece_uses p) (uses ps)
    (rw begins.means (piece-named c begins.text begins.written.formed begins.clean))
    (reading-named next r ps later)

-- Where all uses are by name, no number is missing, and each that is given is unused.
unindexed : (us : List Use) → AllByRecursion IsByName us → (n : ℕ) → has_index us n ≡ false
unindexed [] h n = refl
unindexed (ByIndex m ∷ us) h n = absurd h.0
unindexed (ByName w ∷ us) h n = unindexed us h.1 n

named-report : (us : List Use) → AllByRecursion IsByName us
    → (positional : ℕ) (names : List Text) (r : Report) →
    IsReport us positional names r → (r.missing_index ≡ [])
    × Lists (λ n. n < positional) r.unused_index
named-report us h positional names r k =
    let unused : (n : ℕ) → ¬ Contains us (ByIndex n) =
    λ n. not_from_Decides _ (has_index-Decides n us) (unindexed us h n) in (
      none_listed r.missing_index (λ n c. unused n ((k.missing_index.has n).0 c).1),
      record {
        rises = k.unused_index.rises;
        has = λ n. (
          λ c. ((k.unused_index.has n).0 c).0,
          λ l. (k.unused_index.has n).1 (l, unused n),
        );
      },
    )
  where
    none_listed : (xs : List ℕ) → ((n : ℕ) → Contains xs n → ⊥) → xs ≡ []
    none_listed [] f = refl
    none_listed (x ∷ xs) f = absurd (f x (0, omega arith, refl))

pub named-alone : NamesAlone DiagnosticNamed
named-alone = record {
  uses_are_names = reading-named;
  no_number_is_used = λ c t ps h positional names r k. named-report (uses ps)
      (reading-named c t ps h) positional names r k;
}

-- In every other mode there is a text whose placeholder uses a number.
abbrev numbered : List (Piece (Unit {0}))
numbered =
    NextArgument (record { position = Implicit 0; position_span = tt; format = default_spec }) ∷ []

abbrev braces : PieceText
braces = PlaceholderText (record { position = NoPosition; space = []; spec = Default }) []

numbered-read : (m : Mode) → wants_names m ≡ false → IsPart (codes "{}") (piece_part m braces) []
    → Reads m 0 (codes "{}") numbered
unfolding computing
numbered-read m h written = (
  [],
  1,
  record {
    text = braces;
    written = written;
    clean = record { position = tt; name = λ e. absurd (false≢true (sym h ∙ e)); spec = tt };
    means = refl;
    numbered = refl;
  },
  refl,
)

no_names : (m : Mode) → wants_names m ≡ false → IsPart (codes "{}") (piece_part m braces) []
    → ¬ (NamesAlone m)
no_names m h written k = (k.uses_are_names 0 (codes "{}") numbered (numbered-read m h written)).0

pub named-only : (m : Mode) → NamesAlone m → m ≡ DiagnosticNamed
unfolding computing
named-only Format k =
    absurd (no_names Format refl (record { whole = refl; formed = refl; ends = refl }) k)
named-only InlineAsm k =
    absurd (no_names InlineAsm refl (record { whole = refl; formed = refl; ends = refl }) k)
named-only Diagnostic k =
    absurd (no_names Diagnostic refl (record { whole = refl; formed = refl; ends = refl }) k)
named-only DiagnosticNamed k = refl
