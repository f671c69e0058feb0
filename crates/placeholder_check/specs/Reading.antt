-- The report on a text that is in the grammar.
use Rattle.std.specs.Prelude.{◌≡◌, ℕ, List}
use Rattle.rustc_parse_format.specs.Characters.{Text}
use Rattle.rustc_parse_format.specs.Grammar.{Reads}
use Rattle.rustc_parse_format.specs.Types.{Mode, Piece}
use Rattle.placeholder_check.specs.Uses.{uses}
use Rattle.placeholder_check.specs.Report.{IsReport, Report}

-- The text is in the grammar of its mode, and r is the report on its only reading.
pub record IsReportOf (m : Mode) (t : Text) (positional : ℕ) (names : List Text)
    (r : Report) : Type 0 where
  pub pieces : List (Piece (Unit {0}))
  pub are_read : Reads m 0 t pieces
  pub are_only : (others : List (Piece (Unit {0}))) → Reads m 0 t others → others ≡ pieces
  pub is_report : IsReport (uses pieces) positional names r
