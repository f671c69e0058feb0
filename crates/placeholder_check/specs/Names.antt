-- Modes in which placeholders use arguments only by name.
use Rattle.std.specs.Prelude.{◌≡◌, ℕ, ◌<◌, List, []}
use Rattle.std.specs.List.{AllByRecursion}
use Rattle.rustc_parse_format.specs.Characters.{Text}
use Rattle.rustc_parse_format.specs.Grammar.{Reads}
use Rattle.rustc_parse_format.specs.Types.{Mode, Piece}
use Rattle.placeholder_check.specs.Uses.{Use, ByIndex, ByName, uses}
use Rattle.placeholder_check.specs.Entries.{Lists}
use Rattle.placeholder_check.specs.Report.{IsReport, Report}

-- The use is by name.
abbrev pub IsByName : Use → Type 0
IsByName (ByIndex n) = ⊥
IsByName (ByName w) = Unit {0}

-- In the mode m, whatever text reads as whatever pieces, from any number on, each use of these
-- pieces is by name. So, whatever arguments are given, the report has no missing number, and each
-- number that is given is unused.
pub record NamesAlone (m : Mode) : Type 0 where
  pub uses_are_names : (c : ℕ) (t : Text) (ps : List (Piece (Unit {0}))) → Reads m c t ps
      → AllByRecursion IsByName (uses ps)
  pub no_number_is_used : (c : ℕ) (t : Text) (ps : List (Piece (Unit {0}))) → Reads m c t ps
      → (positional : ℕ) (names : List Text) (r : Report) →
      IsReport (uses ps) positional names r → (r.missing_index ≡ [])
      × Lists (λ n. n < positional) r.unused_index
