-- The lines of a listing as JSON, and the listing that a task and an input have.
use Rattle.std.specs.Prelude.{◌≡◌, ℕ, Bool, false, ◌||◌, List, [], ◌∷◌, ◌++◌, Option, Some}
use Rattle.std.specs.Prelude.{None, chars, codes, flat_map, map, nat_lt, length, option_map}
use Rattle.std.specs.List.{AllByRecursion}
use Rattle.std.specs.Str.{IsUtf8}
use Rattle.json.specs.Json.{Json, document}
use Rattle.json.specs.Print.{print}
use Rattle.json.specs.Tree.{json_tokens}
use Rattle.rustc_parse_format.specs.Call.{Call}
use Rattle.rustc_parse_format.specs.State.{calls}
use Rattle.rustc_parse_format.specs.Types.{Piece}
use Rattle.rustc_parse_format.specs.World.{World, Place, faults_in, piece_in}
use Rattle.placeholder_check.specs.Report.{Report}
use Rattle.piece_listing.specs.Program.{IsReportFor, IsShort, Task, has_entries, pieces, start}
use Rattle.piece_listing.specs.Source.{IsSourceOf, Source}
use Rattle.listing_json.specs.Values.{fault_value, piece_value, report_values}

-- A value as JSON, without white space, and a line end.
abbrev pub line : Json → List ℕ
line j = print (json_tokens j) ++ codes "\n"

-- The line of the value, without its end, is a JSON text by the grammar of RFC 8259: it is UTF-8,
-- and reads back as the value.
pub record IsText (j : Json) : Type 0 where
  pub utf8 : IsUtf8 (print (json_tokens j))
  pub reads_back : document (print (json_tokens j)) ≡ Some j

-- Lines with these values were appended, and each is a JSON text.
pub record Adds (js : List Json) (old new : List ℕ) : Type 0 where
  pub lines : new ≡ old ++ flat_map line js
  pub are_texts : AllByRecursion IsText js

-- The value of a piece, if there is one.
abbrev pub given_values : Option (Piece Place) → List Json
given_values None = []
given_values (Some p) = piece_value p ∷ []

-- The values of a call: its piece, and then its faults in the order in which they are found.
abbrev pub call_values : World → Call → List Json
call_values w k = given_values (option_map (piece_in w) k.piece)
    ++ map fault_value (faults_in w k.faults)

-- The values of these calls, one after the other.
abbrev pub calls_values : World → List Call → List Json
calls_values w ks = flat_map (call_values w) ks

-- The values of a source with a report: those of the calls of a parser up to the first that returns
-- no piece, and then the entries of the report.
abbrev pub values : Task → Source → Report → List Json
values a s r = calls_values (start a.mode s).world (calls (start a.mode s)) ++ report_values r

-- One of these calls finds a fault.
abbrev pub has_faults : List Call → Bool
has_faults [] = false
has_faults (k ∷ ks) = nat_lt 0 (length k.faults) || has_faults ks

-- The listing of a source, of which each line is a JSON text, and whether a line is not of a piece.
abbrev pub IsListed : Task → Source → List ℕ → Bool → Type 0
IsListed a s text has_ends = (r : Report) × IsReportFor a.given (pieces a.mode s) r
    × Adds (values a s r) [] text × (has_ends
    ≡ (has_faults (calls (start a.mode s)) || has_entries r))

-- The listing of an input.
abbrev pub IsOwed : Task → List ℕ → List ℕ → Bool → Type 0
IsOwed a input text has_ends = IsShort input × IsUtf8 input
    × ((s : Source) × IsSourceOf a.is_literal (chars input) s × IsListed a s text has_ends)
