-- Edits, errors and a fixed literal as a contract sees them: texts as their bytes.
use Rattle.std.specs.Prelude.{◌++◌, ℕ, Bool, List, map, option_map, reverse, string_bytes}
use Rattle.rustc_parse_format.specs.Faults.{Message}
use Rattle.rustc_parse_format.specs.Views.{pair, seen_error}
use Rattle.rustc_parse_format.specs.World.{Place}
use Rattle.fault_fixes.specs.declared.errors.Errors.{Errors}
use Rattle.fault_fixes.specs.declared.fixes.Edit.{Edit as DeclaredEdit}
use Rattle.fault_fixes.specs.declared.fixes.EditProgress.{EditProgress as DeclaredProgress}
use Rattle.fault_fixes.specs.declared.fixes.FixedLiteral.{FixedLiteral as DeclaredFixed}
use Rattle.fault_fixes.specs.declared.rounds.Best.{Best as DeclaredBest}
use Rattle.fault_fixes.specs.Edits.{Edit, joined_edits}
use Rattle.fault_fixes.specs.Fixing.{FixedLiteral}
use Rattle.fault_fixes.specs.Rounds.{Best}

-- An edit as a contract sees it.
abbrev pub seen_edit : DeclaredEdit → Edit
seen_edit e = record { span = pair e.span; text = e.text.now }

-- A fixed literal as a contract sees it.
abbrev pub seen_fixed : DeclaredFixed → FixedLiteral
seen_fixed f = record { snippet = string_bytes f.snippet; text = string_bytes f.text }

-- A text in the middle of its edits with further edits, and whether it has an edit.
abbrev pub with_edits : DeclaredProgress → List Edit → List ℕ × Bool
with_edits x es = joined_edits x.bytes.items x.start x.end x.rest.now es

-- The best of some literals as a contract sees it.
abbrev pub seen_best : DeclaredBest → Best
seen_best b = record { literal = option_map seen_fixed b.literal; calls = b.calls }

-- Errors in two lists as a contract sees them: those of the first list backwards, and the others.
abbrev pub seen_errors : Errors → List (Message Place)
seen_errors e = reverse (map seen_error e.front_errors.items) ++ map seen_error e.back_errors.items
