-- Tables of macros.
use Rattle.std.specs.Prelude.{ℕ, List, [], ◌∷◌, Option, Some, None, if◌then◌else◌}
use Rattle.std.specs.Str.{bytes_eq}
use Rattle.format_calls.specs.declared.table.Row.{Row}
use Rattle.format_calls.specs.declared.table.Rule.{Rule}

-- A macro: its name, in bytes, and its rule.
pub record Entry : Type 0 where
  pub name : List ℕ
  pub rule : Rule

-- A row as a contract sees it.
abbrev pub entry : Row → Entry
entry r = record { name = r.name.now; rule = r.rule }

-- The rule of the first macro of this name.
abbrev pub rule_of : List Entry → List ℕ → Option Rule
rule_of [] w = None
rule_of (e ∷ es) w = if bytes_eq e.name w then Some e.rule else rule_of es w
