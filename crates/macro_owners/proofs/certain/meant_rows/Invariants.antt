use Rattle.std.proofs.Common.{◌≡◌, if◌then◌else◌, map, take}
use Rattle.std.specs.List.{filter}
use Rattle.format_calls.specs.Rows.{entry}
use Rattle.macro_owners.specs.Owners.{is_certain, is_likely, names_of}
use Rattle.macro_owners.proofs.certain.meant_rows.Given as goal

abbrev pub invariant-loop-row : goal.invariant-loop-row
invariant-loop-row l = map entry l.list.items
    ≡ filter (λ e. (if l.certainly then is_certain else is_likely)
    (names_of l.package_facts) (names_of l.file_facts) e.name)
    (map entry (take l.row-index l.rows))
