use Rattle.std.proofs.Common.{◌≡◌, filter, not, take}
use Rattle.placeholder_check.specs.Collection.{is_among}
use Rattle.placeholder_check.specs.Views.{texts}
use Rattle.placeholder_check.proofs.names.missing_names.Given as goal

-- The list has those of the names so far that the others lack.
abbrev pub invariant-loop-name : goal.invariant-loop-name
invariant-loop-name l = texts l.missing_names.items
    ≡ filter (λ t. not (is_among l.others l.later_set t)) (texts (take l.name-index l.names))
