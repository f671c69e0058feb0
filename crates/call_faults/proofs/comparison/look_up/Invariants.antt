use Rattle.std.proofs.Common.{◌≡◌, ◌++◌, List, drop, map}
use Rattle.rustc_parse_format.specs.Characters.{Text}
use Rattle.call_faults.specs.Comparison.{lookup_faults}
use Rattle.call_faults.specs.Views.{KnowsNames, seen_fault, seen_lookup}
use Rattle.call_faults.proofs.comparison.look_up.Given as goal

-- What was found, and then what is found of the lookups that are left with the names that are known
-- by now, is all.
abbrev pub invariant-loop-lookup : goal.invariant-loop-lookup
invariant-loop-lookup l = (known : List Text) → KnowsNames known l.fn.indices
    → (now : List Text) × KnowsNames now l.indices
    × (map seen_fault l.faults.items
    ++ lookup_faults l.captures_variables now (map seen_lookup (drop l.lookup-index l.lookups))
    ≡ map seen_fault l.fn.faults.items
    ++ lookup_faults l.captures_variables known (map seen_lookup l.lookups))
