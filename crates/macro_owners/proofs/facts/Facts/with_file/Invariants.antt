use Rattle.std.proofs.Common.{◌≡◌, length, true}
use Rattle.macro_owners.specs.Contexts.{seen}
use Rattle.macro_owners.specs.Quiet.{is_quiet}
use Rattle.macro_owners.proofs.Collecting.{Collects}
use Rattle.macro_owners.proofs.facts.Facts.with_file.Given as goal

abbrev pub invariant-loop-token : goal.invariant-loop-token
invariant-loop-token l =
    Collects l.initial.rest l.rest l.initial.facts l.facts (seen l.context)
    × (l.is_quiet ≡ true → is_quiet (seen l.context) ≡ true)

abbrev pub decreases-loop-token : goal.decreases-loop-token
decreases-loop-token l = length l.rest.rest
