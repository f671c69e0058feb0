use Rattle.std.proofs.Common.{◌≡◌, map, take}
use Rattle.call_faults.specs.Arguments.{named_of}
use Rattle.call_faults.specs.Views.{seen_entry}
use Rattle.call_faults.proofs.arguments.named_of.Given as goal

abbrev pub invariant-loop-entry : goal.invariant-loop-entry
invariant-loop-entry l = l.named_arguments.items
    ≡ named_of (map seen_entry (take l.entry-index l.list))
