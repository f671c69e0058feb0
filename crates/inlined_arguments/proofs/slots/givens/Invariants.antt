use Rattle.std.proofs.Common.{◌≡◌, map, take}
use Rattle.call_faults.specs.Views.{seen_given}
use Rattle.inlined_arguments.specs.Views.{seen_slot}
use Rattle.inlined_arguments.specs.Values.{slot_argument}
use Rattle.inlined_arguments.proofs.slots.givens.Given as goal

abbrev pub invariant-loop-slot : goal.invariant-loop-slot
invariant-loop-slot l = map seen_given l.arguments.items
    ≡ map slot_argument (map seen_slot (take l.slot-index l.slots))
