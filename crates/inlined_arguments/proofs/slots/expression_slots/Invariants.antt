use Rattle.std.proofs.Common.{◌≡◌, map, take}
use Rattle.inlined_arguments.specs.Views.{seen_slot}
use Rattle.inlined_arguments.specs.Values.{kept_slots}
use Rattle.inlined_arguments.proofs.slots.expression_slots.Given as goal

abbrev pub invariant-loop-slot : goal.invariant-loop-slot
invariant-loop-slot l = map seen_slot l.list.items
    ≡ kept_slots (map seen_slot (take l.slot-index l.slots))
