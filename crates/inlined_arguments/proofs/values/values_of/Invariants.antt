use Rattle.std.proofs.Common.{◌≡◌, None, drop, map}
use Rattle.rustc_parse_format.specs.Characters.{Text}
use Rattle.inlined_arguments.specs.Views.{found_in, seen_slot}
use Rattle.inlined_arguments.specs.Values.{value_after}
use Rattle.inlined_arguments.proofs.values.values_of.Given as goal

-- The value so far, and then that of the slots that are left, is that of all.
abbrev pub invariant-loop-slot : goal.invariant-loop-slot
invariant-loop-slot l = (w : Text)
    → value_after (found_in l.named_values w) (map seen_slot (drop l.slot-index l.slots)) w
    ≡ value_after None (map seen_slot l.slots) w
