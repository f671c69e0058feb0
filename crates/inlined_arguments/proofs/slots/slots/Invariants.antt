use Rattle.std.proofs.Common.{◌≡◌, ◌≤◌, ◌++◌, drop, map}
use Rattle.inlined_arguments.specs.Views.{seen_argument, seen_slot}
use Rattle.inlined_arguments.specs.Values.{slots_from}
use Rattle.inlined_arguments.proofs.slots.slots.Given as goal

-- The slots so far, and then those of the arguments that are left, are all.
abbrev pub invariant-loop-argument : goal.invariant-loop-argument
invariant-loop-argument l = record {
  few : l.kept_count ≤ l.argument-index;
  all : map seen_slot l.slots.items
      ++ slots_from l.kept_count (map seen_argument (drop l.argument-index l.arguments))
      ≡ slots_from 0 (map seen_argument l.arguments);
}
