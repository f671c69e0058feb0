use Rattle.std.proofs.Common.{◌-◌, drop, length}
use Rattle.rustc_parse_format.proofs.Readers.Errors.{Added}
use Rattle.rustc_parse_format.proofs.lists.add_errors.Given as goal

abbrev pub invariant-loop-fault : goal.invariant-loop-fault
invariant-loop-fault l = record {
  added : Added l.fn.faults (drop l.index l.fn.faults) l.fn.errors l.errors l.front_count;
}

abbrev pub decreases-loop-fault : goal.decreases-loop-fault
decreases-loop-fault l = length l.fn.faults - l.index
