use Rattle.std.proofs.Common.{◌≡◌, ◌≤◌, ◌-◌, length, true, take}
use Rattle.std.specs.List.{list_all}
use Rattle.rustc_parse_format.specs.Bytes.{is_no_stop}
use Rattle.rustc_parse_format.proofs.blocks.front_by_blocks.Given as goal

abbrev pub invariant-loop-at : goal.invariant-loop-at
invariant-loop-at l = record {
  within : l.at ≤ length l.bytes;
  pass : list_all (is_no_stop l.stops) (take l.at l.bytes) ≡ true;
}

abbrev pub decreases-loop-at : goal.decreases-loop-at
decreases-loop-at l = length l.bytes - l.at
