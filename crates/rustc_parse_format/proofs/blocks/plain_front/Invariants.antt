use Rattle.std.proofs.Common.{◌-◌, ◌≤◌}
use Rattle.rustc_parse_format.specs.Bytes.{IsSharedFront}
use Rattle.rustc_parse_format.specs.LiteralUnits.{is_plain}
use Rattle.rustc_parse_format.proofs.blocks.plain_front.Given as goal

abbrev pub invariant-loop-at : goal.invariant-loop-at
invariant-loop-at l = record {
  within : l.at ≤ l.limit;
  front : IsSharedFront is_plain l.bytes l.others l.at;
}

abbrev pub decreases-loop-at : goal.decreases-loop-at
decreases-loop-at l = l.limit - l.at
