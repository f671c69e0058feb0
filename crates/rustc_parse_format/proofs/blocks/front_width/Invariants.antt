use Rattle.std.proofs.Common.{◌≡◌, true, take}
use Rattle.std.specs.List.{list_all}
use Rattle.rustc_parse_format.specs.Bytes.{is_no_stop}
use Rattle.rustc_parse_format.proofs.blocks.front_width.Given as goal

abbrev pub invariant-loop-i : goal.invariant-loop-i
invariant-loop-i l = list_all (is_no_stop l.stops) (take l.i l.bytes) ≡ true
