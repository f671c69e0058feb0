use Rattle.std.proofs.Common.{◌≡◌, true, take}
use Rattle.std.specs.List.{list_all}
use Rattle.rustc_parse_format.specs.LiteralUnits.{is_plain}
use Rattle.rustc_parse_format.proofs.literal.rest.plain_width.Given as goal

abbrev pub invariant-loop-i : goal.invariant-loop-i
invariant-loop-i l = record {
  same : take l.i l.bytes ≡ take l.i l.others;
  pass : list_all is_plain (take l.i l.bytes) ≡ true;
}
