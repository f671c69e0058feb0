use Rattle.std.proofs.Common.{chars, length}
use denote.Shadow.{shadow}
use denote.Text.{Utf8}
use Rattle.literal_faults.proofs.Reading.{Passed}
use Rattle.literal_faults.proofs.stops.after_units.Given as goal

abbrev pub invariant-loop-more : goal.invariant-loop-more
invariant-loop-more l = record {
  passed : Passed (chars l.fn.content) (chars l.rest);
  utf8 : shadow (Utf8 l.rest);
}

abbrev pub decreases-loop-more : goal.decreases-loop-more
decreases-loop-more l = length (chars l.rest)
