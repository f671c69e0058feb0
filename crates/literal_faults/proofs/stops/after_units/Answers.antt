use Rattle.std.proofs.Common.{rules, sym}
use Rattle.rustc_parse_format.proofs.Literals.Meanings.{meaning-shorter}
use Rattle.literal_faults.proofs.Reading.{passed-stops, passed-unit}
use Rattle.literal_faults.proofs.stops.after_units.Goals as goal

pub loop-more-smaller : goal.loop-more-smaller
loop-more-smaller c = meaning-shorter _ _ _ (sym c.in-Some.ensures)

pub loop-more-preserved : goal.loop-more-preserved
loop-more-preserved c = record {
  passed = passed-unit _ _ _ _ c.loop-more.invariant.passed (sym c.in-Some.ensures);
  utf8 = search rules;
}

pub returns : goal.returns
returns c = passed-stops _ _ c.loop-more.invariant.passed (sym c.in_default.ensures)
