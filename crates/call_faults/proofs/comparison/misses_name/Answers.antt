use Rattle.std.proofs.Common.{refl, sym}
use Rattle.call_faults.specs.Comparison.{is_missing_name}
use Rattle.call_faults.specs.Views.{seen_fault}
use Rattle.text_faults.proofs.Collecting.{list_any-here}
use Rattle.call_faults.proofs.comparison.misses_name.Goals as goal

pub returns-in-MissingName : goal.returns-in-MissingName
returns-in-MissingName c = sym (list_any-here seen_fault is_missing_name c.args.faults.now
    c.loop-fault.fault-index c.fault-item.result c.loop-fault-test.true
    (rw (← c.fault-item.is, c.in-MissingName.is) refl))
