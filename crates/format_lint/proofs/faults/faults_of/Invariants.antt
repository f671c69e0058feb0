use Rattle.std.proofs.Common.{◌≡◌, [], false, length}
use Rattle.format_lint.specs.Findings.{findings_from}
use Rattle.format_lint.proofs.Firsts.{AreFound}
use Rattle.format_lint.proofs.faults.faults_of.Given as goal

abbrev pub invariant-loop-argument : goal.invariant-loop-argument
invariant-loop-argument l = record {
  none_left : l.list.items ≡ [];
  faults : AreFound l.parser l.faults (findings_from false l.fn.parser);
}

abbrev pub decreases-loop-argument : goal.decreases-loop-argument
decreases-loop-argument l = length l.parser.rest
