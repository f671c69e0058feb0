use Rattle.std.proofs.Common.{ap, map, subst}
use Rattle.call_faults.specs.Views.{seen_given, start}
use Rattle.source_lint.specs.Findings.{AreFindings}
use Rattle.source_lint.proofs.CheckedCalls.{call-same}
use Rattle.source_lint.proofs.readings.check_string.Goals as goal

pub returns-clause-outcome : goal.returns-clause-outcome
returns-clause-outcome c =
    let t = c.in_ok-put_findings.ensures.outcome in
    let k = c.in_ok-report.ensures in (
      t.0,
      t.1,
      subst (λ v. AreFindings c.args.is_counted v t.0)
          (call-same (start c.args.string) c.in_ok-report.report
          (map seen_given c.args.arguments.now) c.args.string.captures_variables
          (ap (λ v. map seen_given v.now) k.arguments) k.kept k.walk.0 k.counts k.walk.1 k.faults)
          t.2,
    )
