use Rattle.std.proofs.Common.{[]}
use Rattle.source_lint.proofs.Defining.{calls-of-file}
use Rattle.source_lint.proofs.changed.changed_file_faults.Goals as goal

pub returns-clause-report : goal.returns-clause-report
returns-clause-report c =
    let r = rw c.in-Some.is at c.in_ok-readings.ensures.read in
    let is_new = c.args.options.now.is_from_2021 in
    c.in_ok-report.ensures.report _ [] is_new r.0 r.1
    (calls-of-file _ _ [] _ is_new _ _ _ c.in_ok-names.ensures r.1 r.2) (r.3, r.4)
