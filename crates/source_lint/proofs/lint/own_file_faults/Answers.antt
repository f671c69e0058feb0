use Rattle.std.proofs.Common.{[]}
use Rattle.std.proofs.lemmas.Result.{IfOk-weaker}
use Rattle.source_lint.proofs.Defining.{calls-of-file}
use Rattle.source_lint.proofs.lint.own_file_faults.Goals as goal

pub returns-clause-report : goal.returns-clause-report
returns-clause-report c =
    let r = c.in_ok-readings.ensures.read in
    IfOk-weaker c.report_on.result _ _ (λ _ h. h _ _ _ r.0 r.1
    (calls-of-file _ _ _ _ _ _ _ _ c.in_ok-names.ensures r.1 r.2) (r.3 [] c.new-balance.ensures))
    c.report_on.ensures.report
