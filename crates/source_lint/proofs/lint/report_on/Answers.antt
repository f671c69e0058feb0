use Rattle.std.proofs.lemmas.Result.{IfOk-weaker}
use Rattle.source_lint.proofs.lint.report_on.Goals as goal

pub returns-clause-report : goal.returns-clause-report
returns-clause-report c = IfOk-weaker c.report_with.result _ _ (λ _ h es ms is_new ls l r b.
    h es ms is_new ls l r (c.first_break-first_break.ensures ls b)) c.report_with.ensures.report
