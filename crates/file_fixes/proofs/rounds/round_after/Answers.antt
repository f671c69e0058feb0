use Rattle.std.proofs.Common.{subst, sym}
use Rattle.std.proofs.lemmas.Result.{IfOk-weaker}
use Rattle.file_fixes.specs.AllFaults.{HasFaults}
use Rattle.file_fixes.proofs.AllFaultLaws.{self}
use Rattle.file_fixes.proofs.rounds.round_after.Goals as goal

pub round_over-requires-2 : goal.round_over-requires-2
round_over-requires-2 c =
    let xs = c.args.report.now.findings.items in
    subst (HasFaults c.args.source.now xs) (sym c.as_slice-findings.ensures.value)
    (self c.args.source.now xs)

pub returns-clause-last : goal.returns-clause-last
returns-clause-last c = IfOk-weaker c.round_over-2.result _ _
    (λ o h n. h n (sym c.as_slice-findings.ensures.value)) c.round_over-2.ensures.last
