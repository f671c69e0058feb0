use Rattle.asm_lint.specs.Spans.{HasSpans}
use Rattle.asm_lint.proofs.Elements.{all-more}
use Rattle.asm_lint.proofs.asm_findings.put_finding.Goals as goal

pub returns-in_ok-push-clause-spans : goal.returns-in_ok-push-clause-spans
returns-in_ok-push-clause-spans c =
    λ h. all-more (HasSpans c.args.site.text.now) c.args.findings.now.items _ _
    c.in_ok-push.ensures.items h c.in_ok-finding.ensures.spans
