use Rattle.std.proofs.Common.{◌∷◌, [], refl}
use Rattle.asm_lint.specs.Spans.{HasSpans}
use Rattle.asm_lint.proofs.Elements.{all-more}
use Rattle.source_lint.proofs.form_words.put_form.Goals as goal

pub returns-in_ok-push-clause-outcome : goal.returns-in_ok-push-clause-outcome
returns-in_ok-push-clause-outcome c = (
  c.in_ok-form_finding.field-0 ∷ [],
  c.in_ok-push.ensures.items,
  rw c.in-Some.is (c.in_ok-form_finding.field-0, refl, c.in_ok-form_finding.ensures.outcome),
)

pub returns-in_ok-push-clause-spans : goal.returns-in_ok-push-clause-spans
returns-in_ok-push-clause-spans c =
    λ h. all-more (HasSpans c.args.text.now) c.args.findings.now.items _ _
    c.in_ok-push.ensures.items h c.in_ok-form_finding.ensures.spans
