use Rattle.std.proofs.Common.{◌≡◌, ◌++◌, ◌∷◌, ◌∙◌, [], ap, chars, map, refl, subst, sym}
use Rattle.std.proofs.lemmas.List.{drop_all, map-append}
use Rattle.message_faults.specs.Diagnostics.{diagnostic}
use Rattle.message_faults.specs.Views.{seen_fault}
use Rattle.asm_lint.specs.Attributes.{TellMessages}
use Rattle.asm_lint.specs.Findings.{said, said_by}
use Rattle.asm_lint.specs.Spans.{HasSpans}
use Rattle.asm_lint.proofs.Elements.{all-more}
use Rattle.asm_lint.proofs.Gathering.{gathered-all, gathered-none, slice-step}
use Rattle.asm_lint.proofs.messages.put_findings.Goals as goal

pub loop-fault-init : goal.loop-fault-init
loop-fault-init c = record { outcome = gathered-none _ _ _; spans = λ h. h }

pub loop-fault-preserved : goal.loop-fault-preserved
loop-fault-preserved c =
    let name = chars c.args.name.now in
    record {
      outcome = slice-step seen_fault (λ fs xs. TellMessages name fs xs)
          (λ f xs. map said xs ≡ said_by (diagnostic name f) ∷ [])
          (λ f fs xs others p k. map-append said xs others
          ∙ (ap (λ v. v ++ map said others) p ∙ ap (λ v. said_by (diagnostic name f) ∷ v) k))
          c.args.faults.now
          c.loop-fault.fault-index _ _ _ _ _ c.loop-fault-test.true
          c.loop-fault.invariant.outcome c.in_ok-push.ensures.items
          (ap (λ v. v ∷ []) c.in_ok-finding.ensures.said);
      spans = λ h. all-more (HasSpans c.args.site.text.now) _ _ _ c.in_ok-push.ensures.items
          (c.loop-fault.invariant.spans h) c.in_ok-finding.ensures.spans;
    }

pub returns-clause-outcome : goal.returns-clause-outcome
returns-clause-outcome c = gathered-all _ _ _ _ _
    (subst (λ v. TellMessages (chars c.args.name.now) (map seen_fault v) [])
    (sym (drop_all c.loop-fault.fault-index c.args.faults.now c.loop-fault-test.false)) refl)
    c.loop-fault.invariant.outcome
