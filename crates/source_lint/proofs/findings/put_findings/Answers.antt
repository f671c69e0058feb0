use Rattle.std.proofs.Common.{◌∙◌, ◌++◌, ◌∷◌, [], ap, map, subst, sym, take}
use Rattle.std.proofs.lemmas.List.{take_all}
use Rattle.call_faults.specs.Views.{seen_call, seen_fault}
use Rattle.text_faults.proofs.Collecting.{map-next}
use Rattle.source_lint.proofs.Telling.{Telling, telling-more, telling-none}
use Rattle.source_lint.proofs.findings.put_findings.Goals as goal

pub loop-fault-init : goal.loop-fault-init
loop-fault-init c = record { outcome = telling-none _ _ _; spans = λ h. h }

pub loop-fault-preserved : goal.loop-fault-preserved
loop-fault-preserved c =
    let faults = c.deref-fault-items.result.now in
    let i = c.loop-fault.fault-index in
    record {
      outcome = telling-more _ _ _ _ (seen_fault c.fault-item.result) _ _ _
          (map-next seen_fault faults i c.fault-item.result c.loop-fault-test.true
          ∙ ap (λ v. map seen_fault (take i faults) ++ seen_fault v ∷ []) (sym c.fault-item.is))
          c.loop-fault.invariant.outcome c.in_ok-put_finding.ensures.outcome;
      spans = λ h. c.in_ok-put_finding.ensures.spans (c.loop-fault.invariant.spans h);
    }

pub returns-clause-outcome : goal.returns-clause-outcome
returns-clause-outcome c =
    subst (λ v. Telling (seen_call c.args.report.now) c.args.is_whole (map seen_fault v)
    c.args.findings.now.items c.loop-fault.findings.items)
    (take_all c.loop-fault.fault-index c.deref-fault-items.result.now c.loop-fault-test.false
    ∙ c.deref-fault-items.ensures.value)
    c.loop-fault.invariant.outcome
