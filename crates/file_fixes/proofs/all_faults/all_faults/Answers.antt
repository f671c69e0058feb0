use Rattle.std.proofs.Common.{◌++◌, arith, subst, sym}
use Rattle.file_fixes.specs.AllFaults.{AreOfString, HasFaults}
use Rattle.file_fixes.proofs.AllFaultLaws.{last, next}
use Rattle.file_fixes.proofs.all_faults.all_faults.Goals as goal

pub loop-finding-init : goal.loop-finding-init
loop-finding-init c = λ us h.
    subst (λ v. HasFaults c.args.text.now c.args.findings.now (v ++ us))
    (sym c.new-all.ensures.items) h

pub loop-finding-preserved : goal.loop-finding-preserved
loop-finding-preserved c =
    let x = c.finding-item.result in
    let r = c.in_ok-place.ensures in
    next c.args.text.now c.args.findings.now _ x _ r.0 _ c.loop-finding-test.true
    c.loop-finding.invariant r.1
    (subst (λ v. AreOfString c.args.text.now v r.0) c.finding-item.is r.2)

pub returns : goal.returns
returns c = last c.args.text.now c.args.findings.now _ _
    (omega (arith, c.loop-finding-test.false)) c.loop-finding.invariant
