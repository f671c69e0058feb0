use Rattle.std.proofs.Common.{◌∷◌, [], map}
use Rattle.std.proofs.lemmas.List.{at_drop_all, at_drop_more}
use Rattle.rustc_parse_format.specs.FaultViews.{seen_fault}
use Rattle.listing_json.specs.Values.{fault_value}
use Rattle.listing_json.proofs.Adding.{owes-next, owes-none}
use Rattle.listing_json.proofs.calls.put_faults.Goals as goal

pub loop-fault-init : goal.loop-fault-init
loop-fault-init c = λ end d. d

pub loop-fault-preserved : goal.loop-fault-preserved
loop-fault-preserved c = owes-next (_ ∷ []) _ _ _ _ _ _
    (at_drop_more (λ fs. map fault_value (map seen_fault fs)) c.args.faults.now
    c.loop-fault.fault-index _ c.loop-fault-test.true)
    c.loop-fault.invariant c.in_ok-put_fault_line.ensures

pub returns : goal.returns
returns c = owes-none _ _ _ _
    (at_drop_all (λ fs. map fault_value (map seen_fault fs)) c.args.faults.now
    c.loop-fault.fault-index c.loop-fault-test.false)
    c.loop-fault.invariant
