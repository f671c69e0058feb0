use Rattle.std.proofs.Common.{◌∷◌, [], map}
use Rattle.std.proofs.lemmas.List.{at_drop_all, at_drop_more}
use Rattle.placeholder_check.specs.Views.{texts}
use Rattle.listing_json.specs.Values.{name_value}
use Rattle.listing_json.proofs.Adding.{owes-next, owes-none}
use Rattle.listing_json.proofs.report.put_names.Goals as goal

pub loop-name-init : goal.loop-name-init
loop-name-init c = λ end d. d

pub loop-name-preserved : goal.loop-name-preserved
loop-name-preserved c = owes-next (_ ∷ []) _ _ _ _ _ _
    (at_drop_more (λ xs. map (name_value c.args.kind.now) (texts xs)) c.args.names.now
    c.loop-name.name-index _ c.loop-name-test.true)
    c.loop-name.invariant c.in_ok-put_name_line.ensures

pub returns : goal.returns
returns c = owes-none _ _ _ _
    (at_drop_all (λ xs. map (name_value c.args.kind.now) (texts xs)) c.args.names.now
    c.loop-name.name-index c.loop-name-test.false)
    c.loop-name.invariant
