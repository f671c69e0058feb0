use Rattle.std.proofs.Common.{◌∷◌, [], map}
use Rattle.std.proofs.lemmas.List.{at_drop_all, at_drop_more}
use Rattle.listing_json.specs.Values.{index_value}
use Rattle.listing_json.proofs.Adding.{owes-next, owes-none}
use Rattle.listing_json.proofs.report.put_indices.Goals as goal

pub loop-index-init : goal.loop-index-init
loop-index-init c = λ end d. d

pub loop-index-preserved : goal.loop-index-preserved
loop-index-preserved c = owes-next (_ ∷ []) _ _ _ _ _ _
    (at_drop_more (λ xs. map (index_value c.args.kind.now) xs) c.args.indices.now
    c.loop-index.index-index _ c.loop-index-test.true)
    c.loop-index.invariant c.in_ok-put_index_line.ensures

pub returns : goal.returns
returns c = owes-none _ _ _ _
    (at_drop_all (λ xs. map (index_value c.args.kind.now) xs) c.args.indices.now
    c.loop-index.index-index c.loop-index-test.false)
    c.loop-index.invariant
