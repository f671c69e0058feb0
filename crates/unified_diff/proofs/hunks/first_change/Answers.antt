use Rattle.std.proofs.Common.{◌≡◌, ◌∙◌, rules, sym, true}
use Rattle.unified_diff.proofs.Counts.{are_shared-more}
use Rattle.unified_diff.proofs.hunks.first_change.Goals as goal

pub loop-index-preserved : goal.loop-index-preserved
loop-index-preserved c =
    let yes : c.is_shared.result ≡ true = search rules in
    are_shared-more c.args.rows.now c.loop-index.index _ (search rules) c.loop-index.invariant
    (sym c.is_shared.ensures ∙ yes)
