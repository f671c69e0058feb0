use Rattle.std.proofs.Common.{◌∙◌}
use Rattle.listing_json.proofs.Adding.{line-added}
use Rattle.listing_json.proofs.Depths.{index-low}
use Rattle.listing_json.proofs.report.put_index_line.Goals as goal

pub returns : goal.returns
returns c = line-added _ _ _ _ _ _ c.begin_line-writer.ensures.tokens
    (c.in_ok-put_index.ensures.before ∙ c.begin_line-writer.ensures.before)
    c.in_ok-put_index.ensures.tokens
    (index-low c.args.kind.now c.args.index) (c.in_ok-end_line.ensures _)
