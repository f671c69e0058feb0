use Rattle.std.proofs.Common.{◌∙◌, chars}
use Rattle.listing_json.proofs.Adding.{line-added}
use Rattle.listing_json.proofs.Depths.{name-low}
use Rattle.listing_json.proofs.report.put_name_line.Goals as goal

pub returns : goal.returns
returns c = line-added _ _ _ _ _ _ c.begin_line-writer.ensures.tokens
    (c.in_ok-put_name.ensures.before ∙ c.begin_line-writer.ensures.before)
    c.in_ok-put_name.ensures.tokens
    (name-low c.args.kind.now (chars c.args.name.now)) (c.in_ok-end_line.ensures _)
