use Rattle.std.proofs.Common.{◌∙◌}
use Rattle.listing_json.proofs.Adding.{line-added}
use Rattle.listing_json.proofs.Depths.{fault-low}
use Rattle.listing_json.proofs.calls.put_fault_line.Goals as goal

pub returns : goal.returns
returns c = line-added _ _ _ _ _ _ c.begin_line-writer.ensures.tokens
    (c.in_ok-put_fault.ensures.before ∙ c.begin_line-writer.ensures.before)
    c.in_ok-put_fault.ensures.tokens (fault-low _) (c.in_ok-end_line.ensures _)
