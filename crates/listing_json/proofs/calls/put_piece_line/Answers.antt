use Rattle.std.proofs.Common.{◌∙◌}
use Rattle.listing_json.proofs.Adding.{line-added}
use Rattle.listing_json.proofs.Depths.{piece-low}
use Rattle.listing_json.proofs.calls.put_piece_line.Goals as goal

pub returns : goal.returns
returns c = line-added _ _ _ _ _ _ c.begin_line-writer.ensures.tokens
    (c.in_ok-put_piece.ensures.before ∙ c.begin_line-writer.ensures.before)
    c.in_ok-put_piece.ensures.tokens (piece-low _) (c.in_ok-end_line.ensures _)
