use Rattle.std.proofs.lemmas.Result.{IfOk-weaker}
use Rattle.piece_listing.specs.Program.{pieces}
use Rattle.listing_json.proofs.listing.uses_in.Goals as goal

pub returns : goal.returns
unfolding pieces
returns c = IfOk-weaker c.uses_of.result _ _ (λ _ h _. h)
    (rw (c.as_slice.ensures.value, c.in_ok-pieces.ensures.walk.0) at c.uses_of.ensures.uses)
