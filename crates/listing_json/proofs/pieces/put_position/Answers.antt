use Rattle.listing_json.proofs.pieces.put_position.Goals as goal

pub returns-in-ArgumentImplicitlyIs-clause-tokens :
    goal.returns-in-ArgumentImplicitlyIs-clause-tokens
returns-in-ArgumentImplicitlyIs-clause-tokens c =
    rw c.in-ArgumentImplicitlyIs.is c.put_index.ensures.tokens
