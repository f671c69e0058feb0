use Rattle.piece_listing.proofs.Cuts.{parts-split}
use Rattle.piece_listing.proofs.arguments.around_comma.Goals as goal

pub returns-clause-parts : goal.returns-clause-parts
returns-clause-parts c = parts-split c.args.text.now c.split_once.result c.split_once.ensures.byte
