use Rattle.rustc_parse_format.proofs.Sources.Places.{first_anchored}
use Rattle.rustc_parse_format.proofs.Readers.Steps.{counted_first}
use Rattle.rustc_parse_format.proofs.cursor.Cursor.new.Goals as goal

pub invariant_of-result : goal.invariant_of-result
invariant_of-result c = (
  first_anchored c.args.source c.args.lookahead.rest.text.now c.first_anchor-anchor.result
      c.requires.left c.requires.fits
      c.first_anchor-anchor.ensures.rest c.first_anchor-anchor.ensures.anchor c.requires.kept,
  rw (c.requires.first, c.requires.input) (counted_first _),
)
