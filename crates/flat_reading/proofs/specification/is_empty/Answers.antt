use Rattle.std.proofs.Common.{◌∙◌}
use Rattle.flat_reading.proofs.Cuts.{nil_test}
use Rattle.flat_reading.proofs.specification.is_empty.Goals as goal

pub returns : goal.returns
returns c = c.is_empty.ensures ∙ nil_test c.args.text.now c.utf8.text
