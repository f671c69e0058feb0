use Rattle.format_tokens.proofs.SequenceLaws.{part-sequences}
use Rattle.format_tokens.proofs.laws.escapes.Goals as goal

pub returns : goal.returns
returns c = part-sequences
