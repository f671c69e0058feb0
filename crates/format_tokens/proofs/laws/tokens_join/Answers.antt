use Rattle.format_tokens.proofs.Joining.{shown-joined}
use Rattle.format_tokens.proofs.laws.tokens_join.Goals as goal

pub returns : goal.returns
returns c = shown-joined
