use Rattle.rust_tokens.proofs.Longest.{longest}
use Rattle.rust_tokens.proofs.laws.longest_token.Goals as goal

pub returns : goal.returns
returns c = longest
