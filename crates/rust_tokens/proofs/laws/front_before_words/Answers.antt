use Rattle.rust_tokens.proofs.ReadFronts.{before-words}
use Rattle.rust_tokens.proofs.laws.front_before_words.Goals as goal

pub returns : goal.returns
returns c = before-words
