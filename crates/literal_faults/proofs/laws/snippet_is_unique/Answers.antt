use Rattle.literal_faults.proofs.Snippets.{one-snippet}
use Rattle.literal_faults.proofs.laws.snippet_is_unique.Goals as goal

pub returns : goal.returns
returns c = one-snippet
