use Rattle.macro_owners.proofs.Forwarding.{forwards-all}
use Rattle.macro_owners.proofs.laws.forwards_all.Goals as goal

pub returns : goal.returns
returns c = forwards-all
