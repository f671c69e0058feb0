use Rattle.placeholder_check.proofs.Noting.{Holds-append}
use Rattle.placeholder_check.proofs.uses.Uses.add.Goals as goal

pub returns : goal.returns
returns c us held = Holds-append us _ _ _ held c.in_ok-add_argument.ensures
