use Rattle.rustc_parse_format.proofs.Derives.Clones.{clone_report, argument_clone_is}
use Rattle.rustc_parse_format.proofs.Derives.Clones.{argument_clone_made}
use Rattle.rustc_parse_format.proofs.laws.clone_of_argument.Goals as goal

pub returns : goal.returns
returns c =
    clone_report _ _ (argument_clone_is c.args.argument.now) c.clone.result c.clone.ensures.cases
    (argument_clone_made c.args.argument.now)
