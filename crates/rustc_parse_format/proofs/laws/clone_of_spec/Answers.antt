use Rattle.rustc_parse_format.proofs.Derives.Clones.{clone_report, spec_clone_is, spec_clone_made}
use Rattle.rustc_parse_format.proofs.laws.clone_of_spec.Goals as goal

pub returns : goal.returns
returns c = clone_report _ _ (spec_clone_is c.args.spec.now) c.clone.result c.clone.ensures.cases
    (spec_clone_made c.args.spec.now)
