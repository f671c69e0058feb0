use Rattle.std.proofs.Common.{◌∙◌}
use Rattle.flat_reading.proofs.Specs.{default_is, spec_at-default}
use Rattle.rustc_parse_format.specs.Views.{seen_spec}
use Rattle.flat_reading.proofs.specification.no_spec.Goals as goal

pub returns-clause-described : goal.returns-clause-described
returns-clause-described c = λ input specs. spec_at-default input specs
    ∙ default_is (seen_spec c.args.spec.now) c.requires
