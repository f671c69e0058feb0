use Rattle.std.proofs.Common.{ap}
use Rattle.std.specs.Prelude.{option_map}
use Rattle.placeholder_check.specs.Views.{text}
use Rattle.call_faults.specs.Views.{seen_given}
use Rattle.call_faults.proofs.ArgumentNames.{no-argument, no-name}
use Rattle.call_faults.proofs.titles.name_of.Goals as goal

pub returns-in-None-name : goal.returns-in-None-name
returns-in-None-name c = no-name seen_given c.args.arguments.now c.args.index
    c.in-Some.argument.now c.in-Some.ensures.lookup.3.0 c.in-Some.ensures.lookup.1
    (ap (option_map text) c.in-None-name.is)

pub returns-in-None : goal.returns-in-None
returns-in-None c = no-argument seen_given c.args.arguments.now c.args.index
    c.in-None.ensures.lookup.3
