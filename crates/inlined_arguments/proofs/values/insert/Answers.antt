use Rattle.inlined_arguments.proofs.Naming.{found-inserted}
use Rattle.inlined_arguments.proofs.values.insert.Goals as goal

pub returns : goal.returns
returns c = found-inserted c.args.named_values.now c.insert.new.self c.args.name c.args.value
    c.utf8.name
    c.in_ok-insert.ensures.updates
