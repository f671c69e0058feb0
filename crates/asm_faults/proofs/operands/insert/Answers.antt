use Rattle.asm_faults.proofs.Holding.{found-inserted}
use Rattle.asm_faults.proofs.operands.insert.Goals as goal

pub returns : goal.returns
returns c = found-inserted c.args.names.now c.insert.new.self c.args.name c.args.index c.utf8.name
    c.in_ok-insert.ensures.updates
