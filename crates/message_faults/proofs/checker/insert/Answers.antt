use Rattle.message_faults.proofs.Knowing.{has_text-added}
use Rattle.message_faults.proofs.checker.insert.Goals as goal

pub returns : goal.returns
returns c = has_text-added c.args.names.now c.insert.new.self c.args.name c.utf8.name
    c.in_ok-insert.ensures.updates
