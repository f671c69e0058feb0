use Rattle.placeholder_check.proofs.Naming.{has_text-added}
use Rattle.placeholder_check.proofs.names.insert_later.Goals as goal

pub returns : goal.returns
returns c =
    has_text-added c.args.set.now c.insert.new.self c.args.name c.utf8.name
    c.in_ok-insert.ensures.updates
