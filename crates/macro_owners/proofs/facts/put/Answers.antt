use Rattle.std.proofs.Common.{sym}
use Rattle.macro_owners.proofs.Collecting.{has-added, more-kept}
use Rattle.macro_owners.proofs.facts.put.Goals as goal

pub returns-in_ok-insert : goal.returns-in_ok-insert
returns-in_ok-insert c = more-kept c.args.names.now c.insert.new.self c.args.word.now _
    c.in-Some.ensures.same (sym c.in-Some.ensures.found)
    (has-added c.args.names.now c.insert.new.self c.in-Some.name c.in_ok-insert.ensures.updates)
