use Rattle.flat_reading.proofs.Finding.{both_ends}
use Rattle.flat_reading.proofs.finders.Lists.add.Goals as goal

pub returns-clause-calls : goal.returns-clause-calls
returns-clause-calls c = rw (← c.self.view_is)
    (both_ends c.self.inside.front_calls c.self.inside.back_calls _ _ c.args.number
    c.args.front_count
    _ c.in_ok-repeat.ensures c.in_ok-repeat-2.ensures)
