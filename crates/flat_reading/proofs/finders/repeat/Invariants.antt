use Rattle.std.proofs.Common.{◌≡◌, ◌++◌, replicate}
use Rattle.flat_reading.proofs.finders.repeat.Given as goal

abbrev pub invariant-loop : goal.invariant-loop
invariant-loop l = l.list ≡ l.fn.list ++ replicate l.counter l.number
