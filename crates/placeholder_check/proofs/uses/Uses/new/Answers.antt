use Rattle.std.proofs.Common.{[]}
use Rattle.placeholder_check.proofs.uses.Uses.new.Goals as goal

pub returns-clause-holds : goal.returns-clause-holds
returns-clause-holds c = record {
  indices = λ n. cc;
  names = c.no_names.ensures.none [];
}
