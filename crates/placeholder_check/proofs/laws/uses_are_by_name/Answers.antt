use Rattle.placeholder_check.proofs.NamedArguments.{named-alone, named-only}
use Rattle.placeholder_check.proofs.laws.uses_are_by_name.Goals as goal

pub returns-clause-named : goal.returns-clause-named
returns-clause-named c = named-alone

pub returns-clause-only : goal.returns-clause-only
returns-clause-only c = named-only
