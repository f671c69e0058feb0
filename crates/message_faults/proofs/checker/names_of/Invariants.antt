use Rattle.std.proofs.Common.{map, take}
use Rattle.message_faults.specs.Views.{HasNames}
use Rattle.message_faults.proofs.checker.names_of.Given as goal

-- The set has the names of the parameters so far.
abbrev pub invariant-loop-parameter : goal.invariant-loop-parameter
invariant-loop-parameter l =
    HasNames (map (λ p. p.now) (take l.parameter-index l.parameters)) l.names
