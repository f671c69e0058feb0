use Rattle.std.proofs.Common.{◌≡◌, ◌++◌, drop}
use Rattle.source_lint.specs.Readings.{arguments_before}
use Rattle.source_lint.proofs.readings.arguments_before.Given as goal

-- The arguments so far, and then those that are left, are all.
abbrev pub invariant-loop-argument : goal.invariant-loop-argument
invariant-loop-argument l =
    l.list.items ++ arguments_before l.end (drop l.argument-index l.arguments)
    ≡ arguments_before l.end l.arguments
