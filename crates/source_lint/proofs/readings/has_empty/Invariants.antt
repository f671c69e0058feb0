use Rattle.std.proofs.Common.{◌≡◌, drop}
use Rattle.std.specs.List.{list_any}
use Rattle.source_lint.specs.Readings.{is_empty}
use Rattle.source_lint.proofs.readings.has_empty.Given as goal

-- The answer for what is left is the answer for all.
abbrev pub invariant-loop-argument : goal.invariant-loop-argument
invariant-loop-argument l = list_any is_empty (drop l.argument-index l.arguments)
    ≡ list_any is_empty l.arguments
