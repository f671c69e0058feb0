use Rattle.std.proofs.Common.{◌≡◌, drop, map}
use Rattle.std.specs.List.{list_any}
use Rattle.format_calls.specs.Arguments.{tokens_of}
use Rattle.call_forms.specs.Operators.{lacks_operand}
use Rattle.source_lint.proofs.readings.lack_operand.Given as goal

-- The answer for what is left is the answer for all.
abbrev pub invariant-loop-argument : goal.invariant-loop-argument
invariant-loop-argument l =
    list_any lacks_operand (map (tokens_of l.part) (drop l.argument-index l.arguments))
    ≡ list_any lacks_operand (map (tokens_of l.part) l.arguments)
