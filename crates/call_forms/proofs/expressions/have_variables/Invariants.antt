use Rattle.std.proofs.Common.{◌≡◌, drop, map}
use Rattle.std.specs.List.{list_any}
use Rattle.format_calls.specs.Arguments.{tokens_of}
use Rattle.call_forms.specs.Expressions.{has_variable}
use Rattle.call_forms.proofs.expressions.have_variables.Given as goal

-- The answer for what is left is the answer for all.
abbrev pub invariant-loop-argument : goal.invariant-loop-argument
invariant-loop-argument l =
    list_any has_variable (map (tokens_of l.part) (drop l.argument-index l.arguments))
    ≡ list_any has_variable (map (tokens_of l.part) l.arguments)
