use Rattle.std.proofs.Common.{◌≡◌, drop, map}
use Rattle.std.specs.Prelude.{is_some}
use Rattle.std.specs.List.{list_any}
use Rattle.format_calls.specs.Arguments.{tokens_of}
use Rattle.call_forms.specs.Expressions.{joined_operand}
use Rattle.call_forms.proofs.expressions.have_joined.Given as goal

-- The answer for what is left is the answer for all.
abbrev pub invariant-loop-argument : goal.invariant-loop-argument
invariant-loop-argument l = list_any (λ p. is_some (joined_operand p)) (map (tokens_of l.part)
    (drop l.argument-index l.arguments))
    ≡ list_any (λ p. is_some (joined_operand p)) (map (tokens_of l.part) l.arguments)
