use Rattle.std.proofs.Common.{◌≡◌, ◌≤◌, ◌-◌, false, drop, take}
use Rattle.format_calls.specs.Arguments.{tokens_of}
use Rattle.call_forms.specs.Expressions.{next_operand}
use Rattle.call_forms.proofs.expressions.next_operand.Given as goal

-- The answer for what is left is the answer for all. As many tokens at least were read as are open.
abbrev pub invariant-loop-index : goal.invariant-loop-index
invariant-loop-index l = record {
  rest : next_operand l.is_after l.depth (l.index - l.argument.start)
      (take (l.argument.end - l.index) (drop l.index l.source))
      ≡ next_operand false 0 0 (tokens_of l.source l.argument);
  small : l.depth ≤ l.index;
  starts : l.argument.start ≤ l.index;
}

abbrev pub decreases-loop-index : goal.decreases-loop-index
decreases-loop-index l = l.argument.end - l.index
