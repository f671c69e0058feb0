use Rattle.format_tokens.proofs.Numbers.{Counted}
use Rattle.format_tokens.proofs.parts.is_over.Given as goal

abbrev pub invariant-loop-c : goal.invariant-loop-c
invariant-loop-c l = Counted l.number l.rest.rest.now l.text
