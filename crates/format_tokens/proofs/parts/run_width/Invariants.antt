use Rattle.format_tokens.specs.Labels.{passes}
use Rattle.format_tokens.proofs.Widths.{Passed}
use Rattle.format_tokens.proofs.parts.run_width.Given as goal

abbrev pub invariant-loop-c : goal.invariant-loop-c
invariant-loop-c l = Passed (passes l.run) l.text l.rest.rest.now l.width
