use Rattle.std.proofs.Common.{◌≡◌, drop}
use Rattle.format_tokens.specs.Culprits.{closes}
use Rattle.format_tokens.specs.Starts.{pairs}
use Rattle.format_tokens.proofs.culprits.closes.Given as goal

-- The answer for what is left is the answer for all.
abbrev pub invariant-loop-label : goal.invariant-loop-label
invariant-loop-label l = closes (pairs (drop l.label-index l.labels)) ≡ closes (pairs l.labels)
