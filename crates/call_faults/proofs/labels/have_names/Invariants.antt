use Rattle.std.proofs.Common.{◌≡◌, drop, map}
use Rattle.call_faults.specs.Labels.{have_names}
use Rattle.call_faults.specs.Views.{seen_given}
use Rattle.call_faults.proofs.labels.have_names.Given as goal

-- The answer for what is left is the answer for all.
abbrev pub invariant-loop-first : goal.invariant-loop-first
invariant-loop-first l = have_names (map seen_given (drop l.first-index l.arguments))
    ≡ have_names (map seen_given l.arguments)
