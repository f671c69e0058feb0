use Rattle.std.proofs.Common.{◌≡◌, ◌<◌, false}
use Rattle.placeholder_check.specs.Entries.{Lists}
use Rattle.placeholder_check.specs.Collection.{is_noted}
use Rattle.placeholder_check.proofs.indices.missing_indices.Given as goal

-- The list has the missing numbers below the counter.
abbrev pub invariant-loop-n : goal.invariant-loop-n
invariant-loop-n l = Lists (λ k. (k < l.n) × (is_noted l.set k ≡ false)) l.missing_indices.items
