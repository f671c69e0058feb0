use Rattle.std.proofs.Common.{◌≡◌, ◌<◌, ◌≤◌, ◌⊎◌, true}
use Rattle.placeholder_check.specs.Entries.{Lists}
use Rattle.placeholder_check.specs.Collection.{is_noted}
use Rattle.placeholder_check.proofs.indices.members_between.Given as goal

-- The list has the members below the counter, which does not pass the end.
abbrev pub invariant-loop-n : goal.invariant-loop-n
invariant-loop-n l = record {
  members : Lists (λ k. (k < l.n) × ((l.first ≤ k) × (is_noted l.set k ≡ true))) l.members.items;
  within : (l.n ≡ l.first) ⊎ (l.n ≤ l.end);
}
