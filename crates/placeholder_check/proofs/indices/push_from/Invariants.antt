use Rattle.std.proofs.Common.{◌≡◌, ◌++◌, filter, nat_le}
use Rattle.placeholder_check.proofs.indices.push_from.Given as goal

-- The list so far and the members of the rest are the list and all the members.
abbrev pub invariant-loop-n : goal.invariant-loop-n
invariant-loop-n l = l.list.items ++ filter (λ k. nat_le l.first k) l.n-iterator
    ≡ l.fn.list.items ++ filter (λ k. nat_le l.first k) l.set.keys
