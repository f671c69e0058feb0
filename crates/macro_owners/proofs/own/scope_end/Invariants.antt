use Rattle.std.proofs.Common.{◌<◌, ◌≤◌, ℕ}
use Rattle.rust_trees.specs.Forests.{IsPair}
use Rattle.macro_owners.proofs.own.scope_end.Given as goal

abbrev pub invariant-loop-opening : goal.invariant-loop-opening
invariant-loop-opening l = (a b : ℕ) → IsPair l.source a b → a < l.opening → l.index < b → l.end ≤ b
