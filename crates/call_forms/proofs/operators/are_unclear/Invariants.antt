use Rattle.std.proofs.Common.{◌≡◌, drop, map}
use Rattle.std.specs.List.{list_any}
use Rattle.rust_trees.specs.Leaves.{leaf}
use Rattle.call_forms.specs.Operators.{is_unclear}
use Rattle.call_forms.proofs.operators.are_unclear.Given as goal

-- The answer for what is left is the answer for all.
abbrev pub invariant-loop-token : goal.invariant-loop-token
invariant-loop-token l = list_any is_unclear (map leaf (drop l.token-index l.tokens))
    ≡ list_any is_unclear (map leaf l.tokens)
