use Rattle.std.proofs.Common.{◌≡◌, drop, map}
use Rattle.std.specs.List.{list_any}
use Rattle.rust_trees.specs.Leaves.{leaf}
use Rattle.format_calls.specs.Searches.{is_target}
use Rattle.format_calls.proofs.part.has_target.Given as goal

-- The answer for what is left is the answer for all.
abbrev pub invariant-loop-token : goal.invariant-loop-token
invariant-loop-token l =
    list_any (is_target l.target) (map leaf (drop l.token-index l.tokens))
    ≡ list_any (is_target l.target) (map leaf l.tokens)
