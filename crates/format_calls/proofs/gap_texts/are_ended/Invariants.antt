use Rattle.std.proofs.Common.{◌≡◌, drop, map}
use Rattle.std.specs.List.{list_all}
use Rattle.rust_trees.specs.Leaves.{leaf}
use Rattle.format_calls.proofs.gap_texts.are_ended.Given as goal

-- The answer for what is left is the answer for all.
abbrev pub invariant-loop-token : goal.invariant-loop-token
invariant-loop-token l =
    list_all (λ x. x.is_ended) (map leaf (drop l.token-index l.tokens))
    ≡ list_all (λ x. x.is_ended) (map leaf l.tokens)
