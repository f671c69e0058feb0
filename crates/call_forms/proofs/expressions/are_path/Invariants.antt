use Rattle.std.proofs.Common.{◌≡◌, drop, map}
use Rattle.rust_trees.specs.Leaves.{leaf}
use Rattle.std.specs.Prelude.{not}
use Rattle.std.specs.List.{list_any}
use Rattle.call_forms.specs.Expressions.{is_path}
use Rattle.call_forms.proofs.expressions.are_path.Given as goal

-- The answer for what is left is the answer for all.
abbrev pub invariant-loop-token : goal.invariant-loop-token
invariant-loop-token l = list_any (λ x. not (is_path x)) (map leaf (drop l.token-index l.tokens))
    ≡ list_any (λ x. not (is_path x)) (map leaf l.tokens)
