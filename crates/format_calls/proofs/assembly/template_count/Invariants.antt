use Rattle.std.proofs.Common.{◌≡◌, ◌+◌, drop, map}
use Rattle.std.specs.List.{prefix_len}
use Rattle.rust_trees.specs.Leaves.{leaf}
use Rattle.format_calls.specs.Strings.{is_text}
use Rattle.format_calls.proofs.assembly.template_count.Given as goal

-- All so far are literals, so the count of what is left is missing.
abbrev pub invariant-loop-index : goal.invariant-loop-index
invariant-loop-index l =
    l.index + prefix_len (λ a. is_text (map leaf l.tokens) a) (drop l.index l.arguments)
    ≡ prefix_len (λ a. is_text (map leaf l.tokens) a) l.arguments
