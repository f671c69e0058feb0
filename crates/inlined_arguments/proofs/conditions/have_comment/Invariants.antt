use Rattle.std.proofs.Common.{◌≡◌, drop, map}
use Rattle.std.specs.List.{list_any}
use Rattle.inlined_arguments.specs.Conditions.{goes_with_comment}
use Rattle.inlined_arguments.specs.Views.{seen_argument}
use Rattle.inlined_arguments.proofs.conditions.have_comment.Given as goal

-- The answer for what is left is the answer for all.
abbrev pub invariant-loop-argument : goal.invariant-loop-argument
invariant-loop-argument l =
    list_any goes_with_comment (map seen_argument (drop l.argument-index l.arguments))
    ≡ list_any goes_with_comment (map seen_argument l.arguments)
