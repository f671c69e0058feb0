use Rattle.std.proofs.Common.{◌≡◌, drop, map, not}
use Rattle.std.specs.List.{list_any}
use Rattle.inlined_arguments.specs.Variables.{is_variable}
use Rattle.inlined_arguments.specs.Views.{seen_argument}
use Rattle.inlined_arguments.proofs.conditions.has_other.Given as goal

-- The answer for what is left is the answer for all.
abbrev pub invariant-loop-argument : goal.invariant-loop-argument
invariant-loop-argument l =
    list_any (λ a. not (is_variable a)) (map seen_argument (drop l.argument-index l.arguments))
    ≡ list_any (λ a. not (is_variable a)) (map seen_argument l.arguments)
