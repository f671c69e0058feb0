use Rattle.std.proofs.Common.{◌≡◌, drop, map}
use Rattle.format_calls.specs.Arguments.{tokens_of}
use Rattle.call_forms.specs.Forms.{first_bad}
use Rattle.call_forms.proofs.forms.first_bad.Given as goal

-- The answer for what is left is the answer for all.
abbrev pub invariant-loop-index : goal.invariant-loop-index
invariant-loop-index l =
    first_bad l.index (map (tokens_of l.part) (drop l.index l.arguments))
    ≡ first_bad 0 (map (tokens_of l.part) l.arguments)
