use Rattle.std.proofs.Common.{◌≡◌, drop}
use Rattle.std.specs.List.{list_any}
use Rattle.inlined_arguments.specs.Variables.{is_slash}
use Rattle.inlined_arguments.proofs.variables.has_slash.Given as goal

-- The answer for what is left is the answer for all.
abbrev pub invariant-loop-byte : goal.invariant-loop-byte
invariant-loop-byte l = list_any is_slash (drop l.byte-index l.bytes)
    ≡ list_any is_slash l.bytes
