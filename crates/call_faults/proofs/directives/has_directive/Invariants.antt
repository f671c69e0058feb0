use Rattle.std.proofs.Common.{◌≡◌, drop}
use Rattle.call_faults.specs.Directives.{has_directive}
use Rattle.call_faults.proofs.directives.has_directive.Given as goal

-- The bytes that are left decide.
abbrev pub invariant-loop-byte : goal.invariant-loop-byte
invariant-loop-byte l = has_directive l.mark (drop l.byte-index l.bytes)
    ≡ has_directive 0 l.bytes
