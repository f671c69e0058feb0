use Rattle.std.proofs.Common.{length}
use Rattle.rustc_parse_format.specs.LiteralReading.{SameEnds}
use Rattle.rustc_parse_format.proofs.literal.skip_byte_escapes.Given as goal

abbrev pub invariant-loop-byte : goal.invariant-loop-byte
invariant-loop-byte l = SameEnds l.initial.rest l.initial.expected l.rest l.expected

abbrev pub decreases-loop-byte : goal.decreases-loop-byte
decreases-loop-byte l = length l.rest
