use Rattle.std.proofs.Common.{◌≡◌, replicate}
use Rattle.rustc_parse_format.specs.LiteralReading.{strip_prefix}
use Rattle.rustc_parse_format.proofs.literal.consume_hashes.Given as goal

abbrev pub invariant-loop-countdown : goal.invariant-loop-countdown
invariant-loop-countdown l = strip_prefix (replicate l.countdown 35) l.rest
    ≡ strip_prefix (replicate l.fn.hashes 35) l.fn.rest

abbrev pub decreases-loop-countdown : goal.decreases-loop-countdown
decreases-loop-countdown l = l.countdown
