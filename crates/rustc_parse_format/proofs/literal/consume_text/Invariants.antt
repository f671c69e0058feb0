use Rattle.std.proofs.Common.{◌≡◌, length, chars}
use Rattle.rustc_parse_format.specs.LiteralReading.{strip_prefix}
use Rattle.rustc_parse_format.proofs.literal.consume_text.Given as goal

abbrev pub invariant-loop-c : goal.invariant-loop-c
invariant-loop-c l = strip_prefix l.expected l.rest ≡ strip_prefix (chars l.fn.text) l.fn.rest

abbrev pub decreases-loop-c : goal.decreases-loop-c
decreases-loop-c l = length l.expected
