use Rattle.std.proofs.Common.{◌≡◌, ◌-◌, ◌≤◌, length, chars}
use Rattle.rustc_parse_format.specs.Characters.{byte_length}
use Rattle.rustc_parse_format.specs.LiteralReading.{spelled_end}
use Rattle.rustc_parse_format.proofs.literal.spelled_end.Given as goal

abbrev pub invariant-loop-rest : goal.invariant-loop-rest
invariant-loop-rest l = record {
  answer : spelled_end (l.total - byte_length l.rest) l.end l.rest l.expected
      ≡ spelled_end 1 1 (chars l.fn.content) (chars l.fn.text);
  within : byte_length l.rest ≤ l.total;
}

abbrev pub decreases-loop-rest : goal.decreases-loop-rest
decreases-loop-rest l = length l.rest
