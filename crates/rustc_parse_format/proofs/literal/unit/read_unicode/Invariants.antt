use Rattle.std.proofs.Common.{◌≡◌, ◌^◌, ◌<◌, ◌≤◌, length}
use Rattle.rustc_parse_format.specs.LiteralUnits.{meaning, unicode_at}
use Rattle.rustc_parse_format.proofs.Literals.Unicode.{after_digits}
use Rattle.rustc_parse_format.proofs.literal.unit.read_unicode.Given as goal

abbrev pub invariant-loop-c : goal.invariant-loop-c
invariant-loop-c l = record {
  answer : after_digits l.digits l.code l.rest ≡ meaning (unicode_at l.fn.rest);
  few : l.digits ≤ 6;
  small : l.code < 16 ^ l.digits;
}

abbrev pub decreases-loop-c : goal.decreases-loop-c
decreases-loop-c l = length l.rest
