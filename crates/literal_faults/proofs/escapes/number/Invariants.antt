use denote.Shadow.{shadow}
use denote.Text.{Utf8}
use Rattle.std.proofs.Common.{chars, length}
use Rattle.literal_faults.proofs.Digits.{IsRead}
use Rattle.literal_faults.proofs.escapes.number.Given as goal

abbrev pub invariant-loop-c : goal.invariant-loop-c
invariant-loop-c l = record {
  read : IsRead (chars l.fn.text) (chars l.rest) l.count l.value;
  utf8 : shadow (Utf8 l.rest);
}

abbrev pub decreases-loop-c : goal.decreases-loop-c
decreases-loop-c l = length l.rest
