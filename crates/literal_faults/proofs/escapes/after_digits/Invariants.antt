use denote.Shadow.{shadow}
use denote.Text.{Utf8}
use Rattle.std.proofs.Common.{◌≡◌, length, chars}
use Rattle.rustc_parse_format.specs.Characters.{rest_after}
use Rattle.literal_faults.specs.Escapes.{is_part}
use Rattle.literal_faults.proofs.escapes.after_digits.Given as goal

abbrev pub invariant-loop-c : goal.invariant-loop-c
invariant-loop-c l = record {
  same : rest_after is_part (chars l.rest) ≡ rest_after is_part (chars l.text);
  utf8 : shadow (Utf8 l.rest);
}

abbrev pub decreases-loop-c : goal.decreases-loop-c
decreases-loop-c l = length l.rest
