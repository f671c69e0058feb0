use Rattle.std.proofs.Common.{◌≡◌, chars, length}
use Rattle.std.specs.List.{list_any}
use denote.Text.{Utf8}
use denote.Shadow.{shadow}
use Rattle.inlined_arguments.specs.Variables.{is_late_character}
use Rattle.inlined_arguments.proofs.variables.is_plain.Given as goal

-- The answer for what is left is the answer for all.
abbrev pub invariant-loop-c : goal.invariant-loop-c
invariant-loop-c l = record {
  is_text : shadow (Utf8 l.rest);
  same : list_any is_late_character (chars l.rest) ≡ list_any is_late_character (chars l.fn.name);
}

abbrev pub decreases-loop-c : goal.decreases-loop-c
decreases-loop-c l = length l.rest
