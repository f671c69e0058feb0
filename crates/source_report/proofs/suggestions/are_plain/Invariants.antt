use denote.Shadow.{shadow}
use denote.Text.{Utf8}
use Rattle.std.proofs.Common.{◌≡◌, length, chars}
use Rattle.std.specs.List.{list_all}
use Rattle.source_report.specs.Suggestions.{is_plain}
use Rattle.source_report.proofs.suggestions.are_plain.Given as goal

-- The characters that are left decide.
abbrev pub invariant-loop-c : goal.invariant-loop-c
invariant-loop-c l = record {
  same : list_all is_plain (chars l.rest) ≡ list_all is_plain (chars l.text);
  utf8 : shadow (Utf8 l.rest);
}

abbrev pub decreases-loop-c : goal.decreases-loop-c
decreases-loop-c l = length l.rest
