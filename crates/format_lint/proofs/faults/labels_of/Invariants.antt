use Rattle.std.proofs.Common.{◌≡◌, [], chars, false, length}
use denote.Text.{Utf8}
use denote.Shadow.{shadow}
use Rattle.rustc_parse_format.specs.Views.{seen_mode}
use Rattle.format_tokens.proofs.Progress.{IsSoFar}
use Rattle.format_lint.specs.Findings.{findings_from}
use Rattle.format_lint.proofs.Firsts.{AreFound}
use Rattle.format_lint.proofs.faults.labels_of.Given as goal

abbrev pub invariant-loop-text : goal.invariant-loop-text
invariant-loop-text l = record {
  is_text : shadow (Utf8 l.rest);
  labels : IsSoFar (seen_mode l.fn.mode) (chars l.text) l.labels.items (chars l.rest) l.parser;
  none_left : l.list.items ≡ [];
  faults : AreFound l.parser l.faults (findings_from false l.fn.parser);
}

abbrev pub decreases-loop-text : goal.decreases-loop-text
decreases-loop-text l = length l.parser.rest
