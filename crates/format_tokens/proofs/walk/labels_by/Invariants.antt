use Rattle.std.proofs.Common.{length, chars}
use denote.Text.{Utf8}
use denote.Shadow.{shadow}
use Rattle.rustc_parse_format.specs.Views.{seen_mode}
use Rattle.format_tokens.proofs.Progress.{IsSoFar}
use Rattle.format_tokens.proofs.walk.labels_by.Given as goal

abbrev pub invariant-loop-argument : goal.invariant-loop-argument
invariant-loop-argument l = shadow (Utf8 l.rest)
    × IsSoFar (seen_mode l.fn.mode) (chars l.fn.input) l.labels.items (chars l.rest) l.parser

abbrev pub decreases-loop-argument : goal.decreases-loop-argument
decreases-loop-argument l = length l.parser.rest
