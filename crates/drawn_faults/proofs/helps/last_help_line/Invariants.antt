use Rattle.std.proofs.Common.{◌≡◌, ◌<◌, ◌^◌, drop, map}
use Rattle.drawn_faults.specs.Diagnostics.{last_help_line}
use Rattle.drawn_lines.specs.Places.{seen_picture}
use Rattle.drawn_faults.specs.SeenDiagnostics.{seen_help}
use Rattle.drawn_faults.proofs.helps.last_help_line.Given as goal

-- The answer for the rest is the answer for all.
abbrev pub invariant-loop-help : goal.invariant-loop-help
invariant-loop-help l = record {
  same : last_help_line (seen_picture l.picture) l.line (map seen_help (drop l.help-index l.helps))
      ≡ last_help_line (seen_picture l.picture) l.last (map seen_help l.helps);
  small : l.line < 2 ^ 59;
}
