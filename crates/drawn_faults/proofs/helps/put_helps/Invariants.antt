use Rattle.std.proofs.Common.{◌≡◌, ◌++◌, drop, map, string_bytes}
use Rattle.drawn_faults.specs.Diagnostics.{helps_rows}
use Rattle.drawn_lines.specs.Frames.{seen_frame}
use Rattle.drawn_faults.specs.SeenDiagnostics.{seen_help}
use Rattle.drawn_faults.proofs.helps.put_helps.Given as goal

-- The text added, and then the rest of it, is all.
abbrev pub invariant-loop-help : goal.invariant-loop-help
invariant-loop-help l = string_bytes l.out
    ++ helps_rows (seen_frame l.frame) (map seen_help (drop l.help-index l.helps))
    ≡ string_bytes l.fn.out ++ helps_rows (seen_frame l.frame) (map seen_help l.helps)
