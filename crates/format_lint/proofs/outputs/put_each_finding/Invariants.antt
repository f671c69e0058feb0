use Rattle.std.proofs.Common.{◌≡◌, ◌++◌, drop, flat_map, map, string_bytes}
use Rattle.rustc_parse_format.specs.Views.{seen_mode}
use Rattle.drawn_lines.specs.Places.{seen_picture}
use Rattle.format_lint.specs.Lint.{drawn_finding}
use Rattle.format_lint.specs.SeenLint.{seen_finding}
use Rattle.format_lint.proofs.outputs.put_each_finding.Given as goal

-- The drawings so far and those of the rest are all the drawings.
abbrev pub invariant-loop-finding : goal.invariant-loop-finding
invariant-loop-finding l =
    let drawing = drawn_finding (seen_mode l.mode) (seen_picture l.picture) in
    string_bytes l.out
    ++ flat_map drawing (map seen_finding (drop l.finding-index l.findings))
    ≡ string_bytes l.fn.out ++ flat_map drawing (map seen_finding l.findings)
