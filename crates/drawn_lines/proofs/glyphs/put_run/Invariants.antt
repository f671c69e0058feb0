use Rattle.std.proofs.Common.{◌≡◌, ◌++◌, string_bytes}
use Rattle.drawn_lines.specs.Glyphs.{run}
use Rattle.drawn_lines.proofs.glyphs.put_run.Given as goal

-- As many have been added as there were rounds.
abbrev pub invariant-loop : goal.invariant-loop
invariant-loop l = string_bytes l.out ≡ string_bytes l.fn.out ++ run l.counter l.c
