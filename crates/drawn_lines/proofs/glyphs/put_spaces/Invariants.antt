use Rattle.std.proofs.Common.{◌≡◌, ◌++◌, string_bytes}
use Rattle.drawn_lines.specs.Glyphs.{run}
use Rattle.drawn_lines.proofs.glyphs.put_spaces.Given as goal

-- The spaces added and those that are left are all.
abbrev pub invariant-loop-countdown : goal.invariant-loop-countdown
invariant-loop-countdown l =
    string_bytes l.out ++ run l.countdown 32 ≡ string_bytes l.fn.out ++ run l.fn.count 32

abbrev pub decreases-loop-countdown : goal.decreases-loop-countdown
decreases-loop-countdown l = l.countdown
