use Rattle.std.proofs.Common.{◌≤◌, append_assoc, arith}
use Rattle.drawn_lines.proofs.Spaces.{run-rest}
use Rattle.drawn_lines.proofs.glyphs.put_spaces.Goals as goal

pub loop-countdown-preserved : goal.loop-countdown-preserved
loop-countdown-preserved c =
    let few : c.min-piece.result ≤ c.loop-countdown.countdown =
    omega (arith, c.min-piece.ensures) in
    let rest = run-rest c.loop-countdown.countdown c.min-piece.result few in
    rw (c.in_ok-push_str.ensures.bytes, c.spaces.ensures, append_assoc, rest)
    c.loop-countdown.invariant
