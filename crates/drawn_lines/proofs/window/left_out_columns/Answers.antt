use Rattle.std.proofs.Common.{arith, chars}
use Rattle.drawn_lines.specs.Glyphs.{glyphs}
use Rattle.drawn_lines.proofs.WindowLemmas.{left_out-none}
use Rattle.drawn_lines.proofs.window.left_out_columns.Goals as goal

pub returns-then-countdown-eq0 : goal.returns-then-countdown-eq0
returns-then-countdown-eq0 c =
    let none =
    left_out-none c.loop-c.countdown
    (glyphs (chars c.loop-c.rest.now)) c.if-countdown-eq0.true in
    omega (arith, none, c.loop-c.invariant.whole)
