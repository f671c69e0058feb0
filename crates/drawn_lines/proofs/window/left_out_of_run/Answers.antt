use Rattle.std.proofs.Common.{◌≡◌, ◌+◌, ◌++◌, ◌∙◌, ap, arith, replicate, sym}
use Rattle.drawn_lines.proofs.WindowLemmas.{left_out-none}
use Rattle.drawn_lines.proofs.window.left_out_of_run.Goals as goal

pub returns-else-countdown-gt0-clause-value : goal.returns-else-countdown-gt0-clause-value
returns-else-countdown-gt0-clause-value c = λ t.
    let none : c.loop-rest.countdown ≡ 0 = omega (arith, c.if-countdown-gt0.false) in
    let rest = replicate c.loop-rest.rest c.args.character ++ t in
    sym (c.loop-rest.invariant.whole t)
    ∙ ap (λ k. c.loop-rest.columns + k)
    (left_out-none c.loop-rest.countdown rest none
    ∙ sym (left_out-none c.loop-rest.countdown t none))
