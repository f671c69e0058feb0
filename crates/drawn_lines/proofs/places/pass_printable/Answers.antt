use Rattle.std.proofs.Common.{◌≡◌, ◌+◌, ◌-◌, arith, chars, length, sym}
use Rattle.drawn_lines.proofs.PrintableLemmas.{pass-printable}
use Rattle.drawn_lines.proofs.places.pass_printable.Goals as goal

pub returns-clause-value : goal.returns-clause-value
returns-clause-value c =
    let front = c.split_printable.result.0.now in
    let split = c.split_printable.ensures in
    rw (split.parts, c.past_printable.ensures.value)
    (sym (pass-printable front c.args.width (chars c.split_printable.result.1.now) c.args.start
    split.pass split.within))

pub returns-clause-on : goal.returns-clause-on
returns-clause-on c more =
    let front = c.split_printable.result.0.now in
    let split = c.split_printable.ensures in
    let within = split.within in
    let left : (c.args.width - length front) + more ≡ (c.args.width + more) - length front =
    omega arith in
    rw (split.parts, c.past_printable.ensures.value, left)
    (pass-printable front (c.args.width + more) (chars c.split_printable.result.1.now) c.args.start
    split.pass (omega arith))
