use Rattle.std.proofs.Common.{arith, chars}
use Rattle.std.proofs.lemmas.Grind.{common_steps}
use Rattle.drawn_lines.proofs.PrintableLemmas.{drop-printable}
use Rattle.drawn_lines.proofs.glyphs.put_printable.Goals as goal

pub returns-clause-whole : goal.returns-clause-whole
returns-clause-whole c =
    let parts = c.split_printable.ensures.parts in
    let drawn = drop-printable c.split_printable.result.0.now c.args.count
    (chars c.split_printable.result.1.now) c.split_printable.ensures.pass in
    rw parts (grind (arith, common_steps, drawn))
