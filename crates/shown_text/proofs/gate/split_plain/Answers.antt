use Rattle.shown_text.proofs.Plain.{cut-plain, parts-plain}
use Rattle.shown_text.proofs.gate.split_plain.Goals as goal

pub split_at-requires : goal.split_at-requires
split_at-requires c =
    cut-plain c.args.kind c.args.text.now c.plain_width.result c.utf8.text
    c.plain_width.ensures.within c.plain_width.ensures.pass

pub returns-clause-parts : goal.returns-clause-parts
returns-clause-parts c =
    rw (c.split_at.ensures.front, c.split_at.ensures.back)
    (parts-plain c.args.kind c.args.text.now c.plain_width.result c.plain_width.ensures.pass)
