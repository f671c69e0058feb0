use Rattle.std.proofs.Common.{◌∙◌}
use Rattle.emit.proofs.json_lines.put_places.Goals as goal

pub returns : goal.returns
returns c ms =
    c.in_ok-put_count-6.ensures _
    ∙ (c.in_ok-put_count-5.ensures _
    ∙ (c.in_ok-put_count-4.ensures _
    ∙ (c.in_ok-put_count-3.ensures _
    ∙ (c.in_ok-put_count-2.ensures _
    ∙ (c.in_ok-put_count.ensures _
    ∙ (c.in_ok-put_text.ensures _))))))
