use Rattle.std.proofs.Common.{◌∙◌}
use Rattle.emit.proofs.Texts.{whole}
use Rattle.emit.proofs.json_lines.put_span.Goals as goal

pub returns : goal.returns
returns c = whole _ _ _ (c.in_ok-put_details.ensures ∙ c.in_ok-put_places.ensures _)
