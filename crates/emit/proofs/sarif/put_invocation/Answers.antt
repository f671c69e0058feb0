use Rattle.std.proofs.Common.{◌∙◌}
use Rattle.emit.proofs.Texts.{whole}
use Rattle.emit.proofs.sarif.put_invocation.Goals as goal

pub returns : goal.returns
returns c = whole _ _ _ (c.in_ok-put_end.ensures ∙ c.in_ok-put_truth.ensures _)
