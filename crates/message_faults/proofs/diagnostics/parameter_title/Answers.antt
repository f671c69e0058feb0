use Rattle.std.proofs.Common.{append_assoc}
use Rattle.std.proofs.lemmas.Str.{encodes-chars}
use Rattle.message_faults.proofs.diagnostics.parameter_title.Goals as goal

pub returns : goal.returns
returns c =
    rw (
      encodes-chars c.args.name.now c.utf8.name,
      encodes-chars c.args.trait_name.now c.utf8.trait_name,
      append_assoc c.args.name.now,
    ) c.in_ok-title.ensures.ok
