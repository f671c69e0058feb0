use Rattle.std.proofs.Common.{arith, rules}
use Rattle.std.proofs.lemmas.Grind.{common_steps}
use Rattle.std.proofs.lemmas.Str.{encodes-chars}
use Rattle.call_faults.proofs.directives.has_directive.Goals as goal

pub returns-then-ends_directive : goal.returns-then-ends_directive
returns-then-ends_directive c =
    rw (encodes-chars c.args.text.now c.utf8.text) (grind (arith, common_steps))

pub returns : goal.returns
returns c = rw (encodes-chars c.args.text.now c.utf8.text) (grind (arith, common_steps))
