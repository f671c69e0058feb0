use Rattle.std.proofs.Common.{◌≡◌, length}
use Rattle.rustc_parse_format.specs.Characters.{rest_after}
use Rattle.rustc_parse_format.specs.LiteralUnits.{is_skipped}
use Rattle.rustc_parse_format.proofs.literal.rest.Rest.skip_ws.Given as goal

abbrev pub invariant-loop-self : goal.invariant-loop-self
invariant-loop-self l = rest_after is_skipped l.self ≡ rest_after is_skipped l.fn.self

abbrev pub decreases-loop-self : goal.decreases-loop-self
decreases-loop-self l = length l.self
