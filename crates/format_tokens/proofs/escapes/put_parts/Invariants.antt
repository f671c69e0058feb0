use Rattle.std.proofs.Common.{map, chars, length}
use denote.Text.{Utf8}
use denote.Shadow.{shadow}
use Rattle.format_tokens.specs.Views.{seen_token}
use Rattle.format_tokens.proofs.Cutting.{IsCutSoFar}
use Rattle.format_tokens.proofs.escapes.put_parts.Given as goal

abbrev pub invariant-loop-rest : goal.invariant-loop-rest
invariant-loop-rest l = shadow (Utf8 l.rest)
    × IsCutSoFar (seen_token l.token) (chars l.text) (map seen_token l.fn.tokens.items)
    (map seen_token l.tokens.items) l.from (chars l.rest)

abbrev pub decreases-loop-rest : goal.decreases-loop-rest
decreases-loop-rest l = length (chars l.rest)
