use Rattle.format_tokens.proofs.Starts.{IsPlainSoFar}
use Rattle.format_tokens.proofs.places.plain_starts.Given as goal

abbrev pub invariant-loop-next : goal.invariant-loop-next
invariant-loop-next l = IsPlainSoFar l.at l.text l.starts.items l.next l.rest.rest.now
