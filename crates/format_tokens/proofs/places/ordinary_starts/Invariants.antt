use Rattle.format_tokens.proofs.Ordinary.{IsReadSoFar}
use Rattle.format_tokens.proofs.places.ordinary_starts.Given as goal

abbrev pub invariant-loop-character : goal.invariant-loop-character
invariant-loop-character l =
    IsReadSoFar l.character-items l.character-index l.starts.items l.end
