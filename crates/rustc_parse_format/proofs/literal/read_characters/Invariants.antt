use Rattle.std.proofs.Common.{◌≡◌, ◌+◌, [], length, chars}
use Rattle.rustc_parse_format.specs.Characters.{byte_length}
use Rattle.rustc_parse_format.proofs.Literals.Places.{IsSoFar}
use Rattle.rustc_parse_format.proofs.literal.read_characters.Given as goal

abbrev pub invariant-loop-rest : goal.invariant-loop-rest
invariant-loop-rest l = record {
  so_far : IsSoFar l.list.items l.at l.rest (chars l.fn.content);
  empty : chars l.fn.content ≡ [] → l.rest ≡ [];
  position : l.at + byte_length l.rest ≡ l.total;
}

abbrev pub decreases-loop-rest : goal.decreases-loop-rest
decreases-loop-rest l = length l.rest
