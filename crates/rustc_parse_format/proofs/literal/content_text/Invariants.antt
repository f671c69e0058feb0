use Rattle.std.proofs.Common.{◌≡◌, [], chars, length, string_bytes}
use Rattle.rustc_parse_format.proofs.Literals.Texts.{IsTextSoFar}
use Rattle.rustc_parse_format.proofs.literal.content_text.Given as goal

abbrev pub invariant-loop-rest : goal.invariant-loop-rest
invariant-loop-rest l = record {
  so_far : IsTextSoFar (chars (string_bytes l.text)) l.rest (chars l.fn.content);
  empty : chars l.fn.content ≡ [] → l.rest ≡ [];
}

abbrev pub decreases-loop-rest : goal.decreases-loop-rest
decreases-loop-rest l = length l.rest
