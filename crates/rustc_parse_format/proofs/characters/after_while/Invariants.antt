use Rattle.std.proofs.Common.{◌≡◌, chars, length, List, ℕ}
use denote.Text.{Utf8}
use denote.Shadow.{shadow}
use Rattle.rustc_parse_format.specs.Bytes.{IsLeft}
use Rattle.rustc_parse_format.specs.Characters.{rest_after}
use Rattle.rustc_parse_format.specs.Classes.{passes}
use Rattle.rustc_parse_format.proofs.characters.after_while.Given as goal

abbrev pub invariant-loop-c : goal.invariant-loop-c
invariant-loop-c l = record {
  text : shadow (Utf8 l.rest);
  rest : rest_after (passes l.class) (chars l.rest) ≡ rest_after (passes l.class) (chars l.text);
  left : (input : List ℕ) → IsLeft input l.text → IsLeft input l.rest;
}

abbrev pub decreases-loop-c : goal.decreases-loop-c
decreases-loop-c l = length (chars l.rest)
