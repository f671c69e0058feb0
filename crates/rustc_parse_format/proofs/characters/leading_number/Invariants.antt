use Rattle.std.proofs.Common.{◌≡◌, chars, length, List, ℕ}
use Rattle.std.specs.Char.{is_ascii_digit}
use denote.Text.{Utf8}
use denote.Shadow.{shadow}
use Rattle.rustc_parse_format.specs.Bytes.{IsLeft}
use Rattle.rustc_parse_format.specs.Characters.{front, rest_after}
use Rattle.rustc_parse_format.proofs.Bytes.Counting.{Counted}
use Rattle.rustc_parse_format.proofs.characters.leading_number.Given as goal

abbrev pub invariant-loop-digit : goal.invariant-loop-digit
invariant-loop-digit l = record {
  text : shadow (Utf8 l.rest);
  counted : Counted l.value l.is_over (front is_ascii_digit (chars l.rest))
      (front is_ascii_digit (chars l.text));
  rest : rest_after is_ascii_digit (chars l.rest) ≡ rest_after is_ascii_digit (chars l.text);
  left : (input : List ℕ) → IsLeft input l.text → IsLeft input l.rest;
}

abbrev pub decreases-loop-digit : goal.decreases-loop-digit
decreases-loop-digit l = length (chars l.rest)
