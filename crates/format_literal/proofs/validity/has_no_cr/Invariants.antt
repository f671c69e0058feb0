use Rattle.std.proofs.Common.{◌≡◌, chars, length}
use Rattle.std.specs.List.{list_all}
use denote.Text.{Utf8}
use denote.Shadow.{shadow}
use Rattle.format_literal.specs.Spelling.{is_no_cr}
use Rattle.format_literal.proofs.validity.has_no_cr.Given as goal

-- The answer for what is left is the answer for all.
abbrev pub invariant-loop-c : goal.invariant-loop-c
invariant-loop-c l = record {
  is_text : shadow (Utf8 l.rest);
  same : list_all is_no_cr (chars l.rest) ≡ list_all is_no_cr (chars l.fn.text);
}

abbrev pub decreases-loop-c : goal.decreases-loop-c
decreases-loop-c l = length l.rest
