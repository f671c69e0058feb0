use Rattle.std.proofs.Common.{◌≡◌, ◌≤◌, ◌+◌, ◌-◌, ◌++◌, chars, length}
use denote.Shadow.{shadow}
use denote.Text.{Utf8}
use Rattle.asm_lint.specs.Literals.{dropped_crs}
use Rattle.asm_lint.proofs.literals.dropped_crs.Given as goal

-- With the CRs of the text that is left, these are all.
abbrev pub invariant-loop-c : goal.invariant-loop-c
invariant-loop-c l = record {
  is_text : shadow (Utf8 l.rest);
  few : length l.offsets.items + length l.rest ≤ length l.token;
  all : l.offsets.items
      ++ dropped_crs ((length l.token - length l.rest) - length l.offsets.items) (chars l.rest)
      ≡ dropped_crs 0 (chars l.token);
}

abbrev pub decreases-loop-c : goal.decreases-loop-c
decreases-loop-c l = length l.rest
