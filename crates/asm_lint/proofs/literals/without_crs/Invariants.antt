use Rattle.std.proofs.Common.{◌≡◌, ◌++◌, chars, length}
use Rattle.std.specs.Prelude.{string_bytes}
use denote.Shadow.{shadow}
use denote.Text.{Utf8}
use Rattle.asm_lint.specs.Literals.{without_crs}
use Rattle.asm_lint.proofs.literals.without_crs.Given as goal

abbrev pub invariant-loop-c : goal.invariant-loop-c
invariant-loop-c l = record {
  is_text : shadow (Utf8 l.rest);
  all : chars (string_bytes l.lines) ++ without_crs (chars l.rest) ≡ without_crs (chars l.text);
}

abbrev pub decreases-loop-c : goal.decreases-loop-c
decreases-loop-c l = length l.rest
