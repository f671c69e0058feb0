use Rattle.std.proofs.Common.{◌≡◌, chars, drop, IsCharBoundary}
use Rattle.rust_tokens.specs.Runs.{rest_after}
use Rattle.rust_tokens.specs.Classes.{passes}
use Rattle.rust_tokens.proofs.texts.ascii_width.Given as goal

abbrev pub invariant-loop-i : goal.invariant-loop-i
invariant-loop-i l = record {
  at : IsCharBoundary l.text l.i;
  same : rest_after (passes l.class) (chars (drop l.i l.text))
      ≡ rest_after (passes l.class) (chars l.text);
}
