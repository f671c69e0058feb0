use Rattle.std.proofs.Common.{◌≡◌, ◌≤◌, drop}
use Rattle.file_fixes.specs.Mending.{ends_outside}
use Rattle.file_fixes.proofs.literals.ends_outside.Given as goal

-- The tokens that are left decide.
abbrev pub invariant-loop-token : goal.invariant-loop-token
invariant-loop-token l = record {
  same : ends_outside l.bytes l.at l.depth (drop l.token-index l.tokens)
      ≡ ends_outside l.bytes l.at 0 l.tokens;
  few : l.depth ≤ l.token-index;
}
