use Rattle.std.proofs.Common.{◌≡◌, ◌≤◌, ◌++◌, drop}
use Rattle.file_fixes.specs.Walk.{from_start, seen_ahead, walk}
use Rattle.file_fixes.proofs.outside.untouched_tokens.Given as goal

-- With those of the tokens that are left, these are all.
abbrev pub invariant-loop-token : goal.invariant-loop-token
invariant-loop-token l = record {
  others : l.others.items ++ walk (seen_ahead l.parts l.place) (drop l.token-index l.tokens)
      ≡ walk (from_start l.parts) l.tokens;
  bounded : l.place.width ≤ l.place.end;
}
