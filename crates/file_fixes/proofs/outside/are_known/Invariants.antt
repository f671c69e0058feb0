use Rattle.std.proofs.Common.{◌≡◌, drop}
use Rattle.std.specs.List.{list_all}
use Rattle.file_fixes.specs.Outside.{is_known}
use Rattle.file_fixes.proofs.outside.are_known.Given as goal

-- The tokens that are left decide.
abbrev pub invariant-loop-token : goal.invariant-loop-token
invariant-loop-token l =
    list_all is_known (drop l.token-index l.tokens) ≡ list_all is_known l.tokens
