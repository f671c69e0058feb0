use Rattle.std.proofs.Common.{◌≡◌, drop}
use Rattle.std.specs.List.{list_all}
use Rattle.format_tokens.specs.Escapes.{is_other}
use Rattle.format_tokens.proofs.escapes.has_backslash.Given as goal

-- The answer for what is left is the answer for all.
abbrev pub invariant-loop-byte : goal.invariant-loop-byte
invariant-loop-byte l = list_all is_other (drop l.byte-index l.text) ≡ list_all is_other l.text
