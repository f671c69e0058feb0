use Rattle.std.proofs.Common.{rules}
use Rattle.rust_tokens.specs.Strings.{after_string}
use Rattle.rust_tokens.proofs.AsciiMarks.{string-cut, string-none}
use Rattle.rust_tokens.proofs.ends.after_string.Goals as goal

pub rest_of-requires : goal.rest_of-requires
unfolding after_string
rest_of-requires c = string-cut _ _ c.utf8.text (search rules)

pub returns : goal.returns
returns c = string-none _ _ _ c.utf8.text c.in_default.ensures.cases c.loop-byte.invariant
