use Rattle.std.proofs.Common.{rules}
use Rattle.rust_tokens.proofs.AsciiMarks.{line-cut}
use Rattle.rust_tokens.proofs.ends.after_line.Goals as goal

pub rest_of-requires : goal.rest_of-requires
rest_of-requires c = line-cut _ _ c.utf8.text (search rules)
