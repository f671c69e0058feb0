use Rattle.rust_tokens.proofs.AsciiMarks.{comment-none}
use Rattle.rust_tokens.proofs.ends.after_comment.Goals as goal

pub returns : goal.returns
returns c =
    comment-none _ _ _ _ c.utf8.text c.in_default.ensures.cases c.loop-byte.invariant.same
