use Rattle.rust_tokens.proofs.AsciiMarks.{raw-none}
use Rattle.rust_tokens.proofs.ends.after_raw.Goals as goal

pub returns : goal.returns
returns c = raw-none _ _ _ c.utf8.text c.in_default.ensures.cases c.loop-byte.invariant
