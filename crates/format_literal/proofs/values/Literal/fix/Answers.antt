use Rattle.format_literal.proofs.Fixes.{fix-is}
use Rattle.format_literal.proofs.values.Literal.fix.Goals as goal

pub returns : goal.returns
returns c =
    fix-is _ _ _ _ _ _ _ c.as_str.ensures.value c.fix.ensures.some c.fix.ensures.none
