use Rattle.std.proofs.Common.{sym}
use Rattle.format_tokens.proofs.Unescaped.{bare-cut, bare-text, no_backslash}
use Rattle.format_tokens.proofs.escapes.cut_escapes.Goals as goal

pub returns : goal.returns
returns c a b cover =
    sym (bare-cut _ _ a b (bare-text _ c.utf8.literal
    (no_backslash _ _ c.has_backslash.ensures c.if-has_backslash.false)) cover)
