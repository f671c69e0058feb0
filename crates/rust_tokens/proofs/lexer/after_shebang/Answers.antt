use Rattle.std.proofs.Common.{refl}
use Rattle.rust_tokens.proofs.Files.{attribute, no-bang, no-hash, shebang-within, shebanged}
use Rattle.rust_tokens.proofs.lexer.after_shebang.Goals as goal

pub returns-in_default-clause-shebanged : goal.returns-in_default-clause-shebanged
returns-in_default-clause-shebanged c = no-hash _ c.in_default.ensures

pub returns-in_default-strip-clause-shebanged : goal.returns-in_default-strip-clause-shebanged
returns-in_default-strip-clause-shebanged c =
    no-bang _ _ c.in-Some.ensures c.in_default-strip.ensures

pub returns-then-opens_attribute-clause-shebanged :
    goal.returns-then-opens_attribute-clause-shebanged
returns-then-opens_attribute-clause-shebanged c =
    attribute _ _ _ c.in-Some.ensures c.in-Some-strip.ensures
    (c.if-opens_attribute.ensures.yes refl)

pub returns-else-opens_attribute-clause-within : goal.returns-else-opens_attribute-clause-within
returns-else-opens_attribute-clause-within c =
    shebang-within _ _ _ _ c.utf8.text c.after_line.utf8 c.in-Some.ensures c.in-Some-strip.ensures
    c.after_line.ensures

pub returns-else-opens_attribute-clause-shebanged :
    goal.returns-else-opens_attribute-clause-shebanged
returns-else-opens_attribute-clause-shebanged c =
    shebanged _ _ _ _ c.utf8.text c.after_line.utf8 c.in-Some.ensures c.in-Some-strip.ensures
    c.after_line.ensures (c.if-opens_attribute.ensures.no refl)
