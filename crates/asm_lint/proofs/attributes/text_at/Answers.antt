use Rattle.std.proofs.Common.{◌∙◌, ap}
use Rattle.std.proofs.lemmas.Str.{chars-nil}
use Rattle.asm_lint.specs.Attributes.{name_text}
use Rattle.asm_lint.proofs.attributes.text_at.Goals as goal

pub returns-in-None : goal.returns-in-None
returns-in-None c = chars-nil ∙ ap (λ o. name_text o) c.in-None.ensures.value
