use Rattle.std.proofs.Common.{◌∙◌, ap, chars, sym}
use Rattle.inlined_arguments.proofs.Comparing.{same-text}
use Rattle.file_inlines.proofs.edits.is_literal.Goals as goal

pub returns : goal.returns
returns c =
    let same = same-text c.eq.result c.as_str.result.now c.args.literal.now c.as_str.utf8
    c.utf8.literal c.eq.ensures in
    let text = ap chars c.as_str.ensures.value ∙ c.in_ok-text.ensures in
    (λ t. sym text ∙ same.0 t, λ h. same.1 (text ∙ h))
