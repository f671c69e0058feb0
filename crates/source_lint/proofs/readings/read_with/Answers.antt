use Rattle.std.proofs.Common.{◌∙◌, ap, refl}
use Rattle.std.proofs.lemmas.Result.{IfOk-weaker}
use Rattle.source_lint.specs.Readings.{captures_variables, newline_of, scope}
use Rattle.source_lint.proofs.Calling.{reads-by}
use Rattle.source_lint.proofs.readings.read_with.Goals as goal

pub returns-clause-read : goal.returns-clause-read
returns-clause-read c =
    let tokens = c.tokens-tokens.ensures in
    let name = rw tokens at c.name_at-name.ensures in
    let made = rw tokens at c.read_string.ensures.read in
    IfOk-weaker c.read_string.result _ _ (λ _ r. (
      r.0,
      r.1,
      reads-by _ _ _ _ _ _ _ _ _ _ _
          (c.newline_of-appended_newline.ensures ∙ ap (newline_of (scope c.args.file)) name)
          (c.captures_variables-captures_variables.ensures
          ∙ ap (captures_variables c.args.file.is_from_2021 c.args.call.now.rule) name)
          refl refl r.2,
    )) made
