use Rattle.std.proofs.Common.{◌∙◌, ◌+◌, [], ap, map, refl, subst, sym}
use Rattle.std.specs.Prelude.{slice_get}
use Rattle.std.proofs.lemmas.List.{append-nil}
use Rattle.std.proofs.lemmas.Result.{IfOk-weaker}
use Rattle.format_calls.specs.Arguments.{tokens_of}
use Rattle.source_lint.specs.FormWords.{TellsForms}
use Rattle.call_forms.specs.Forms.{form_here}
use Rattle.source_lint.specs.Readings.{ReadsUnless, name_at, newline_of, scope, skipped_reading}
use Rattle.source_lint.proofs.Calling.{arguments-here, reads-here}
use Rattle.source_lint.proofs.readings.read_call.Goals as goal

pub returns-in-Some-clause-read : goal.returns-in-Some-clause-read
returns-in-Some-clause-read c = (
  [],
  sym (append-nil _),
  subst (λ o. ReadsUnless o c.args.file.is_from_2021
      (newline_of (scope c.args.file) (name_at c.args.part.now c.args.call.now.name))
      c.args.part.now c.args.call.now
      c.in-Some.reading [])
      (sym c.in-Some.is ∙ (c.other_macro.ensures
      ∙ ap (λ v. skipped_reading (scope c.args.file) c.args.call.now.rule
      (slice_get v c.args.call.now.name)) c.tokens-tokens.ensures))
      (refl, refl),
)

pub returns-in_default-2-clause-read : goal.returns-in_default-2-clause-read
returns-in_default-2-clause-read c =
    absurd ((rw (c.in_default-2.is, c.source.ensures) at c.in_ok-arguments.ensures.none) refl
    (c.args.call.now.name + 2) c.requires)

pub read_one-requires-clause-split : goal.read_one-requires-clause-split
read_one-requires-clause-split c =
    let a = rw (c.in-Some-2.is, c.source.ensures) at c.in_ok-arguments.ensures.some in
    arguments-here c.args.part.now c.args.call.now c.in-Some-2.arguments.items
    c.as_slice-list.result.now a.0 c.as_slice-list.ensures.value c.requires a.1 a.2

pub returns-in-Ok-clause-read : goal.returns-in-Ok-clause-read
returns-in-Ok-clause-read c =
    let a = rw (c.in-Some-2.is, c.source.ensures) at c.in_ok-arguments.ensures.some in
    IfOk-weaker c.read_one.result _ _ (λ _ r. (
      r.0,
      r.1,
      reads-here c.args.file.is_from_2021 _ _ c.args.part.now c.args.call.now
          c.as_slice-list.result.now _ _ r.0
          (sym c.in_default.is ∙ (c.other_macro.ensures
          ∙ ap (λ v. skipped_reading (scope c.args.file) c.args.call.now.rule
          (slice_get v c.args.call.now.name)) c.tokens-tokens.ensures))
          (arguments-here c.args.part.now c.args.call.now c.in-Some-2.arguments.items
          c.as_slice-list.result.now a.0 c.as_slice-list.ensures.value c.requires a.1 a.2)
          c.in-Ok.ensures.value r.2,
    )) c.read_one.ensures.read

pub returns-clause-read : goal.returns-clause-read
returns-clause-read c =
    let xs = c.args.part.now in
    let call = c.args.call.now in
    let is_new = c.args.file.is_from_2021 in
    let args = c.as_slice-list.result.now in
    let a = rw (c.in-Some-2.is, c.source.ensures) at c.in_ok-arguments.ensures.some in
    let name = rw c.tokens-tokens.ensures at c.name_at-name.ensures in
    let form = c.form_here-form.ensures in
    let t = c.in_ok-put_form-in-Err.ensures.outcome in (
      t.0,
      t.1,
      reads-here is_new _ _ xs call args _ _ t.0
          (sym c.in_default.is ∙ (c.other_macro.ensures
          ∙ ap (λ v. skipped_reading (scope c.args.file) c.args.call.now.rule
          (slice_get v c.args.call.now.name)) c.tokens-tokens.ensures))
          (arguments-here xs call c.in-Some-2.arguments.items args a.0 c.as_slice-list.ensures.value
          c.requires a.1 a.2)
          c.in-Err.ensures.value (
            refl,
            subst (λ o. TellsForms o t.0)
                (form
                ∙ ap (λ w. form_here is_new w call.rule call.close args (map (tokens_of xs) args))
                name)
                t.2,
          ),
    )
