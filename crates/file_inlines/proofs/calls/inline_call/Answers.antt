use Rattle.std.proofs.Common.{◌∙◌, ◌+◌, ap, map, refl, subst, sym}
use Rattle.std.specs.Prelude.{slice_get}
use Rattle.std.proofs.lemmas.Result.{IfOk-weaker}
use Rattle.inlined_arguments.specs.Views.{seen_edit}
use Rattle.source_lint.specs.Readings.{scope, skipped_reading}
use Rattle.source_lint.proofs.Calling.{arguments-here}
use Rattle.file_inlines.specs.CallInlines.{Inlines, InlinesUnless}
use Rattle.file_inlines.specs.declared.calls.CallInlining.TheVariants.{Unread}
use Rattle.file_inlines.proofs.Calling.{inlines-here}
use Rattle.file_inlines.proofs.UnreadCalls.{unread-call}
use Rattle.file_inlines.proofs.calls.inline_call.Goals as goal

pub returns-then-is_unread : goal.returns-then-is_unread
returns-then-is_unread c =
    let u = sym c.is_unread.ensures ∙ c.if-is_unread.true in
    let made = unread-call (scope c.args.file) c.args.file.is_from_2021 c.args.allows_mixed
    c.args.part.now c.args.call.now c.args.reading c.requires.reads.0 u c.requires.reads.1 in
    subst (λ v. Inlines (scope c.args.file) c.args.file.is_from_2021 c.args.allows_mixed
    c.args.part.now c.args.call.now v (map seen_edit c.unchanged_call.result.edits.items))
    (sym c.unchanged_call.ensures.reason)
    (subst (λ v. Inlines (scope c.args.file) c.args.file.is_from_2021 c.args.allows_mixed
    c.args.part.now c.args.call.now (Unread c.args.reading) (map seen_edit v))
    (sym c.unchanged_call.ensures.none) made)

pub returns-in-Some : goal.returns-in-Some
returns-in-Some c =
    subst (λ o. InlinesUnless o c.args.file.is_from_2021 c.args.allows_mixed c.args.file.text.now
    c.args.part.now c.args.call.now c.unchanged_call-in-Some.result.inlining
    (map seen_edit c.unchanged_call-in-Some.result.edits.items))
    (sym c.in-Some.is ∙ (c.other_macro.ensures
    ∙ ap (λ v. skipped_reading (scope c.args.file) c.args.call.now.rule
    (slice_get v c.args.call.now.name)) c.tokens.ensures)) (
      c.unchanged_call-in-Some.ensures.reason,
      ap (map seen_edit) c.unchanged_call-in-Some.ensures.none,
    )

pub returns-in_default-2 : goal.returns-in_default-2
returns-in_default-2 c =
    absurd ((rw (c.in_default-2.is, c.source.ensures) at c.in_ok-arguments.ensures.none) refl
    (c.args.call.now.name + 2) c.requires.pair)

pub inline_one-requires-clause-split : goal.inline_one-requires-clause-split
inline_one-requires-clause-split c =
    let a = rw (c.in-Some-2.is, c.source.ensures) at c.in_ok-arguments.ensures.some in
    arguments-here c.args.part.now c.args.call.now c.in-Some-2.arguments.items
    c.as_slice-list.result.now a.0 c.as_slice-list.ensures.value c.requires.pair a.1 a.2

pub returns-in-Ok : goal.returns-in-Ok
returns-in-Ok c =
    let a = rw (c.in-Some-2.is, c.source.ensures) at c.in_ok-arguments.ensures.some in
    IfOk-weaker c.inline_one.result _ _ (λ _.
    inlines-here c.args.file.is_from_2021 c.args.allows_mixed c.args.file.text.now _
    c.args.part.now c.args.call.now c.as_slice-list.result.now _ _ _
    (sym c.in_default.is ∙ (c.other_macro.ensures
    ∙ ap (λ v. skipped_reading (scope c.args.file) c.args.call.now.rule
    (slice_get v c.args.call.now.name)) c.tokens.ensures))
    (arguments-here c.args.part.now c.args.call.now c.in-Some-2.arguments.items
    c.as_slice-list.result.now a.0 c.as_slice-list.ensures.value c.requires.pair a.1 a.2)
    c.in-Ok.ensures.value) c.inline_one.ensures

pub returns : goal.returns
returns c =
    let a = rw (c.in-Some-2.is, c.source.ensures) at c.in_ok-arguments.ensures.some in
    inlines-here c.args.file.is_from_2021 c.args.allows_mixed c.args.file.text.now _
    c.args.part.now c.args.call.now c.as_slice-list.result.now _ _ _
    (sym c.in_default.is ∙ (c.other_macro.ensures
    ∙ ap (λ v. skipped_reading (scope c.args.file) c.args.call.now.rule
    (slice_get v c.args.call.now.name)) c.tokens.ensures))
    (arguments-here c.args.part.now c.args.call.now c.in-Some-2.arguments.items
    c.as_slice-list.result.now a.0 c.as_slice-list.ensures.value c.requires.pair a.1 a.2)
    c.in-Err.ensures.value (
      c.unchanged_call-in-Err.ensures.reason,
      ap (map seen_edit) c.unchanged_call-in-Err.ensures.none,
    )
