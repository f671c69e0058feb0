use Rattle.std.proofs.Common.{◌+◌, ◌∙◌, ◌∷◌, ap, arith, drop, length, map, subst, sym}
use Rattle.std.proofs.lemmas.List.{drop_more}
use Rattle.inlined_arguments.specs.Edits.{AreApart}
use Rattle.inlined_arguments.specs.Views.{seen_edit}
use Rattle.inlined_arguments.proofs.Apart.{apart-within}
use Rattle.inlined_arguments.proofs.edited.edited_bytes.Goals as goal

pub returns-then-bytes-edit-clause-none : goal.returns-then-bytes-edit-clause-none
returns-then-bytes-edit-clause-none c = λ _ h.
    let edits = c.args.edits.now in
    let i = c.loop-edit.edit-index in
    let item = c.edit-item.result in
    let all = c.loop-edit.invariant.apart.1 h in
    let rest = subst (λ v. AreApart c.loop-edit.at (map seen_edit v) (length c.args.bytes.now))
    (drop_more edits i item c.loop-edit-test.true
    ∙ ap (λ v. v ∷ drop (i + 1) edits) (sym c.edit-item.is)) all in
    let within = apart-within item.span.end (map seen_edit (drop (i + 1) edits)) _ rest.2 in
    absurd (omega (arith, within, c.if-bytes-edit.true))
