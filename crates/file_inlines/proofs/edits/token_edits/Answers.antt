use Rattle.std.proofs.Common.{◌+◌, ◌∙◌, ap, map, subst, sym, take}
use Rattle.std.proofs.lemmas.List.{map-append}
use Rattle.inlined_arguments.specs.Views.{seen_edit}
use Rattle.file_inlines.specs.CallInlines.{AreInToken}
use Rattle.file_inlines.proofs.Literals.{in-token-more}
use Rattle.file_inlines.proofs.edits.token_edits.Goals as goal

pub loop-edit-preserved : goal.loop-edit-preserved
loop-edit-preserved c =
    subst (λ v. AreInToken c.args.crs.now
    (map seen_edit (take (c.loop-edit.edit-index + 1) c.args.edits.now)) v)
    (sym (ap (map seen_edit) c.in_ok-push.ensures.items ∙ map-append seen_edit _ _))
    (in-token-more c.args.crs.now seen_edit c.args.edits.now c.loop-edit.edit-index
    c.edit-item.result _ _ c.loop-edit-test.true c.edit-item.is c.loop-edit.invariant
    c.offset_in.ensures c.offset_in-in-loop-edit.ensures
    (c.in_ok-from_str.ensures.ok ∙ c.as_str.ensures.value))
