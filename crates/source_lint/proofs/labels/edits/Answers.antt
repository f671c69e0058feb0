use Rattle.std.proofs.Common.{◌∷◌, ◌++◌, [], List, map, subst, sym}
use Rattle.std.proofs.lemmas.List.{map-append}
use Rattle.call_faults.specs.Views.{seen_edit}
use Rattle.call_faults.specs.Spots.{Edit}
use Rattle.source_report.specs.declared.report.Edit.{Edit as FileEdit}
use Rattle.asm_lint.specs.Spans.{IsSpan}
use Rattle.source_lint.specs.Findings.{TellEdits}
use Rattle.asm_lint.proofs.Elements.{all-more}
use Rattle.source_lint.proofs.Telling.{edits-more}
use Rattle.source_lint.proofs.labels.edits.Goals as goal

pub loop-edit-preserved : goal.loop-edit-preserved
loop-edit-preserved c =
    let old = c.loop-edit.list.items in
    let new : FileEdit = record { range = c.spot_range-range.result; text = c.in_ok-text.text } in
    let seen = map-append seen_edit c.loop-edit.yielded (c.in-Some.edit ∷ []) in
    let before = map seen_edit c.loop-edit.yielded in
    record {
      outcome = subst (λ (es : List Edit). TellEdits es c.push.new.self.items) (sym seen)
          (subst (λ (xs : List FileEdit). TellEdits (before ++ seen_edit c.in-Some.edit ∷ []) xs)
          (sym c.in_ok-push.ensures.items)
          (edits-more before (seen_edit c.in-Some.edit) old new c.loop-edit.invariant.outcome
          c.in_ok-text.ensures));
      spans = all-more (λ x. IsSpan c.args.site.text.now x.range) old _ _
          c.in_ok-push.ensures.items c.loop-edit.invariant.spans c.spot_range-range.ensures;
    }
