use Rattle.std.proofs.Common.{◌∙◌, ◌+◌, ◌++◌, drop, map, ap, sym}
use Rattle.std.proofs.lemmas.List.{at_drop_more}
use Rattle.std.specs.List.{cons_option}
use Rattle.rustc_parse_format.specs.Views.{seen_mode}
use Rattle.rustc_parse_format.specs.FaultViews.{seen_fault}
use Rattle.fault_fixes.specs.Edits.{offered_suggestion, suggested_edit}
use Rattle.fault_fixes.specs.Fixing.{fault_edits}
use Rattle.fault_fixes.specs.SeenEdits.{with_edits}
use Rattle.fault_fixes.proofs.FixLaws.{cons_option-more}
use Rattle.fault_fixes.proofs.fixes.make_each.Goals as goal

pub loop-fault-preserved : goal.loop-fault-preserved
loop-fault-preserved c = λ es.
    let l = c.loop-fault in
    let mode = seen_mode c.args.mode in
    let left = fault_edits mode (map seen_fault (drop (l.fault-index + 1) c.args.faults.now)) in
    c.in_ok-make.ensures (left ++ es)
    ∙ ap (λ g. with_edits l.progress (cons_option (suggested_edit (offered_suggestion mode g))
    (left ++ es)))
    c.in_ok-suggestion.ensures
    ∙ ap (with_edits l.progress) (sym (cons_option-more _ left es))
    ∙ sym (at_drop_more (λ fs. with_edits l.progress (fault_edits mode (map seen_fault fs) ++ es))
    c.args.faults.now l.fault-index _ c.loop-fault-test.true)
    ∙ l.invariant es
