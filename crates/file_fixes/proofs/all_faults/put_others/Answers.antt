use Rattle.std.proofs.Common.{◌++◌, ◌∙◌, ap, append_assoc, map}
use Rattle.std.proofs.lemmas.List.Elements.{All-append}
use Rattle.fault_fixes.specs.SeenEdits.{seen_edit}
use Rattle.file_fixes.specs.AllFaults.{HasOneOf}
use Rattle.file_fixes.proofs.AllFaultLaws.{one-of}
use Rattle.file_fixes.proofs.all_faults.put_others.Goals as goal

pub loop-edit-preserved : goal.loop-edit-preserved
loop-edit-preserved c =
    let s = c.args.string.now in
    let w = c.loop-edit.invariant in
    let r = c.in_ok-put_other.ensures in (
      w.0 ++ r.0,
      r.1 ∙ (ap (λ v. v ++ r.0) w.1 ∙ append_assoc _ w.0 r.0),
      All-append (HasOneOf s.token.now s.start (map seen_edit c.args.edits.now)) w.0 r.0 w.2
          (one-of _ _ _ _ _ _ c.loop-edit-test.true r.2),
    )
