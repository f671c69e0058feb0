use Rattle.std.proofs.Common.{◌∙◌, map}
use Rattle.fault_fixes.specs.SeenEdits.{seen_edit}
use Rattle.source_report.specs.Suggestions.{edits_of}
use Rattle.file_fixes.proofs.AllFaultLaws.{copied}
use Rattle.file_fixes.proofs.all_faults.put_copy.Goals as goal

pub returns : goal.returns
returns c =
    let y = c.in_ok-fault_with.field-0 in
    let h = c.in_ok-fault_with.ensures in (
      y,
      c.in_ok-push.ensures.items,
      record {
        id = h.id;
        title = h.title ∙ c.as_str-title.ensures.value;
        edits = copied (edits_of y) (map seen_edit c.args.edits.now) (edits_of c.args.finding.now)
            c.requires h.edits;
      },
    )
