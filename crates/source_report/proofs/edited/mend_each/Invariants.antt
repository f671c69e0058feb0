use Rattle.std.proofs.Common.{◌≡◌, drop, map}
use Rattle.fault_fixes.specs.Edits.{edited_bytes}
use Rattle.source_report.specs.EditViews.{with_faults, with_ids}
use Rattle.source_report.specs.Suggestions.{all_edits, mended_faults}
use Rattle.source_report.proofs.edited.mend_each.Given as goal

-- With the faults that are left, the text and the ids become what they do with all.
abbrev pub invariant-loop-finding : goal.invariant-loop-finding
invariant-loop-finding l = record {
  text : with_faults l.edited_text (drop l.finding-index l.findings)
      ≡ edited_bytes 0 (all_edits (mended_faults 0 l.findings)) l.text;
  ids : with_ids l.edited_text (drop l.finding-index l.findings)
      ≡ map (λ f. f.id.now) (mended_faults 0 l.findings);
}
