use Rattle.std.proofs.Common.{◌≡◌, [], None, map}
use Rattle.std.specs.Prelude.{IfSome, option_map}
use Rattle.std.specs.List.{All, filter_map}
use Rattle.diagnostic.specs.Parts.{seen_note}
use Rattle.asm_lint.specs.Findings.{found_help, found_note, help_among, said_note}
use Rattle.asm_lint.specs.Spans.{IsSpan}
use Rattle.asm_lint.proofs.placing.notes.Given as goal

abbrev pub invariant-loop-note : goal.invariant-loop-note
invariant-loop-note l = record {
  notes : map found_note l.list.items ≡ filter_map said_note (map seen_note l.yielded);
  help : option_map found_help l.help ≡ help_among None (map seen_note l.yielded);
  spans : All (λ x. All (λ r. IsSpan l.site.text.now r) x.ranges.items) l.list.items;
  no_edits : IfSome l.help (λ h. h.edits.items ≡ []);
}
