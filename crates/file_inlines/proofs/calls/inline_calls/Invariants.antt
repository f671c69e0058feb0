use Rattle.std.proofs.Common.{◌+◌, List, length, map}
use Rattle.std.specs.Prelude.{Contains}
use Rattle.rust_trees.specs.Forests.{IsPair}
use Rattle.format_calls.specs.declared.listing.Call.{Call}
use Rattle.source_lint.specs.Readings.{Reads, scope}
use Rattle.source_lint.specs.CallLists.{Gives}
use Rattle.source_report.specs.declared.report.Finding.{Finding}
use Rattle.source_lint.proofs.Joining.{Giving}
use Rattle.inlined_arguments.specs.Views.{seen_edit}
use Rattle.file_inlines.specs.CallInlines.{InlinesOn}
use Rattle.file_inlines.specs.Terms.{seen_terms}
use Rattle.file_inlines.proofs.calls.inline_calls.Given as goal

abbrev pub invariant-loop-call : goal.invariant-loop-call
invariant-loop-call l = record {
  inlines : Giving (InlinesOn (seen_terms l.terms) (scope l.file) l.file.is_from_2021 l.part)
      l.calls l.rest l.initial.results.inlinings.items l.results.inlinings.items
      (map seen_edit l.initial.results.edits.items) (map seen_edit l.results.edits.items);
  read : (xs : List Finding) × Gives (Reads (scope l.file) l.file.is_from_2021 l.part) l.rest
      l.rest_readings xs;
  are_calls : (c : Call) → Contains l.rest c → IsPair l.part (c.name + 2) c.close;
}

abbrev pub decreases-loop-call : goal.decreases-loop-call
decreases-loop-call l = length l.rest
