use Rattle.std.proofs.Common.{◌+◌, length}
use Rattle.std.specs.Prelude.{Contains}
use Rattle.std.specs.List.{All}
use Rattle.rust_trees.specs.Forests.{IsPair}
use Rattle.format_calls.specs.declared.listing.Call.{Call}
use Rattle.asm_lint.specs.Spans.{HasSpans}
use Rattle.source_lint.specs.Readings.{Reads, scope}
use Rattle.source_lint.proofs.Joining.{Giving}
use Rattle.source_lint.proofs.lint.read_calls.Given as goal

abbrev pub invariant-loop-call : goal.invariant-loop-call
invariant-loop-call l = record {
  read : Giving (Reads (scope l.file) l.file.is_from_2021 l.part) l.calls l.rest
      l.initial.readings.calls.items l.readings.calls.items l.initial.readings.findings.items
      l.readings.findings.items;
  are_calls : (c : Call) → Contains l.rest c → IsPair l.part (c.name + 2) c.close;
  spans : All (HasSpans l.file.text.now) l.initial.readings.findings.items
      → All (HasSpans l.file.text.now) l.readings.findings.items;
}

abbrev pub decreases-loop-call : goal.decreases-loop-call
decreases-loop-call l = length l.rest
