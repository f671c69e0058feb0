use Rattle.std.proofs.Common.{map, take}
use Rattle.std.specs.List.{All}
use Rattle.call_faults.specs.Views.{seen_call, seen_fault}
use Rattle.asm_lint.specs.Spans.{HasSpans}
use Rattle.source_lint.proofs.Telling.{Telling}
use Rattle.source_lint.proofs.findings.put_findings.Given as goal

abbrev pub invariant-loop-fault : goal.invariant-loop-fault
invariant-loop-fault l = record {
  outcome : Telling (seen_call l.report) l.is_whole
      (map seen_fault (take l.fault-index l.fault-items)) l.initial.findings.items
      l.findings.items;
  spans : All (HasSpans l.site.text.now) l.initial.findings.items
      → All (HasSpans l.site.text.now) l.findings.items;
}
