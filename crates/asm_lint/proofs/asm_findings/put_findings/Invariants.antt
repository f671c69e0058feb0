use Rattle.std.proofs.Common.{map, take}
use Rattle.std.specs.List.{All}
use Rattle.asm_faults.specs.Views.{seen_fault, seen_operand}
use Rattle.asm_lint.specs.Spans.{HasSpans}
use Rattle.asm_lint.proofs.AsmTelling.{Telling}
use Rattle.asm_lint.proofs.asm_findings.put_findings.Given as goal

abbrev pub invariant-loop-fault : goal.invariant-loop-fault
invariant-loop-fault l = record {
  outcome : Telling (map seen_operand l.call.operands.items) l.is_whole
      (map seen_fault (take l.fault-index l.fault-items)) l.initial.findings.items
      l.findings.items;
  spans : All (HasSpans l.site.text.now) l.initial.findings.items
      → All (HasSpans l.site.text.now) l.findings.items;
}
