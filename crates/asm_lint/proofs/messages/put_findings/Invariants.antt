use Rattle.std.proofs.Common.{chars, drop, map}
use Rattle.std.specs.List.{All}
use Rattle.message_faults.specs.Views.{seen_fault}
use Rattle.asm_lint.specs.Attributes.{TellMessages}
use Rattle.asm_lint.specs.Spans.{HasSpans}
use Rattle.asm_lint.proofs.Gathering.{Gathered}
use Rattle.asm_lint.proofs.messages.put_findings.Given as goal

abbrev pub invariant-loop-fault : goal.invariant-loop-fault
invariant-loop-fault l = record {
  outcome : Gathered (λ fs xs. TellMessages (chars l.name) fs xs) (map seen_fault l.faults)
      (map seen_fault (drop l.fault-index l.faults)) l.initial.findings.items l.findings.items;
  spans : All (HasSpans l.site.text.now) l.initial.findings.items
      → All (HasSpans l.site.text.now) l.findings.items;
}
