use Rattle.std.proofs.Common.{◌-◌, ◌++◌, ◌≡◌, ℕ, List}
use Rattle.std.specs.List.{All}
use Rattle.asm_lint.specs.Attributes.{ReadsItems}
use Rattle.asm_lint.specs.Spans.{HasSpans}
use Rattle.source_report.specs.declared.report.Finding.{Finding}
use Rattle.asm_lint.proofs.attributes.read_attributes.Given as goal

-- The findings so far, and then those from this token on, are all.
abbrev pub invariant-loop-index : goal.invariant-loop-index
invariant-loop-index l = record {
  read : (js : List ℕ) × (found : List Finding)
      × (l.findings.items ≡ l.initial.findings.items ++ found)
      × ((ks : List ℕ) (others : List Finding) → ReadsItems l.source l.index ks others
      → ReadsItems l.source 0 (js ++ ks) (found ++ others));
  spans : All (HasSpans l.text) l.initial.findings.items
      → All (HasSpans l.text) l.findings.items;
}

abbrev pub decreases-loop-index : goal.decreases-loop-index
decreases-loop-index l = l.count - l.index
