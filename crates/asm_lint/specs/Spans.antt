-- The ranges of findings.
use Rattle.std.specs.Prelude.{◌≤◌, ℕ, List, IfSome}
use Rattle.std.specs.List.{All}
use Rattle.std.specs.Str.{IsCharBoundary}
use Rattle.std.specs.declared.ops.Range.{Range}
use Rattle.source_report.specs.declared.report.Finding.{Finding}

-- A byte range of a text whose ends are at characters.
pub record IsSpan (bs : List ℕ) (r : Range ℕ) : Type 0 where
  pub starts : IsCharBoundary bs r.start
  pub ends : IsCharBoundary bs r.end
  pub in_order : r.start ≤ r.end

-- All ranges of a finding are byte ranges of a text whose ends are at characters.
pub record HasSpans (bs : List ℕ) (x : Finding) : Type 0 where
  pub span : IsSpan bs x.span
  pub labels : All (λ l. IsSpan bs l.range) x.labels.items
  pub notes : All (λ n. All (λ r. IsSpan bs r) n.ranges.items) x.notes.items
  pub help : IfSome x.help (λ h. All (λ e. IsSpan bs e.range) h.edits.items)
