-- The report on a file.
use Rattle.std.specs.Prelude.{◌≡◌, ◌++◌, ◌⊎◌, ℕ, Bool, List, [], codes}
use Rattle.std.specs.Str.Iter.{HasSubslice}
use Rattle.rust_trees.specs.Balances.{BreaksAt}
use Rattle.rust_trees.specs.Leaves.{Leaf}
use Rattle.format_calls.specs.Rows.{Entry}
use Rattle.source_report.specs.declared.report.CallReading.{CallReading}
use Rattle.source_report.specs.declared.report.Finding.{Finding}
use Rattle.source_report.specs.declared.report.Report.{Report}
use Rattle.asm_lint.specs.Attributes.{ReadsItems}
use Rattle.source_lint.specs.CallLists.{OfCalls}
use Rattle.source_lint.specs.Macros.{Own, macro_names}
use Rattle.source_lint.specs.Files.{AreLeaves}
use Rattle.source_lint.specs.Readings.{Reads, Scope}

-- These are the readings of the calls among these tokens, and the findings in them.
abbrev pub ReadsCalls : List Entry → Scope → Bool → List Leaf → List CallReading → List Finding
    → Type 0
ReadsCalls es s is_new xs rs fs = OfCalls (Reads s is_new) es xs rs fs

-- These are the findings in the texts of attributes of a file, in bytes, with these tokens. There
-- are none where the name of the attribute does not stand in the file.
abbrev pub ReadsAttributes : List ℕ → List Leaf → List Finding → Type 0
ReadsAttributes bs xs fs = (HasSubslice bs (codes "on_unimplemented")
    × ((ks : List ℕ) × ReadsItems xs 0 ks fs))
    ⊎ ((HasSubslice bs (codes "on_unimplemented") → ⊥) × (fs ≡ []))

-- The report on a file, in bytes: the readings of the calls among its tokens, the findings in them
-- and in attributes, and where the file breaks. No call of a macro that the file defines is read,
-- unless it is one of these.
pub record IsOwnReport (es : List Entry) (ms : List Own) (is_new : Bool) (bs : List ℕ)
    (r : Report) : Type 0 where
  pub leaves : List Leaf
  pub are_leaves : AreLeaves bs leaves
  pub of_calls : List Finding
  pub of_attributes : List Finding
  pub findings : r.findings.items ≡ of_calls ++ of_attributes
  pub reads : ReadsCalls es (record { text = bs; own = ms; defined = macro_names leaves }) is_new
      leaves r.calls.items of_calls
  pub reads_attributes : ReadsAttributes bs leaves of_attributes
  pub breaks : BreaksAt leaves r.first_break

-- The same where no call of a macro that the file defines is read.
abbrev pub IsReport : List Entry → Bool → List ℕ → Report → Type 0
IsReport es is_new bs r = IsOwnReport es [] is_new bs r
