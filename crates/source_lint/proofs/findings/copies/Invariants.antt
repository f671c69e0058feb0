use Rattle.std.proofs.Common.{◌≡◌, drop, map}
use Rattle.call_faults.specs.Views.{seen_edit}
use Rattle.source_lint.specs.Findings.{copies}
use Rattle.source_lint.proofs.findings.copies.Given as goal

-- The answer for what is left is the answer for all.
abbrev pub invariant-loop-edit : goal.invariant-loop-edit
invariant-loop-edit l = copies (map seen_edit (drop l.edit-index l.edits))
    ≡ copies (map seen_edit l.edits)
