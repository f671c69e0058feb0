use Rattle.std.proofs.Common.{◌≡◌, ◌++◌, List, drop, map}
use Rattle.rustc_parse_format.specs.Views.{seen_mode}
use Rattle.rustc_parse_format.specs.FaultViews.{seen_fault}
use Rattle.fault_fixes.specs.Edits.{Edit}
use Rattle.fault_fixes.specs.Fixing.{fault_edits}
use Rattle.fault_fixes.specs.SeenEdits.{with_edits}
use Rattle.fault_fixes.proofs.fixes.make_each.Given as goal

-- With the edits of the faults that are left, and any others, the text becomes what it does with
-- those of all.
abbrev pub invariant-loop-fault : goal.invariant-loop-fault
invariant-loop-fault l = (es : List Edit) → with_edits l.progress
    (fault_edits (seen_mode l.mode) (map seen_fault (drop l.fault-index l.faults)) ++ es)
    ≡ with_edits l.fn.progress (fault_edits (seen_mode l.mode) (map seen_fault l.faults) ++ es)
