use Rattle.std.proofs.Common.{◌≡◌, ◌++◌, drop, map}
use Rattle.drawn_faults.specs.Diagnostics.{placed_edit}
use Rattle.drawn_edits.specs.EditedLines.{seen_edit}
use Rattle.drawn_lines.specs.Places.{seen_picture}
use Rattle.drawn_faults.specs.SeenDiagnostics.{seen_source_edit}
use Rattle.drawn_faults.proofs.helps.placed_edits.Given as goal

-- The elements made so far, and then those that are left, are all.
abbrev pub invariant-loop-edit : goal.invariant-loop-edit
invariant-loop-edit l = map seen_edit l.list.items
    ++ map (placed_edit (seen_picture l.picture)) (map seen_source_edit (drop l.edit-index l.edits))
    ≡ map (placed_edit (seen_picture l.picture)) (map seen_source_edit l.edits)
