use Rattle.std.proofs.Common.{◌≡◌, drop, map}
use Rattle.std.specs.List.{list_all}
use Rattle.fault_fixes.specs.SeenEdits.{seen_edit}
use Rattle.file_fixes.specs.Mending.{is_in_call}
use Rattle.file_fixes.proofs.literals.are_in_call.Given as goal

-- The edits that are left decide.
abbrev pub invariant-loop-edit : goal.invariant-loop-edit
invariant-loop-edit l =
    list_all (is_in_call l.bytes l.literal l.tokens) (map seen_edit (drop l.edit-index l.edits))
    ≡ list_all (is_in_call l.bytes l.literal l.tokens) (map seen_edit l.edits)
