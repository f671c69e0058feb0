use Rattle.std.proofs.Common.{◌≡◌, drop, string_bytes}
use Rattle.std.specs.List.{list_all}
use Rattle.source_report.specs.Suggestions.{is_movable, is_movable_help}
use Rattle.source_report.proofs.suggestions.is_movable_help.Given as goal

-- The edits that are left decide.
abbrev pub invariant-loop-edit : goal.invariant-loop-edit
invariant-loop-edit l =
    list_all (λ e. is_movable (string_bytes e.text)) (drop l.edit-index l.edit-items)
    ≡ is_movable_help l.fn.help
