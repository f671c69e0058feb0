use Rattle.std.proofs.Common.{◌≡◌, map, drop}
use Rattle.format_calls.specs.Rows.{entry, rule_of}
use Rattle.format_calls.proofs.table.rule_of.Given as goal

abbrev pub invariant-loop-row : goal.invariant-loop-row
invariant-loop-row l = rule_of (map entry l.rows) l.word
    ≡ rule_of (map entry (drop l.row-index l.rows)) l.word
