use Rattle.std.proofs.Common.{◌≡◌, ◌++◌, drop, string_bytes}
use Rattle.unified_diff.specs.Diffs.{rows_text}
use Rattle.unified_diff.proofs.hunks.put_rows.Given as goal

abbrev pub invariant-loop-row : goal.invariant-loop-row
invariant-loop-row l = string_bytes l.out ++ rows_text (drop l.row-index l.rows)
    ≡ string_bytes l.fn.out ++ rows_text l.rows
