use Rattle.std.proofs.Common.{◌≡◌, ◌+◌, ◌*◌, ◌≤◌, ◌++◌, replicate}
use Rattle.rustc_parse_format.specs.Characters.{Text}
use Rattle.drawn_lines.specs.Windows.{left_out_columns}
use Rattle.drawn_lines.proofs.window.left_out_of_run.Given as goal

-- The columns left out so far and those that are still to be left out are all.
abbrev pub invariant-loop-rest : goal.invariant-loop-rest
invariant-loop-rest l = record {
  whole : (t : Text) → l.columns + left_out_columns l.countdown
      (replicate l.rest l.fn.character ++ t)
      ≡ left_out_columns l.fn.count (replicate l.fn.times l.fn.character ++ t);
  few : l.columns + 4 * l.rest ≤ 16;
}

abbrev pub decreases-loop-rest : goal.decreases-loop-rest
decreases-loop-rest l = l.rest
