use Rattle.std.proofs.Common.{◌≡◌, ◌++◌, drop}
use Rattle.unified_diff.specs.Rows.{in_new, in_old, joined_text, new_text, old_text}
use Rattle.unified_diff.proofs.rows.push_lines.Given as goal

-- With the lines that are left the texts become what they do with all.
abbrev pub invariant-loop-line : goal.invariant-loop-line
invariant-loop-line l = record {
  old : old_text l.rows.items ++ in_old l.side (joined_text (drop l.line-index l.lines))
      ≡ old_text l.fn.rows.items ++ in_old l.side (joined_text l.lines);
  new : new_text l.rows.items ++ in_new l.side (joined_text (drop l.line-index l.lines))
      ≡ new_text l.fn.rows.items ++ in_new l.side (joined_text l.lines);
}
