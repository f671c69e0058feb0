use Rattle.std.proofs.Common.{◌≡◌, ◌++◌, ◌<◌, ◌^◌, IfSome, None, drop, map, string_bytes}
use Rattle.drawn_faults.specs.Diagnostics.{marked_lines}
use Rattle.drawn_lines.specs.Frames.{seen_frame}
use Rattle.drawn_labels.specs.Rows.{seen_mark}
use Rattle.drawn_faults.proofs.marked.put_marked_lines.Given as goal

-- The text added, and then the rest of it, is all.
abbrev pub invariant-loop-index : goal.invariant-loop-index
invariant-loop-index l = record {
  same : string_bytes l.out
      ++ marked_lines (seen_frame l.frame) l.previous_line (map seen_mark (drop l.index l.marks))
      ≡ string_bytes l.fn.out ++ marked_lines (seen_frame l.frame) None (map seen_mark l.marks);
  small : IfSome l.previous_line (λ n. n < 2 ^ 59);
}
