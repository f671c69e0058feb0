use Rattle.std.proofs.Common.{◌≡◌, drop, map}
use Rattle.drawn_labels.specs.Marks.{is_lowering}
use Rattle.drawn_labels.specs.Rows.{seen_mark}
use Rattle.drawn_labels.proofs.hanging.is_lowering.Given as goal

-- The answer for the rest is the answer for all.
abbrev pub invariant-loop-other : goal.invariant-loop-other
invariant-loop-other l =
    is_lowering l.least_depth (seen_mark l.mark) (map seen_mark (drop l.other-index l.others))
    ≡ is_lowering l.least_depth (seen_mark l.mark) (map seen_mark l.others)
