use Rattle.std.proofs.Common.{◌≡◌, ◌&&◌, drop, map, not}
use Rattle.std.specs.List.{list_any}
use Rattle.drawn_labels.specs.Marks.{is_meeting, is_shadow}
use Rattle.drawn_labels.specs.Rows.{seen_mark}
use Rattle.drawn_labels.proofs.hanging.is_crossed.Given as goal

-- The answer for the rest is the answer for all.
abbrev pub invariant-loop-other : goal.invariant-loop-other
invariant-loop-other l =
    list_any (λ n. is_meeting 0 n (seen_mark l.mark) && not (is_shadow n (seen_mark l.mark)))
    (map seen_mark (drop l.other-index l.others))
    ≡ list_any (λ n. is_meeting 0 n (seen_mark l.mark) && not (is_shadow n (seen_mark l.mark)))
    (map seen_mark l.others)
