use Rattle.std.proofs.Common.{◌≡◌, ◌≤◌, [], length, reverse, take}
use Rattle.std.specs.Prelude.{slice_range}
use Rattle.call_forms.specs.Paths.{has_known}
use Rattle.call_forms.proofs.paths.has_known.Given as goal

-- The answer for what is left, with the word so far, is the answer for all.
abbrev pub invariant-loop-start : goal.invariant-loop-start
invariant-loop-start l = record {
  rest : has_known (slice_range l.front l.start l.end) (reverse (take l.start l.front))
      ≡ has_known [] (reverse l.front);
  in_order : l.start ≤ l.end;
  fits : l.end ≤ length l.front;
}

abbrev pub decreases-loop-start : goal.decreases-loop-start
decreases-loop-start l = l.start
