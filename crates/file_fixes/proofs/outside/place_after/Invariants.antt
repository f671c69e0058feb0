use Rattle.std.proofs.Common.{◌≡◌, ◌≤◌, ◌-◌, drop, length}
use Rattle.file_fixes.specs.Walk.{place_after}
use Rattle.file_fixes.proofs.outside.place_after.Given as goal

-- From here on the place is the same as from the start.
abbrev pub invariant-loop-part : goal.invariant-loop-part
invariant-loop-part l = record {
  same : place_after l.at l.place.end l.place.width (drop l.place.index l.parts)
      ≡ place_after l.at l.fn.from.end l.fn.from.width (drop l.fn.from.index l.parts);
  bounded : l.place.width ≤ l.place.end;
}

abbrev pub decreases-loop-part : goal.decreases-loop-part
decreases-loop-part l = length l.parts - l.place.index
