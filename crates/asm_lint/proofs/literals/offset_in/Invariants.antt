use Rattle.std.proofs.Common.{◌≡◌, ◌<◌, ◌≤◌, ◌-◌, ℕ, suc, length}
use Rattle.std.specs.Prelude.{slice_index}
use Rattle.asm_lint.proofs.literals.offset_in.Given as goal

abbrev pub invariant-loop-low : goal.invariant-loop-low
invariant-loop-low l = record {
  in_order : l.low ≤ l.high;
  within : l.high ≤ length l.crs;
  last : (k : ℕ) → suc k ≡ l.low → slice_index l.crs k < l.offset;
  next : l.high < length l.crs → l.offset ≤ slice_index l.crs l.high;
}

abbrev pub decreases-loop-low : goal.decreases-loop-low
decreases-loop-low l = l.high - l.low
