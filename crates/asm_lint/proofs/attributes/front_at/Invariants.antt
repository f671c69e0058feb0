use Rattle.std.proofs.Common.{◌≤◌, ◌-◌, ◌++◌, ℕ, List, length}
use Rattle.asm_lint.specs.Attributes.{Fronts}
use Rattle.asm_lint.proofs.attributes.front_at.Given as goal

-- Parts of the front stand up to here.
abbrev pub invariant-loop-next_end : goal.invariant-loop-next_end
invariant-loop-next_end l = record {
  forward : l.start ≤ l.end;
  within : l.end ≤ length l.source;
  follow : (js : List ℕ) (k : ℕ) → Fronts l.source l.end js k
      → Fronts l.source l.start (l.starts.items ++ js) k;
}

abbrev pub decreases-loop-next_end : goal.decreases-loop-next_end
decreases-loop-next_end l = length l.source - l.end
