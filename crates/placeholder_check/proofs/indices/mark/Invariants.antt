use Rattle.std.proofs.Common.{◌≡◌, ℕ, false, get_or, length}
use Rattle.placeholder_check.proofs.indices.mark.Given as goal

-- No mark was added so far.
abbrev pub invariant-loop : goal.invariant-loop
invariant-loop l = record {
  same : (n : ℕ) → get_or l.marks.items n false ≡ get_or l.fn.marks.items n false;
  counted : length l.marks.items ≡ l.counter;
}
