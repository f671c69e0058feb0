use Rattle.std.proofs.Common.{◌<◌, ℕ}
use Rattle.macro_owners.proofs.Owning.{IsClear}
use Rattle.macro_owners.proofs.own.is_in_sight.Given as goal

abbrev pub invariant-loop-index : goal.invariant-loop-index
invariant-loop-index l = (i : ℕ) → i < l.index → IsClear l.source l.name l.end i
