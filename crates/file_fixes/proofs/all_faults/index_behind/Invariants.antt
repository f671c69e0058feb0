use Rattle.std.proofs.Common.{◌-◌, length}
use Rattle.file_fixes.proofs.all_faults.index_behind.Given as goal

abbrev pub decreases-loop-token : goal.decreases-loop-token
decreases-loop-token l = length l.tokens - l.index
