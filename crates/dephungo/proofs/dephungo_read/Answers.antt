use Rattle.std.proofs.Common.{arith}
use Rattle.std.proofs.lemmas.Grind.{common_steps}
use Rattle.dephungo.proofs.dephungo_read.Goals as goal

-- No error code is below 2.
pub returns-in-Err-clause-counted : goal.returns-in-Err-clause-counted
returns-in-Err-clause-counted c = λ small mode mode_is. absurd (grind (arith, common_steps))
