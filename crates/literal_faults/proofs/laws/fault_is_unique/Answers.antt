use Rattle.literal_faults.proofs.OneFault.{one-fault}
use Rattle.literal_faults.proofs.laws.fault_is_unique.Goals as goal

pub returns : goal.returns
returns c = one-fault
