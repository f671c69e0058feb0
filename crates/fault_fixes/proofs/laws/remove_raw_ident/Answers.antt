use Rattle.fault_fixes.proofs.RawLaw.{raw-loses}
use Rattle.fault_fixes.proofs.laws.remove_raw_ident.Goals as goal

pub returns : goal.returns
returns c = λ mode n t h k. raw-loses mode n t h k
