use Rattle.std.proofs.Common.{arith, sym}
use Rattle.rustc_parse_format.proofs.Readers.Errors.{fault_at}
use Rattle.rustc_parse_format.proofs.faults.Faults.get.Goals as goal

pub returns : goal.returns
returns c =
    rw (sym c.self.view_is) (fault_at _ _ _ _ _ c.get.result c.self.invariant
    (omega (arith, c.if-index-eq0.false, c.if-index-eq1.false))
    (rw c.deref.ensures.value at c.get.ensures.lookup))
