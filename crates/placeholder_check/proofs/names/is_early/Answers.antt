use Rattle.std.proofs.Common.{chars, sym, arith}
use Rattle.placeholder_check.proofs.Naming.{any-found, past}
use Rattle.placeholder_check.proofs.names.is_early.Goals as goal

pub returns-then-is_same : goal.returns-then-is_same
returns-then-is_same c = sym (any-found (chars c.args.name.now) c.args.names.now c.loop-i.i 16 past
    (omega arith) (omega arith) (sym c.if-is_same.ensures))
