use Rattle.std.proofs.Common.{arith}
use Rattle.macro_owners.proofs.Owning.{ends-more}
use Rattle.macro_owners.proofs.own.scope_end.Goals as goal

pub loop-opening-preserved : goal.loop-opening-preserved
loop-opening-preserved c =
    ends-more c.args.source.now c.args.index c.loop-opening.opening c.loop-opening.end
    c.inner_end-end.result c.inner_end-end.ensures.within c.inner_end-end.ensures.inner
    c.loop-opening.invariant

pub returns : goal.returns
returns c = λ a b p l m.
    let h = c.loop-opening-test.false in c.loop-opening.invariant a b p (omega (arith, h, l)) m
