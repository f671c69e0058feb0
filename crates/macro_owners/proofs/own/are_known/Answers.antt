use Rattle.std.proofs.Common.{map, refl}
use Rattle.rust_trees.specs.Leaves.{leaf}
use Rattle.macro_owners.proofs.Owning.{IsKnownWithin, each-all, each-more, each-none}
use Rattle.macro_owners.proofs.own.are_known.Goals as goal

pub loop-call-init : goal.loop-call-init
loop-call-init c =
    each-none (IsKnownWithin (map leaf c.args.tokens.now) c.args.from c.args.to) c.args.calls.now

pub loop-call-preserved : goal.loop-call-preserved
loop-call-preserved c =
    each-more (IsKnownWithin (map leaf c.args.tokens.now) c.args.from c.args.to) c.args.calls.now
    c.loop-call.call-index _ c.loop-call-test.true (c.if-not-is_known.ensures refl)
    c.loop-call.invariant

pub returns : goal.returns
returns c = λ t x m.
    each-all (IsKnownWithin (map leaf c.args.tokens.now) c.args.from c.args.to) c.args.calls.now
    c.loop-call.call-index x c.loop-call-test.false c.loop-call.invariant m
