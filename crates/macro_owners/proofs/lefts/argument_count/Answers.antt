use Rattle.std.proofs.Common.{arith, map}
use Rattle.rust_trees.specs.Leaves.{leaf}
use Rattle.macro_owners.proofs.LeftSides.{arguments-more}
use Rattle.macro_owners.proofs.lefts.argument_count.Goals as goal

pub loop-index-preserved : goal.loop-index-preserved
loop-index-preserved c =
    let v = c.loop-index.invariant in
    record {
      place = let p = v.place in omega (arith, p);
      arguments = arguments-more (map leaf c.args.tokens.now) c.args.from c.loop-index.count
          c.loop-index.index v.place v.arguments c.if-is_argument.ensures.value;
    }
