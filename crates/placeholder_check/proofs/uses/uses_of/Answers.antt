use Rattle.std.proofs.Common.{◌<◌, arith}
use Rattle.placeholder_check.proofs.Noting.{Holds-next}
use Rattle.placeholder_check.proofs.uses.uses_of.Goals as goal

pub loop-piece-preserved : goal.loop-piece-preserved
loop-piece-preserved c = record {
  held = Holds-next c.args.pieces.now c.loop-piece.piece-index c.piece-item.result _ _
      c.loop-piece-test.true c.piece-item.is
      c.loop-piece.invariant.held c.in_ok-add_piece.ensures;
  none = λ e. absurd (let none : c.loop-piece.piece-index < 0 = rw e at c.loop-piece-test.true in
      omega arith);
}
