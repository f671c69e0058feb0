use Rattle.std.proofs.Common.{◌-◌, arith}
use Rattle.rustc_parse_format.specs.LiteralUnits.{is_plain}
use Rattle.rustc_parse_format.proofs.Bytes.BlockFronts.{block-shared}
use Rattle.rustc_parse_format.proofs.Bytes.ByteFronts.{shared-part}
use Rattle.rustc_parse_format.proofs.blocks.plain_front.Goals as goal

pub returns-then-count-lt16 : goal.returns-then-count-lt16
returns-then-count-lt16 c =
    let count = c.plain_lanes-count.ensures in
    block-shared is_plain c.args.bytes.now c.args.others.now c.loop-at.at c.plain_lanes-count.result
    (omega (arith, c.loop-at-test.true, c.min-limit.ensures))
    (omega (arith, c.loop-at-test.true, c.min-limit.ensures)) count.within
    c.loop-at.invariant.front count.same count.pass

pub loop-at-preserved : goal.loop-at-preserved
loop-at-preserved c =
    let count = c.plain_lanes-count.ensures in
    record {
      within = omega (arith, c.loop-at-test.true);
      front = block-shared is_plain c.args.bytes.now c.args.others.now c.loop-at.at 16
          (omega (arith, c.loop-at-test.true, c.min-limit.ensures))
          (omega (arith, c.loop-at-test.true, c.min-limit.ensures)) (omega arith)
          c.loop-at.invariant.front (λ k l. count.same k (omega (arith, c.if-count-lt16.false)))
          (λ k l. count.pass k (omega (arith, c.if-count-lt16.false)));
    }

pub returns : goal.returns
returns c =
    let count = c.plain_lanes.ensures in
    let last = c.min-limit.result - 16 in
    block-shared is_plain c.args.bytes.now c.args.others.now last c.plain_lanes.result
    (omega (arith, c.min-limit.ensures)) (omega (arith, c.min-limit.ensures)) count.within
    (shared-part is_plain c.args.bytes.now c.args.others.now last c.loop-at.at
    (omega (arith, c.loop-at-test.false)) c.loop-at.invariant.front)
    count.same count.pass
