use Rattle.std.proofs.Common.{◌-◌, length, arith}
use Rattle.rustc_parse_format.specs.Bytes.{is_no_stop}
use Rattle.rustc_parse_format.proofs.Bytes.BlockFronts.{block-pass}
use Rattle.rustc_parse_format.proofs.Bytes.ByteFronts.{pass-part}
use Rattle.rustc_parse_format.proofs.blocks.front_by_blocks.Goals as goal

pub returns-then-run-lt16-clause-pass : goal.returns-then-run-lt16-clause-pass
returns-then-run-lt16-clause-pass c =
    let run = c.front_lanes-run.ensures in
    block-pass (is_no_stop c.args.stops) c.args.bytes.now c.loop-at.at
    c.front_lanes-run.result
    (omega (arith, c.loop-at-test.true)) run.within c.loop-at.invariant.pass run.pass

pub loop-at-preserved : goal.loop-at-preserved
loop-at-preserved c =
    let run = c.front_lanes-run.ensures in
    let all = run.within in
    record {
      within = omega (arith, c.loop-at-test.true);
      pass = block-pass (is_no_stop c.args.stops) c.args.bytes.now c.loop-at.at 16
          (omega (arith, c.loop-at-test.true)) (omega arith) c.loop-at.invariant.pass
          (λ k l. run.pass k (omega (arith, c.if-run-lt16.false)));
    }

pub returns-clause-pass : goal.returns-clause-pass
returns-clause-pass c =
    let run = c.front_lanes.ensures in
    let test = is_no_stop c.args.stops in
    block-pass test c.args.bytes.now (length c.args.bytes.now - 16) c.front_lanes.result
    (omega arith) run.within
    (pass-part test c.args.bytes.now _ c.loop-at.at
    (omega (arith, c.loop-at-test.false)) c.loop-at.invariant.pass) run.pass
