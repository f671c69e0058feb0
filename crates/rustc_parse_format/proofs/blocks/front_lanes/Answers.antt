use Rattle.std.proofs.Common.{arith}
use Rattle.rustc_parse_format.proofs.Bytes.StopLanes.{lane-no_stop}
use Rattle.rustc_parse_format.proofs.blocks.front_lanes.Goals as goal

pub returns-clause-pass : goal.returns-clause-pass
returns-clause-pass c k l =
    let few = c.clear_lanes.ensures.within in
    lane-no_stop c.args.lanes c.args.stops k c.fits-lanes.0 (omega arith)
    (c.clear_lanes.ensures.clear k l)
