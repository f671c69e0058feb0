use Rattle.std.proofs.Common.{arith}
use Rattle.rustc_parse_format.proofs.Bytes.LaneBits.{same-plain}
use Rattle.rustc_parse_format.proofs.blocks.plain_lanes.Goals as goal

pub returns-clause-same : goal.returns-clause-same
returns-clause-same c k l =
    let few = c.clear_lanes.ensures.within in
    (same-plain c.args.lanes c.args.others 34 92 13 k c.fits-lanes.0 c.fits-others.0 (omega arith)
    (c.clear_lanes.ensures.clear k l)).0

pub returns-clause-pass : goal.returns-clause-pass
returns-clause-pass c k l =
    let few = c.clear_lanes.ensures.within in
    (same-plain c.args.lanes c.args.others 34 92 13 k c.fits-lanes.0 c.fits-others.0 (omega arith)
    (c.clear_lanes.ensures.clear k l)).1
