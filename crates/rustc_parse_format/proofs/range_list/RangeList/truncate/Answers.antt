use Rattle.std.proofs.Common.{arith, ◌≤◌, length}
use Rattle.rustc_parse_format.proofs.Lines.RangeLists.{range_front, range_fronts}
use Rattle.rustc_parse_format.proofs.range_list.RangeList.truncate.Goals as goal

pub returns-then-count-self : goal.returns-then-count-self
returns-then-count-self c =
    let l = c.self.inside in
    rw (← c.self.view_is)
    (range_front l.array l.list.items l.array_len c.args.count c.self.invariant.2
    c.if-count-self.true)

pub returns : goal.returns
returns c =
    let l = c.self.inside in
    let fits : l.array_len ≤ length l.array =
    omega (arith, c.self.invariant.0, c.self.invariant.1) in
    rw (← c.self.view_is, c.truncate.ensures.items)
    (range_fronts l.array l.list.items l.array_len c.args.count fits c.self.invariant.2
    c.if-count-self.false)
