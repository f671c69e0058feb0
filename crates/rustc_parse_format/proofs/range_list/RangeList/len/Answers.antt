use Rattle.std.proofs.Common.{arith, ◌≤◌, length, rules}
use Rattle.rustc_parse_format.proofs.Lines.RangeLists.{range_count}
use Rattle.rustc_parse_format.proofs.range_list.RangeList.len.Goals as goal

pub returns : goal.returns
returns c =
    let l = c.self.inside in
    let fits : l.array_len ≤ length l.array =
    omega (arith, c.self.invariant.0, c.self.invariant.1) in
    rw (← c.self.view_is, range_count l.array l.list.items l.array_len fits) (search rules)
