use Rattle.std.proofs.Common.{◌≡◌, ◌++◌, length, map, take}
use Rattle.rustc_parse_format.specs.Views.{pair}
use Rattle.rustc_parse_format.proofs.range_list.RangeList.append.Given as goal

abbrev pub invariant-loop-range : goal.invariant-loop-range
invariant-loop-range l = (l.self ≡ l.fn.self ++ map pair (take l.range-index l.range-items))
    × (l.count ≡ length l.fn.self)
