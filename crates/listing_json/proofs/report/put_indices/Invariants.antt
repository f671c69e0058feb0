use Rattle.std.proofs.Common.{drop, map}
use Rattle.listing_json.specs.Values.{index_value}
use Rattle.listing_json.proofs.Adding.{Owes}
use Rattle.listing_json.proofs.report.put_indices.Given as goal

abbrev pub invariant-loop-index : goal.invariant-loop-index
invariant-loop-index l = Owes (map (index_value l.kind) (drop l.index-index l.indices))
    (map (index_value l.kind) l.indices) l.fn.out.items l.out.items
