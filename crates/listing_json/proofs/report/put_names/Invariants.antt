use Rattle.std.proofs.Common.{drop, map}
use Rattle.placeholder_check.specs.Views.{texts}
use Rattle.listing_json.specs.Values.{name_value}
use Rattle.listing_json.proofs.Adding.{Owes}
use Rattle.listing_json.proofs.report.put_names.Given as goal

abbrev pub invariant-loop-name : goal.invariant-loop-name
invariant-loop-name l = Owes (map (name_value l.kind) (texts (drop l.name-index l.names)))
    (map (name_value l.kind) (texts l.names)) l.fn.out.items l.out.items
