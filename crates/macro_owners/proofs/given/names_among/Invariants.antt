use Rattle.std.proofs.Common.{◌≡◌}
use Rattle.macro_owners.specs.Given.{is_conditional, root_before}
use Rattle.macro_owners.proofs.GivenNames.{NamesSoFar}
use Rattle.macro_owners.proofs.given.names_among.Given as goal

abbrev pub invariant-loop-index : goal.invariant-loop-index
invariant-loop-index l = record {
  so_far : NamesSoFar l.calls l.source l.index l.names.items;
  root : l.root ≡ root_before l.source l.index;
  condition : l.has_condition ≡ is_conditional l.source l.index;
}
