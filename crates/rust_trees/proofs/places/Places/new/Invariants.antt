use Rattle.std.specs.List.{All}
use Rattle.rust_trees.specs.Places.{IsKnown}
use Rattle.rust_trees.proofs.places.Places.new.Given as goal

abbrev pub invariant-loop-step : goal.invariant-loop-step
invariant-loop-step l = All (IsKnown l.text) l.known_places.items
