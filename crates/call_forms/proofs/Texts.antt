-- A rule for elements of lists.
use Rattle.std.proofs.lemmas.Option.{slice_get-map}

pub ruleset at_index = (slice_get-map)
