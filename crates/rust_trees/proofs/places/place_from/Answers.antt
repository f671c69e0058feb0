use Rattle.std.proofs.Common.{rules, ◌∙◌, ◌-◌}
use Rattle.rust_trees.proofs.KnownPlaces.{from-known}
use Rattle.rust_trees.proofs.places.place_from.Goals as goal

pub returns-then-last-offset : goal.returns-then-last-offset
returns-then-last-offset c =
    let k = c.requires.known_places (c.min-count.result - 1) _ (search rules) in
    c.place_after.ensures ∙ from-known _ _ _ _ _ c.utf8.text k c.if-last-offset.true
    c.range.ensures.value c.range_from.ensures.value (search rules)
