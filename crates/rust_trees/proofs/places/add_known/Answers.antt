use Rattle.std.proofs.Common.{sym, subst, arith}
use Rattle.std.specs.List.{All}
use Rattle.std.proofs.lemmas.List.Elements.{All-push}
use Rattle.rust_trees.specs.Places.{IsKnown}
use Rattle.rust_trees.proofs.KnownPlaces.{to-known}
use Rattle.rust_trees.proofs.places.add_known.Goals as goal

pub returns : goal.returns
returns c =
    subst (All (IsKnown c.args.text.now)) (sym c.in_ok-push.ensures.items)
    (All-push (IsKnown c.args.text.now) _ _ c.requires.known_places
    (to-known _ _ c.utf8.text c.requires.boundary (omega (arith, c.if-offset-eq0.false))
    c.requires.boundary.0 c.place_from-place.ensures))
