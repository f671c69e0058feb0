-- Pieces without their spans do not depend on the world.
use Rattle.std.proofs.Common.{◌≡◌, List, [], ◌∷◌, map, refl}
use Rattle.rustc_parse_format.specs.Marks.{Span}
use Rattle.rustc_parse_format.specs.Types.{Count, Is, Name, Param, Star, Implied, Piece, Lit}
use Rattle.rustc_parse_format.specs.Types.{NextArgument, map_count, map_piece, bare_count}
use Rattle.rustc_parse_format.specs.Types.{bare_piece}
use Rattle.rustc_parse_format.specs.World.{World, place_of, piece_in, pieces_in}

bare_count-map : {A B : Type 0} (f : A → B) (k : Count A) → bare_count (map_count f k)
    ≡ bare_count k
bare_count-map f (Is n) = refl
bare_count-map f (Name w s) = refl
bare_count-map f (Param n) = refl
bare_count-map f (Star n) = refl
bare_count-map f Implied = refl

bare-map : {A B : Type 0} (f : A → B) (p : Piece A) → bare_piece (map_piece f p) ≡ bare_piece p
bare-map f (Lit t) = refl
bare-map f (NextArgument a) = rw (
  bare_count-map f a.format.width,
  bare_count-map f a.format.precision,
) refl

pub bare-piece_in : (w : World) (p : Piece Span) → bare_piece (piece_in w p) ≡ bare_piece p
bare-piece_in w p = bare-map (place_of w) p

pub bare-pieces_in : (w : World) (ps : List (Piece Span))
    → map bare_piece (pieces_in w ps) ≡ map bare_piece ps
bare-pieces_in w [] = refl
bare-pieces_in w (p ∷ ps) = rw (bare-pieces_in w ps, bare-piece_in w p) refl
