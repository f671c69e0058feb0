-- The iterator over the pieces returns those of the walk of its parser until it ends, if no
-- allocation fails.
use Rattle.std.proofs.Common.{◌≡◌, ◌∙◌, false, List, [], ◌∷◌, ap, map, refl, subst, sym, None}
use Rattle.std.specs.Prelude.{Ok}
use Rattle.std.specs.Iterator.{YieldsThen}
use Rattle.rustc_parse_format.specs.declared.pieces.Pieces.{Pieces}
use Rattle.rustc_parse_format.specs.declared.types.Piece.{Piece as DeclaredPiece}
use Rattle.rustc_parse_format.specs.Call.{pieces_of}
use Rattle.rustc_parse_format.specs.Pieces.{GivesItem, has_ended, parser_of}
use Rattle.rustc_parse_format.specs.Views.{seen_piece}
use Rattle.rustc_parse_format.specs.State.{State, after_all, calls}
use Rattle.rustc_parse_format.specs.World.{World, pieces_in}
use Rattle.rustc_parse_format.proofs.Walking.ReadPieces.{pieces_more, state_more}
use Rattle.rustc_parse_format.proofs.Walking.StateWalks.{after_all-none, pieces_of-none}

pub gives_walk : (ps : List DeclaredPiece) (it last : Pieces) → has_ended it ≡ false
    → YieldsThen GivesItem it (map Ok ps) None last →
    (map seen_piece ps ≡ pieces_in (parser_of it).world (pieces_of (calls (parser_of it))))
    × (parser_of last ≡ after_all (parser_of it) (calls (parser_of it)))
gives_walk [] it last h y =
    let s = parser_of it in
    let step : GivesItem it None last =
    subst (λ (x : Pieces). GivesItem x None last) (sym y.1) y.2 in
    let k = step.called h in
    (ap (pieces_in s.world) (sym (pieces_of-none s k.0)), k.1 ∙ sym (after_all-none s k.0))
gives_walk (p ∷ ps) it last h y =
    let s = parser_of it in
    let next = y.1.0 in
    let step = y.1.1 in
    let k = step.called h in
    let later = gives_walk ps next last step.goes_on (y.0, y.1.2, y.2) in
    let world = ap (λ (x : State). x.world) k.1 in (
      ap (λ qs. seen_piece p ∷ qs) (later.0
          ∙ ap (λ (w : World). pieces_in w (pieces_of (calls (parser_of next)))) world)
          ∙ pieces_more s (parser_of next) s.world (seen_piece p) [] _ refl k.0 k.1 refl,
      later.1 ∙ state_more s (parser_of next) (seen_piece p) k.0 k.1,
    )
