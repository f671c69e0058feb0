use Rattle.std.proofs.Common.{◌≡◌, ◌∙◌, ◌++◌, [], ◌∷◌, ap, map, Option, Some, None, sym}
use Rattle.std.specs.Prelude.{option_map}
use Rattle.std.proofs.lemmas.Bool.{false≢true}
use Rattle.std.proofs.lemmas.List.{map-append}
use Rattle.rustc_parse_format.specs.Types.{Piece}
use Rattle.rustc_parse_format.specs.Views.{seen_piece}
use Rattle.rustc_parse_format.specs.State.{State, next_call}
use Rattle.rustc_parse_format.specs.World.{World, Place, piece_in}
use Rattle.rustc_parse_format.proofs.Walking.ReadPieces.{at_end-spare, pieces_more, state_more}
use Rattle.rustc_parse_format.proofs.Walking.ReadPieces.{pieces_end, state_end}
use Rattle.rustc_parse_format.proofs.Walking.Nexts.{next_ends, piece_moves}
use Rattle.rustc_parse_format.proofs.reading.read_pieces.Goals as goal

pub loop-pieces-preserved : goal.loop-pieces-preserved
loop-pieces-preserved c =
    let given : ◌≡◌ {A = Option (Piece Place)} (Some (seen_piece c.in-Some.piece))
    (option_map (piece_in c.loop-pieces.parser.world) (next_call c.loop-pieces.parser).piece) =
    ap (option_map seen_piece) (sym c.in-Some.is)
    ∙ c.in_ok-piece.ensures.piece in
    let pushed = ap (map seen_piece) c.in_ok-push.ensures.items
    ∙ ap (λ ps. map seen_piece (ps ++ c.in-Some.piece ∷ [])) c.make_room.ensures
    ∙ map-append seen_piece c.loop-pieces.pieces.items (c.in-Some.piece ∷ []) in
    record {
      world = ap (λ (s : State). s.world) c.in_ok-piece.ensures.state
          ∙ c.loop-pieces.invariant.world;
      pieces = rw pushed (pieces_more c.loop-pieces.parser c.next.new.self c.args.parser.now.world
          (seen_piece c.in-Some.piece) _ _ c.loop-pieces.invariant.world given
          c.in_ok-piece.ensures.state
          c.loop-pieces.invariant.pieces);
      empty = λ e. let none =
          rw c.in-Some.is at (next_ends seen_piece c.loop-pieces.parser c.next.new.self _
          c.in_ok-piece.ensures.piece
          c.in_ok-piece.ensures.state (c.loop-pieces.invariant.empty e)).0 in
          absurd (false≢true (sym none));
      state = state_more c.loop-pieces.parser c.next.new.self
          (seen_piece c.in-Some.piece) given c.in_ok-piece.ensures.state
          ∙ c.loop-pieces.invariant.state;
    }

pub returns-in_err-piece-clause-empty : goal.returns-in_err-piece-clause-empty
returns-in_err-piece-clause-empty c e h =
    let s = c.loop-pieces.parser in
    let none = ap (λ (w : World). w.has_source) c.loop-pieces.invariant.world ∙ h in
    absurd (false≢true
    (c.in_err-piece.ensures.spare (at_end-spare s (c.loop-pieces.invariant.empty e) none)))

pub returns-in_err-push-clause-empty : goal.returns-in_err-push-clause-empty
returns-in_err-push-clause-empty c e h =
    let none =
    rw c.in-Some.is at (next_ends seen_piece c.loop-pieces.parser c.next.new.self _
    c.in_ok-piece.ensures.piece c.in_ok-piece.ensures.state
    (c.loop-pieces.invariant.empty e)).0 in
    absurd (false≢true (sym none))

pub returns-in_err-make_room-clause-empty : goal.returns-in_err-make_room-clause-empty
returns-in_err-make_room-clause-empty c e h =
    let none =
    rw c.in-Some.is at (next_ends seen_piece c.loop-pieces.parser c.next.new.self _
    c.in_ok-piece.ensures.piece c.in_ok-piece.ensures.state
    (c.loop-pieces.invariant.empty e)).0 in
    absurd (false≢true (sym none))

pub returns-clause-pieces : goal.returns-clause-pieces
returns-clause-pieces c =
    let none : ◌≡◌ {A = Option (Piece Place)} None
    (option_map (piece_in c.loop-pieces.parser.world) (next_call c.loop-pieces.parser).piece) =
    ap
    (option_map seen_piece) (sym c.in_default.is) ∙ c.in_ok-piece.ensures.piece in
    pieces_end c.loop-pieces.parser c.args.parser.now.world _ _ none c.loop-pieces.invariant.pieces

pub returns-clause-state : goal.returns-clause-state
returns-clause-state c =
    let none : ◌≡◌ {A = Option (Piece Place)} None
    (option_map (piece_in c.loop-pieces.parser.world) (next_call c.loop-pieces.parser).piece) =
    ap
    (option_map seen_piece) (sym c.in_default.is) ∙ c.in_ok-piece.ensures.piece in
    state_end c.loop-pieces.parser c.next.new.self _ none c.in_ok-piece.ensures.state
    c.loop-pieces.invariant.state

pub loop-pieces-smaller : goal.loop-pieces-smaller
loop-pieces-smaller c = piece_moves seen_piece c.loop-pieces.parser c.next.new.self c.in-Some.piece
    (rw c.in-Some.is at c.in_ok-piece.ensures.piece) c.in_ok-piece.ensures.state
