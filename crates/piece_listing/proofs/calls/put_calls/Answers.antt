use Rattle.std.proofs.Common.{◌≡◌, ◌∙◌, ◌++◌, [], ◌∷◌, ap, append-nil, append_assoc, flat_map}
use Rattle.std.proofs.Common.{Option}
use Rattle.std.proofs.Common.{List, Some, None, refl, subst, sym}
use Rattle.std.specs.Prelude.{option_map, string_bytes}
use Rattle.std.proofs.lemmas.Bool.{false≢true}
use Rattle.std.proofs.lemmas.Grind.{flat_map-append}
use Rattle.rustc_parse_format.specs.Views.{seen_taken}
use Rattle.rustc_parse_format.specs.State.{State, next_call}
use Rattle.rustc_parse_format.specs.Types.{Piece}
use Rattle.rustc_parse_format.specs.World.{Place, World, piece_in}
use Rattle.rustc_parse_format.proofs.Readers.Placeholders.{needs_adds}
use Rattle.rustc_parse_format.proofs.Walking.Nexts.{next_ends, piece_moves}
use Rattle.rustc_parse_format.proofs.Walking.ReadPieces.{at_end-spare, pieces_end, pieces_more}
use Rattle.rustc_parse_format.proofs.Walking.ReadPieces.{state_end, state_more}
use Rattle.placeholder_check.specs.Collection.{Holds}
use Rattle.placeholder_check.specs.Uses.{piece_uses, uses}
use Rattle.piece_listing.specs.Listing.{piece_line}
use Rattle.piece_listing.proofs.calls.put_calls.Goals as goal

-- A function of each piece, with one piece more.
one_more : {A : Type 0} (f : Piece Place → List A) (done : List (Piece Place)) (x : Piece Place)
    → flat_map f (done ++ x ∷ []) ≡ flat_map f done ++ f x
one_more f done x =
    flat_map-append f done (x ∷ []) ∙ ap (λ l. flat_map f done ++ l) (append-nil (f x))

pub loop-piece-init : goal.loop-piece-init
loop-piece-init c = record {
  done = [];
  world = refl;
  pieces = refl;
  lines = sym (append-nil _);
  held = λ b us h. rw (append-nil us) h;
  empty = λ e. e;
  state = refl;
}

pub loop-piece-smaller : goal.loop-piece-smaller
loop-piece-smaller c =
    piece_moves (seen_taken c.next_piece.new.argument) c.loop-piece.parser c.next_piece.new.parser
    c.in-Some.piece (rw c.in-Some.is at c.in_ok-piece.ensures.piece) c.in_ok-piece.ensures.state

pub loop-piece-preserved : goal.loop-piece-preserved
loop-piece-preserved c =
    let s = c.loop-piece.parser in
    let new = c.next_piece.new.parser in
    let w = c.args.parser.now.world in
    let done = c.loop-piece.invariant.done in
    let seen = seen_taken c.next_piece.new.argument in
    let x : Piece Place = seen c.in-Some.piece in
    let given : ◌≡◌ {A = Option (Piece Place)} (Some x)
    (option_map (piece_in s.world) (next_call s).piece) =
    ap (option_map seen) (sym c.in-Some.is) ∙ c.in_ok-piece.ensures.piece in
    record {
      done = done ++ x ∷ [];
      world = ap (λ (u : State). u.world) c.in_ok-piece.ensures.state
          ∙ c.loop-piece.invariant.world;
      pieces = pieces_more s new w x done _ c.loop-piece.invariant.world given
          c.in_ok-piece.ensures.state c.loop-piece.invariant.pieces;
      lines = c.in_ok-put_piece_kind.ensures
          ∙ ap (λ l. l ++ piece_line x) c.loop-piece.invariant.lines
          ∙ append_assoc (string_bytes c.args.out.now) (flat_map piece_line done) (piece_line x)
          ∙ ap (λ l. string_bytes c.args.out.now ++ l) (sym (one_more piece_line done x));
      held = λ b us h. subst (λ vs. Holds vs c.add_uses.new.uses)
          (append_assoc us (uses done) (piece_uses x)
          ∙ ap (λ l. us ++ l) (sym (one_more piece_uses done x)))
          (c.in_ok-add_uses.ensures b (us ++ uses done) (c.loop-piece.invariant.held b us h));
      empty = λ e. let none =
          rw c.in-Some.is at (next_ends seen s new _ c.in_ok-piece.ensures.piece
          c.in_ok-piece.ensures.state (c.loop-piece.invariant.empty e)).0 in
          absurd (false≢true (sym none));
      state = state_more s new x given c.in_ok-piece.ensures.state ∙ c.loop-piece.invariant.state;
    }

pub returns-in_err-piece-clause-empty : goal.returns-in_err-piece-clause-empty
returns-in_err-piece-clause-empty c e h =
    let s = c.loop-piece.parser in
    let none = ap (λ (w : World). w.has_source) c.loop-piece.invariant.world ∙ h in
    absurd (false≢true (c.in_err-piece.ensures.spare
    (needs_adds s (at_end-spare s (c.loop-piece.invariant.empty e) none))))

pub returns-in_err-put_piece_kind-clause-empty : goal.returns-in_err-put_piece_kind-clause-empty
returns-in_err-put_piece_kind-clause-empty c e h =
    let none =
    rw c.in-Some.is at (next_ends (seen_taken c.next_piece.new.argument) c.loop-piece.parser
    c.next_piece.new.parser _ c.in_ok-piece.ensures.piece c.in_ok-piece.ensures.state
    (c.loop-piece.invariant.empty e)).0 in
    absurd (false≢true (sym none))

pub returns-in_err-add_uses-clause-empty : goal.returns-in_err-add_uses-clause-empty
returns-in_err-add_uses-clause-empty c e h =
    let none =
    rw c.in-Some.is at (next_ends (seen_taken c.next_piece.new.argument) c.loop-piece.parser
    c.next_piece.new.parser _ c.in_ok-piece.ensures.piece c.in_ok-piece.ensures.state
    (c.loop-piece.invariant.empty e)).0 in
    absurd (false≢true (sym none))

-- All is done, and the parser is at its end.
all_done : (c : goal.In_default) → ◌≡◌ {A = Option (Piece Place)} None
    (option_map (piece_in c.loop-piece.parser.world) (next_call c.loop-piece.parser).piece)
all_done c = ap (option_map (seen_taken c.next_piece.new.argument)) (sym c.in_default.is)
    ∙ c.in_ok-piece.ensures.piece

pub returns-clause-lines : goal.returns-clause-lines
returns-clause-lines c = c.loop-piece.invariant.lines
    ∙ ap (λ ps. string_bytes c.args.out.now ++ flat_map piece_line ps)
    (pieces_end c.loop-piece.parser c.args.parser.now.world _ _ (all_done c)
    c.loop-piece.invariant.pieces)

pub returns-clause-used : goal.returns-clause-used
returns-clause-used c b us h = subst (λ ps. Holds (us ++ uses ps) c.loop-piece.all_uses)
    (pieces_end c.loop-piece.parser c.args.parser.now.world _ _ (all_done c)
    c.loop-piece.invariant.pieces) (c.loop-piece.invariant.held b us h)

pub returns-clause-state : goal.returns-clause-state
returns-clause-state c =
    state_end c.loop-piece.parser c.next_piece.new.parser _ (all_done c)
    c.in_ok-piece.ensures.state c.loop-piece.invariant.state
