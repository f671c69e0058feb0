-- The loop over the calls, and how its pieces and errors relate to the grammar.
use Rattle.std.proofs.Common.{◌≡◌, ◌≢◌, ℕ, ◌++◌, ◌↔◌, Bool, true, false, IsTrue, List, [], ◌∷◌, map}
use Rattle.std.proofs.Common.{Option, Some, None, refl, sym, ap, subst, ◌∙◌}
use Rattle.std.proofs.Common.{append_assoc}
use Rattle.std.specs.Prelude.{option_map}
use Rattle.std.proofs.lemmas.List.{append-nil}
use Rattle.rustc_parse_format.specs.Characters.{Text}
use Rattle.rustc_parse_format.specs.Grammar.{IsInGrammar, Reads, StopsInside}
use Rattle.rustc_parse_format.specs.Marks.{Span}
use Rattle.rustc_parse_format.specs.Types.{Mode, Piece, bare_piece}
use Rattle.rustc_parse_format.specs.Call.{call, pieces_of}
use Rattle.rustc_parse_format.specs.State.{State, NeedsNoMemory, Walks, fresh_state, state_after}
use Rattle.rustc_parse_format.specs.State.{after_all}
use Rattle.rustc_parse_format.specs.State.{calls, next_call}
use Rattle.rustc_parse_format.specs.World.{World, Place, piece_in, pieces_in}
use Rattle.rustc_parse_format.proofs.Grammar.BarePieces.{bare-pieces_in}
use Rattle.rustc_parse_format.proofs.Walking.Progress.{walk-IsWalk}
use Rattle.rustc_parse_format.proofs.Walking.FaultlessStates.{walk_reads, reads_walk, errors_stop}
use Rattle.rustc_parse_format.proofs.Walking.StateWalks.{after_all-none, after_all-some}
use Rattle.rustc_parse_format.proofs.Walking.StateWalks.{pieces_of-none, pieces_of-some}

-- the piece that was given
record Given (w : World) (o : Option (Piece Span)) (x : Piece Place) : Type 0 where
  piece : Piece Span
  is_some : o ≡ Some piece
  same : x ≡ piece_in w piece

given : (w : World) (o : Option (Piece Span)) (x : Piece Place) → Some x ≡ option_map (piece_in w) o
    → Given w o x
given w None x e = cc e
given w (Some p) x e = record { piece = p; is_some = refl; same = cc }

pub none_given : (w : World) (o : Option (Piece Span)) → None ≡ option_map (piece_in w) o → o ≡ None
none_given w None e = refl
none_given w (Some p) e = cc e

pub pieces_more : (s new : State) (w : World) (x : Piece Place) (done all : List (Piece Place))
    → s.world ≡ w →
    Some x ≡ option_map (piece_in s.world) (next_call s).piece → new ≡ state_after s (next_call s) →
    done ++ pieces_in w (pieces_of (calls s)) ≡ all → (done ++ x ∷ [])
    ++ pieces_in w (pieces_of (calls new)) ≡ all
pieces_more s new w x done all h e f d =
    let g = given s.world (next_call s).piece x e in
    let this : x ≡ piece_in w g.piece = g.same ∙ ap (λ v. piece_in v g.piece) h in
    rw (append_assoc done (x ∷ []) (pieces_in w (pieces_of (calls new))), f, this)
    (ap (λ ps. done ++ pieces_in w ps) (sym (pieces_of-some s g.piece g.is_some)) ∙ d)

pub state_more : (s new : State) (x : Piece Place) → Some x
    ≡ option_map (piece_in s.world) (next_call s).piece → new ≡ state_after s (next_call s) →
    after_all new (calls new) ≡ after_all s (calls s)
state_more s new x e f =
    let g = given s.world (next_call s).piece x e in
    rw f (sym (after_all-some s g.piece g.is_some))

pub pieces_end : (s : State) (w : World) (done all : List (Piece Place))
    → None ≡ option_map (piece_in s.world) (next_call s).piece →
    done ++ pieces_in w (pieces_of (calls s)) ≡ all → done ≡ all
pieces_end s w done all e d = sym (append-nil done)
    ∙ (ap (λ ps. done ++ pieces_in w ps)
    (sym (pieces_of-none s (none_given s.world (next_call s).piece e)))
    ∙ d)

pub state_end : (s new last : State) → None ≡ option_map (piece_in s.world) (next_call s).piece
    → new ≡ state_after s (next_call s) →
    after_all s (calls s) ≡ last → new ≡ last
state_end s new last e f d = f
    ∙ (sym (after_all-none s (none_given s.world (next_call s).piece e)) ∙ d)

pub walks_of : (s p new : State) (ps : List (Piece Place)) → p ≡ s → new ≡ after_all p (calls p)
    → ps ≡ pieces_in p.world (pieces_of (calls p)) → Walks s ps new
walks_of s p new ps e f g =
    let walked : Walks p ps new =
    record {
      calls = calls p;
      is_walk = walk-IsWalk p.mode p.next p.rest;
      pieces = g;
      state = f;
    } in
    subst (λ u. Walks u ps new) e walked

-- A fresh parser p, and the parser new after its last call.
pub clean_in : (mode : Mode) (w : World) (t : Text) (at : ℕ) (p new : State)
    → p ≡ fresh_state mode w t at
    → new ≡ after_all p (calls p) →
    new.errors ≡ [] → IsInGrammar mode t
clean_in mode w t at p new e f h =
    (_, walk_reads mode w t at (sym (ap (λ (s : State). s.errors) (rw e at f)) ∙ h))

pub in_clean : (mode : Mode) (w : World) (t : Text) (at : ℕ) (p new : State)
    → p ≡ fresh_state mode w t at
    → new ≡ after_all p (calls p) →
    IsInGrammar mode t → new.errors ≡ []
in_clean mode w t at p new e f r = ap (λ (s : State). s.errors) (rw e at f)
    ∙ (reads_walk mode w t at r.0 r.1).0

pub reading_of : (mode : Mode) (w : World) (t : Text) (at : ℕ) (p new : State)
    (ps : List (Piece Place)) → p ≡ fresh_state mode w t at → new ≡ after_all p (calls p) →
    ps ≡ pieces_in p.world (pieces_of (calls p)) → new.errors ≡ []
    → Reads mode 0 t (map bare_piece ps)
reading_of mode w t at p new ps e f g h =
    let r = walk_reads mode w t at (sym (ap (λ (s : State). s.errors) (rw e at f)) ∙ h) in
    rw (g, bare-pieces_in p.world (pieces_of (calls p)), e) r

pub stops_of : (mode : Mode) (w : World) (t : Text) (at : ℕ) (p new : State)
    (ps : List (Piece Place)) → p ≡ fresh_state mode w t at → new ≡ after_all p (calls p) →
    ps ≡ pieces_in p.world (pieces_of (calls p)) → new.errors ≢ []
    → StopsInside mode 0 t (map bare_piece ps)
stops_of mode w t at p new ps e f g h =
    let r = errors_stop mode w t at (λ k. h (ap (λ (s : State). s.errors) (rw e at f) ∙ k)) in
    rw (g, bare-pieces_in p.world (pieces_of (calls p)), e) r

-- A call at the end does not allocate if there is no source literal.
pub at_end-spare : (s : State) → s.rest ≡ [] → s.world.has_source ≡ false
    → NeedsNoMemory s (next_call s)
unfolding call
at_end-spare s e h = rw (e, h, append-nil s.line_spans) ((tt, refl), refl)

pub no_source : (b : Bool) (P : Type 0) → IsTrue b ↔ P → (P → ⊥) → b ≡ false
no_source true P h without = absurd (without (h.0 refl))
no_source false P h without = refl
