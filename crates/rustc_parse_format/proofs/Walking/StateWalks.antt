-- The facts that a loop over the calls of a parser needs, and how one call changes the errors.
use Rattle.std.proofs.Common.{◌≡◌, ◌≢◌, ◌<◌, List, [], ◌∷◌, length, refl, ap, arith, Some, None}
use Rattle.rustc_parse_format.specs.Marks.{Span}
use Rattle.rustc_parse_format.specs.Types.{Piece}
use Rattle.rustc_parse_format.specs.Call.{Call, pieces_of}
use Rattle.rustc_parse_format.specs.State.{State, next_call, state_after, calls, after_all}
use Rattle.rustc_parse_format.proofs.Walking.Progress.{walk-none, walk-some}
use Rattle.rustc_parse_format.proofs.Walking.FirstFault.{some_length}
use Rattle.rustc_parse_format.proofs.Walking.FaultlessStates.{after-length}

-- A call without a piece is the last,
pub calls-none : (s : State) → (next_call s).piece ≡ None → calls s ≡ next_call s ∷ []
calls-none s e = walk-none s.mode s.next s.rest e

pub after_all-none : (s : State) → (next_call s).piece ≡ None
    → after_all s (calls s) ≡ state_after s (next_call s)
after_all-none s e = ap (after_all s) (calls-none s e)

pub pieces_of-none : (s : State) → (next_call s).piece ≡ None → pieces_of (calls s) ≡ []
pieces_of-none s e = rw (calls-none s e, e) refl

-- and after one with a piece the calls go on.
pub calls-some : (s : State) (p : Piece Span) → (next_call s).piece ≡ Some p
    → calls s ≡ next_call s ∷ calls (state_after s (next_call s))
calls-some s p e = walk-some s.mode s.next s.rest p e

pub after_all-some : (s : State) (p : Piece Span) → (next_call s).piece ≡ Some p →
    after_all s (calls s) ≡ after_all (state_after s (next_call s))
    (calls (state_after s (next_call s)))
after_all-some s p e = ap (after_all s) (calls-some s p e)

pub pieces_of-some : (s : State) (p : Piece Span) → (next_call s).piece ≡ Some p
    → pieces_of (calls s) ≡ p ∷ pieces_of (calls (state_after s (next_call s)))
pieces_of-some s p e = rw (calls-some s p e, e) refl

-- A call without a fault leaves the errors as they are,
pub after-same : (s : State) (k : Call) → k.faults ≡ [] → (state_after s k).errors ≡ s.errors
after-same s k e = rw e refl

-- and one with a fault leaves more.
pub after-more : (s : State) (k : Call) → k.faults ≢ [] → length s.errors
    < length (state_after s k).errors
after-more s k h = omega (arith, after-length s k, some_length k.faults h)

-- No call leaves the parser's world.
pub after_all-world : (s : State) (ks : List Call) → (after_all s ks).world ≡ s.world
after_all-world s [] = refl
after_all-world s (k ∷ ks) = after_all-world (state_after s k) ks
