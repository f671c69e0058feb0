-- A parser has no error exactly if no call had a fault, and so exactly if the text is in the
-- grammar.
use Rattle.std.proofs.Common.{◌≡◌, ◌≢◌, ℕ, suc, ◌+◌, ◌++◌, List, [], ◌∷◌, map, length}
use Rattle.std.proofs.Common.{length-append, refl, ◌∙◌, ap, arith}
use Rattle.std.proofs.lemmas.Bool.{cond_both}
use Rattle.rustc_parse_format.specs.Characters.{Text}
use Rattle.rustc_parse_format.specs.Marks.{Span}
use Rattle.rustc_parse_format.specs.Types.{Mode, Piece, bare_piece}
use Rattle.rustc_parse_format.specs.Grammar.{Reads, StopsInside}
use Rattle.rustc_parse_format.specs.Faults.{Fault, Message, message, is_front, add_errors}
use Rattle.rustc_parse_format.specs.Call.{Call, pieces_of}
use Rattle.rustc_parse_format.specs.World.{World, faults_in}
use Rattle.rustc_parse_format.specs.State.{State, fresh_state, state_after, calls, after_all}
use Rattle.rustc_parse_format.proofs.Walking.Progress.{walk-IsWalk}
use Rattle.rustc_parse_format.proofs.Walking.FirstFault.{faulty-stops}
use Rattle.rustc_parse_format.proofs.Walking.Walks.{Faultless, faultless-reads, reads-faultless}

-- Each fault is one error more.
pub add_errors-length : {A : Type 0} (old : List (Message A)) (fs : List (Fault A))
    → length (add_errors old fs) ≡ length old + length fs
add_errors-length old [] = omega arith
add_errors-length old (f ∷ fs) =
    cond_both (is_front f) (message f ∷ old) (old ++ message f ∷ [])
    (λ es. length (add_errors es fs) ≡ length old + length (f ∷ fs))
    (λ e. omega (arith, add_errors-length (message f ∷ old) fs))
    (λ e. omega (
      arith,
      add_errors-length (old ++ message f ∷ []) fs,
      length-append old (message f ∷ []),
    ))

faults_in-length : (w : World) (fs : List (Fault Span)) → length (faults_in w fs) ≡ length fs
faults_in-length w [] = refl
faults_in-length w (f ∷ fs) = ap suc (faults_in-length w fs)

pub after-length : (s : State) (k : Call) → length (state_after s k).errors
    ≡ length s.errors + length k.faults
after-length s k = add_errors-length s.errors (faults_in s.world k.faults)
    ∙ ap (λ n. length s.errors + n) (faults_in-length s.world k.faults)

none : {A : Type 0} (xs : List A) → length xs ≡ 0 → xs ≡ []
none [] e = refl
none (x ∷ xs) e = absurd (omega arith)

no_length : {A : Type 0} (xs : List A) → xs ≡ [] → length xs ≡ 0
no_length xs e = rw e refl

-- There is no error after a call exactly where there was none, and the call has no fault.
pub after-no_errors : (s : State) (k : Call) → (state_after s k).errors ≡ []
    → (s.errors ≡ []) × (k.faults ≡ [])
after-no_errors s k e = (
  none s.errors (omega (arith, after-length s k, no_length (state_after s k).errors e)),
  none k.faults (omega (arith, after-length s k, no_length (state_after s k).errors e)),
)

pub no_errors-after : (s : State) (k : Call) → s.errors ≡ [] → k.faults ≡ []
    → (state_after s k).errors ≡ []
no_errors-after s k e f =
    none (state_after s k).errors
    (omega (arith, after-length s k, no_length s.errors e, no_length k.faults f))

pub after_all-no_errors : (s : State) (ks : List Call) → (after_all s ks).errors ≡ []
    → (s.errors ≡ []) × Faultless ks
after_all-no_errors s [] e = (e, tt)
after_all-no_errors s (k ∷ ks) e =
    let later = after_all-no_errors (state_after s k) ks e in
    let first = after-no_errors s k later.0 in
    (first.0, (first.1, later.1))

pub no_errors-after_all : (s : State) (ks : List Call) → s.errors ≡ [] → Faultless ks
    → (after_all s ks).errors ≡ []
no_errors-after_all s [] e f = e
no_errors-after_all s (k ∷ ks) e f =
    no_errors-after_all (state_after s k) ks (no_errors-after s k e f.0) f.1

-- A parser that ends with no error has given the reading of its text,
pub walk_reads : (mode : Mode) (w : World) (t : Text) (at : ℕ)
    → (after_all (fresh_state mode w t at) (calls (fresh_state mode w t at))).errors ≡ [] →
    Reads mode 0 t (map bare_piece (pieces_of (calls (fresh_state mode w t at))))
walk_reads mode w t at e =
    faultless-reads mode 0 t (calls (fresh_state mode w t at)) (walk-IsWalk mode 0 t)
    (after_all-no_errors (fresh_state mode w t at) (calls (fresh_state mode w t at)) e).1

-- and so it does wherever there is one.
pub reads_walk : (mode : Mode) (w : World) (t : Text) (at : ℕ) (ps : List (Piece (Unit {0})))
    → Reads mode 0 t ps →
    ((after_all (fresh_state mode w t at) (calls (fresh_state mode w t at))).errors ≡ [])
    × (map bare_piece (pieces_of (calls (fresh_state mode w t at))) ≡ ps)
reads_walk mode w t at ps r =
    let both = reads-faultless mode 0 t (calls (fresh_state mode w t at)) ps
    (walk-IsWalk mode 0 t) r in (
      no_errors-after_all (fresh_state mode w t at)
          (calls (fresh_state mode w t at)) refl both.0,
      both.1,
    )

-- Where there is an error, its first pieces are the reading of the text up to a character from
-- which on nothing begins it.
pub errors_stop : (mode : Mode) (w : World) (t : Text) (at : ℕ)
    → (after_all (fresh_state mode w t at) (calls (fresh_state mode w t at))).errors ≢ [] →
    StopsInside mode 0 t (map bare_piece (pieces_of (calls (fresh_state mode w t at))))
errors_stop mode w t at e =
    faulty-stops mode 0 t (calls (fresh_state mode w t at)) (walk-IsWalk mode 0 t)
    (λ f. e (no_errors-after_all (fresh_state mode w t at)
    (calls (fresh_state mode w t at)) refl f))
