-- A walk with a fault has read a prefix of its text, and the rest begins with no piece.
use Rattle.std.proofs.Common.{◌≡◌, ◌≢◌, ℕ, suc, ◌<◌, ◌++◌, ◌⊎◌, List, [], ◌∷◌, take, drop, length}
use Rattle.std.proofs.Common.{length-append, append_assoc, refl, sym, inl, inr, ◌∙◌, ap}
use Rattle.std.proofs.Common.{arith, Some}
use Rattle.rustc_parse_format.specs.Characters.{Text}
use Rattle.rustc_parse_format.specs.Marks.{Span}
use Rattle.rustc_parse_format.specs.Types.{Mode, Piece, bare_piece}
use Rattle.rustc_parse_format.specs.Syntax.{piece_part}
use Rattle.rustc_parse_format.specs.Values.{piece_value, number_after}
use Rattle.rustc_parse_format.specs.Grammar.{Begins, Reads, StopsInside}
use Rattle.rustc_parse_format.specs.Call.{Call, call, IsWalk}
use Rattle.rustc_parse_format.proofs.Grammar.Locality.{piece-local}
use Rattle.rustc_parse_format.proofs.Walking.Calls.{begins_call}
use Rattle.rustc_parse_format.proofs.Walking.Walks.{Faultless, bare_pieces, goes_on, call_same}
use Rattle.rustc_parse_format.proofs.Walking.Walks.{ended}
use Rattle.std.proofs.Math.Seq.{take-append_seam, drop-append_seam}

-- the same piece begins the text without z after it
record BeginsFront (mode : Mode) (c : ℕ) (t : Text) (p : Piece (Unit {0})) (q z : Text)
    (n : ℕ) : Type 0 where
  text : Text
  whole : t ≡ text ++ z
  begins : Begins mode c text p q n

begins_front : (mode : Mode) (c : ℕ) (t : Text) (p : Piece (Unit {0})) (q z : Text) (n : ℕ)
    → Begins mode c t p (q ++ z) n → BeginsFront mode c t p q z n
begins_front mode c t p q z n b =
    let u = (piece_part mode b.text).spelling in
    record {
      text = u ++ q;
      whole = b.written.whole ∙ sym (append_assoc u q z);
      begins = record {
        text = b.text;
        written = piece-local mode b.text t q z b.written;
        clean = b.clean;
        means = b.means;
        numbered = b.numbered;
      };
    }

-- a piece that begins the text at a number begins it at each, with another argument
record BeginsAt (mode : Mode) (c : ℕ) (t : Text) : Type 0 where
  piece : Piece (Unit {0})
  rest : Text
  next : ℕ
  begins : Begins mode c t piece rest next

begins_at : (mode : Mode) (c d : ℕ) (t : Text) (p : Piece (Unit {0})) (r : Text) (n : ℕ)
    → Begins mode c t p r n → BeginsAt mode d t
begins_at mode c d t p r n b = record {
  piece = piece_value d b.text;
  rest = r;
  next = number_after d b.text;
  begins = record {
    text = b.text;
    written = b.written;
    clean = b.clean;
    means = refl;
    numbered = refl;
  };
}

-- The first pieces are the reading of a front of the text, and nothing begins the rest, which is
-- not empty.
record Stops (mode : Mode) (c : ℕ) (t : Text) (ps : List (Piece (Unit {0}))) : Type 0 where
  pieces : ℕ
  read : Text
  rest : Text
  whole : t ≡ read ++ rest
  some : rest ≢ []
  reads : Reads mode c read (take pieces ps)
  stops : (n : ℕ) (p : Piece (Unit {0})) (r : Text) (next : ℕ) → ¬ (Begins mode n rest p r next)

at_end_none : (mode : Mode) (c : ℕ) → (call mode c []).faults ≡ []
unfolding call
at_end_none mode c = refl

stops_here : (mode : Mode) (c : ℕ) (t : Text) (k : Call) (ps : List (Piece (Unit {0})))
    → k ≡ call mode c t → k.faults ≢ [] → Stops mode c t ps
stops_here mode c t k ps e f = record {
  pieces = 0;
  read = [];
  rest = t;
  whole = refl;
  some = λ h. f (ap (λ x. x.faults) (e ∙ ap (call mode c) h) ∙ at_end_none mode c);
  reads = refl;
  stops = λ n p r next b. (let s = begins_at mode n c t p r next b in f
      (ap (λ x. x.faults) e ∙ (begins_call mode c t s.piece s.rest s.next s.begins).faultless));
}

stops_later : (mode : Mode) (c : ℕ) (t : Text) (p : Piece (Unit {0})) (r : Text) (n : ℕ)
    (ps : List (Piece (Unit {0}))) →
    Begins mode c t p r n → Stops mode n r ps → Stops mode c t (p ∷ ps)
stops_later mode c t p r n ps b s =
    let front = begins_front mode c t p s.read s.rest n (rw (← s.whole) b) in
    record {
      pieces = suc s.pieces;
      read = front.text;
      rest = s.rest;
      whole = front.whole;
      some = s.some;
      reads = (s.read, n, front.begins, s.reads);
      stops = s.stops;
    }

given_first : (mode : Mode) (c : ℕ) (t : Text) (k : Call) (ks : List Call) (p : Piece Span)
    → k.piece ≡ Some p →
    Stops mode c t (bare_piece p ∷ bare_pieces ks) → Stops mode c t (bare_pieces (k ∷ ks))
given_first mode c t k ks p e s = rw e s

none_or_some : {A : Type 0} (xs : List A) → (xs ≡ []) ⊎ (xs ≢ [])
none_or_some [] = inl refl
none_or_some (x ∷ xs) = inr (λ h. cc h)

one_call : (mode : Mode) (c : ℕ) (t : Text) (k : Call) (ks : List Call) → IsWalk mode c t (k ∷ ks)
    → ¬ (Faultless (k ∷ ks)) →
    (k.faults ≡ []) ⊎ (k.faults ≢ [])
    → (IsWalk mode k.next k.rest ks → ¬ (Faultless ks)
    → Stops mode k.next k.rest (bare_pieces ks)) →
    Stops mode c t (bare_pieces (k ∷ ks))
one_call mode c t k ks w f (inr h) later = stops_here mode c t k (bare_pieces (k ∷ ks)) w.0 h
one_call mode c [] k ks w f (inl h) later = absurd (f (ended mode c [] k ks w refl).0)
one_call mode c (b ∷ t) k ks w f (inl h) later =
    let s = call_same mode c (b ∷ t) k w.0 h (λ e. cc e) in
    given_first mode c (b ∷ t) k ks s.piece s.given
    (stops_later mode c (b ∷ t) (bare_piece s.piece) k.rest k.next (bare_pieces ks) s.begins
    (later (goes_on k s.piece ks _ s.given w.1) (λ g. f (h, g))))

walk_stops : (mode : Mode) (c : ℕ) (t : Text) (ks : List Call) → IsWalk mode c t ks
    → ¬ (Faultless ks) → Stops mode c t (bare_pieces ks)
walk_stops mode c t [] w f = absurd w
walk_stops mode c t (k ∷ ks) w f =
    one_call mode c t k ks w f (none_or_some k.faults) (λ v g. walk_stops mode k.next k.rest ks v g)

pub some_length : {A : Type 0} (xs : List A) → xs ≢ [] → 0 < length xs
some_length [] h = absurd (h refl)
some_length (x ∷ xs) h = omega arith

by_length : (mode : Mode) (c : ℕ) (t : Text) (ps : List (Piece (Unit {0}))) → Stops mode c t ps
    → StopsInside mode c t ps
by_length mode c t ps s =
    let front : take (length s.read) t ≡ s.read = ap (take (length s.read)) s.whole
    ∙ take-append_seam s.read s.rest in
    let rest_after : drop (length s.read) t ≡ s.rest = ap (drop (length s.read)) s.whole
    ∙ drop-append_seam s.read s.rest in
    record {
      pieces = s.pieces;
      characters = length s.read;
      inside = omega (
        arith,
        ap length s.whole,
        length-append s.read s.rest,
        some_length s.rest s.some,
      );
      reads = rw front s.reads;
      stops = λ n p r next. rw rest_after (s.stops n p r next);
    }

-- A walk with a fault stops inside its text.
pub faulty-stops : (mode : Mode) (c : ℕ) (t : Text) (ks : List Call) → IsWalk mode c t ks
    → ¬ (Faultless ks) → StopsInside mode c t (bare_pieces ks)
faulty-stops mode c t ks w f = by_length mode c t (bare_pieces ks) (walk_stops mode c t ks w f)
