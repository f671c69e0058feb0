-- A walk has no fault exactly if the text is in the grammar, and then its pieces are the reading.
use Rattle.std.proofs.Common.{◌≡◌, ◌≢◌, ℕ, List, [], ◌∷◌, map, refl, sym, ◌∙◌, ap, Some, None}
use Rattle.std.specs.List.{AllByRecursion}
use Rattle.rustc_parse_format.specs.Characters.{Text}
use Rattle.rustc_parse_format.specs.Marks.{Span}
use Rattle.rustc_parse_format.specs.Types.{Mode, Piece, bare_piece}
use Rattle.rustc_parse_format.specs.Grammar.{Reads}
use Rattle.rustc_parse_format.specs.Call.{Call, call, end_call, IsWalk, GoesOn, with_piece}
use Rattle.rustc_parse_format.specs.Call.{pieces_of}
use Rattle.rustc_parse_format.proofs.Walking.Calls.{Steps, call_begins, Gives, begins_call}

-- no call has a fault
abbrev pub Faultless : List Call → Type 0
Faultless ks = AllByRecursion (λ k. k.faults ≡ []) ks

abbrev pub bare_pieces : List Call → List (Piece (Unit {0}))
bare_pieces ks = map bare_piece (pieces_of ks)

reads_more : (mode : Mode) (c : ℕ) (t : Text) (k : Call) (ks : List Call) → Steps mode c t k
    → Reads mode k.next k.rest (bare_pieces ks) →
    Reads mode c t (map bare_piece (with_piece k.piece (pieces_of ks)))
reads_more mode c t k ks s later = rw s.given (k.rest, k.next, s.begins, later)

pub goes_on : (k : Call) (p : Piece Span) (ks : List Call) (L : Type 0) → k.piece ≡ Some p
    → GoesOn k.piece ks L → L
goes_on k p ks L e g = rw e at g

pub call_same : (mode : Mode) (c : ℕ) (t : Text) (k : Call) → k ≡ call mode c t → k.faults ≡ []
    → t ≢ [] → Steps mode c t k
call_same mode c t k e f h = rw e (call_begins mode c t h (sym (ap (λ x. x.faults) e) ∙ f))

nothing_read : (mode : Mode) (c : ℕ) (ps : List (Piece Span))
    → Reads mode c [] (map bare_piece (with_piece (call mode c []).piece ps))
unfolding call
nothing_read mode c ps = refl

pub ended : (mode : Mode) (c : ℕ) (t : Text) (k : Call) (ks : List Call) → IsWalk mode c t (k ∷ ks)
    → t ≡ [] → Faultless (k ∷ ks) × (bare_pieces (k ∷ ks) ≡ [])
unfolding call
ended mode c t k ks w e =
    let last : k ≡ end_call c = rw e at w.0 in
    let none : k.piece ≡ None = ap (λ x. x.piece) last in
    let over : ks ≡ [] = rw none at w.1 in
    (((ap (λ x. x.faults) last), rw over tt), rw none refl)

pub one_more : (k : Call) (ks : List Call) (q : Piece Span) (p : Piece (Unit {0}))
    (ps : List (Piece (Unit {0}))) → k.piece ≡ Some q → bare_piece q ≡ p →
    bare_pieces ks ≡ ps →
    map bare_piece (with_piece k.piece (pieces_of ks)) ≡ p ∷ ps
one_more k ks q p ps e f g = rw e cc

-- A walk with no fault reads its text.
pub faultless-reads : (mode : Mode) (c : ℕ) (t : Text) (ks : List Call) → IsWalk mode c t ks
    → Faultless ks → Reads mode c t (bare_pieces ks)
faultless-reads mode c t [] w f = absurd w
faultless-reads mode c [] (k ∷ ks) w f =
    rw (ap (λ x. x.piece) w.0) (nothing_read mode c (pieces_of ks))
faultless-reads mode c (b ∷ t) (k ∷ ks) w f =
    let s = call_same mode c (b ∷ t) k w.0 f.0 (λ h. cc h) in
    reads_more mode c (b ∷ t) k ks s
    (faultless-reads mode k.next k.rest ks (goes_on k s.piece ks _ s.given w.1) f.1)

-- A walk over a text that reads as ps has no fault, and its pieces are ps.
pub reads-faultless : (mode : Mode) (c : ℕ) (t : Text) (ks : List Call)
    (ps : List (Piece (Unit {0}))) → IsWalk mode c t ks → Reads mode c t ps →
    Faultless ks × (bare_pieces ks ≡ ps)
reads-faultless mode c t [] ps w r = absurd w
reads-faultless mode c t (k ∷ ks) [] w r = ended mode c t k ks w r
reads-faultless mode c t (k ∷ ks) (p ∷ ps) w (r, n, b, later) =
    let g : Gives p r n k = rw w.0 (begins_call mode c t p r n b) in
    let next : Reads mode k.next k.rest ps = rw (g.rest, g.next) later in
    let rest = reads-faultless mode k.next k.rest ks ps (goes_on k g.piece ks _ g.given w.1) next in
    ((g.faultless, rest.0), one_more k ks g.piece p ps g.given g.same rest.1)
