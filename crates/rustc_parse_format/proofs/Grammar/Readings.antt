-- A text has at most one reading, and the spellings of its pieces are the text.
use Rattle.std.proofs.Common.{◌≡◌, ℕ, ◌++◌, List, [], ◌∷◌, refl, sym, ◌∙◌, ap, Some, None}
use Rattle.rustc_parse_format.specs.Characters.{Text}
use Rattle.rustc_parse_format.specs.Types.{Mode, Piece, bare_piece}
use Rattle.rustc_parse_format.specs.Syntax.{piece_part}
use Rattle.rustc_parse_format.specs.Grammar.{Begins, Reads, piece_values, IsSpelled}
use Rattle.rustc_parse_format.specs.Call.{call}
use Rattle.rustc_parse_format.proofs.Walking.Calls.{begins_call}

record SameStep (p q : Piece (Unit {0})) (r s : Text) (n m : ℕ) : Type 0 where
  piece : p ≡ q
  rest : r ≡ s
  next : n ≡ m

same_piece : {A : Type 0} (a b : A) → Some a ≡ Some b → a ≡ b
same_piece a b e = cc

-- One piece begins a text: the one that a call gives.
Begins-unique : (mode : Mode) (c : ℕ) (t : Text) (p q : Piece (Unit {0})) (r s : Text) (n m : ℕ) →
    Begins mode c t p r n → Begins mode c t q s m → SameStep p q r s n m
Begins-unique mode c t p q r s n m a b =
    let x = begins_call mode c t p r n a in
    let y = begins_call mode c t q s m b in
    record {
      piece = sym x.same ∙ (ap bare_piece (same_piece x.piece y.piece (sym x.given ∙ y.given))
          ∙ y.same);
      rest = sym x.rest ∙ y.rest;
      next = sym x.next ∙ y.next;
    }

Begins-some : (mode : Mode) (c : ℕ) (t : Text) (p : Piece (Unit {0})) (r : Text) (n : ℕ)
    → Begins mode c t p r n → t ≡ [] → ⊥
unfolding call
Begins-some mode c t p r n b e =
    let x = begins_call mode c t p r n b in
    let none : None ≡ Some x.piece = sym (ap (λ u. (call mode c u).piece) e) ∙ x.given in
    cc none

both : {A : Type 0} {p q : A} {ps qs : List A} → p ≡ q → ps ≡ qs → p ∷ ps ≡ q ∷ qs
both e f = cc

-- For every mode, number and text there is at most one reading.
pub Reads-unique : (mode : Mode) (c : ℕ) (t : Text) (ps qs : List (Piece (Unit {0})))
    → Reads mode c t ps → Reads mode c t qs → ps ≡ qs
Reads-unique mode c t [] [] a b = refl
Reads-unique mode c t [] (q ∷ qs) a (s, m, b, bs) = absurd (Begins-some mode c t q s m b a)
Reads-unique mode c t (p ∷ ps) [] (r, n, a, later) b = absurd (Begins-some mode c t p r n a b)
Reads-unique mode c t (p ∷ ps) (q ∷ qs) (r, n, a, later) (s, m, b, others) =
    let step = Begins-unique mode c t p q r s n m a b in
    let moved : Reads mode n r qs = rw (step.rest, step.next) others in
    both step.piece (Reads-unique mode n r ps qs later moved)

-- Pieces that are read are written: as written, one after the other, they are the text.
pub Reads-spelled : (mode : Mode) (c : ℕ) (t : Text) (ps : List (Piece (Unit {0})))
    → Reads mode c t ps → IsSpelled mode c t ps
Reads-spelled mode c t [] e = record { texts = []; formed = tt; means = refl; whole = sym e }
Reads-spelled mode c t (p ∷ ps) (r, n, b, later) =
    let s = Reads-spelled mode n r ps later in
    record {
      texts = b.text ∷ s.texts;
      formed = ((b.written.formed, b.clean), s.formed);
      means = both (sym b.means) (ap (λ k. piece_values k s.texts) (sym b.numbered) ∙ s.means);
      whole = ap (λ u. (piece_part mode b.text).spelling ++ u) s.whole ∙ sym b.written.whole;
    }
