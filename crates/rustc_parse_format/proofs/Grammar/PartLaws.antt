-- A row of parts is its first part and the row of the others. A function that computes a part finds
-- it where it is written and nowhere else.
use Rattle.std.proofs.Common.{◌≡◌, ◌++◌, ◌==◌, Bool, true, false, List, [], ◌∷◌, refl, sym, ◌∙◌, ap}
use Rattle.std.proofs.Common.{append_assoc, ℕ}
use Rattle.std.proofs.lemmas.Bool.{and_parts, and_from, not_from_false, eqb-true}
use Rattle.rustc_parse_format.specs.Characters.{Text}
use Rattle.rustc_parse_format.specs.Spelling.{Part, IsPart, row, fixed_part, part_unless}
use Rattle.rustc_parse_format.specs.Spelling.{absent_part}

-- The function gives what is written at the front, and the rest; and where a part is written, it
-- gives this part.
pub record Finds {A : Type 0} (part : A → Part) (f : Text → A × Text) : Type 0 where
  pub sound : (t : Text) → IsPart t (part (f t).0) (f t).1
  pub complete : (t : Text) (a : A) (r : Text) → IsPart t (part a) r → f t ≡ (a, r)

pub IsPart-moved : (t u : Text) (p : Part) (r : Text) → t ≡ u → IsPart u p r → IsPart t p r
IsPart-moved t u p r e h = record { whole = e ∙ h.whole; formed = h.formed; ends = h.ends }

pub unless-there : (p : Text → Bool) (u r : Text) → p r ≡ false
    → IsPart (u ++ r) (part_unless u p) r
unless-there p u r e = record { whole = refl; formed = refl; ends = not_from_false (p r) e }

-- nothing is written, and it would not begin
pub absent-same : (t : Text) (p : Text → Bool) (r : Text) → IsPart t (absent_part p) r → t ≡ r
absent-same t p r h = h.whole

pub absent-here : (t : Text) (p : Text → Bool) → p t ≡ false → IsPart t (absent_part p) t
absent-here t p e = unless-there p [] t e

pub fixed-there : (u r : Text) → IsPart (u ++ r) (fixed_part u) r
fixed-there u r = unless-there (λ s. false) u r refl

pub letter-there : (c d : ℕ) (r : Text) → (c == d) ≡ true → IsPart (c ∷ r) (fixed_part (d ∷ [])) r
letter-there c d r e = IsPart-moved (c ∷ r) (d ∷ r) (fixed_part (d ∷ [])) r
    (ap (λ x. x ∷ r) (eqb-true c d e)) (fixed-there (d ∷ []) r)

pub row-nil : (t : Text) → IsPart t (row []) t
row-nil t = record { whole = refl; formed = refl; ends = refl }

pub row-cons : (t s : Text) (p : Part) (ps : List Part) (r : Text) → IsPart t p s
    → IsPart s (row ps) r → IsPart t (row (p ∷ ps)) r
row-cons t s p ps r h k = record {
  whole = h.whole
      ∙ (ap (λ u. p.spelling ++ u) k.whole ∙ sym (append_assoc p.spelling (row ps).spelling r));
  formed = and_from _ _ h.formed k.formed;
  ends = and_from _ _ (ap p.may_precede (sym k.whole) ∙ h.ends) k.ends;
}

-- one part alone
pub row-one : (t : Text) (p : Part) (r : Text) → IsPart t p r → IsPart t (row (p ∷ [])) r
row-one t p r h = row-cons t r p [] r h (row-nil r)

-- the text after the first part of a row
pub record Split (t : Text) (p : Part) (ps : List Part) (r : Text) : Type 0 where
  pub seam : Text
  pub first : IsPart t p seam
  pub others : IsPart seam (row ps) r

pub row-split : (t : Text) (p : Part) (ps : List Part) (r : Text) → IsPart t (row (p ∷ ps)) r
    → Split t p ps r
row-split t p ps r h = record {
  seam = (row ps).spelling ++ r;
  first = record {
    whole = h.whole ∙ append_assoc p.spelling (row ps).spelling r;
    formed = (and_parts _ _ h.formed).0;
    ends = (and_parts _ _ h.ends).0;
  };
  others = record {
    whole = refl;
    formed = (and_parts _ _ h.formed).1;
    ends = (and_parts _ _ h.ends).1;
  };
}

pub row-only : (t : Text) (p : Part) (r : Text) → IsPart t (row (p ∷ [])) r → IsPart t p r
row-only t p r h =
    let s = row-split t p [] r h in
    record {
      whole = s.first.whole ∙ ap (λ u. p.spelling ++ u) s.others.whole;
      formed = s.first.formed;
      ends = ap p.may_precede (sym s.others.whole)
          ∙ s.first.ends;
    }

-- two parts
pub row-two : (t s : Text) (p q : Part) (r : Text) → IsPart t p s → IsPart s q r
    → IsPart t (row (p ∷ q ∷ [])) r
row-two t s p q r h k = row-cons t s p (q ∷ []) r h (row-one s q r k)

pub record Two (t : Text) (p q : Part) (r : Text) : Type 0 where
  pub seam : Text
  pub first : IsPart t p seam
  pub second : IsPart seam q r

pub two-split : (t : Text) (p q : Part) (r : Text) → IsPart t (row (p ∷ q ∷ [])) r → Two t p q r
two-split t p q r h = let s = row-split t p (q ∷ []) r h in
    record { seam = s.seam; first = s.first; second = row-only s.seam q r s.others }

-- the same, with the parts of a row known by its type
pub record IsRow (t : Text) (ps : List Part) (r : Text) : Type 0 where
  pub part : IsPart t (row ps) r

pub last : {t : Text} {p : Part} {r : Text} → IsPart t p r → IsRow t (p ∷ []) r
last {t = t} {p = p} {r = r} h = record { part = row-one t p r h }

pub then : {t s : Text} {p : Part} {ps : List Part} {r : Text} → IsPart t p s → IsRow s ps r
    → IsRow t (p ∷ ps) r
then {t = t} {s = s} {p = p} {ps = ps} {r = r} h k = record { part = row-cons t s p ps r h k.part }

pub record Opened (t : Text) (p : Part) (ps : List Part) (r : Text) : Type 0 where
  pub seam : Text
  pub first : IsPart t p seam
  pub others : IsRow seam ps r

pub opened : {t : Text} {p : Part} {ps : List Part} {r : Text} → IsRow t (p ∷ ps) r
    → Opened t p ps r
opened {t = t} {p = p} {ps = ps} {r = r} h = let s = row-split t p ps r h.part in
    record { seam = s.seam; first = s.first; others = record { part = s.others } }

pub only : {t : Text} {p : Part} {r : Text} → IsRow t (p ∷ []) r → IsPart t p r
only {t = t} {p = p} {r = r} h = row-only t p r h.part
