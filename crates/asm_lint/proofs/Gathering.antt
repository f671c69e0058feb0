-- The findings in elements, one after the other.
use Rattle.std.proofs.Common.{◌≡◌, ◌<◌, ◌+◌, ◌++◌, ◌∷◌, ℕ, List, [], ap, drop, get_or, length, map}
use Rattle.std.proofs.Common.{subst, sym, ◌∙◌}
use Rattle.std.proofs.lemmas.List.{append_assoc, append-nil, drop_more}
use Rattle.source_report.specs.declared.report.Finding.{Finding}

-- The findings so far, where R says which are those in elements: these are all, and those are left.
pub record Gathered {A : Type 0} (R : List A → List Finding → Type 0) (all left : List A)
    (old now : List Finding) : Type 0 where
  pub more : List Finding
  pub found : now ≡ old ++ more
  pub goes_on : (others : List Finding) → R left others → R all (more ++ others)

pub gathered-none : {A : Type 0} (R : List A → List Finding → Type 0) (all : List A)
    (old : List Finding) → Gathered R all all old old
gathered-none R all old = record {
  more = [];
  found = sym (append-nil old);
  goes_on = λ others h. h;
}

pub gathered-more : {A : Type 0} (R : List A → List Finding → Type 0) (all left rest : List A)
    (old now next : List Finding) → Gathered R all left old now
    → (xs : List Finding) × (next ≡ now ++ xs)
    × ((others : List Finding) → R rest others → R left (xs ++ others))
    → Gathered R all rest old next
gathered-more R all left rest old now next g x = record {
  more = g.more ++ x.0;
  found = x.1 ∙ (ap (λ v. v ++ x.0) g.found ∙ append_assoc old g.more x.0);
  goes_on = λ others h. subst (λ v. R all v) (sym (append_assoc g.more x.0 others))
      (g.goes_on (x.0 ++ others) (x.2 others h));
}

pub gathered-all : {A : Type 0} (R : List A → List Finding → Type 0) (all left : List A)
    (old now : List Finding) → R left [] → Gathered R all left old now
    → (xs : List Finding) × (now ≡ old ++ xs) × R all xs
gathered-all R all left old now n g = (
  g.more,
  g.found,
  subst (λ v. R all v) (append-nil g.more) (g.goes_on [] n),
)

-- One element more, where P says which are the findings in one.
pub plain-step : {A : Type 0} (R : List A → List Finding → Type 0)
    (P : A → List Finding → Type 0)
    (put : (a : A) (rest : List A) (xs others : List Finding) → P a xs → R rest others
    → R (a ∷ rest) (xs ++ others))
    (all : List A) (i : ℕ) (d : A) (old now next xs : List Finding) → i < length all
    → Gathered R all (drop i all) old now → next ≡ now ++ xs → P (get_or all i d) xs
    → Gathered R all (drop (i + 1) all) old next
plain-step R P put all i d old now next xs h g e p = gathered-more R _ _ _ _ _ _ g (
  xs,
  e,
  λ others k. subst (λ v. R v (xs ++ others)) (sym (drop_more all i d h))
      (put (get_or all i d) (drop (i + 1) all) xs others p k),
)

pub slice-step : {A B : Type 0} (f : A → B) (R : List B → List Finding → Type 0)
    (P : B → List Finding → Type 0)
    (put : (b : B) (rest : List B) (xs others : List Finding) → P b xs → R rest others
    → R (b ∷ rest) (xs ++ others))
    (all : List A) (i : ℕ) (d : A) (old now next xs : List Finding) → i < length all
    → Gathered R (map f all) (map f (drop i all)) old now → next ≡ now ++ xs
    → P (f (get_or all i d)) xs
    → Gathered R (map f all) (map f (drop (i + 1) all)) old next
slice-step f R P put all i d old now next xs h g e p = gathered-more R _ _ _ _ _ _ g (
  xs,
  e,
  λ others k. subst (λ v. R v (xs ++ others)) (sym (ap (map f) (drop_more all i d h)))
      (put (f (get_or all i d)) (map f (drop (i + 1) all)) xs others p k),
)
