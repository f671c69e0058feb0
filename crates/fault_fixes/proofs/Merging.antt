-- Lists that are merged of two others.
use Rattle.std.proofs.Common.{◌++◌, List, [], ◌∷◌, refl, ap, inl, inr}
use Rattle.fault_fixes.specs.Losing.{IsMerged}

-- A list is merged of itself and nothing, in each order,
pub merged-first : {A : Type 0} (xs : List A) → IsMerged xs [] xs
merged-first [] = (refl, refl)
merged-first (x ∷ xs) = inl (xs, refl, merged-first xs)

pub merged-second : {A : Type 0} (ys : List A) → IsMerged [] ys ys
merged-second [] = (refl, refl)
merged-second (y ∷ ys) = inr (ys, refl, merged-second ys)

-- and two such lists, one after the other, are merged of what both are merged of.
pub merged-append : {A : Type 0} (xs ys zs us vs ws : List A) → IsMerged xs ys zs
    → IsMerged us vs ws → IsMerged (xs ++ us) (ys ++ vs) (zs ++ ws)
merged-append xs ys [] us vs ws h k = rw (h.0, h.1) k
merged-append xs ys (z ∷ zs) us vs ws h k =
    elim h [
      | inl x ↦ inl (x.0 ++ us, ap (λ l. l ++ us) x.1, merged-append x.0 ys zs us vs ws x.2 k)
      | inr y ↦ inr (y.0 ++ vs, ap (λ l. l ++ vs) y.1, merged-append xs y.0 zs us vs ws y.2 k)
    ]
