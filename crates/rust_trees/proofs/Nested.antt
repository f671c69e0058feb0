-- Pairs within pairs.
use Rattle.std.proofs.Common.{◌≡◌, ◌++◌, ℕ, ◌+◌, ◌<◌, List, [], ◌∷◌, Some}
use Rattle.std.proofs.Common.{ap, sym, ◌∙◌, length, arith}
use Rattle.std.proofs.lemmas.Option.{none-some}
use Rattle.rust_trees.specs.Leaves.{Leaf}
use Rattle.rust_trees.specs.Scans.{scan}
use Rattle.rust_trees.specs.Forests.{IsPair}
use Rattle.rust_trees.proofs.Lists.{Order, Front, Same, After, order, length-at}
use Rattle.rust_trees.proofs.Scanning.{scan-forest, stays-first_break}
use Rattle.rust_trees.proofs.Growing.{dead-inside}

-- A pair that opens within another one is closed there.
pub nested : (xs : List Leaf) (o c i j : ℕ) → IsPair xs o c → IsPair xs i j → o < i → i < c → j < c
nested xs o c i j p q h k =
    by_opening (order p.before (p.inside ++ p.closing ∷ p.after) p.opening q.before
    (q.inside ++ q.closing ∷ q.after) q.opening (sym p.joins ∙ q.joins))
  where
    by_closing : (r s : List Leaf) → p.inside ≡ r ++ q.opening ∷ s → length r + (o + 1) ≡ i
        → Order s p.after p.closing q.inside q.after q.closing → j < c
    by_closing r s e l (Front t f g) = absurd (none-some [] (sym (ap (λ v. scan (Some []) v) f
        ∙ stays-first_break (Some []) s (p.closing ∷ t) (dead-inside r s q.opening q.pairs.0
        (ap (λ v. scan (Some []) v) (sym e) ∙ scan-forest p.inside p.is_forest) q.pairs.1))
        ∙ scan-forest q.inside q.is_forest))
    by_closing r s e l (Same f g m) = absurd (none-some [] (sym (ap (λ v. scan (Some []) v) (sym f)
        ∙ dead-inside r s q.opening q.pairs.0
        (ap (λ v. scan (Some []) v) (sym e) ∙ scan-forest p.inside p.is_forest) q.pairs.1)
        ∙ scan-forest q.inside q.is_forest))
    by_closing r s e l (After t f g) =
        let n = ap (λ v. length v) f ∙ length-at q.inside t q.closing in
        let m = ap (λ v. length v) e ∙ length-at r s q.opening in
        omega (arith, n, m, l, p.ends, q.ends)

    by_place : (r : List Leaf) → q.before ≡ p.before ++ p.opening ∷ r → Order p.inside p.after
        p.closing r (q.inside ++ q.closing ∷ q.after) q.opening → j < c
    by_place r e (Front t f g) =
        let n = ap (λ v. length v) e ∙ length-at p.before r p.opening in
        let m = ap (λ v. length v) f ∙ length-at p.inside t p.closing in
        absurd (omega (arith, n, m, p.starts, p.ends, q.starts, k))
    by_place r e (Same f g m) =
        let n = ap (λ v. length v) e ∙ length-at p.before r p.opening in
        let l = ap (λ v. length v) f in
        absurd (omega (arith, n, l, p.starts, p.ends, q.starts, k))
    by_place r e (After t f g) =
        let n = ap (λ v. length v) e ∙ length-at p.before r p.opening in
        by_closing r t f (omega (arith, n, p.starts, q.starts))
        (order t p.after p.closing q.inside q.after q.closing (sym g))

    by_opening : Order p.before (p.inside ++ p.closing ∷ p.after) p.opening q.before
        (q.inside ++ q.closing ∷ q.after) q.opening → j < c
    by_opening (Front r f g) = by_place r f
        (order p.inside p.after p.closing r (q.inside ++ q.closing ∷ q.after) q.opening g)
    by_opening (Same f g m) =
        let n = ap (λ v. length v) f in
        absurd (omega (arith, n, p.starts, q.starts, h))
    by_opening (After r f g) =
        let n = ap (λ v. length v) f ∙ length-at q.before r q.opening in
        absurd (omega (arith, n, p.starts, q.starts, h))
