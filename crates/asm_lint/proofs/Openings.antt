-- One token opens the pair that a token closes.
use Rattle.std.proofs.Common.{◌≡◌, ◌<◌, ◌≤◌, ◌⊎◌, ℕ, List, inl, inr, arith}
use Rattle.std.proofs.lemmas.Bool.{cases_lt}
use Rattle.rust_trees.specs.Forests.{IsPair}
use Rattle.rust_trees.specs.Leaves.{Leaf}
use Rattle.rust_trees.proofs.Nested.{nested}

pub opening-once : (xs : List Leaf) (m n c : ℕ) → IsPair xs m c → IsPair xs n c → m ≡ n
opening-once xs m n c p q = by_order (cases_lt m n) (cases_lt n m)
  where
    by_order : (m < n) ⊎ (n ≤ m) → (n < m) ⊎ (m ≤ n) → m ≡ n
    by_order (inl h) k =
        let e = q.ends in
        let l = nested xs m c n c p q h (omega (arith, e)) in absurd (omega (arith, l))
    by_order (inr h) (inl k) =
        let e = p.ends in
        let l = nested xs n c m c q p k (omega (arith, e)) in absurd (omega (arith, l))
    by_order (inr h) (inr k) = omega (arith, h, k)
