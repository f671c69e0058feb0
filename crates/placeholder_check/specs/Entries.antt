-- Lists that are determined by their members.
use Rattle.std.specs.Prelude.{◌≡◌, ◌↔◌, ℕ, ◌<◌, List, Some, map, take}
use Rattle.std.specs.List.{AllPairs, Contains, slice_get}

-- The list xs has exactly the numbers for which P holds, in strictly rising order.
pub record Lists (P : ℕ → Type 0) (xs : List ℕ) : Type 0 where
  pub rises : AllPairs (λ x y. x < y) xs
  pub has : (n : ℕ) → Contains xs n ↔ P n

-- The list xs has at the index k a member that it does not have before, and that ys does not have.
pub record IsFirst {A : Type 0} (xs ys : List A) (k : ℕ) : Type 0 where
  pub entry : A
  pub is_there : slice_get xs k ≡ Some entry
  pub is_new : ¬ Contains (take k xs) entry
  pub is_lacked : ¬ Contains ys entry

-- The list `out` has each member of xs that ys does not have, once, in the order of the first
-- occurrences in xs.
pub record AreFirsts {A : Type 0} (xs ys out : List A) : Type 0 where
  pub places : List ℕ
  pub are_all : Lists (IsFirst xs ys) places
  pub are_entries : map (λ k. slice_get xs k) places ≡ map (λ x. Some x) out
