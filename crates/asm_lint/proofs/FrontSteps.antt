-- The parts of the front of an item.
use Rattle.std.proofs.Common.{◌≡◌, ◌+◌, ℕ, List, false, inl, inr, true, ◌∙◌}
use Rattle.rust_trees.specs.Forests.{IsPair}
use Rattle.rust_trees.specs.Leaves.{Leaf}
use Rattle.asm_lint.specs.Attributes.{IsFront, opens_front}

-- No part stands where two tokens open a pair that is none.
pub none-opens : (xs : List Leaf) (i j : ℕ) → true ≡ opens_front xs i
    → ((n : ℕ) → IsPair xs (i + 1) n → ⊥) → IsFront xs i j → ⊥
none-opens xs i j e n (inl k) = n k.1.0 k.1.1
none-opens xs i j e n (inr k) = let f : true ≡ false = e ∙ k.0 in absurd cc
