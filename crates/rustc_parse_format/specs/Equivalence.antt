-- Equality of values that a contract sees as equal.
use Rattle.std.specs.Prelude.{◌≡◌}

-- The function `see` returns the same for both values.
abbrev pub AreSame : {A V : Type 0} → (A → V) → A → A → Type 0
AreSame see a b = see a ≡ see b

-- The relation is reflexive, symmetric and transitive.
pub record IsEquivalence {A : Type 0} (Same : A → A → Type 0) : Type 0 where
  pub reflexive : (a : A) → Same a a
  pub symmetric : (a b : A) → Same a b → Same b a
  pub transitive : (a b c : A) → Same a b → Same b c → Same a c
