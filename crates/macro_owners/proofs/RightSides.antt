-- The uses of a right side so far.
use Rattle.std.proofs.Common.{◌≡◌, ◌<◌, ◌≤◌, ◌+◌, ◌⊎◌, ℕ, List, Option, Some, None, true, false}
use Rattle.std.proofs.Common.{◌-◌, inl, inr, refl, sym, arith, subst}
use Rattle.std.specs.Prelude.{Contains, IfSome, IsFalse, IsTrue, codes}
use Rattle.std.proofs.lemmas.Bool.{both_ways, cases_lt}
use Rattle.rust_trees.specs.Leaves.{Leaf}
use Rattle.format_calls.specs.declared.listing.Call.{Call}
use Rattle.format_calls.specs.declared.table.Rule.{Rule}
use Rattle.macro_owners.specs.declared.rights.Right.{Right}
use Rattle.macro_owners.specs.Rights.{HandsOn, IsHanded, variable_of}
use Rattle.macro_owners.specs.Words.{is_copy, is_use, is_written}

abbrev pub Uses : List Leaf → Right → ℕ → Type 0
Uses xs t i = IsTrue (is_use xs (variable_of xs t) i)

-- The uses before the token n.
abbrev pub UsesSoFar : List Call → List Leaf → Right → Option Rule → ℕ → Type 0
UsesSoFar cs xs t None n = (i : ℕ) → t.start ≤ i → i < n → Uses xs t i → ⊥
UsesSoFar cs xs t (Some r) n = ((u : ℕ) × (t.start ≤ u) × (u < t.end) × Uses xs t u)
    × ((i : ℕ) → t.start ≤ i → i < n → Uses xs t i → IsHanded cs xs t i r)

-- Before the token n no macro is defined.
abbrev pub PlainSoFar : List Leaf → Right → ℕ → Type 0
PlainSoFar xs t n = (i : ℕ) → t.start ≤ i → i < n → IsFalse (is_written xs i (codes "macro_rules"))

by-last : (P : ℕ → Type 0) (i n : ℕ) → i < n + 1 → (i < n → P i) → P n → P i
by-last P i n h f p = by_order (cases_lt i n)
  where
    by_order : (i < n) ⊎ (n ≤ i) → P i
    by_order (inl l) = f l
    by_order (inr l) = subst (λ k. P k) {x = n} (omega (arith, h, l)) p

pub plain-more : (xs : List Leaf) (t : Right) (n : ℕ)
    → false ≡ is_written xs n (codes "macro_rules") → PlainSoFar xs t n → PlainSoFar xs t (n + 1)
plain-more xs t n e p = λ i h l.
    by-last (λ k. IsFalse (is_written xs k (codes "macro_rules"))) i n l (p i h) (sym e)

pub uses-none : (cs : List Call) (xs : List Leaf) (t : Right) → UsesSoFar cs xs t None t.start
uses-none cs xs t = λ i h l u. absurd (omega (arith, h, l))

pub uses-skip : (cs : List Call) (xs : List Leaf) (t : Right) (o : Option Rule) (n : ℕ)
    → false ≡ is_use xs (variable_of xs t) n → UsesSoFar cs xs t o n → UsesSoFar cs xs t o (n + 1)
uses-skip cs xs t None n e s = λ i h l.
    by-last (λ k. Uses xs t k → ⊥) i n l (s i h) (λ u. both_ways _ (sym e) u)
uses-skip cs xs t (Some r) n e s = (
  s.0,
  λ i h l.
      by-last (λ k. Uses xs t k → IsHanded cs xs t k r) i n l (s.1 i h)
      (λ u. absurd (both_ways _ (sym e) u)),
)

pub uses-more : (cs : List Call) (xs : List Leaf) (t : Right) (o : Option Rule) (n : ℕ) (r : Rule)
    → t.start ≤ n → n < t.end → true ≡ is_use xs (variable_of xs t) n → IsHanded cs xs t n r
    → IfSome o (λ s. s ≡ r) → UsesSoFar cs xs t o n → UsesSoFar cs xs t (Some r) (n + 1)
uses-more cs xs t None n r a b e h k s = (
  (n, a, b, sym e),
  λ i l m.
      by-last (λ k. Uses xs t k → IsHanded cs xs t k r) i n m (λ f u. absurd (s i l f u)) (λ u. h),
)
uses-more cs xs t (Some q) n r a b e h k s = (
  (n, a, b, sym e),
  λ i l m.
      by-last (λ j. Uses xs t j → IsHanded cs xs t j r) i n m
      (λ f u. subst (λ v. IsHanded cs xs t i v) k (s.1 i l f u)) (λ u. h),
)

pub uses-all : (cs : List Call) (xs : List Leaf) (t : Right) (n : ℕ) (r : Rule) → t.end ≤ n
    → UsesSoFar cs xs t (Some r) n → PlainSoFar xs t n → HandsOn cs xs t r
uses-all cs xs t n r h s p = let u = s.0 in record {
  use_index = u.0;
  starts = u.1;
  ends = u.2;
  is_used = u.3;
  each = λ i l m. s.1 i l (omega (arith, h, m));
  plain = λ i l m. p i l (omega (arith, h, m));
}

pub uses-return : (cs : List Call) (xs : List Leaf) (t : Right) (o : Option Rule) (n : ℕ)
    → t.end ≤ n → UsesSoFar cs xs t o n → PlainSoFar xs t n → IfSome o (λ r. HandsOn cs xs t r)
uses-return cs xs t None n h s p = tt
uses-return cs xs t (Some r) n h s p = uses-all cs xs t n r h s p

-- A use that is a part of a call.
pub handed : (cs : List Call) (xs : List Leaf) (t : Right) (c : Call) (i : ℕ) → Contains cs c
    → c.name ≡ i - 5 → 5 ≤ i → c.close ≡ i + 4 → t.start ≤ c.name → c.close < t.end
    → true ≡ is_copy xs (variable_of xs t) (c.name + 3) → IsHanded cs xs t i c.rule
handed cs xs t c i k n l e a b f = record {
  call = c;
  is_known = k;
  rule = refl;
  starts = a;
  ends = b;
  place = omega (arith, n, l);
  length = omega (arith, n, l, e);
  copies = sym f;
}
