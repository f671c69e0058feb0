-- The arguments of a left side so far.
use Rattle.std.proofs.Common.{◌≡◌, ◌<◌, ◌≤◌, ◌+◌, ◌*◌, ◌⊎◌, ℕ, List, true}
use Rattle.std.proofs.Common.{inl, inr, sym, arith, subst}
use Rattle.std.specs.Prelude.{IsTrue, Option, Some, None, slice_get}
use Rattle.std.proofs.lemmas.Bool.{and_parts, cases_lt, cases_order, false≢true}
use Rattle.rust_trees.specs.Leaves.{Leaf}
use Rattle.format_calls.specs.Marks.{is_mark_of}
use Rattle.macro_owners.specs.Lefts.{IsLeft, is_argument, is_rest}
use Rattle.macro_owners.specs.Words.{is_name_of}
use Rattle.macro_owners.proofs.Marks.{word-mark}

abbrev pub Arguments : List Leaf → ℕ → ℕ → Type 0
Arguments xs from k = (n : ℕ) → n < k → IsTrue (is_argument xs (from + 5 * n))

pub arguments-more : (xs : List Leaf) (from k i : ℕ) → i ≡ from + 5 * k → Arguments xs from k
    → true ≡ is_argument xs i → Arguments xs from (k + 1)
arguments-more xs from k i e h f = λ n l. by_order n l (cases_lt n k)
  where
    by_order : (n : ℕ) → n < k + 1 → (n < k) ⊎ (k ≤ n) → IsTrue (is_argument xs (from + 5 * n))
    by_order n l (inl m) = h n m
    by_order n l (inr m) =
        subst (λ q. IsTrue (is_argument xs q)) {x = i} (omega (arith, e, l, m)) (sym f)

name-parenthesis : (o : Option Leaf) → is_name_of o ≡ true → is_mark_of 40 o ≡ true → ⊥
name-parenthesis None e f = false≢true e
name-parenthesis (Some x) e f = word-mark x 40 e f

-- An argument is not all further tokens.
argument-rest : (xs : List Leaf) (i : ℕ) → IsTrue (is_argument xs i) → IsTrue (is_rest xs i) → ⊥
argument-rest xs i e f =
    name-parenthesis (slice_get xs (i + 1)) (and_parts _ _ (and_parts _ _ e).1).0
    (and_parts _ _ (and_parts _ _ f).1).0

pub left-none : (xs : List Leaf) (from k i to : ℕ) → i ≡ from + 5 * k → Arguments xs from k
    → (i < to → IsTrue (is_argument xs i) → ⊥) → (i + 8 ≡ to → IsTrue (is_rest xs i) → ⊥) → (m : ℕ)
    → IsLeft xs from m to → ⊥
left-none xs from k i to e h stop last m l = by_order (cases_order m k)
  where
    by_order : (m ≡ k) ⊎ ((m < k) ⊎ (k < m)) → ⊥
    by_order (inl f) = let a = l.ends in
        last (omega (arith, e, f, a))
        (subst (λ q. IsTrue (is_rest xs q)) {x = from + 5 * m} (omega (arith, e, f)) l.rest)
    by_order (inr (inl f)) = argument-rest xs (from + 5 * m) (h m f) l.rest
    by_order (inr (inr f)) = let a = l.ends in
        stop (omega (arith, e, f, a))
        (subst (λ q. IsTrue (is_argument xs q)) {x = from + 5 * k} (sym e) (l.arguments k f))
