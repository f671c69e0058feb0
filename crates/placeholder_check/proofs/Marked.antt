-- The members of a set of indices: those that are marked, and the others after them.
use Rattle.std.proofs.Common.{◌≡◌, ◌↔◌, ℕ, ◌-◌, ◌<◌, ◌≤◌, Bool, true, false, ◌||◌, nat_le, List}
use Rattle.std.proofs.Common.{◌++◌, length, length-append, get_or, filter, arith, refl, sym, ◌∙◌}
use Rattle.std.proofs.Common.{◌⊎◌, inl, inr, ap, [], ◌∷◌, zero, suc}
use Rattle.std.specs.BTreeSet.{IsOrdered, contains}
use Rattle.std.specs.List.{AllPairs}
use Rattle.std.specs.Ordering.{nat_cmp}
use Rattle.std.proofs.lemmas.Bool.{cases_lt}
use Rattle.std.proofs.lemmas.List.{get_or_append_left, get_or-append_right}
use Rattle.std.proofs.lemmas.List.Elements.{Contains-append_left, Contains-append_right}
use Rattle.std.proofs.lemmas.List.Elements.{Contains-append_cases, Contains-get_or}
use Rattle.placeholder_check.specs.declared.indices.Indices.{Indices}
use Rattle.placeholder_check.specs.Entries.{Lists}
use Rattle.placeholder_check.specs.Collection.{is_noted}
use Rattle.placeholder_check.proofs.Numbers.{Lists-from, Lists-same}

-- numbers below another and then numbers from there on
module _ (P Q : ℕ → Type 0) (m : ℕ) (xs ys : List ℕ) (l : Lists (λ n. (n < m) × P n) xs)
    (r : Lists (λ n. (m ≤ n) × Q n) ys) where
  low : (i d : ℕ) → i < length xs → get_or (xs ++ ys) i d < m
  low i d h = rw (get_or_append_left xs ys d i h) (((l.has _).0 (Contains-get_or xs i d h)).0)

  high : (i d : ℕ) → length xs ≤ i → i < length (xs ++ ys) → m ≤ get_or (xs ++ ys) i d
  high i d h k = rw (get_or-append_right xs ys (length xs) i d refl h)
      (((r.has _).0 (Contains-get_or ys (i - length xs) d
      (omega (arith, length-append xs ys)))).0)

  rises-joined : AllPairs (λ x y. x < y) (xs ++ ys)
  rises-joined i j d h k = elim (cases_lt j (length xs)) [
    | inl b ↦ rw (get_or_append_left xs ys d i (omega arith), get_or_append_left xs ys d j b)
        (l.rises i j d h b)
    | inr b ↦ elim (cases_lt i (length xs)) [
      | inl a ↦ let x = low i d a in let y = high j d b k in omega arith
      | inr a ↦ rw (
        get_or-append_right xs ys (length xs) i d refl a,
        get_or-append_right xs ys (length xs) j d refl b,
      ) (r.rises (i - length xs) (j - length xs) d (omega arith)
          (omega (arith, length-append xs ys)))
    ]
  ]

  pub Lists-joined : Lists (λ n. ((n < m) × P n) ⊎ ((m ≤ n) × Q n)) (xs ++ ys)
  Lists-joined = record {
    rises = rises-joined;
    has = λ n. (
      λ h. elim (Contains-append_cases xs ys n h) [
        | inl a ↦ inl ((l.has n).0 a)
        | inr a ↦ inr ((r.has n).0 a)
      ],
      λ h. elim h [
        | inl a ↦ Contains-append_left xs ys n ((l.has n).1 a)
        | inr a ↦ Contains-append_right xs ys n ((r.has n).1 a)
      ],
    );
  }

unmarked : (xs : List Bool) (n : ℕ) → length xs ≤ n → get_or xs n false ≡ false
unmarked [] n h = refl
unmarked (x ∷ xs) zero h = absurd (omega arith)
unmarked (x ∷ xs) (suc n) h = unmarked xs n (omega arith)

-- after the marks, the members are the others
not_marked : (s : Indices) (n : ℕ) → length s.marks.items ≤ n
    → is_noted s n ≡ contains nat_cmp s.others n
not_marked s n h = ap (λ b. b || contains nat_cmp s.others n) (unmarked s.marks.items n h)

pub Lists-members : (s : Indices) (first end from : ℕ) (xs : List ℕ) → length s.marks.items ≤ end
    → first ≤ from → end ≤ from → ((n : ℕ) → n < from → (n < end) ⊎ (n < first))
    → IsOrdered nat_cmp s.others →
    Lists (λ n. (n < end) × ((first ≤ n) × (is_noted s n ≡ true))) xs →
    Lists (λ n. (first ≤ n) × (is_noted s n ≡ true))
    (xs ++ filter (λ n. nat_le from n) s.others.keys)
Lists-members s first end from xs h a b between ordered l =
    Lists-same _ (λ n. (first ≤ n) × (is_noted s n ≡ true)) _ same
    (Lists-joined (λ n. (first ≤ n) × (is_noted s n ≡ true))
    (λ n. contains nat_cmp s.others n ≡ true)
    from xs _ (Lists-same _ _ xs below l) (Lists-from s.others from ordered))
  where
    below : (n : ℕ) → (n < end) × ((first ≤ n) × (is_noted s n ≡ true))
        ↔ (n < from) × ((first ≤ n) × (is_noted s n ≡ true))
    below n = (
      λ h. let k : n < end = h.0 in (omega arith, h.1),
      λ h. let k : n < from = h.0 in let j : first ≤ n = h.1.0 in
          (elim (between n k) [ inl e ↦ e | inr e ↦ absurd (omega arith) ], h.1),
    )

    same : (n : ℕ) → ((n < from) × ((first ≤ n) × (is_noted s n ≡ true)))
        ⊎ ((from ≤ n) × (contains nat_cmp s.others n ≡ true)) ↔ (first ≤ n) × (is_noted s n ≡ true)
    same n = (
      λ k. elim k [
        | inl e ↦ e.1
        | inr e ↦ let g : from ≤ n = e.0 in (omega arith, not_marked s n (omega arith) ∙ e.1)
      ],
      λ k. elim (cases_lt n from) [
        | inl e ↦ inl (e, k)
        | inr e ↦ inr (e, sym (not_marked s n (omega arith)) ∙ k.1)
      ],
    )
