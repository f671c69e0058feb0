-- Rising lists of exactly the numbers with some property.
use Rattle.std.proofs.Common.{IsTrue, nat_le, ◌≡◌, ◌↔◌, ℕ, ◌+◌, ◌<◌, ◌≤◌, true, List, [], ◌∷◌, ◌++◌}
use Rattle.std.proofs.Common.{inl, inr, subst, ap, arith, ◌&&◌}
use Rattle.std.specs.List.{Contains, filter}
use Rattle.std.proofs.lemmas.List.Elements.{Contains-get_or, Contains-push, Contains-push_cases}
use Rattle.std.proofs.lemmas.List.Elements.{Contains-append_left}
use Rattle.std.proofs.lemmas.List.Quantifiers.{all_pairs_push}
use Rattle.std.proofs.lemmas.List.Kept.{AllPairs-filter, AllPairs-from_increasing}
use Rattle.std.proofs.lemmas.Map.Keys.{IsStrictlyIncreasing-from_sorted}
use Rattle.std.proofs.lemmas.Bool.{leb-true, le-leb}
use Rattle.std.proofs.lemmas.Bool.Decides.{Decides-at, Decides-and}
use Rattle.std.proofs.lemmas.Cmp.{nat_cmp_total, nat_eq_equiv}
use Rattle.std.proofs.lemmas.Map.Lookups.{exact_unsigned}
use Rattle.std.proofs.lemmas.Map.Made.{is_member-Decides, is_member-filter}
use Rattle.std.proofs.lemmas.Map.Views.{btree_set_contains_iff, exact_unsigned_eq}
use Rattle.std.specs.Bool.{Decides}
use Rattle.std.specs.BTreeSet.{BTreeSet, IsOrdered, contains}
use Rattle.std.specs.Cmp.{unsigned_Decides}
use Rattle.std.specs.Ordering.{nat_cmp}
use Rattle.std.specs.Set.{is_member}
use Rattle.std.proofs.Math.Dec.{eqb}
use borrow.Author.Count.{below_more}
use Rattle.placeholder_check.specs.Entries.{Lists}

-- the same numbers, said in another way
pub Lists-same : (P Q : ℕ → Type 0) (xs : List ℕ) → ((n : ℕ) → P n ↔ Q n) → Lists P xs → Lists Q xs
Lists-same P Q xs same l =
    record {
      rises = l.rises;
      has = λ n. (λ h. (same n).0 ((l.has n).0 h), λ q. (l.has n).1 ((same n).1 q));
    }

-- no number is below 0
pub Lists-nothing : (P : ℕ → Type 0) → Lists (λ n. (n < 0) × P n) []
Lists-nothing P = record {
  rises = λ i j d a b. absurd (omega arith);
  has = λ n. (
    λ h. absurd (let b : h.0 < 0 = h.1 in omega arith),
    λ h. absurd (let b : n < 0 = h.0 in omega arith),
  );
}

-- one number more, which is one of them
pub Lists-push : (P : ℕ → Type 0) (i : ℕ) (xs : List ℕ) → Lists (λ n. (n < i) × P n) xs → P i
    → Lists (λ n. (n < i + 1) × P n) (xs ++ i ∷ [])
Lists-push P i xs l p = record {
  rises = all_pairs_push (λ x y. x < y) xs i l.rises
      (λ k d h. ((l.has _).0 (Contains-get_or xs k d h)).0);
  has = λ n. (
    λ h. elim (Contains-push_cases xs i n h) [
      | inl a ↦ (let b : n < i = ((l.has n).0 a).0 in omega arith, ((l.has n).0 a).1)
      | inr e ↦ (let s : i ≡ n = e in omega arith, subst P e p)
    ],
    λ h. below_more (λ k. P k → Contains (xs ++ i ∷ []) k) i
        (λ k b q. Contains-append_left xs (i ∷ []) k ((l.has k).1 (b, q)))
        (λ q. Contains-push xs i) n h.0 h.1,
  );
}

-- one number more, which is none of them
pub Lists-skip : (P : ℕ → Type 0) (i : ℕ) (xs : List ℕ) → Lists (λ n. (n < i) × P n) xs → (¬ P i)
    → Lists (λ n. (n < i + 1) × P n) xs
Lists-skip P i xs l not = record {
  rises = l.rises;
  has = λ n. (
    λ h. let b : n < i = ((l.has n).0 h).0 in (omega arith, ((l.has n).0 h).1),
    λ h. below_more (λ k. P k → Contains xs k) i (λ k b q. (l.has k).1 (b, q))
        (λ q. absurd (not q)) n h.0 h.1,
  );
}

Decides-leb : (a b : ℕ) → Decides (nat_le a b) (a ≤ b)
Decides-leb a b = (leb-true a b, le-leb a b)

-- those of a set from one on
pub Lists-from : (s : BTreeSet ℕ) (first : ℕ) → IsOrdered nat_cmp s →
    Lists (λ n. (first ≤ n) × (contains nat_cmp s n ≡ true)) (filter (λ n. nat_le first n) s.keys)
Lists-from s first ordered = record {
  rises = AllPairs-filter (λ x y. x < y) (λ n. nat_le first n) s.keys
      (AllPairs-from_increasing s.keys (IsStrictlyIncreasing-from_sorted s.keys ordered));
  has = λ n.
      let is : IsTrue (contains nat_cmp s n) ↔ Contains s.keys n =
      btree_set_contains_iff nat_cmp_total exact_unsigned s n in
      let kept : is_member eqb (filter (λ k. nat_le first k) s.keys) n
      ≡ (is_member eqb s.keys n && nat_le first n)
      = is_member-filter nat_eq_equiv (λ k. nat_le first k) n
      (λ x e. ap (λ k. nat_le first k) (exact_unsigned_eq n x e)) s.keys in
      let both : Decides (is_member eqb (filter (λ k. nat_le first k) s.keys) n)
      (Contains s.keys n × (first ≤ n))
      = Decides-at _ _ kept
      (Decides-and _ _ (is_member-Decides unsigned_Decides s.keys n) (Decides-leb first n)) in
      let found : Decides (is_member eqb (filter (λ k. nat_le first k) s.keys) n)
      (Contains (filter (λ k. nat_le first k) s.keys) n)
      = is_member-Decides unsigned_Decides (filter (λ k. nat_le first k) s.keys) n in (
        λ h. let b : Contains s.keys n × (first ≤ n) = both.0 (found.1 h) in
            (b.1, is.1 b.0),
        λ h. found.0 (both.1 (is.0 h.1, h.0)),
      );
}
