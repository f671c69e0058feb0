-- The definitions determine each list of a report.
use Rattle.std.proofs.Common.{◌≡◌, ◌↔◌, IsTrue, ℕ, ◌+◌, List, [], ◌∷◌, map, Some, arith, refl, sym}
use Rattle.std.proofs.Common.{ap, ◌∙◌}
use Rattle.std.specs.Bool.{Decides}
use Rattle.std.specs.BTreeSet.{BTreeSet, contains}
use Rattle.std.specs.List.{Contains, slice_get}
use Rattle.std.specs.List.Sorted.{IsStrictlySortedBy}
use Rattle.std.specs.Ordering.{nat_cmp}
use Rattle.std.proofs.lemmas.Bool.Decides.{same_from_decides}
use Rattle.std.proofs.lemmas.Cmp.{nat_cmp_total}
use Rattle.std.proofs.lemmas.Map.Keys.{sorted_from_strictly_increasing}
use Rattle.std.proofs.lemmas.Map.Lookups.{btree_set_from_contains, exact_unsigned}
use Rattle.std.proofs.lemmas.Map.Views.{btree_set_contains_iff}
use Rattle.rustc_parse_format.specs.Characters.{Text}
use Rattle.placeholder_check.specs.Uses.{Use}
use Rattle.placeholder_check.specs.Entries.{AreFirsts, IsFirst, Lists}
use Rattle.placeholder_check.specs.Report.{IsReport, Report}

-- a rising list of numbers, as a set has them
set : List ℕ → BTreeSet ℕ
set xs = record { keys = xs }

set-sorted : (P : ℕ → Type 0) (xs : List ℕ) → Lists P xs → IsStrictlySortedBy nat_cmp xs
set-sorted P xs l = sorted_from_strictly_increasing xs (λ k h. l.rises k (k + 1) 0 (omega arith) h)

pub Lists-unique : (P : ℕ → Type 0) (xs ys : List ℕ) → Lists P xs → Lists P ys → xs ≡ ys
Lists-unique P xs ys l r = btree_set_from_contains nat_cmp_total (record { keys = xs })
    (record { keys = ys }) (set-sorted P xs l) (set-sorted P ys r)
    (λ q. same_from_decides {P = P q} _ _ (has-Decides xs l q) (has-Decides ys r q)) exact_unsigned
  where
    has-Decides : (zs : List ℕ) → Lists P zs → (q : ℕ)
        → Decides (contains nat_cmp (record { keys = zs }) q) (P q)
    has-Decides zs z q =
        let is : IsTrue (contains nat_cmp (record { keys = zs }) q) ↔ Contains zs q
        = btree_set_contains_iff nat_cmp_total exact_unsigned (record { keys = zs }) q in
        (λ h. (z.has q).0 (is.0 h), λ p. is.1 ((z.has q).1 p))

somes-same : {A : Type 0} (xs ys : List A) → map (λ x. Some x) xs ≡ map (λ x. Some x) ys → xs ≡ ys
somes-same [] [] e = refl
somes-same [] (y ∷ ys) e = cc
somes-same (x ∷ xs) [] e = cc
somes-same (x ∷ xs) (y ∷ ys) e =
    let here : Some x ≡ Some y = cc in
    let there : map (λ x. Some x) xs ≡ map (λ x. Some x) ys = cc in
    let same : xs ≡ ys = somes-same xs ys there in
    cc

pub AreFirsts-unique : {A : Type 0} (xs ys out other : List A) → AreFirsts xs ys out
    → AreFirsts xs ys other → out ≡ other
AreFirsts-unique xs ys out other a b = somes-same out other
    (sym a.are_entries ∙ ap (λ ks. map (λ k. slice_get xs k) ks)
    (Lists-unique (IsFirst xs ys) a.places b.places a.are_all b.are_all) ∙ b.are_entries)

pub one-report : (us : List Use) (positional : ℕ) (names : List Text) (r s : Report)
    → IsReport us positional names r → IsReport us positional names s → r ≡ s
one-report us positional names r s a b =
    let missing : r.missing_index ≡ s.missing_index =
    Lists-unique _ _ _ a.missing_index b.missing_index in
    let unused : r.unused_index ≡ s.unused_index =
    Lists-unique _ _ _ a.unused_index b.unused_index in
    let missing_names : r.missing_name ≡ s.missing_name =
    AreFirsts-unique _ _ _ _ a.missing_name b.missing_name in
    let unused_names : r.unused_name ≡ s.unused_name =
    AreFirsts-unique _ _ _ _ a.unused_name b.unused_name in
    λ i. record {
      missing_index = missing i;
      missing_name = missing_names i;
      unused_index = unused i;
      unused_name = unused_names i;
    }
