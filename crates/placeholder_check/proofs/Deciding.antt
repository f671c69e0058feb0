-- The lists of a report, computed. The worked examples are proved by them.
use Rattle.std.proofs.Common.{◌≡◌, ℕ, zero, suc, ◌+◌, ◌<◌, ◌≤◌, Bool, true, false, cond, not}
use Rattle.std.proofs.Common.{nat_le, ◌&&◌, ◌||◌, List, [], ◌∷◌, ◌++◌, length, map}
use Rattle.std.proofs.Common.{take, Option, Some, None, arith, refl, sym, subst, ◌∙◌}
use Rattle.std.specs.Bool.{Decides}
use Rattle.std.specs.List.{Contains, list_all, list_any, slice_get}
use Rattle.std.specs.Str.{bytes_eq}
use Rattle.std.proofs.lemmas.Bool.Decides.{Decides-and, Decides-not}
use Rattle.std.proofs.lemmas.Bool.{leb-true, le-leb}
use Rattle.std.proofs.Math.Dec.{eqb}
use Rattle.std.specs.Cmp.{unsigned_Decides}
use Rattle.std.proofs.lemmas.List.Elements.{All-contains}
use Rattle.std.proofs.lemmas.List.Sums.{AllPass-from_list_all}
use Rattle.std.proofs.lemmas.Map.Made.{is_member-Decides}
use Rattle.std.proofs.lemmas.Option.{same_Some, slice_get_within}
use Rattle.std.proofs.lemmas.Slice.Eq.{bytes_eq-Decides}
use Rattle.rustc_parse_format.specs.Characters.{Text}
use Rattle.placeholder_check.specs.Uses.{Use, ByIndex, ByName, used_names}
use Rattle.placeholder_check.specs.Entries.{AreFirsts, IsFirst, Lists}
use Rattle.placeholder_check.specs.Report.{IsReport, Report}
use Rattle.placeholder_check.specs.Collection.{has_index}
use Rattle.placeholder_check.proofs.Noting.{has_index-Decides}
use Rattle.placeholder_check.proofs.Numbers.{Lists-nothing, Lists-push, Lists-same, Lists-skip}

-- the numbers below another at which a test is true
abbrev pub below : (ℕ → Bool) → ℕ → List ℕ
below p zero = []
below p (suc n) = cond (p n) (below p n ++ n ∷ []) (below p n)

module _ (P : ℕ → Type 0) (p : ℕ → Bool) (d : (n : ℕ) → Decides (p n) (P n)) where
  below-next : (n : ℕ) (xs : List ℕ) (b : Bool) → p n ≡ b → Lists (λ k. (k < n) × P k) xs
      → Lists (λ k. (k < n + 1) × P k) (cond b (xs ++ n ∷ []) xs)
  below-next n xs true e l = Lists-push P n xs l ((d n).0 e)
  below-next n xs false e l = Lists-skip P n xs l (λ q. cc (e, (d n).1 q))

  pub below-Lists : (n : ℕ) → Lists (λ k. (k < n) × P k) (below p n)
  below-Lists zero = Lists-nothing P
  below-Lists (suc n) = let e : n + 1 ≡ suc n = omega arith in
      subst (λ m. Lists (λ k. (k < m) × P k) (cond (p n) (below p n ++ n ∷ []) (below p n))) e
      (below-next n (below p n) (p n) refl (below-Lists n))

-- whether at this place is a first entry that ys lacks
abbrev pub is_new : List Text → List Text → Option Text → Bool
is_new before ys None = false
is_new before ys (Some x) = not (list_any (bytes_eq x) before) && not (list_any (bytes_eq x) ys)

abbrev pub is_first : List Text → List Text → ℕ → Bool
is_first xs ys k = is_new (take k xs) ys (slice_get xs k)

first-Decides : (xs ys : List Text) (k : ℕ) (o : Option Text) → slice_get xs k ≡ o
    → Decides (is_new (take k xs) ys o) (IsFirst xs ys k)
first-Decides xs ys k None e = (λ h. cc, λ f. cc (f.is_there))
first-Decides xs ys k (Some x) e =
    let d = Decides-and _ _ (Decides-not _ (is_member-Decides bytes_eq-Decides (take k xs) x))
    (Decides-not _ (is_member-Decides bytes_eq-Decides ys x)) in (
      λ h. record { entry = x; is_there = e; is_new = (d.0 h).0; is_lacked = (d.0 h).1 },
      λ f. let same : f.entry ≡ x = same_Some _ _ (sym f.is_there ∙ e) in
          d.1 (
            subst (λ t. ¬ Contains (take k xs) t) same f.is_new,
            subst (λ t. ¬ Contains ys t) same f.is_lacked,
          ),
    )

pub firsts-decided : (xs ys out : List Text)
    → map (λ k. slice_get xs k) (below (is_first xs ys) (length xs)) ≡ map (λ x. Some x) out
    → AreFirsts xs ys out
firsts-decided xs ys out e = record {
  places = below (is_first xs ys) (length xs);
  are_all = Lists-same (λ k. (k < length xs) × IsFirst xs ys k) (IsFirst xs ys)
      (below (is_first xs ys) (length xs))
      (λ k. (λ h. h.1, λ f. (slice_get_within xs k f.entry f.is_there, f)))
      (below-Lists (IsFirst xs ys) (is_first xs ys)
      (λ k. first-Decides xs ys k (slice_get xs k) refl) (length xs));
  are_entries = e;
}

pub unused-decided : (us : List Use) (positional : ℕ) →
    Lists (λ n. (n < positional) × (¬ Contains us (ByIndex n)))
    (below (λ n. not (has_index us n)) positional)
unused-decided us positional = below-Lists (λ n. ¬ Contains us (ByIndex n))
    (λ n. not (has_index us n)) (λ n. Decides-not _ (has_index-Decides n us)) positional

-- whether the list has this use, if it is of a number that was not given
abbrev pub is_listed : ℕ → List ℕ → Use → Bool
is_listed positional xs (ByIndex n) = not (nat_le positional n) || list_any (eqb n) xs
is_listed positional xs (ByName w) = true

pub missing-decided : (us : List Use) (positional : ℕ) (xs : List ℕ) → length xs ≤ 1 →
    list_all (λ n. nat_le positional n && has_index us n) xs ≡ true
    → list_all (is_listed positional xs) us ≡ true →
    Lists (λ n. (positional ≤ n) × Contains us (ByIndex n)) xs
missing-decided us positional xs short found report = record {
  rises = λ i j d a b. absurd (omega arith);
  has = λ n. (
    λ h. (Decides-and _ _ (leb-true positional n, le-leb positional n) (has_index-Decides n us)).0
        (All-contains (λ k. (nat_le positional k && has_index us k) ≡ true) xs n
        (AllPass-from_list_all (λ k. nat_le positional k && has_index us k) xs found) h),
    λ h. let listed_here : is_listed positional xs (ByIndex n) ≡ true
        = All-contains (λ u. is_listed positional xs u ≡ true) us (ByIndex n)
        (AllPass-from_list_all (is_listed positional xs) us report) h.1 in
        let d : Decides (list_any (eqb n) xs) (Contains xs n) =
        is_member-Decides unsigned_Decides xs n in
        d.0 (rw (le-leb positional n h.0) at listed_here),
  );
}

-- a report, by computing; in the rows at most one number is missing
pub report-decided : (us : List Use) (positional : ℕ) (names : List Text) (r : Report)
    → length r.missing_index ≤ 1 →
    list_all (λ n. nat_le positional n && has_index us n) r.missing_index ≡ true
    → list_all (is_listed positional r.missing_index) us ≡ true →
    map (λ k. slice_get (used_names us) k)
    (below (is_first (used_names us) names) (length (used_names us)))
    ≡ map (λ x. Some x) r.missing_name →
    below (λ n. not (has_index us n)) positional ≡ r.unused_index →
    map (λ k. slice_get names k) (below (is_first names (used_names us)) (length names))
    ≡ map (λ x. Some x) r.unused_name →
    IsReport us positional names r
report-decided us positional names r short found report missing unused lacked = record {
  missing_index = missing-decided us positional r.missing_index short found report;
  unused_index = rw (← unused) (unused-decided us positional);
  missing_name = firsts-decided (used_names us) names r.missing_name missing;
  unused_name = firsts-decided names (used_names us) r.unused_name lacked;
}
