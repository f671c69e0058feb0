-- Of the members of a list, each once, those that another list does not have.
use Rattle.std.proofs.Common.{◌≡◌, ◌↔◌, ℕ, ◌<◌, Bool, true, false, cond, not, ◌&&◌, List, [], ◌∷◌}
use Rattle.std.proofs.Common.{map}
use Rattle.std.proofs.Common.{filter, Option, Some, None, refl, sym, ap, ◌∙◌}
use Rattle.std.specs.Bool.{Decides}
use Rattle.std.specs.Cmp.{unsigned_Decides}
use Rattle.std.specs.List.{Contains, list_any, slice_get}
use Rattle.std.specs.Set.{is_member}
use Rattle.std.specs.Str.{bytes_eq}
use Rattle.std.proofs.Math.Dec.{eqb}
use Rattle.std.proofs.lemmas.Bool.Decides.{Decides-at, Decides-and, Decides-not, Decides-like}
use Rattle.std.proofs.lemmas.Bool.Decides.{not_from_Decides}
use Rattle.std.proofs.lemmas.Cmp.{nat_eq_equiv}
use Rattle.std.proofs.lemmas.List.Kept.{AllPairs-filter}
use Rattle.std.proofs.lemmas.Map.Made.{is_member-Decides, is_member-filter}
use Rattle.std.proofs.lemmas.Map.Views.{exact_unsigned_eq}
use Rattle.std.proofs.lemmas.Option.{same_Some}
use Rattle.std.proofs.lemmas.Slice.Eq.{bytes_eq-Decides}
use Rattle.rustc_parse_format.specs.Characters.{Text}
use Rattle.placeholder_check.specs.Entries.{AreFirsts, IsFirst, Lists}

module _ (known : Text → Bool) (ys : List Text)
    (same : (t : Text) → known t ≡ list_any (bytes_eq t) ys) where
  -- whether there is a text that is not known
  abbrev is_lacked : Option Text → Bool
  is_lacked None = false
  is_lacked (Some t) = not (known t)

  -- the places of those that are kept
  entries-step : (get : ℕ → Option Text) (k : ℕ) (ks : List ℕ) (t : Text)
      (ts : List Text) (b : Bool) → get k ≡ Some t → map get ks ≡ map (λ x. Some x) ts
      → map get (cond b (k ∷ ks) ks) ≡ map (λ x. Some x) (cond b (t ∷ ts) ts)
  entries-step get k ks t ts true e h = cc
  entries-step get k ks t ts false e h = h

  entries : (get : ℕ → Option Text) (ks : List ℕ) (ts : List Text)
      → map get ks ≡ map (λ x. Some x) ts
      → map get (filter (λ k. is_lacked (get k)) ks)
      ≡ map (λ x. Some x) (filter (λ t. not (known t)) ts)
  entries get [] [] h = refl
  entries get [] (t ∷ ts) h = absurd cc
  entries get (k ∷ ks) [] h = absurd cc
  entries get (k ∷ ks) (t ∷ ts) h =
      let here : get k ≡ Some t = cc in
      let there : map get ks ≡ map (λ x. Some x) ts = cc in
      rw here (entries-step get k _ t _ (not (known t)) here (entries get ks ts there))

  -- a first entry that is lacked
  lacked-Decides : (xs : List Text) (k : ℕ) (f : IsFirst xs [] k)
      → Decides (is_lacked (slice_get xs k)) (IsFirst xs ys k)
  lacked-Decides xs k f =
      rw f.is_there (Decides-like (not (known f.entry))
      (λ l. record { entry = f.entry; is_there = f.is_there; is_new = f.is_new; is_lacked = l })
      (λ g. rw (same_Some _ _ (sym f.is_there ∙ g.is_there)) g.is_lacked)
      (Decides-not _ (Decides-at _ _ (same f.entry)
      (is_member-Decides bytes_eq-Decides ys f.entry))))

  kept-has : (xs : List Text) (ks : List ℕ) → Lists (IsFirst xs []) ks → (k : ℕ)
      → Contains (filter (λ k. is_lacked (slice_get xs k)) ks) k ↔ IsFirst xs ys k
  kept-has xs ks l k =
      let p : ℕ → Bool = λ k. is_lacked (slice_get xs k) in
      let kept : is_member eqb (filter p ks) k ≡ (is_member eqb ks k && p k)
      = is_member-filter nat_eq_equiv p k (λ x e. ap p (exact_unsigned_eq k x e)) ks in
      let both : Decides (is_member eqb (filter p ks) k) (Contains ks k × (p k ≡ true))
      = Decides-at _ _ kept
      (Decides-and _ _ (is_member-Decides unsigned_Decides ks k) (λ e. e, λ e. e)) in
      let found = is_member-Decides unsigned_Decides (filter p ks) k in (
        λ h. let b = both.0 (found.1 h) in
            (lacked-Decides xs k ((l.has k).0 b.0)).0 b.1,
        λ g. let f : IsFirst xs [] k = record {
          entry = g.entry;
          is_there = g.is_there;
          is_new = g.is_new;
          is_lacked = not_from_Decides _ (is_member-Decides bytes_eq-Decides [] g.entry) refl;
        } in
            found.0 (both.1 ((l.has k).1 f, (lacked-Decides xs k f).1 g)),
      )

  pub AreFirsts-lacked : (xs ts : List Text) → AreFirsts xs [] ts
      → AreFirsts xs ys (filter (λ t. not (known t)) ts)
  AreFirsts-lacked xs ts a = record {
    places = filter (λ k. is_lacked (slice_get xs k)) a.places;
    are_all = record {
      rises = AllPairs-filter (λ x y. x < y) (λ k. is_lacked (slice_get xs k)) a.places
          a.are_all.rises;
      has = kept-has xs a.places a.are_all;
    };
    are_entries = entries (λ k. slice_get xs k) a.places ts a.are_entries;
  }
