-- The members of a list that another list does not have, each once, one member after the other.
use Rattle.std.proofs.Common.{◌≡◌, ◌↔◌, ℕ, zero, suc, ◌+◌, ◌<◌, List, [], ◌∷◌, ◌++◌, length}
use Rattle.std.proofs.Common.{length-append, map, Some, subst, sym, arith, refl, ◌∙◌}
use Rattle.std.proofs.Common.{◌⊎◌, inl, inr}
use Rattle.std.specs.List.{All, Contains, slice_get}
use Rattle.std.proofs.lemmas.List.{map-append, take-append-le}
use Rattle.std.proofs.lemmas.List.Elements.{All-contains_itself, All-head, All-tail, All-weaker}
use Rattle.std.proofs.Math.Seq.{take-append_seam}
use Rattle.std.proofs.lemmas.Option.{slice_get_within}
use Rattle.placeholder_check.specs.Entries.{AreFirsts, IsFirst, Lists}
use Rattle.placeholder_check.proofs.Numbers.{Lists-same, Lists-push, Lists-skip}

-- an entry in front of another that is added, and that one
slice_get-front : {A : Type 0} (xs ys : List A) (k : ℕ) → k < length xs
    → slice_get (xs ++ ys) k ≡ slice_get xs k
slice_get-front [] ys k h = absurd (omega arith)
slice_get-front (x ∷ xs) ys zero h = refl
slice_get-front (x ∷ xs) ys (suc k) h = slice_get-front xs ys k (omega arith)

slice_get-end : {A : Type 0} (xs : List A) (x : A) → slice_get (xs ++ x ∷ []) (length xs) ≡ Some x
slice_get-end [] x = refl
slice_get-end (y ∷ xs) x = slice_get-end xs x

map-agree : {A B : Type 0} (f g : A → B) (xs : List A) → All (λ x. f x ≡ g x) xs
    → map f xs ≡ map g xs
map-agree f g [] h = refl
map-agree f g (x ∷ xs) h =
    let e : f x ≡ g x = All-head (λ x. f x ≡ g x) x xs h in
    let t : map f xs ≡ map g xs = map-agree f g xs (All-tail (λ x. f x ≡ g x) x xs h) in
    cc

some_same : {A : Type 0} {a b : A} → Some a ≡ Some b → a ≡ b
some_same e = cc

module _ {A : Type 0} (xs ys : List A) (x : A) where
  -- a first entry in front of another is one with it
  IsFirst-front : (k : ℕ) → (k < length xs) × IsFirst (xs ++ x ∷ []) ys k ↔ IsFirst xs ys k
  IsFirst-front k = (
    λ h. let b : k < length xs = h.0 in record {
      entry = h.1.entry;
      is_there = sym (slice_get-front xs (x ∷ []) k b) ∙ h.1.is_there;
      is_new = subst (λ t. ¬ Contains t h.1.entry)
          (take-append-le k xs (x ∷ []) (omega arith)) h.1.is_new;
      is_lacked = h.1.is_lacked;
    },
    λ f. let b : k < length xs = slice_get_within xs k f.entry f.is_there in (
      b,
      record {
        entry = f.entry;
        is_there = slice_get-front xs (x ∷ []) k b ∙ f.is_there;
        is_new = subst (λ t. ¬ Contains t f.entry)
            (sym (take-append-le k xs (x ∷ []) (omega arith))) f.is_new;
        is_lacked = f.is_lacked;
      },
    ),
  )

  -- all first entries are below the length
  IsFirst-all : (k : ℕ) → (k < length xs + 1) × IsFirst (xs ++ x ∷ []) ys k
      ↔ IsFirst (xs ++ x ∷ []) ys k
  IsFirst-all k = (
    λ h. h.1,
    λ f.
        let b : k < length (xs ++ x ∷ []) = slice_get_within (xs ++ x ∷ []) k f.entry f.is_there in
        (omega (arith, length-append xs (x ∷ [])), f),
  )

  -- the entries in front are the same
  entries-front : (ks : List ℕ) → Lists (IsFirst xs ys) ks
      → map (λ k. slice_get (xs ++ x ∷ []) k) ks ≡ map (λ k. slice_get xs k) ks
  entries-front ks l = map-agree (λ k. slice_get (xs ++ x ∷ []) k) (λ k. slice_get xs k) ks
      (All-weaker (Contains ks) (λ k. slice_get (xs ++ x ∷ []) k ≡ slice_get xs k)
      (λ k h. let f : IsFirst xs ys k = (l.has k).0 h in
      slice_get-front xs (x ∷ []) k (slice_get_within xs k f.entry f.is_there)) ks
      (All-contains_itself ks))

  -- the numbers of the first entries in front
  places-front : (ks : List ℕ) → Lists (IsFirst xs ys) ks
      → Lists (λ k. (k < length xs) × IsFirst (xs ++ x ∷ []) ys k) ks
  places-front ks l = Lists-same (IsFirst xs ys) (λ k. (k < length xs)
      × IsFirst (xs ++ x ∷ []) ys k) ks (λ k. ((IsFirst-front k).1, (IsFirst-front k).0)) l

  -- one entry more, which is a first one
  pub AreFirsts-push : (out : List A) → (¬ Contains xs x) → (¬ Contains ys x) → AreFirsts xs ys out
      → AreFirsts (xs ++ x ∷ []) ys (out ++ x ∷ [])
  AreFirsts-push out new lacked a = record {
    places = a.places ++ length xs ∷ [];
    are_all = Lists-same (λ k. (k < length xs + 1) × IsFirst (xs ++ x ∷ []) ys k)
        (IsFirst (xs ++ x ∷ []) ys) (a.places ++ length xs ∷ []) IsFirst-all
        (Lists-push (IsFirst (xs ++ x ∷ []) ys) (length xs) a.places
        (places-front a.places a.are_all)
        (record {
          entry = x;
          is_there = slice_get-end xs x;
          is_lacked = lacked;
          is_new = subst (λ t. ¬ Contains t x) (sym (take-append_seam xs (x ∷ []))) new;
        }));
    are_entries = map-append (λ k. slice_get (xs ++ x ∷ []) k) a.places (length xs ∷ [])
        ∙ rw (entries-front a.places a.are_all, a.are_entries, slice_get-end xs x)
        (sym (map-append (λ x. Some x) out (x ∷ [])));
  }

  -- one entry more, which is there already or which ys has
  pub AreFirsts-skip : (out : List A) → Contains xs x ⊎ Contains ys x → AreFirsts xs ys out
      → AreFirsts (xs ++ x ∷ []) ys out
  AreFirsts-skip out was a = record {
    places = a.places;
    are_all = Lists-same (λ k. (k < length xs + 1) × IsFirst (xs ++ x ∷ []) ys k)
        (IsFirst (xs ++ x ∷ []) ys) a.places IsFirst-all
        (Lists-skip (IsFirst (xs ++ x ∷ []) ys) (length xs) a.places
        (places-front a.places a.are_all)
        (λ f. let e : x ≡ f.entry = some_same (sym (slice_get-end xs x) ∙ f.is_there) in
        elim was [
          | inl h ↦ f.is_new (subst (λ t. Contains t f.entry) (sym (take-append_seam xs (x ∷ [])))
              (subst (λ y. Contains xs y) e h))
          | inr h ↦ f.is_lacked (subst (λ y. Contains ys y) e h)
        ]));
    are_entries = entries-front a.places a.are_all ∙ a.are_entries;
  }
