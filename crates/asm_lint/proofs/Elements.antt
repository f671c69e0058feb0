-- Elements of lists that are mapped.
use Rattle.std.proofs.Common.{◌≡◌, ◌++◌, ◌⊎◌, List, [], ◌∷◌, inl, inr, refl, subst, sym}
use Rattle.std.proofs.Common.{arith, map}
use Rattle.std.specs.Prelude.{Contains}
use Rattle.std.proofs.lemmas.List.Elements.{Contains-append_cases, Contains-append_left}
use Rattle.std.proofs.lemmas.List.Elements.{Contains-append_right}
use Rattle.std.specs.List.{All}
use Rattle.std.proofs.lemmas.List.{map-append}
use Rattle.std.proofs.lemmas.List.Elements.{All-push, Contains-push, Contains-push_cases}

pub nothing-in : {A B : Type 0} (x : A) → Contains [] x → B
nothing-in x h = absurd (omega (arith, h.1))

pub here : {A : Type 0} (x : A) (xs : List A) → Contains (x ∷ xs) x
here x xs = Contains-append_left (x ∷ []) xs x (Contains-push [] x)

pub after-here : {A : Type 0} (y : A) (ys : List A) (x : A) → Contains ys x → Contains (y ∷ ys) x
after-here y ys x h = Contains-append_right (y ∷ []) ys x h

in-first : {A : Type 0} (y : A) (ys : List A) (x : A) → Contains (y ∷ ys) x
    → (y ≡ x) ⊎ Contains ys x
in-first y ys x h = by_part (Contains-append_cases (y ∷ []) ys x h)
  where
    by_first : Contains [] x ⊎ (y ≡ x) → (y ≡ x) ⊎ Contains ys x
    by_first (inl k) = nothing-in x k
    by_first (inr e) = inl e

    by_part : Contains (y ∷ []) x ⊎ Contains ys x → (y ≡ x) ⊎ Contains ys x
    by_part (inl k) = by_first (Contains-push_cases [] y x k)
    by_part (inr k) = inr k

pub mapped-in : {A B : Type 0} (f : A → B) (xs : List A) (x : A) → Contains xs x
    → Contains (map f xs) (f x)
mapped-in f [] x h = nothing-in x h
mapped-in f (y ∷ ys) x h = by_first (in-first y ys x h) (λ k. mapped-in f ys x k)
  where
    by_first : (y ≡ x) ⊎ Contains ys x → (Contains ys x → Contains (map f ys) (f x))
        → Contains (f y ∷ map f ys) (f x)
    by_first (inl e) again = subst (λ v. Contains (f y ∷ map f ys) (f v)) e (here (f y) (map f ys))
    by_first (inr k) again = after-here (f y) (map f ys) (f x) (again k)

-- An element of the mapped list, with what it comes from.
pub record ComesFrom {A B : Type 0} (f : A → B) (xs : List A) (z : B) : Type 0 where
  pub from : A
  pub is_in : Contains xs from
  pub is_it : f from ≡ z

pub in-mapped : {A B : Type 0} (f : A → B) (xs : List A) (z : B) → Contains (map f xs) z
    → ComesFrom f xs z
in-mapped f [] z h = nothing-in z h
in-mapped f (y ∷ ys) z h = by_first (in-first (f y) (map f ys) z h) (λ k. in-mapped f ys z k)
  where
    by_first : (f y ≡ z) ⊎ Contains (map f ys) z → (Contains (map f ys) z → ComesFrom f ys z)
        → ComesFrom f (y ∷ ys) z
    by_first (inl e) again = record { from = y; is_in = here y ys; is_it = e }
    by_first (inr k) again =
        let c = again k in
        record { from = c.from; is_in = after-here y ys c.from c.is_in; is_it = c.is_it }

-- The reading of each element of two lists stays the same with one more of each.
pub mapped-more : {A B C D : Type 0} (f : A → D) (g : C → D) (seen : B → C) (xs zs : List A)
    (ys : List B) (x : A) (y : B) → zs ≡ xs ++ x ∷ [] → map f xs ≡ map g (map seen ys)
    → f x ≡ g (seen y) → map f zs ≡ map g (map seen (ys ++ y ∷ []))
mapped-more f g seen xs zs ys x y e h k =
    rw (
      e,
      map-append f xs (x ∷ []),
      h,
      k,
      map-append seen ys (y ∷ []),
      map-append g (map seen ys) (seen y ∷ []),
    ) refl

-- So does a property of all elements.
pub all-more : {A : Type 0} (P : A → Type 0) (xs zs : List A) (x : A) → zs ≡ xs ++ x ∷ []
    → All P xs → P x → All P zs
all-more P xs zs x e h p = subst (λ v. All P v) (sym e) (All-push P xs x h p)
