-- Lists that are empty, and tests that no element passes.
use Rattle.std.proofs.Common.{◌≡◌, ◌++◌, ℕ, suc, ◌<◌, Bool, true, false, cond, ◌||◌, List, [], ◌∷◌}
use Rattle.std.proofs.Common.{refl, ap, ◌∙◌, length, arith}
use Rattle.std.specs.List.{AllByRecursion, Contains, list_any}
use Rattle.std.proofs.lemmas.Bool.{or_from}
use Rattle.std.proofs.lemmas.List.Folds.{list_any_at}

-- an empty list is made of empty lists
pub left-nil : {A : Type 0} (xs ys : List A) → xs ++ ys ≡ [] → xs ≡ []
left-nil [] ys e = refl
left-nil (x ∷ xs) ys e = absurd (cc e)

pub right-nil : {A : Type 0} (xs ys : List A) → xs ++ ys ≡ [] → ys ≡ []
right-nil [] ys e = e
right-nil (x ∷ xs) ys e = absurd (cc e)

-- a choice of which the first case is not empty
pub else-nil : {A : Type 0} (b : Bool) (x : A) (xs ys : List A) → cond b (x ∷ xs) ys ≡ []
    → (b ≡ false) × (ys ≡ [])
else-nil true x xs ys e = absurd (cc e)
else-nil false x xs ys e = (refl, e)

-- no element passes
pub none-passes : {A : Type 0} (p : A → Bool) (x : A) (xs : List A) → p x ≡ false
    → list_any p xs ≡ false → list_any p (x ∷ xs) ≡ false
none-passes p x xs e f = or_from (p x) (list_any p xs) e f

-- an element that passes is there
pub passes : {A : Type 0} (p : A → Bool) (xs : List A) (x : A) → Contains xs x → p x ≡ true
    → list_any p xs ≡ true
passes p xs x c e = list_any_at p xs c.0 x c.1 (ap p c.2 ∙ e)

-- the head of a list, and what its tail has
pub here : {A : Type 0} (x : A) (xs : List A) → Contains (x ∷ xs) x
here x xs = (0, omega arith, refl)

pub there : {A : Type 0} (x y : A) (xs : List A) → Contains xs y → Contains (x ∷ xs) y
there x y xs c = (suc c.0, let h : c.0 < length xs = c.1 in omega arith, c.2)

-- each element of two lists, one after the other
pub all-left : {A : Type 0} (P : A → Type 0) (xs ys : List A) → AllByRecursion P (xs ++ ys)
    → AllByRecursion P xs
all-left P [] ys h = tt
all-left P (x ∷ xs) ys h = (h.0, all-left P xs ys h.1)

pub all-right : {A : Type 0} (P : A → Type 0) (xs ys : List A) → AllByRecursion P (xs ++ ys)
    → AllByRecursion P ys
all-right P [] ys h = h
all-right P (x ∷ xs) ys h = all-right P xs ys h.1

pub all-join : {A : Type 0} (P : A → Type 0) (xs ys : List A) → AllByRecursion P xs
    → AllByRecursion P ys → AllByRecursion P (xs ++ ys)
all-join P [] ys h k = k
all-join P (x ∷ xs) ys h k = (h.0, all-join P xs ys h.1 k)
