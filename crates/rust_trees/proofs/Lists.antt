-- Lists with a place in them.
use Rattle.std.proofs.Common.{◌≡◌, ◌++◌, ◌⊎◌, ◌+◌, List, [], ◌∷◌, inl, inr, refl, ap, sym, ◌∙◌}
use Rattle.std.proofs.Common.{length, length-append, arith}

abbrev rest : {A : Type 0} → List A → List A
rest [] = []
rest (x ∷ xs) = xs

abbrev first_or : {A : Type 0} → A → List A → A
first_or d [] = d
first_or d (x ∷ xs) = x

pub same-first : {A : Type 0} (a b : A) (v q : List A) → a ∷ v ≡ b ∷ q → a ≡ b
same-first a b v q e = ap (λ xs. first_or a xs) e

pub same-rest : {A : Type 0} (a b : A) (v q : List A) → a ∷ v ≡ b ∷ q → v ≡ q
same-rest a b v q e = ap (λ xs. rest xs) e

pub no-cons : {A : Type 0} {B : Type 0} (a : A) (v : List A) → [] ≡ a ∷ v → B
no-cons a v e =
    let h : 0 ≡ 1 + length v = ap (λ xs. length xs) e ∙ omega arith in
    absurd (omega (arith, h))

-- Two places in one list: the first one is in front, they are the same, or it is after.
pub data Order {A : Type 0} (u v : List A) (a : A) (p q : List A) (b : A) : Type 0 where
  Front : (r : List A) → p ≡ u ++ a ∷ r → v ≡ r ++ b ∷ q → Order u v a p q b
  Same : u ≡ p → a ≡ b → v ≡ q → Order u v a p q b
  After : (r : List A) → u ≡ p ++ b ∷ r → q ≡ r ++ a ∷ v → Order u v a p q b

order-more : {A : Type 0} (x y : A) (u v : List A) (a : A) (p q : List A) (b : A) → x ≡ y
    → Order u v a p q b → Order (x ∷ u) v a (y ∷ p) q b
order-more x y u v a p q b e (Front r h k) = Front r (rw (e, h) refl) k
order-more x y u v a p q b e (Same f g h) = Same (rw (e, f) refl) g h
order-more x y u v a p q b e (After r h k) = After r (rw (e, h) refl) k

pub order : {A : Type 0} (u v : List A) (a : A) (p q : List A) (b : A)
    → u ++ a ∷ v ≡ p ++ b ∷ q → Order u v a p q b
order [] v a [] q b e = Same refl (same-first a b v q e) (same-rest a b v q e)
order [] v a (y ∷ p) q b e =
    Front p (ap (λ c. c ∷ p) (sym (same-first a y v (p ++ b ∷ q) e)))
    (same-rest a y v (p ++ b ∷ q) e)
order (x ∷ u) v a [] q b e =
    After u (ap (λ c. c ∷ u) (same-first x b (u ++ a ∷ v) q e))
    (sym (same-rest x b (u ++ a ∷ v) q e))
order (x ∷ u) v a (y ∷ p) q b e =
    order-more x y u v a p q b (same-first x y (u ++ a ∷ v) (p ++ b ∷ q) e)
    (order u v a p q b (same-rest x y (u ++ a ∷ v) (p ++ b ∷ q) e))

pub length-at : {A : Type 0} (u v : List A) (a : A)
    → length (u ++ a ∷ v) ≡ length u + (1 + length v)
length-at u v a = length-append u (a ∷ v) ∙ ap (λ n. length u + n) (omega arith)

-- Two places with the same index are the same.
pub same-place : {A : Type 0} (u v : List A) (a : A) (p q : List A) (b : A)
    → u ++ a ∷ v ≡ p ++ b ∷ q → length u ≡ length p → (u ≡ p) × (a ≡ b) × (v ≡ q)
same-place {A = A} u v a p q b e l = by_order (order u v a p q b e)
  where
    by_order : Order u v a p q b → (u ≡ p) × (a ≡ b) × (v ≡ q)
    by_order (Front r h k) =
        absurd (omega (arith, l, ap (λ xs. length xs) h, length-at u r a))
    by_order (Same f g h) = (f, g, h)
    by_order (After r h k) =
        absurd (omega (arith, l, ap (λ xs. length xs) h, length-at p r b))

-- A place in a list with one more at its end: the end, or a place in front of it.
pub at-end : {A : Type 0} (u v : List A) (a : A) (w : List A) (x : A) → w ++ x ∷ [] ≡ u ++ a ∷ v
    → ((v ≡ []) × (a ≡ x) × (u ≡ w)) ⊎ ((r : List A) × (v ≡ r ++ x ∷ []) × (w ≡ u ++ a ∷ r))
at-end {A = A} u v a w x e = by_order (order u v a w [] x (sym e))
  where
    by_order : Order u v a w [] x
        → ((v ≡ []) × (a ≡ x) × (u ≡ w)) ⊎ ((r : List A) × (v ≡ r ++ x ∷ []) × (w ≡ u ++ a ∷ r))
    by_order (Front r h k) = inr (r, k, h)
    by_order (Same f g h) = inl (h, g, f)
    by_order (After r h k) =
        absurd (omega (arith, ap (λ xs. length xs) k, length-at r v a))
