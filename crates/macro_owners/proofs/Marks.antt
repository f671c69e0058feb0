-- Tokens that are words or marks, and lists with a token at an index.
use Rattle.std.proofs.Common.{◌≡◌, ◌<◌, ◌+◌, ◌⊎◌, ℕ, zero, suc, List, [], ◌∷◌, Option}
use Rattle.std.proofs.Common.{Some, None, true, false, inl, inr, refl, ap, sym, ◌∙◌, arith}
use Rattle.std.proofs.Common.{drop, take}
use Rattle.std.specs.Prelude.{slice_get, slice_index}
use Rattle.std.proofs.lemmas.Bool.{and_parts, cases_Bool, eqb-true, false≢true}
use Rattle.rust_tokens.specs.declared.kinds.Kind.{Kind}
use Rattle.rust_tokens.specs.declared.kinds.Kind.TheVariants.{Punct}
use Rattle.rust_trees.specs.declared.sides.Side.TheVariants.{Neither}
use Rattle.rust_trees.specs.Leaves.{Leaf, side}
use Rattle.rust_trees.specs.Sides.{is_punct, side_of_mark}
use Rattle.format_calls.specs.Marks.{is_byte, is_ident, is_mark_of, is_word}

one-byte : (o : Option ℕ) (m n : ℕ) → is_byte m o ≡ true → is_byte n o ≡ true → m ≡ n
one-byte None m n e f = absurd (false≢true e)
one-byte (Some c) m n e f = sym (eqb-true c m e) ∙ eqb-true c n f

-- A token is one mark.
pub one-mark : (x : Leaf) (m n : ℕ) → is_mark_of m (Some x) ≡ true
    → is_mark_of n (Some x) ≡ true → m ≡ n
one-mark x m n e f =
    one-byte (slice_get x.text 0) m n (and_parts _ _ e).1 (and_parts _ _ f).1

-- A token that is one mark is no other.
pub other-mark : (x : Leaf) (m n : ℕ) → (m ≡ n → ⊥) → is_mark_of n (Some x) ≡ true
    → is_mark_of m (Some x) ≡ false
other-mark x m n f e = by_mark (cases_Bool (is_mark_of m (Some x)))
  where
    by_mark : (is_mark_of m (Some x) ≡ true) ⊎ (is_mark_of m (Some x) ≡ false)
        → is_mark_of m (Some x) ≡ false
    by_mark (inl g) = absurd (f (one-mark x m n g e))
    by_mark (inr g) = g

ident-punct : (k : Kind) → is_ident k ≡ true → is_punct k ≡ true → ⊥
ident-punct Punct e f = false≢true e
ident-punct k e f = false≢true f

-- A word is no mark.
pub word-mark : (x : Leaf) (m : ℕ) → is_word x ≡ true → is_mark_of m (Some x) ≡ true → ⊥
word-mark x m e f = ident-punct x.kind e (and_parts _ _ f).0

pub word-other : (x : Leaf) (m : ℕ) → is_word x ≡ true → is_mark_of m (Some x) ≡ false
word-other x m e = by_mark (cases_Bool (is_mark_of m (Some x)))
  where
    by_mark : (is_mark_of m (Some x) ≡ true) ⊎ (is_mark_of m (Some x) ≡ false)
        → is_mark_of m (Some x) ≡ false
    by_mark (inl f) = absurd (word-mark x m e f)
    by_mark (inr f) = f

dollar-byte : (t : List ℕ) → is_byte 36 (slice_get t 0) ≡ true
    → side_of_mark (slice_index t 0) ≡ Neither
dollar-byte [] e = absurd (false≢true e)
dollar-byte (c ∷ t) e = ap (λ m. side_of_mark m) (eqb-true c 36 e)

dollar-side : (x : Leaf) → is_mark_of 36 (Some x) ≡ true → side x ≡ Neither
dollar-side x e =
    let p = and_parts (is_punct x.kind) (is_byte 36 (slice_get x.text 0)) e in
    let h = p.0 in rw h (dollar-byte x.text p.1)

-- A delimiter is not `$`.
pub side-other : (x : Leaf) → (side x ≡ Neither → ⊥) → is_mark_of 36 (Some x) ≡ false
side-other x f = by_mark (cases_Bool (is_mark_of 36 (Some x)))
  where
    by_mark : (is_mark_of 36 (Some x) ≡ true) ⊎ (is_mark_of 36 (Some x) ≡ false)
        → is_mark_of 36 (Some x) ≡ false
    by_mark (inl e) = absurd (f (dollar-side x e))
    by_mark (inr e) = e

pub get-drop : (ys : List Leaf) (a m : ℕ) → slice_get (drop a ys) m ≡ slice_get ys (a + m)
get-drop ys zero m = ap (λ n. slice_get ys n) (omega arith)
get-drop [] (suc a) m = refl
get-drop (y ∷ ys) (suc a) m =
    get-drop ys a m ∙ ap (λ n. slice_get (y ∷ ys) n) {x = suc (a + m)} (omega arith)

pub get-take : (ys : List Leaf) (n m : ℕ) → m < n → slice_get (take n ys) m ≡ slice_get ys m
get-take ys zero m h = absurd (omega (arith, h))
get-take [] (suc n) m h = refl
get-take (y ∷ ys) (suc n) zero h = refl
get-take (y ∷ ys) (suc n) (suc m) h = get-take ys n m (omega (arith, h))

-- A token of a part of a list.
pub get-part : (xs : List Leaf) (s n a m i : ℕ) → a + m < n → i ≡ s + (a + m)
    → slice_get (drop a (take n (drop s xs))) m ≡ slice_get xs i
get-part xs s n a m i h e =
    get-drop (take n (drop s xs)) a m ∙ get-take (drop s xs) n (a + m) h
    ∙ get-drop xs s (a + m) ∙ ap (λ k. slice_get xs k) (sym e)

pub drop-step : (ys : List Leaf) (j : ℕ) (x : Leaf) → slice_get ys j ≡ Some x
    → drop j ys ≡ x ∷ drop (suc j) ys
drop-step [] j x e = absurd cc
drop-step (y ∷ ys) zero x e = let h : y ≡ x = cc in rw h refl
drop-step (y ∷ ys) (suc j) x e = drop-step ys j x e
