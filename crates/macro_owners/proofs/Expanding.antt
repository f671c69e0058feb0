-- The expansion of a right side that hands on.
use Rattle.std.proofs.Common.{◌≡◌, ◌≤◌, ◌++◌, ◌⊎◌, ℕ, zero, suc, List, [], ◌∷◌}
use Rattle.std.proofs.Common.{Option, Some, None, true, false, inl, inr, refl, ap, sym, ◌∙◌}
use Rattle.std.proofs.Common.{append_assoc, arith, length}
use Rattle.std.specs.Prelude.{slice_get}
use Rattle.std.proofs.lemmas.Bool.{and_left, and_parts, cases_Bool, false≢true, or_cases}
use Rattle.rust_trees.specs.Leaves.{Leaf}
use Rattle.format_calls.specs.Marks.{is_mark, is_mark_of, is_word}
use Rattle.macro_owners.specs.Expansions.{expand}
use Rattle.macro_owners.specs.Words.{is_copy, is_same_word, is_star}
use Rattle.macro_owners.proofs.Marks.{one-mark, other-mark, word-mark, word-other}

pub expand-plain : (v : Option Leaf) (ts : List Leaf) (x : Leaf) (xs : List Leaf)
    → is_mark_of 36 (Some x) ≡ false → expand v ts 0 (x ∷ xs) ≡ x ∷ expand v ts 0 xs
expand-plain v ts x xs e =
    let f : is_copy (x ∷ xs) v 0 ≡ false = and_left _ _ e in rw f refl

pub expand-copy : (v : Option Leaf) (ts : List Leaf) (x : Leaf) (xs : List Leaf)
    → is_copy (x ∷ xs) v 0 ≡ true → expand v ts 0 (x ∷ xs) ≡ ts ++ expand v ts 5 xs
expand-copy v ts x xs e = rw e refl

record CopyParts (ys : List Leaf) (v : Option Leaf) : Type 0 where
  second : is_mark 36 ys 2 ≡ true
  third : is_same_word (slice_get ys 3) v ≡ true
  fourth : is_mark 41 ys 4 ≡ true
  fifth : is_star ys 5 ≡ true

copy-parts : (ys : List Leaf) (v : Option Leaf) → is_copy ys v 0 ≡ true → CopyParts ys v
copy-parts ys v e =
    let a = and_parts _ _ e in
    let b = and_parts _ _ a.1 in
    let c = and_parts _ _ b.1 in
    let u = and_parts _ _ c.0 in
    let d = and_parts _ _ c.1 in
    record { second = u.0; third = u.1; fourth = d.0; fifth = d.1 }

same-left : (x : Leaf) (v : Option Leaf) → is_same_word (Some x) v ≡ true → is_word x ≡ true
same-left x None e = absurd (false≢true e)
same-left x (Some y) e = (and_parts _ _ e).0

no-star : (x : Leaf) → (is_mark_of 42 (Some x) ≡ true → ⊥) → (is_mark_of 43 (Some x) ≡ true → ⊥)
    → (is_mark_of 42 (Some x) ≡ true) ⊎ (is_mark_of 43 (Some x) ≡ true) → ⊥
no-star x f g (inl e) = f e
no-star x f g (inr e) = g e

-- No copy goes on to a word and `!` after it.
copy-fits : (y : Leaf) (u : List Leaf) (n b : Leaf) (w : List Leaf) (v : Option Leaf)
    → CopyParts (y ∷ (u ++ n ∷ b ∷ w)) v → is_word n ≡ true → is_mark_of 33 (Some b) ≡ true
    → 5 ≤ length u
copy-fits y [] n b w v c p q = absurd (omega (arith, one-mark b 36 33 c.second q))
copy-fits y (a ∷ []) n b w v c p q = absurd (word-mark b 33 (same-left b v c.third) q)
copy-fits y (a ∷ d ∷ []) n b w v c p q = absurd (omega (arith, one-mark b 41 33 c.fourth q))
copy-fits y (a ∷ d ∷ f ∷ []) n b w v c p q =
    absurd (no-star b (λ e. absurd (omega (arith, one-mark b 42 33 e q)))
    (λ e. absurd (omega (arith, one-mark b 43 33 e q))) (or_cases _ _ c.fifth))
copy-fits y (a ∷ d ∷ f ∷ g ∷ []) n b w v c p q =
    absurd (no-star n (λ e. word-mark n 42 p e) (λ e. word-mark n 43 p e) (or_cases _ _ c.fifth))
copy-fits y (a ∷ d ∷ f ∷ g ∷ h ∷ u) n b w v c p q = omega arith

-- The expansion goes on with these tokens after others.
abbrev Reaches : Option Leaf → List Leaf → ℕ → List Leaf → List Leaf → Type 0
Reaches v ts k u w = (before : List Leaf) × (expand v ts k (u ++ w) ≡ before ++ expand v ts 0 w)

reach-one : (v : Option Leaf) (ts : List Leaf) (y : Leaf) (u w : List Leaf)
    → (CopyParts (y ∷ (u ++ w)) v → Reaches v ts 5 u w) → Reaches v ts 0 u w
    → (is_copy (y ∷ (u ++ w)) v 0 ≡ true) ⊎ (is_copy (y ∷ (u ++ w)) v 0 ≡ false)
    → Reaches v ts 0 (y ∷ u) w
reach-one v ts y u w f r (inl e) =
    let s = f (copy-parts (y ∷ (u ++ w)) v e) in
    (ts ++ s.0, rw e (ap (λ t. ts ++ t) s.1 ∙ sym (append_assoc ts s.0 (expand v ts 0 w))))
reach-one v ts y u w f r (inr e) = (y ∷ r.0, rw e (ap (λ t. y ∷ t) r.1))

pub reach : (v : Option Leaf) (ts : List Leaf) (k : ℕ) (u : List Leaf) (n b : Leaf) (w : List Leaf)
    → k ≤ length u → is_word n ≡ true → is_mark_of 33 (Some b) ≡ true
    → Reaches v ts k u (n ∷ b ∷ w)
reach v ts zero [] n b w h p q = ([], refl)
reach v ts (suc k) [] n b w h p q = absurd (omega (arith, h))
reach v ts zero (y ∷ u) n b w h p q =
    reach-one v ts y u (n ∷ b ∷ w)
    (λ c. reach v ts 5 u n b w (copy-fits y u n b w v c p q) p q)
    (reach v ts 0 u n b w (omega arith) p q) (cases_Bool (is_copy (y ∷ (u ++ n ∷ b ∷ w)) v 0))
reach v ts (suc k) (y ∷ u) n b w h p q = reach v ts k u n b w (omega (arith, h)) p q

-- The tokens of a copy and one more.
pub expand-given : (v : Option Leaf) (ts cs : List Leaf) (z : Leaf) → is_copy cs v 0 ≡ true
    → slice_get cs 6 ≡ Some z → is_mark_of 36 (Some z) ≡ false
    → (after : List Leaf) × (expand v ts 0 cs ≡ ts ++ z ∷ after)
expand-given v ts (c ∷ d ∷ f ∷ g ∷ h ∷ i ∷ y ∷ w) z e k o =
    let s : y ≡ z = cc in (
      expand v ts 0 w,
      expand-copy v ts c (d ∷ f ∷ g ∷ h ∷ i ∷ y ∷ w) e
          ∙ ap (λ t. ts ++ t) (rw s (expand-plain v ts z w o)),
    )
expand-given v ts cs z e k o = absurd cc

-- A call that is given a copy, after other tokens.
pub expand-call : (v : Option Leaf) (ts u cs : List Leaf) (n b o z : Leaf) → is_word n ≡ true
    → is_mark_of 33 (Some b) ≡ true → is_mark_of 36 (Some o) ≡ false → is_copy cs v 0 ≡ true
    → slice_get cs 6 ≡ Some z → is_mark_of 36 (Some z) ≡ false
    → (before after : List Leaf) × (expand v ts 0 (u ++ n ∷ b ∷ o ∷ cs)
    ≡ before ++ n ∷ b ∷ o ∷ (ts ++ z ∷ after))
expand-call v ts u cs n b o z p q r e k s =
    let t = reach v ts 0 u n b (o ∷ cs) (omega arith) p q in
    let g = expand-given v ts cs z e k s in
    let m : is_mark_of 36 (Some b) ≡ false = other-mark b 36 33 (λ f. omega (arith, f)) q in (
      t.0,
      g.0,
      t.1 ∙ ap (λ l. t.0 ++ l) (expand-plain v ts n (b ∷ o ∷ cs) (word-other n 36 p)
          ∙ ap (λ l. n ∷ l) (expand-plain v ts b (o ∷ cs) m
          ∙ ap (λ l. b ∷ l) (expand-plain v ts o cs r ∙ ap (λ l. o ∷ l) g.1))),
    )
