-- The part of a list that has not been written yet.
use Rattle.std.proofs.Common.{◌≡◌, ℕ, ◌+◌, ◌-◌, ◌<◌, ◌≤◌, ◌⊎◌, inl, inr, List, length, drop, set}
use Rattle.std.proofs.Common.{sym, ap, ◌∙◌, arith, drop-drop}
use Rattle.std.proofs.lemmas.Bool.{cases_lt}
use Rattle.std.proofs.lemmas.List.{drop-set-lt}

keep_more : {R : Type 0} (xs ys : List R) (i : ℕ) → drop i xs ≡ drop i ys
    → drop (i + 1) xs ≡ drop (i + 1) ys
keep_more xs ys i e = sym (drop-drop 1 i xs) ∙ ap (λ l. drop 1 l) e ∙ drop-drop 1 i ys

keep_put : {R : Type 0} (xs ys : List R) (i : ℕ) (r : R) → drop i xs ≡ drop i ys
    → drop (i + 1) (set xs i r) ≡ drop (i + 1) ys
keep_put xs ys i r e = drop-set-lt (i + 1) xs i r (omega arith) ∙ keep_more xs ys i e

-- A record was put at the index `count`, if there is room.
pub kept_after : {R : Type 0} (old new orig : List R) (count : ℕ)
    → (count < length old → (r : R) × (new ≡ set old count r)) → (length old ≤ count → new ≡ old)
    → drop count old ≡ drop count orig → drop (count + 1) new ≡ drop (count + 1) orig
kept_after old new orig count put full h = by_room (cases_lt count (length old))
  where
    by_room : (count < length old) ⊎ (length old ≤ count) → drop (count + 1) new
        ≡ drop (count + 1) orig
    by_room (inl fits) = let (r, e) = put fits in rw e (keep_put old orig count r h)
    by_room (inr past) = rw (full past) (keep_more old orig count h)

pub still_after : {R : Type 0} (xs ys : List R) (j k : ℕ) → j ≤ k → drop j xs ≡ drop j ys
    → drop k xs ≡ drop k ys
still_after xs ys j k h e =
    let s : k ≡ j + (k - j) = omega arith in
    ap (λ n. drop n xs) s ∙ sym (drop-drop (k - j) j xs) ∙ ap (λ l. drop (k - j) l) e
    ∙ drop-drop (k - j) j ys ∙ ap (λ n. drop n ys) (sym s)
