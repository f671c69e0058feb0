-- The bits of the mask that compares two blocks, lane by lane.
use Rattle.std.proofs.Common.{◌≡◌, ◌%◌, ◌^◌, ◌<◌, ◌≤◌, ◌⊎◌, List, ℕ, Bool, true, false, length}
use Rattle.std.proofs.Common.{get_or, map, cond, eqb, replicate}
use Rattle.std.proofs.Common.{refl, ap, sym, ◌∙◌, arith, bit_or, inl, inr}
use Rattle.std.specs.Int.{bit_at}
use Rattle.std.specs.Prelude.{not, ◌||◌}
use Rattle.std.specs.Simd.Lanes.{zip2, mask_l, top}
use Rattle.std.proofs.lemmas.Bool.{cases_lt, eqb-true, le-leb, not-false}
use Rattle.std.proofs.lemmas.List.{get_or-map, length-map}
use Rattle.std.proofs.lemmas.Simd.{length-replicate, length-zip2, get_or-replicate, get_or-zip2}
use Rattle.std.proofs.lemmas.Simd.{mask_l-mod, bit_mask_l}
use Rattle.std.proofs.lemmas.Nat.Bits.{bit_at_or}

-- of what is put together, a bit that is 0 is 0 in both
pub clear-left : (a b k : ℕ) → bit_at (bit_or a b) k ≡ 0 → bit_at a k ≡ 0
clear-left a b k e = omega (arith, bit_at_or a b k)

pub clear-right : (a b k : ℕ) → bit_at (bit_or a b) k ≡ 0 → bit_at b k ≡ 0
clear-right a b k e = omega (arith, bit_at_or a b k)

-- a comparison of two blocks, lane by lane
abbrev pub compared : (ℕ → ℕ → Bool) → List ℕ → List ℕ → List ℕ
compared t xs ys = zip2 (λ a b. cond (t a b) 255 0) xs ys

-- its top bit is what counts of a lane
abbrev pub IsClear : List ℕ → ℕ → Type 0
IsClear m k = bit_at (get_or m k 0) 7 ≡ 0

top-clear : (a : ℕ) → cond {A = ℕ} (top 7 a) 1 0 ≡ 0 → bit_at a 7 ≡ 0
top-clear a e = of_test (cases_lt a 128)
  where
    of_test : (a < 128) ⊎ (128 ≤ a) → bit_at a 7 ≡ 0
    of_test (inl small) = omega arith
    of_test (inr big) = absurd (omega (arith, e, ap (λ b. cond {A = ℕ} b 1 0) (le-leb 128 a big)))

-- bit k of `to_bitmask` is that of lane k
pub clear-lane : (m : List ℕ) (k : ℕ) → length m ≡ 16 → k < 16
    → bit_at (mask_l (map (top 7) m) % 2 ^ 64) k ≡ 0 → IsClear m k
clear-lane m k n l clear =
    let mask = mask_l-mod (map (top 7) m) 64 (omega (arith, length-map m (top 7))) in
    let bit = bit_mask_l (map (top 7) m) k
    ∙ ap (λ b. cond b 1 0) (get_or-map (top 7) m k 0 false (omega arith)) in
    top-clear (get_or m k 0) (sym bit ∙ (ap (λ w. bit_at w k) (sym mask) ∙ clear))

pub clear-join : (a b : List ℕ) (k : ℕ) → length a ≡ 16 → length b ≡ 16 → k < 16
    → IsClear (zip2 bit_or a b) k → IsClear a k × IsClear b k
clear-join a b k p q l clear =
    let lane = get_or-zip2 bit_or a b k 0 0 0 (omega arith) (omega arith) in
    let both = ap (λ w. bit_at w 7) (sym lane) ∙ clear in (
      clear-left (get_or a k 0) (get_or b k 0) 7 both,
      clear-right (get_or a k 0) (get_or b k 0) 7 both,
    )

pub clear-compared : (t : ℕ → ℕ → Bool) (xs ys : List ℕ) (k : ℕ) → length xs ≡ 16 → length ys ≡ 16
    → k < 16 → IsClear (compared t xs ys) k
    → t (get_or xs k 0) (get_or ys k 0) ≡ false
clear-compared t xs ys k p q l clear =
    let lane = get_or-zip2 (λ a b. cond (t a b) 255 0) xs ys k 0 0 0 (omega arith) (omega arith) in
    unset (t (get_or xs k 0) (get_or ys k 0)) (ap (λ w. bit_at w 7) (sym lane) ∙ clear)
  where
    unset : (b : Bool) → bit_at (cond {A = ℕ} b 255 0) 7 ≡ 0 → b ≡ false
    unset true e = absurd (omega arith)
    unset false e = refl

-- the lanes in which two blocks differ, and those that are a byte
abbrev pub unequal : List ℕ → List ℕ → List ℕ
unequal xs ys = compared (λ a b. not (eqb a b)) xs ys

abbrev pub equal : List ℕ → ℕ → List ℕ
equal v b = compared eqb v (replicate 16 b)

pub other : (v : List ℕ) (b k : ℕ) → length v ≡ 16 → k < 16 → IsClear (equal v b) k
    → eqb (get_or v k 0) b ≡ false
other v b k n l clear =
    ap (eqb (get_or v k 0)) (sym (get_or-replicate 16 k b 0 l))
    ∙ clear-compared eqb v (replicate 16 b) k n (length-replicate 16 b) l clear

pub long : (t : ℕ → ℕ → Bool) (xs ys : List ℕ) → length xs ≡ 16 → length ys ≡ 16
    → length (compared t xs ys) ≡ 16
long t xs ys p q = length-zip2 (λ a b. cond (t a b) 255 0) xs ys (p ∙ sym q) ∙ p

pub long-join : (a b : List ℕ) → length a ≡ 16 → length b ≡ 16 → length (zip2 bit_or a b) ≡ 16
long-join a b p q = length-zip2 bit_or a b (p ∙ sym q) ∙ p

pub long-equal : (v : List ℕ) (b : ℕ) → length v ≡ 16 → length (equal v b) ≡ 16
long-equal v b n = long eqb v (replicate 16 b) n (length-replicate 16 b)

pub none-of : (v : List ℕ) (a b c k : ℕ) → length v ≡ 16 → k < 16 → IsClear (equal v a) k
    → IsClear (equal v b) k → IsClear (equal v c) k
    → not ((eqb (get_or v k 0) a || eqb (get_or v k 0) b) || eqb (get_or v k 0) c) ≡ true
none-of v a b c k n l p q r = rw (other v a k n l p, other v b k n l q, other v c k n l r) refl

-- so lane by lane, of two blocks
pub same-plain : (v x : List ℕ) (a b c k : ℕ) → length v ≡ 16 → length x ≡ 16 → k < 16
    → bit_at
    (mask_l (map (top 7)
    (zip2 bit_or (zip2 bit_or (zip2 bit_or (unequal v x) (equal v a)) (equal v b)) (equal v c)))
    % 2 ^ 64) k ≡ 0
    → (get_or v k 0 ≡ get_or x k 0)
    × (not ((eqb (get_or v k 0) a || eqb (get_or v k 0) b) || eqb (get_or v k 0) c) ≡ true)
same-plain v x a b c k n m l clear =
    let d = long (λ i j. not (eqb i j)) v x n m in
    let da = long-join (unequal v x) (equal v a) d (long-equal v a n) in
    let db = long-join _ (equal v b) da (long-equal v b n) in
    let all = clear-lane _ k (long-join _ (equal v c) db (long-equal v c n)) l clear in
    let last = clear-join _ (equal v c) k db (long-equal v c n) l all in
    let next = clear-join _ (equal v b) k da (long-equal v b n) l last.0 in
    let first = clear-join (unequal v x) (equal v a) k d (long-equal v a n) l next.0 in (
      eqb-true _ _ (not-false _ (clear-compared (λ i j. not (eqb i j)) v x k n m l first.0)),
      none-of v a b c k n l first.1 next.1 last.1,
    )
