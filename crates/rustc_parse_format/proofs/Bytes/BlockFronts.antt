-- A prefix of bytes that is extended by a prefix of the next block of sixteen.
use Rattle.std.proofs.Common.{◌≡◌, ◌+◌, ◌<◌, ◌≤◌, List, ℕ, zero, suc, Bool, true, length, take}
use Rattle.std.proofs.Common.{get_or}
use Rattle.std.proofs.Common.{sym, subst, ◌∙◌, arith}
use Rattle.std.specs.List.{list_all}
use Rattle.std.specs.Simd.Lanes.{chunk}
use Rattle.std.proofs.lemmas.Bool.{and_from}
use Rattle.std.proofs.lemmas.List.{take_more_same}
use Rattle.std.proofs.lemmas.List.Folds.{list_all_more}
use Rattle.std.proofs.lemmas.Simd.{get_or-chunk}
use Rattle.rustc_parse_format.specs.Bytes.{IsSharedFront}

more-pass : (p : ℕ → Bool) (s : List ℕ) (i n : ℕ) → i + n ≤ length s → list_all p (take i s) ≡ true
    → ((k : ℕ) → k < n → p (get_or s (i + k) 0) ≡ true)
    → list_all p (take (i + n) s) ≡ true
more-pass p s i zero l h each = let at : i ≡ i + 0 = omega arith in
    subst (λ j. list_all p (take j s) ≡ true) at h
more-pass p s i (suc n) l h each =
    let at : (i + n) + 1 ≡ i + suc n = omega arith in
    let small : i + n < length s = omega arith in
    let before = more-pass p s i n (omega arith) h (λ k l. each k (omega arith)) in
    subst (λ j. list_all p (take j s) ≡ true) at (list_all_more p s (i + n) 0 small
    ∙ and_from _ _ before (each n (omega arith)))

more-same : (s t : List ℕ) (i n : ℕ) → i + n ≤ length s → i + n ≤ length t → take i s ≡ take i t
    → ((k : ℕ) → k < n → get_or s (i + k) 0 ≡ get_or t (i + k) 0)
    → take (i + n) s ≡ take (i + n) t
more-same s t i zero l m h each = let at : i ≡ i + 0 = omega arith in
    subst (λ j. take j s ≡ take j t) at h
more-same s t i (suc n) l m h each =
    let at : (i + n) + 1 ≡ i + suc n = omega arith in
    let before = more-same s t i n (omega arith) (omega arith) h (λ k l. each k (omega arith)) in
    subst (λ j. take j s ≡ take j t) at (take_more_same s t (i + n) 0 (omega arith)
    (omega arith) before (each n (omega arith)))

pub block-pass : (p : ℕ → Bool) (s : List ℕ) (i n : ℕ) → i + 16 ≤ length s → n ≤ 16
    → list_all p (take i s) ≡ true
    → ((k : ℕ) → k < n → p (get_or (chunk i 16 s) k 0) ≡ true) → list_all p (take (i + n) s) ≡ true
block-pass p s i n l few h each =
    more-pass p s i n (omega arith) h
    (λ k below. subst (λ x. p x ≡ true) (get_or-chunk i 16 s k 0 (omega arith)) (each k below))

pub block-shared : (p : ℕ → Bool) (s t : List ℕ) (i n : ℕ) → i + 16 ≤ length s → i + 16 ≤ length t
    → n ≤ 16 → IsSharedFront p s t i
    → ((k : ℕ) → k < n → get_or (chunk i 16 s) k 0 ≡ get_or (chunk i 16 t) k 0)
    → ((k : ℕ) → k < n → p (get_or (chunk i 16 s) k 0) ≡ true)
    → IsSharedFront p s t (i + n)
block-shared p s t i n l m few f same each = record {
  within = omega arith;
  within_others = omega arith;
  same = more-same s t i n (omega arith) (omega arith) f.same
      (λ k below. sym (get_or-chunk i 16 s k 0 (omega arith))
      ∙ (same k below ∙ get_or-chunk i 16 t k 0 (omega arith)));
  pass = block-pass p s i n l few f.pass each;
}
