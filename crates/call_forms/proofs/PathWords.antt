-- The words of a path, from its last byte on.
use Prim.Native.Char.{code}
use Rattle.std.proofs.Common.{◌≡◌, ◌<◌, ◌≤◌, ◌+◌, ◌-◌, ◌∙◌, ℕ, suc, Bool, true, false, List, []}
use Rattle.std.proofs.Common.{◌∷◌, ap, arith, drop, length, reverse, sym, take}
use Rattle.std.specs.Prelude.{◌==◌, ◌&&◌, ◌||◌, slice_index, slice_range, if◌then◌else◌}
use Rattle.std.proofs.lemmas.List.{drop_more, reverse-append, take_more}
use Rattle.call_forms.specs.Paths.{has_known, is_in_path, is_known}

-- The bytes up to one, the last one first.
pub back-more : (bs : List ℕ) (n : ℕ) → 0 < n → n ≤ length bs
    → reverse (take n bs) ≡ slice_index bs (n - 1) ∷ reverse (take (n - 1) bs)
back-more bs n h k =
    let e : n ≡ n - 1 + 1 = omega (arith, h) in
    ap (λ m. reverse (take m bs)) e
    ∙ (ap (λ v. reverse v) (take_more bs (n - 1) 0 (omega (arith, h, k)))
    ∙ reverse-append (take (n - 1) bs) (slice_index bs (n - 1) ∷ []))

-- A word and the byte before it.
word-more : (bs : List ℕ) (n end : ℕ) → 0 < n → n ≤ end → end ≤ length bs
    → slice_range bs (n - 1) end ≡ slice_index bs (n - 1) ∷ slice_range bs n end
word-more bs n end h k l =
    let e : end - (n - 1) ≡ suc (end - n) = omega (arith, h, k) in
    let m : n - 1 + 1 ≡ n = omega (arith, h) in
    ap (λ i. take i (drop (n - 1) bs)) e
    ∙ (ap (λ v. take (suc (end - n)) v) (drop_more bs (n - 1) 0 (omega (arith, h, k, l)))
    ∙ ap (λ i. slice_index bs (n - 1) ∷ take (end - n) (drop i bs)) m)

-- One byte of a path, which comes before the word w.
known-step : (w bs : List ℕ) (n : ℕ) → 0 < n → n ≤ length bs
    → has_known w (reverse (take n bs))
    ≡ has_known w (slice_index bs (n - 1) ∷ reverse (take (n - 1) bs))
known-step w bs n h k = ap (λ v. has_known w v) (back-more bs n h k)

-- The byte belongs to the word.
pub known-word : (bs : List ℕ) (n end : ℕ) (r : Bool) → 0 < n → n ≤ end → end ≤ length bs
    → is_in_path (slice_index bs (n - 1)) ≡ true
    → has_known (slice_range bs n end) (reverse (take n bs)) ≡ r
    → has_known (slice_range bs (n - 1) end) (reverse (take (n - 1) bs)) ≡ r
known-word bs n end r h k l e f =
    let w = slice_range bs n end in
    let b = slice_index bs (n - 1) in
    let rest = reverse (take (n - 1) bs) in
    ap (λ v. has_known v rest) (word-more bs n end h k l)
    ∙ (sym (known-step w bs n h (omega (arith, k, l))
    ∙ ap (λ t. if t then has_known (b ∷ w) rest
    else (is_known w || ((b == code ":") && has_known [] rest))) e) ∙ f)

-- The byte is no part of a word.
known-past : (w bs : List ℕ) (n : ℕ) → 0 < n → n ≤ length bs
    → is_in_path (slice_index bs (n - 1)) ≡ false
    → has_known w (reverse (take n bs))
    ≡ (is_known w || ((slice_index bs (n - 1) == code ":")
    && has_known [] (reverse (take (n - 1) bs))))
known-past w bs n h k e =
    let b = slice_index bs (n - 1) in
    let rest = reverse (take (n - 1) bs) in
    known-step w bs n h k
    ∙ ap (λ t. if t then has_known (b ∷ w) rest
    else (is_known w || ((b == code ":") && has_known [] rest))) e

-- The path goes on before the word, or does not.
pub known-before : (w bs : List ℕ) (n : ℕ) (b : Bool) → 0 < n → n ≤ length bs
    → is_in_path (slice_index bs (n - 1)) ≡ false → is_known w ≡ false
    → (slice_index bs (n - 1) == code ":") ≡ b
    → has_known w (reverse (take n bs)) ≡ (b && has_known [] (reverse (take (n - 1) bs)))
known-before w bs n b h k e f g =
    let rest = reverse (take (n - 1) bs) in
    known-past w bs n h k e
    ∙ (ap (λ t. t || ((slice_index bs (n - 1) == code ":") && has_known [] rest)) f
    ∙ ap (λ t. t && has_known [] rest) g)
