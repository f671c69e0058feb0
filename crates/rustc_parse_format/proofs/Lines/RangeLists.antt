-- Lists of ranges whose first members are kept apart from the others.
use Rattle.std.proofs.Common.{◌≡◌, ◌≢◌, ◌++◌, ◌∷◌, [], List, length, map, take, ℕ, suc, zero, ◌+◌}
use Rattle.std.proofs.Common.{◌≤◌, ◌<◌, ap, arith, length-append, refl, sym}
use Rattle.std.proofs.lemmas.List.{append-nil, length-map, length-take-le, take-map}
use Rattle.std.specs.declared.ops.Range.{Range}
use Rattle.rustc_parse_format.specs.Views.{pair}

pub take_all : {A : Type 0} (n : ℕ) (xs : List A) → length xs ≤ n → take n xs ≡ xs
take_all zero [] h = refl
take_all zero (x ∷ xs) h = absurd (omega (arith, h))
take_all (suc n) [] h = refl
take_all (suc n) (x ∷ xs) h = ap (λ ys. x ∷ ys) (take_all n xs (omega (arith, h)))

take_twice : {A : Type 0} (n m : ℕ) (xs : List A) → n ≤ m → take n (take m xs) ≡ take n xs
take_twice zero m xs h = refl
take_twice (suc n) zero xs h = absurd (omega (arith, h))
take_twice (suc n) (suc m) [] h = refl
take_twice (suc n) (suc m) (x ∷ xs) h = ap (λ ys. x ∷ ys) (take_twice n m xs (omega (arith, h)))

pub range_count : (few many : List (Range ℕ)) (held : ℕ) → held ≤ length few
    → length (map pair (take held few ++ many)) ≡ held + length many
range_count few many held h = omega (
  arith,
  length-map (take held few ++ many) pair,
  length-append (take held few) many,
  length-take-le held few h,
)

pub range_front : (few many : List (Range ℕ)) (held count : ℕ) → (held ≢ 0 → many ≡ [])
    → count < held →
    map pair (take count few ++ many) ≡ take count (map pair (take held few ++ many))
range_front few many held count e less =
    let none = e (λ zero. omega (arith, zero, less)) in
    rw (
      none,
      append-nil (take count few),
      append-nil (take held few),
      take-map pair count (take held few),
      take_twice count held few (omega (arith, less)),
    )
    refl

pub range_fronts : (few many : List (Range ℕ)) (held count : ℕ) → held ≤ length few
    → (held ≢ 0 → many ≡ []) → held ≤ count →
    map pair (take held few ++ take count many) ≡ take count (map pair (take held few ++ many))
range_fronts few many zero count h e more = sym (take-map pair count many)
range_fronts few many (suc held) count h e more =
    let none = e (λ z. omega (arith, z)) in
    let all : length (map pair (take (suc held) few)) ≤ count =
    omega (arith, length-map (take (suc held) few) pair, length-take-le (suc held) few h, more) in
    rw (none, take_all {A = Range ℕ} count [] (omega arith), append-nil (take (suc held) few))
    (sym (take_all count (map pair (take (suc held) few)) all))
