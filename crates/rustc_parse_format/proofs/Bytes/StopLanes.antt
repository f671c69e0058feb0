-- The lanes of a block that are no stops.
use Rattle.std.proofs.Common.{◌≡◌, ◌<◌, ◌%◌, ◌^◌, ℕ, List, length, get_or, map, replicate}
use Rattle.std.proofs.Common.{bit_or, false, ltb, refl, subst, true}
use Rattle.std.specs.Int.{bit_at}
use Rattle.std.specs.Prelude.{◌==◌}
use Rattle.std.specs.Simd.Lanes.{zip2, mask_l, top}
use Rattle.std.proofs.Math.Bool.{or-true}
use Rattle.std.proofs.lemmas.Simd.{length-replicate, get_or-replicate}
use Rattle.rustc_parse_format.specs.Bytes.{is_no_stop}
use Rattle.rustc_parse_format.specs.declared.blocks.Stops.{Stops}
use Rattle.rustc_parse_format.proofs.Bytes.LaneBits.{clear-compared, clear-join, clear-lane}
use Rattle.rustc_parse_format.proofs.Bytes.LaneBits.{compared, equal, long, long-equal, long-join}
use Rattle.rustc_parse_format.proofs.Bytes.LaneBits.{other}

no_stop : (s : Stops) (b : ℕ) → ltb b s.low ≡ false → ltb s.high b ≡ false
    → (b == s.first) ≡ false → (b == s.second) ≡ false → (b == s.third) ≡ false
    → (b == s.fourth) ≡ false → is_no_stop s b ≡ true
no_stop s b under over p q r t = rw (under, over, p, q, r, t, or-true (s.high == 255)) refl

-- A lane whose bit is 0 is one of them.
pub lane-no_stop : (v : List ℕ) (s : Stops) (k : ℕ) → length v ≡ 16 → k < 16
    → bit_at
    (mask_l (map (top 7)
    (zip2 bit_or
    (zip2 bit_or
    (zip2 bit_or
    (zip2 bit_or
    (zip2 bit_or (compared ltb v (replicate 16 s.low)) (compared ltb (replicate 16 s.high) v))
    (equal v s.first)) (equal v s.second)) (equal v s.third)) (equal v s.fourth))) % 2 ^ 64) k ≡ 0
    → is_no_stop s (get_or v k 0) ≡ true
lane-no_stop v s k n l clear =
    let low = length-replicate {A = ℕ} 16 s.low in
    let high = length-replicate {A = ℕ} 16 s.high in
    let a = long ltb v (replicate 16 s.low) n low in
    let b = long ltb (replicate 16 s.high) v high n in
    let ab = long-join _ _ a b in
    let d = long-join _ (equal v s.first) ab (long-equal v s.first n) in
    let e = long-join _ (equal v s.second) d (long-equal v s.second n) in
    let f = long-join _ (equal v s.third) e (long-equal v s.third n) in
    let all = clear-lane _ k (long-join _ (equal v s.fourth) f (long-equal v s.fourth n)) l clear in
    let fourth = clear-join _ (equal v s.fourth) k f (long-equal v s.fourth n) l all in
    let third = clear-join _ (equal v s.third) k e (long-equal v s.third n) l fourth.0 in
    let second = clear-join _ (equal v s.second) k d (long-equal v s.second n) l third.0 in
    let first = clear-join _ (equal v s.first) k ab (long-equal v s.first n) l second.0 in
    let both = clear-join _ _ k a b l first.0 in
    let under = clear-compared ltb v (replicate 16 s.low) k n low l both.0 in
    let over = clear-compared ltb (replicate 16 s.high) v k high n l both.1 in
    let c : get_or (replicate {A = ℕ} 16 s.low) k 0 ≡ s.low = get_or-replicate 16 k s.low 0 l in
    let g : get_or (replicate {A = ℕ} 16 s.high) k 0 ≡ s.high = get_or-replicate 16 k s.high 0 l in
    no_stop s (get_or v k 0) (subst (λ x. ltb (get_or v k 0) x ≡ false) c under)
    (subst (λ x. ltb x (get_or v k 0) ≡ false) g over)
    (other v s.first k n l first.1) (other v s.second k n l second.1)
    (other v s.third k n l third.1) (other v s.fourth k n l fourth.1)
