-- A literal is longer than its hashes.
use Rattle.std.proofs.Common.{◌≡◌, ◌≤◌, ◌<◌, ◌+◌, ◌-◌, ◌++◌, ℕ, List, [], ◌∷◌, Option, Some, None}
use Rattle.std.proofs.Common.{ap, arith, chars, length, length-append, IsUtf8, replicate}
use Rattle.std.proofs.lemmas.List.{length-replicate}
use Rattle.std.proofs.lemmas.Str.{encodes-chars, length-le-encodes}
use Rattle.rustc_parse_format.specs.Characters.{Text}
use Rattle.rustc_parse_format.specs.Literal.{IsLiteral, raw_closing, raw_frame, raw_opening}
use Rattle.rustc_parse_format.specs.World.{hashes}

short-chars : (bs : List ℕ) → IsUtf8 bs → length (chars bs) ≤ length bs
short-chars bs u =
    let s = length-le-encodes (chars bs) in
    let e = ap (λ (t : List ℕ). length t) (encodes-chars bs u) in
    omega (arith, s, e)

raw-length : (n : ℕ) (t : Text) → n < length (raw_frame n t)
raw-length n t =
    let all : List ℕ = replicate n 35 in
    let quote : List ℕ = 34 ∷ [] in
    let h : length all ≡ n = length-replicate n 35 in
    let q : length (raw_closing n) ≡ length quote + length all = length-append quote all in
    let b : length (raw_frame n t) ≡ length (raw_opening n ++ t) + length (raw_closing n) =
    length-append (raw_opening n ++ t) (raw_closing n) in
    omega (arith, b, q, h)

pub short-hashes : (style : Option ℕ) (literal : List ℕ) (t : Text) → IsUtf8 literal
    → IsLiteral style (chars literal) t → hashes style ≤ length literal - 1
short-hashes None literal t u h = omega arith
short-hashes (Some n) literal t u h =
    let a = raw-length n t in
    let b = ap (λ (v : Text). length v) h in
    let c = short-chars literal u in
    omega (arith, a, b, c)
