-- A literal is longer than its text and its hashes.
use Rattle.std.proofs.Common.{◌≡◌, ◌≤◌, ◌+◌, ◌*◌, ◌++◌, ℕ, List, [], ◌∷◌, Option, Some, None}
use Rattle.std.proofs.Common.{ap, sym, ◌∙◌, arith, chars, length, length-append, IsUtf8}
use Rattle.std.proofs.Common.{replicate}
use Rattle.std.proofs.lemmas.List.{length-replicate}
use Rattle.std.proofs.lemmas.Str.{encodes-chars, len_utf8_bounds}
use Rattle.rust_tokens.specs.Spans.{byte_length}
use Rattle.rust_tokens.proofs.Readings.{byte-length}
use Rattle.rustc_parse_format.specs.Characters.{Text}
use Rattle.rustc_parse_format.specs.Literal.{IsLiteral, raw_closing, raw_frame, raw_opening}
use Rattle.rustc_parse_format.specs.World.{hashes}

short-text : (t : Text) → length t ≤ byte_length t
short-text [] = omega arith
short-text (c ∷ t) =
    let l = (len_utf8_bounds c).0 in
    let m = short-text t in
    omega (arith, l, m)

short-chars : (bs : List ℕ) → IsUtf8 bs → length (chars bs) ≤ length bs
short-chars bs u =
    let s = short-text (chars bs) in
    let e = sym (byte-length (chars bs)) ∙ ap (λ t. length t) (encodes-chars bs u) in
    omega (arith, s, e)

raw-length : (n : ℕ) (t : Text) → 2 * n + 3 + length t ≡ length (raw_frame n t)
raw-length n t =
    let hashes : List ℕ = replicate n 35 in
    let quote : List ℕ = 34 ∷ [] in
    let h : length hashes ≡ n = length-replicate n 35 in
    let o : length (raw_opening n) ≡ length (114 ∷ hashes) + length quote =
    length-append (114 ∷ hashes) quote in
    let q : length (raw_closing n) ≡ length quote + length hashes = length-append quote hashes in
    let c : length (raw_opening n ++ t) ≡ length (raw_opening n) + length t =
    length-append (raw_opening n) t in
    let b : length (raw_frame n t) ≡ length (raw_opening n ++ t) + length (raw_closing n) =
    length-append (raw_opening n ++ t) (raw_closing n) in
    omega (arith, b, c, o, q, h)

pub short-hashes : (style : Option ℕ) (literal : List ℕ) (t : Text) → IsUtf8 literal
    → IsLiteral style (chars literal) t → 2 * hashes style ≤ length literal
short-hashes None literal t u h = omega arith
short-hashes (Some n) literal t u h =
    let a = raw-length n t in
    let b = ap (λ v. length v) h in
    let c = short-chars literal u in
    omega (arith, a, b, c)
