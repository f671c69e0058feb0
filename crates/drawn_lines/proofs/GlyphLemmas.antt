-- Lemmas on texts that are written character by character.
use Rattle.std.proofs.Common.{◌≡◌, ℕ, ◌+◌, ◌-◌, ◌<◌, zero, suc, [], ◌∷◌, ◌++◌, drop, replicate}
use Rattle.std.proofs.Common.{refl, ap, sym, ◌∙◌, append_assoc, add-one, arith, encode_utf8_all}
use Rattle.std.proofs.Common.{length, length-append, false, ◌≤◌, ◌^◌, ◌/◌, ◌%◌}
use Rattle.std.specs.Prelude.{decimal, encode_utf8, ◌==◌}
use Rattle.std.proofs.lemmas.Fmt.{decimal_digit, decimal_step}
use Rattle.std.proofs.Math.Nat.{suc-sub-suc}
use Rattle.std.proofs.lemmas.Bool.Decides.{nat_tests}
use Rattle.std.proofs.lemmas.Str.{encodes-append, len_utf8_bounds, length-encode}
use Rattle.std.proofs.lemmas.List.{append-nil}
use Rattle.rustc_parse_format.specs.Characters.{Text}
use Rattle.drawn_lines.specs.Glyphs.{run, glyphs, glyph, glyph_count}

run-suc : (n c : ℕ) → run (suc n) c ≡ run n c ++ encode_utf8 c
run-suc zero c = append-nil (encode_utf8 c)
run-suc (suc n) c =
    ap (λ x. encode_utf8 c ++ x) (run-suc n c)
    ∙ sym (append_assoc (encode_utf8 c) (run n c) (encode_utf8 c))

-- One more character at the end.
pub run-more : (n c : ℕ) → run (n + 1) c ≡ run n c ++ encode_utf8 c
run-more n c = ap (λ k. run k c) (add-one n) ∙ run-suc n c

-- A run without its first characters, and what comes after it.
pub drop-run : (n s g : ℕ) (t : Text)
    → encode_utf8_all (drop s (replicate n g ++ t))
    ≡ run (n - s) g ++ encode_utf8_all (drop (s - n) t)
drop-run zero s g t =
    let a : zero - s ≡ zero = omega arith in
    let b : s - zero ≡ s = omega arith in
    rw (a, b) refl
drop-run (suc n) zero g t =
    let a : suc n - zero ≡ suc n = omega arith in
    let b : zero - suc n ≡ zero = omega arith in
    rw (a, b) (encodes-append (replicate (suc n) g) t)
drop-run (suc n) (suc s) g t = rw (suc-sub-suc n s, suc-sub-suc s n) (drop-run n s g t)

some-run : (n c : ℕ) → 0 < n → 0 < length (run n c)
some-run zero c h = absurd (omega (arith, h))
some-run (suc n) c h =
    omega (arith, length-append (encode_utf8 c) (run n c), length-encode c, len_utf8_bounds c)

-- Something is drawn of a text that begins with a character that is drawn.
pub some-drawn : (c : ℕ) (t : Text) → 0 < glyph_count c
    → (length (encode_utf8_all (glyphs (c ∷ t))) == 0) ≡ false
some-drawn c t h =
    let n = ap length (encodes-append (replicate (glyph_count c) (glyph c)) (glyphs t)) in
    let some = some-run (glyph_count c) (glyph c) h in
    let l : 0 < length (encode_utf8_all (glyphs (c ∷ t))) =
    omega (arith, n, length-append (run (glyph_count c) (glyph c)) (encode_utf8_all (glyphs t))) in
    grind (arith, nat_tests)

-- A run is not empty if it has a character.
pub run-some : (n c : ℕ) → 0 < n → (length (run n c) == 0) ≡ false
run-some n c h = let some = some-run n c h in grind (arith, nat_tests)

-- A character has bytes.
pub some-encoded : (c : ℕ) → (length (encode_utf8 c) == 0) ≡ false
some-encoded c =
    let a = length-encode c in
    let b = len_utf8_bounds c in
    grind (arith, nat_tests)

-- what `draws_nothing` needs
pub ruleset drawn_first = (some-drawn)

pub digits-one : (n : ℕ) → n < 10 → length (decimal n) ≡ 1
digits-one n h = ap length (decimal_digit n h)

pub digits-step : (n : ℕ) → 10 ≤ n → n < 2 ^ 64 → length (decimal n) ≡ length (decimal (n / 10)) + 1
digits-step n h l =
    ap length (decimal_step n h l)
    ∙ length-append (decimal (n / 10)) ((48 + n % 10) ∷ [])

-- the digits of a number
pub ruleset digit_steps = (digits-one, digits-step)
