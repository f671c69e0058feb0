-- A text has as many characters as bytes that begin one.
use Rattle.std.proofs.Common.{◌≡◌, ℕ, ◌+◌, ◌/◌, ◌≤◌, Bool, List, [], ◌∷◌, length, chars, IsUtf8}
use Rattle.std.proofs.Common.{refl, sym, ap, ◌∙◌, arith, true, false, nat_lt, cond}
use Rattle.std.specs.Prelude.{nat_le, ◌||◌}
use Rattle.std.specs.Fmt.{is_char_start}
use Rattle.std.specs.List.{count_by}
use Rattle.std.proofs.Math.Utf8.{encode, encodes, next}
use Rattle.std.proofs.lemmas.Bool.{cond_both}
use Rattle.std.proofs.lemmas.Bool.Decides.{nat_tests}
use Rattle.std.proofs.lemmas.List.Sums.{sum_by-append}
use Rattle.std.proofs.lemmas.Str.{encodes-chars}
use Rattle.rustc_parse_format.specs.Characters.{Text}

next-no_start : (x : ℕ) → is_char_start (next x) ≡ false
next-no_start x = grind (arith, nat_tests)

start-big : (b : ℕ) → 192 ≤ b → is_char_start b ≡ true
start-big b h = grind (arith, nat_tests)

-- the tests of the first byte and of those after it
two_bytes : (a b : Bool) → a ≡ true → b ≡ false → (0 + cond a 1 0) + cond b 1 0 ≡ 1
two_bytes a b e f = rw (e, f) refl

three_bytes : (a b d : Bool) → a ≡ true → b ≡ false → d ≡ false
    → ((0 + cond a 1 0) + cond b 1 0) + cond d 1 0 ≡ 1
three_bytes a b d e f g = rw (e, f, g) refl

four_bytes : (a b d k : Bool) → a ≡ true → b ≡ false → d ≡ false → k ≡ false
    → (((0 + cond a 1 0) + cond b 1 0) + cond d 1 0) + cond k 1 0 ≡ 1
four_bytes a b d k e f g h = rw (e, f, g, h) refl

one_start : (c : ℕ) → count_by is_char_start (encode c) ≡ 1
unfolding encode
one_start c =
    cond_both {A = List ℕ} (nat_lt c 128) _ _ (λ s. count_by is_char_start s ≡ 1)
    (λ small. ap (λ b. 0 + cond (b || nat_le 192 c) 1 0) small)
    (λ _. cond_both {A = List ℕ} (nat_lt c 2048) _ _ (λ s. count_by is_char_start s ≡ 1)
    (λ _. two_bytes _ _ (start-big (192 + c / 64) (omega arith)) (next-no_start c))
    (λ _. cond_both {A = List ℕ} (nat_lt c 65536) _ _ (λ s. count_by is_char_start s ≡ 1)
    (λ _. three_bytes _ _ _ (start-big (224 + c / 4096) (omega arith)) (next-no_start (c / 64))
    (next-no_start c))
    (λ _. four_bytes _ _ _ _ (start-big (240 + c / 262144) (omega arith)) (next-no_start (c / 4096))
    (next-no_start (c / 64)) (next-no_start c))))

starts : (t : Text) → count_by is_char_start (encodes t) ≡ length t
starts [] = refl
starts (c ∷ t) =
    sum_by-append (λ b. cond (is_char_start b) 1 0) (encode c) (encodes t)
    ∙ omega (arith, one_start c, starts t)

pub count-chars : (s : List ℕ) → IsUtf8 s → count_by is_char_start s ≡ length (chars s)
count-chars s u = ap (count_by is_char_start) (sym (encodes-chars s u)) ∙ starts (chars s)
