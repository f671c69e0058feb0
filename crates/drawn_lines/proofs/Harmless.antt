-- Lemmas on texts of which a terminal obeys no character, but for line feeds.
use Rattle.std.proofs.Common.{◌≡◌, ◌<◌, ℕ, suc, zero, Bool, true, false, List, [], ◌∷◌, ◌++◌, ◌%◌}
use Rattle.std.proofs.Common.{◌+◌, ◌-◌, ◌/◌, arith, cond, drop, encode_utf8_all, refl, replicate}
use Rattle.std.proofs.lemmas.Bool.{and_parts, cond_both, or_parts}
use Rattle.std.proofs.lemmas.Bool.Decides.{nat_tests}
use Rattle.std.proofs.lemmas.Str.{NoCharPasses-append, encodes-IsAscii}
use Rattle.std.proofs.lemmas.Str.Ascii.{IsAscii-nil, IsAscii-cons}
use Rattle.std.specs.Prelude.{◌==◌, ◌||◌, decimal, if◌then◌else◌, nat_lt}
use Rattle.std.specs.Int.{is_in_range}
use Rattle.std.specs.Fmt.{digits, digits_onto, digit_glyph}
use Rattle.std.specs.List.{list_all}
use Rattle.std.specs.Str.{IsAscii, NonePass}
use Rattle.rustc_parse_format.specs.Characters.{Text}
use Rattle.drawn_lines.specs.Glyphs.{IsHarmless, glyph, glyph_count, glyphs, is_bidi_control}
use Rattle.drawn_lines.specs.Glyphs.{is_obeyed, is_printable, run, width}
use Rattle.drawn_lines.specs.Windows.{past_columns, within_columns}

-- two texts after each other
pub join : {a b : List ℕ} → IsHarmless a → IsHarmless b → IsHarmless (a ++ b)
join {a = a} {b = b} p q = NoCharPasses-append is_obeyed a b p q

-- one of two texts
pub either : (k : Bool) {a b : List ℕ} → IsHarmless a → IsHarmless b → IsHarmless (cond k a b)
either true p q = p
either false p q = q

-- the character is a printable one of ASCII, or a line feed
abbrev pub is_written : ℕ → Bool
is_written c = c == 10 || is_printable c

written-ascii : (c : ℕ) → is_written c ≡ true → c < 128
written-ascii c e = grind (arith, nat_tests)

pub written-harmless : (c : ℕ) → is_written c ≡ true → is_obeyed c ≡ false
unfolding is_bidi_control
written-harmless c e = grind (arith, nat_tests)

all-ascii : (bs : List ℕ) → list_all is_written bs ≡ true → IsAscii bs
all-ascii [] e = IsAscii-nil
all-ascii (c ∷ bs) e =
    let parts = and_parts (is_written c) (list_all is_written bs) e in
    IsAscii-cons c bs (written-ascii c parts.0) (all-ascii bs parts.1)

none-obeyed : (bs : List ℕ) → list_all is_written bs ≡ true → NonePass is_obeyed bs
none-obeyed [] e = tt
none-obeyed (c ∷ bs) e =
    let parts = and_parts (is_written c) (list_all is_written bs) e in
    (written-harmless c parts.0, none-obeyed bs parts.1)

-- a text of such characters
pub text : (bs : List ℕ) → list_all is_written bs ≡ true → IsHarmless bs
text bs e = (bs, encodes-IsAscii bs (all-ascii bs e), none-obeyed bs e)

pub none-append : (s t : Text) → NonePass is_obeyed s → NonePass is_obeyed t
    → NonePass is_obeyed (s ++ t)
none-append [] t p q = q
none-append (c ∷ s) t p q = (p.0, none-append s t p.1 q)

none-replicate : (n c : ℕ) → is_obeyed c ≡ false → NonePass is_obeyed (replicate n c)
none-replicate zero c e = tt
none-replicate (suc n) c e = (e, none-replicate n c e)

none-drop : (n : ℕ) (t : Text) → NonePass is_obeyed t → NonePass is_obeyed (drop n t)
none-drop zero t p = p
none-drop (suc n) [] p = tt
none-drop (suc n) (c ∷ t) p = none-drop n t p.1

-- a character again and again
pub run-harmless : (n c : ℕ) → is_obeyed c ≡ false → IsHarmless (run n c)
run-harmless n c e = (replicate n c, refl, none-replicate n c e)

-- the picture of a control character
picture : (c : ℕ) → c < 32 → is_obeyed (0x2400 + c) ≡ false
unfolding is_bidi_control
picture c l = grind (arith, nat_tests)

-- the picture of a deletion, and the replacement character
deletion : is_obeyed 0x2421 ≡ false
unfolding is_bidi_control
deletion = refl

replacement : is_obeyed 0xFFFD ≡ false
unfolding is_bidi_control
replacement = refl

-- a character that is none of those that are drawn as others
itself : (c : ℕ) → nat_lt c 32 ≡ false → (c == 127) ≡ false
    → (is_in_range 0x80 0x9F c || is_bidi_control c) ≡ false → is_obeyed c ≡ false
itself c l m e =
    let n : (c == 10) ≡ false = grind (arith, nat_tests) in
    let parts = or_parts (is_in_range 0x80 0x9F c) (is_bidi_control c) e in
    let p : is_in_range 0x80 0x9F c ≡ false = parts.0 in
    let o : is_in_range 127 159 c ≡ false = grind (arith, nat_tests) in
    rw (n, l, o, parts.1) refl

pub glyph-harmless : (c : ℕ) → is_obeyed (glyph c) ≡ false
unfolding glyph
glyph-harmless c =
    let late = is_in_range 0x80 0x9F c || is_bidi_control c in
    let above = if late then 0xFFFD else c in
    let from_deletion = if c == 127 then 0x2421 else above in
    let from_controls = if nat_lt c 32 then 0x2400 + c else from_deletion in
    let from_line_feed = if c == 10 then 10 else from_controls in
    cond_both (c == 9) 32 from_line_feed (λ g. is_obeyed g ≡ false)
    (λ yes. written-harmless 32 refl)
    (λ no. cond_both (c == 10) 10 from_controls (λ g. is_obeyed g ≡ false)
    (λ yes. written-harmless 10 refl)
    (λ no. cond_both (nat_lt c 32) (0x2400 + c) from_deletion (λ g. is_obeyed g ≡ false)
    (λ yes. picture c (grind (arith, nat_tests)))
    (λ more. cond_both (c == 127) 0x2421 above (λ g. is_obeyed g ≡ false) (λ yes. deletion)
    (λ other. cond_both late 0xFFFD c (λ g. is_obeyed g ≡ false) (λ yes. replacement)
    (itself c more other)))))

pub none-glyphs : (t : Text) → NonePass is_obeyed (glyphs t)
none-glyphs [] = tt
none-glyphs (c ∷ t) =
    none-append (replicate (glyph_count c) (glyph c)) (glyphs t)
    (none-replicate (glyph_count c) (glyph c) (glyph-harmless c)) (none-glyphs t)

-- one of two texts, a text without its first columns, and its first columns
pub none-cond : (b : Bool) (s t : Text) → NonePass is_obeyed s → NonePass is_obeyed t
    → NonePass is_obeyed (cond b s t)
none-cond true s t p q = p
none-cond false s t p q = q

pub none-past : (n : ℕ) (t : Text) → NonePass is_obeyed t → NonePass is_obeyed (past_columns n t)
none-past n [] p = tt
none-past n (c ∷ t) p = none-cond (n == 0) _ _ p (none-past (n - width c) t p.1)

pub none-within : (n : ℕ) (t : Text) → NonePass is_obeyed t
    → NonePass is_obeyed (within_columns n t)
none-within n [] p = tt
none-within n (c ∷ t) p =
    none-cond (nat_lt n (width c)) _ _ tt (p.0, none-within (n - width c) t p.1)

-- a text as it is drawn,
pub glyphs-harmless : (t : Text) → IsHarmless (encode_utf8_all (glyphs t))
glyphs-harmless t = (glyphs t, refl, none-glyphs t)

-- and without its first characters
pub rest_after-harmless : (n : ℕ) (t : Text) → IsHarmless (encode_utf8_all (drop n (glyphs t)))
rest_after-harmless n t = (drop n (glyphs t), refl, none-drop n (glyphs t) (none-glyphs t))

-- what `put_glyphs` needs
pub ruleset harmless_glyphs = (rest_after-harmless)

digit-written : (n : ℕ) → is_written (digit_glyph false (n % 10)) ≡ true
digit-written n = let l : n % 10 < 10 = omega arith in grind (arith, nat_tests)

onto-written : (k n : ℕ) (ds : List ℕ) → list_all is_written ds ≡ true
    → list_all is_written (digits_onto k 10 false n ds) ≡ true
onto-written zero n ds e = e
onto-written (suc k) n ds e =
    let more : list_all is_written (digit_glyph false (n % 10) ∷ ds) ≡ true =
    rw (digit-written n) e in
    by_test (n / 10 == 0) _ _ more (onto-written k (n / 10) (digit_glyph false (n % 10) ∷ ds) more)
  where
    by_test : (b : Bool) (xs ys : List ℕ) → list_all is_written xs ≡ true
        → list_all is_written ys ≡ true → list_all is_written (cond b xs ys) ≡ true
    by_test true xs ys p q = p
    by_test false xs ys p q = q

-- the digits of a number
pub decimal-harmless : (n : ℕ) → IsHarmless (decimal n)
unfolding digits
decimal-harmless n = text (digits_onto 64 10 false n []) (onto-written 64 n [] refl)
