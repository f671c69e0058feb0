-- Lemmas on characters that are drawn as they are: their bytes, and texts that begin with them, of
-- which the printable ones of ASCII take one column.
use Rattle.std.proofs.Common.{◌≡◌, ℕ, ◌+◌, ◌-◌, ◌<◌, ◌≤◌, ◌/◌, ◌⊎◌, inl, inr, zero, suc, List, []}
use Rattle.std.proofs.Common.{◌∷◌, ◌++◌, length, chars, drop, min, take, replicate, refl, ap, sym}
use Rattle.std.proofs.Common.{subst, ◌∙◌, arith, true, false, Bool, nat_lt, IsUtf8, IsCharBoundary}
use Rattle.std.proofs.Common.{encode_utf8_all, append-nil}
use Rattle.std.proofs.Math.Utf8.{encode}
use Rattle.std.proofs.lemmas.Grind.{flat_map-append}
use Rattle.std.proofs.lemmas.List.Folds.{list_all-append}
use Rattle.std.specs.List.{fold, list_all}
use Rattle.std.specs.Str.{IsAscii}
use Rattle.std.proofs.lemmas.Bool.{and_parts, cases_lt, false≢true}
use Rattle.std.proofs.lemmas.Bool.Decides.{nat_tests}
use Rattle.std.proofs.lemmas.List.{nil_from_length, take-append-drop, take-take, length-take}
use Rattle.std.proofs.lemmas.List.Sums.{fold-append}
use Rattle.std.proofs.lemmas.Str.{chars-append, chars-nil, chars-IsAscii, IsUtf8-from_ascii}
use Rattle.std.proofs.lemmas.Str.{IsUtf8-take, encode_ascii, encodes-chars, encodes-append}
use Rattle.std.proofs.lemmas.Str.{len_utf8_ascii, IsCharBoundary-from_take}
use Rattle.std.proofs.lemmas.Str.Ascii.{IsAscii-nil, IsAscii-cons}
use Rattle.rustc_parse_format.specs.Bytes.{is_no_stop}
use Rattle.rustc_parse_format.proofs.Grammar.Fronts.{list_all-weaker}
use Rattle.unicode_width.specs.Width.{char_width}
use Rattle.rustc_parse_format.specs.Characters.{Text}
use Rattle.drawn_lines.specs.Glyphs.{glyph, glyph_count, glyphs, is_drawn_as_is, is_printable}
use Rattle.drawn_lines.specs.Glyphs.{is_bidi_control, width}
use Rattle.drawn_lines.specs.Places.{spot_past, front_within}
use Rattle.drawn_lines.specs.declared.extent.Spot.{Spot}
use Rattle.drawn_lines.specs.declared.printable.TheConstants.{AS_IS, PRINTABLE}

-- the bytes before the first stop of each kind
pub pass-as-is : (s : List ℕ) → list_all (is_no_stop AS_IS) s ≡ true
    → list_all is_drawn_as_is s ≡ true
pass-as-is s e =
    list_all-weaker (is_no_stop AS_IS) is_drawn_as_is s (λ b h. grind (arith, nat_tests)) e

pub pass-printable_bytes : (s : List ℕ) → list_all (is_no_stop PRINTABLE) s ≡ true
    → list_all is_printable s ≡ true
pass-printable_bytes s e =
    list_all-weaker (is_no_stop PRINTABLE) is_printable s (λ b h. grind (arith, nat_tests)) e

small-printable : (c : ℕ) → is_printable c ≡ true → c < 128
small-printable c e = grind (arith, nat_tests)

pub ascii-printable : (f : List ℕ) → list_all is_printable f ≡ true → IsAscii f
ascii-printable [] e = IsAscii-nil
ascii-printable (c ∷ f) e =
    let parts = and_parts (is_printable c) (list_all is_printable f) e in
    IsAscii-cons c f (small-printable c parts.0) (ascii-printable f parts.1)

-- a prefix of a prefix is one of the text
pub front-printable : (s : List ℕ) (m n : ℕ) → n ≤ length (take m s)
    → list_all is_printable (take n (take m s)) ≡ true
    → (n ≤ length s) × (list_all is_printable (take n s) ≡ true)
front-printable s m n l e = (
  omega (arith, length-take m s),
  ap (list_all is_printable) (sym (take-take n m s (omega (arith, length-take m s)))) ∙ e,
)

-- a text may be cut after such a prefix,
pub cut-printable : (s : List ℕ) (n : ℕ) → IsUtf8 s → n ≤ length s
    → list_all is_printable (take n s) ≡ true → IsCharBoundary s n
cut-printable s n u l e =
    IsCharBoundary-from_take s n u l (IsUtf8-from_ascii (take n s) (ascii-printable (take n s) e))

-- and its characters are the bytes of it
pub parts-printable : (s : List ℕ) (n : ℕ) → list_all is_printable (take n s) ≡ true
    → chars s ≡ take n s ++ chars (drop n s)
parts-printable s n e =
    let a = ascii-printable (take n s) e in
    ap chars (sym (take-append-drop n s))
    ∙ (chars-append (take n s) (drop n s) (IsUtf8-from_ascii (take n s) a)
    ∙ ap (λ f. f ++ chars (drop n s)) (chars-IsAscii (take n s) a))

glyph-printable : (c : ℕ) → is_printable c ≡ true → glyph c ≡ c
unfolding glyph is_bidi_control
glyph-printable c e = grind (arith, nat_tests)

count-printable : (c : ℕ) → is_printable c ≡ true → glyph_count c ≡ 1
unfolding glyph_count
count-printable c e = grind (arith, nat_tests)

-- printable characters are drawn as they are,
pub glyphs-printable : (f : List ℕ) (t : Text) → list_all is_printable f ≡ true
    → encode_utf8_all (glyphs (f ++ t)) ≡ f ++ encode_utf8_all (glyphs t)
glyphs-printable [] t e = refl
glyphs-printable (c ∷ f) t e =
    let parts = and_parts (is_printable c) (list_all is_printable f) e in
    rw (
      count-printable c parts.0,
      glyph-printable c parts.0,
      encode_ascii c (small-printable c parts.0),
    ) (ap (λ x. c ∷ x) (glyphs-printable f t parts.1))

pub whole-printable : (s front back : List ℕ) → chars s ≡ front ++ chars back
    → length back ≡ 0 → list_all is_printable front ≡ true
    → encode_utf8_all (glyphs (chars s)) ≡ front
whole-printable s front back parts none e =
    let nil : chars back ≡ [] = ap chars (nil_from_length back none) ∙ chars-nil in
    ap (λ t. encode_utf8_all (glyphs t)) (parts ∙ ap (λ t. front ++ t) nil)
    ∙ (glyphs-printable front [] e ∙ append-nil front)

pub drop-printable : (f : List ℕ) (n : ℕ) (t : Text) → list_all is_printable f ≡ true
    → encode_utf8_all (drop n (glyphs (f ++ t)))
    ≡ drop (min n (length f)) f ++ encode_utf8_all (drop (n - min n (length f)) (glyphs t))
drop-printable [] n t e =
    let a : min n 0 ≡ 0 = omega arith in
    let b : n - 0 ≡ n = omega arith in
    rw (a, b) refl
drop-printable (c ∷ f) zero t e =
    let a : min 0 (suc (length f)) ≡ 0 = omega arith in
    rw a (glyphs-printable (c ∷ f) t e)
drop-printable (c ∷ f) (suc n) t e =
    let parts = and_parts (is_printable c) (list_all is_printable f) e in
    let a : min (suc n) (suc (length f)) ≡ suc (min n (length f)) = omega arith in
    let b : suc n - suc (min n (length f)) ≡ n - min n (length f) = omega arith in
    rw (a, b, count-printable c parts.0) (drop-printable f n t parts.1)

pub width-printable : (c : ℕ) → is_printable c ≡ true → width c ≡ 1
unfolding width char_width is_bidi_control
width-printable c e = grind (arith, nat_tests)

-- and each takes one column
past-printable : (p : Spot) (c : ℕ) → is_printable c ≡ true → p.is_indent ≡ false
    → spot_past p c
    ≡ record { line = p.line; chars = p.chars + 1; column = p.column + 1; is_indent = false }
unfolding spot_past
past-printable p c e i = rw (i, width-printable c e) (grind (arith, nat_tests))

-- the place with these parts
abbrev spot_of : ℕ → ℕ → ℕ → Bool → Spot
spot_of l m k b = record { line = l; chars = m; column = k; is_indent = b }

fold-from : (f : List ℕ) (l m k : ℕ) → list_all is_printable f ≡ true
    → fold spot_past (spot_of l m k false) f ≡ spot_of l (m + length f) (k + length f) false
fold-from [] l m k e =
    let a : m + 0 ≡ m = omega arith in
    let b : k + 0 ≡ k = omega arith in
    rw (a, b) refl
fold-from (c ∷ f) l m k e =
    let parts = and_parts (is_printable c) (list_all is_printable f) e in
    let a : m + suc (length f) ≡ (m + 1) + length f = omega arith in
    let b : k + suc (length f) ≡ (k + 1) + length f = omega arith in
    rw (past-printable (spot_of l m k false) c parts.0 refl, a, b)
    (fold-from f l (m + 1) (k + 1) parts.1)

pub fold-printable : (f : List ℕ) (p : Spot) → list_all is_printable f ≡ true → p.is_indent ≡ false
    → fold spot_past p f
    ≡ record {
      line = p.line;
      chars = p.chars + length f;
      column = p.column + length f;
      is_indent = false;
    }
fold-printable f p e i =
    let s : p ≡ spot_of p.line p.chars p.column false =
    ap (spot_of p.line p.chars p.column) i in
    ap (λ q. fold spot_past q f) s ∙ fold-from f p.line p.chars p.column e

-- so many bytes of a text that begins with printable characters
pub within-printable : (f : List ℕ) (n : ℕ) (t : Text) → list_all is_printable f ≡ true
    → length f ≤ n → front_within n (f ++ t) ≡ f ++ front_within (n - length f) t
within-printable [] n t e l = let a : n - 0 ≡ n = omega arith in rw a refl
within-printable (c ∷ f) n t e l =
    let parts = and_parts (is_printable c) (list_all is_printable f) e in
    let one = len_utf8_ascii c (small-printable c parts.0) in
    let a : n - suc (length f) ≡ (n - 1) - length f = omega arith in
    let b : nat_lt n 1 ≡ false = grind (arith, nat_tests) in
    rw (one, a, b) (ap (λ x. c ∷ x) (within-printable f (n - 1) t parts.1 (omega arith)))

-- from after printable characters the bytes that are left lead to the same place
pub pass-printable : (f : List ℕ) (n : ℕ) (t : Text) (p : Spot)
    → list_all is_printable f ≡ true → length f ≤ n
    → fold spot_past p (front_within n (f ++ t))
    ≡ fold spot_past (fold spot_past p f) (front_within (n - length f) t)
pass-printable f n t p e l =
    ap (fold spot_past p) (within-printable f n t e l)
    ∙ fold-append spot_past p f (front_within (n - length f) t)

ascii-as-is : (c : ℕ) → c < 128 → list_all is_drawn_as_is (encode c) ≡ true
    → is_drawn_as_is c ≡ true
ascii-as-is c l e =
    (and_parts (is_drawn_as_is c) true
    (sym (ap (list_all is_drawn_as_is) (encode_ascii c l)) ∙ e)).0

-- the first byte of a character of two bytes, and of one of three
first-of-two : (c : ℕ) → 128 ≤ c → c < 2048 → list_all is_drawn_as_is (encode c) ≡ true
    → is_drawn_as_is (192 + c / 64) ≡ true
unfolding encode
first-of-two c l m e =
    let a : nat_lt c 128 ≡ false = grind (arith, nat_tests) in
    let b : nat_lt c 2048 ≡ true = grind (arith, nat_tests) in
    let d = rw (a, b) at e in
    (and_parts (is_drawn_as_is (192 + c / 64)) _ d).0

first-of-three : (c : ℕ) → 2048 ≤ c → c < 65536 → list_all is_drawn_as_is (encode c) ≡ true
    → is_drawn_as_is (224 + c / 4096) ≡ true
unfolding encode
first-of-three c l m e =
    let a : nat_lt c 128 ≡ false = grind (arith, nat_tests) in
    let b : nat_lt c 2048 ≡ false = grind (arith, nat_tests) in
    let d : nat_lt c 65536 ≡ true = grind (arith, nat_tests) in
    let f = rw (a, b, d) at e in
    (and_parts (is_drawn_as_is (224 + c / 4096)) _ f).0

-- the blocks of characters that are not drawn as they are
not-80 : (c : ℕ) → 128 ≤ c → c < 192 → list_all is_drawn_as_is (encode c) ≡ true → ⊥
not-80 c l m e =
    let a : 192 + c / 64 ≡ 0xC2 = omega arith in
    absurd (false≢true
    (subst (λ b. is_drawn_as_is b ≡ true) a (first-of-two c l (omega arith) e)))

not-600 : (c : ℕ) → 0x600 ≤ c → c < 0x640 → list_all is_drawn_as_is (encode c) ≡ true → ⊥
not-600 c l m e =
    let a : 192 + c / 64 ≡ 0xD8 = omega arith in
    absurd (false≢true
    (subst (λ b. is_drawn_as_is b ≡ true) a (first-of-two c (omega arith) (omega arith) e)))

not-2000 : (c : ℕ) → 0x2000 ≤ c → c < 0x3000 → list_all is_drawn_as_is (encode c) ≡ true
    → ⊥
not-2000 c l m e =
    let a : 224 + c / 4096 ≡ 0xE2 = omega arith in
    absurd (false≢true
    (subst (λ b. is_drawn_as_is b ≡ true) a (first-of-three c (omega arith) (omega arith) e)))

-- the character is between these blocks
abbrev IsBetween : ℕ → Type 0
IsBetween c = ((c < 128) × (is_drawn_as_is c ≡ true))
    ⊎ (((192 ≤ c) × (c < 0x600)) ⊎ (((0x640 ≤ c) × (c < 0x2000)) ⊎ (0x3000 ≤ c)))

glyph-as-is : (c : ℕ) → IsBetween c → (glyph c ≡ c) × (glyph_count c ≡ 1)
unfolding glyph glyph_count is_bidi_control
glyph-as-is c (inl (l, p)) = (grind (arith, nat_tests), grind (arith, nat_tests))
glyph-as-is c (inr (inl (l, m))) = (grind (arith, nat_tests), grind (arith, nat_tests))
glyph-as-is c (inr (inr (inl (l, m)))) = (grind (arith, nat_tests), grind (arith, nat_tests))
glyph-as-is c (inr (inr (inr l))) = (grind (arith, nat_tests), grind (arith, nat_tests))

between : (c : ℕ) → list_all is_drawn_as_is (encode c) ≡ true → IsBetween c
between c e =
    by_block (cases_lt c 128) (cases_lt c 192) (cases_lt c 0x600) (cases_lt c 0x640)
    (cases_lt c 0x2000) (cases_lt c 0x3000)
  where
    by_block : (c < 128) ⊎ (128 ≤ c) → (c < 192) ⊎ (192 ≤ c) → (c < 0x600) ⊎ (0x600 ≤ c)
        → (c < 0x640) ⊎ (0x640 ≤ c) → (c < 0x2000) ⊎ (0x2000 ≤ c)
        → (c < 0x3000) ⊎ (0x3000 ≤ c) → IsBetween c
    by_block (inl l) m n o p q = inl (l, ascii-as-is c l e)
    by_block (inr l) (inl m) n o p q = absurd (not-80 c l m e)
    by_block (inr l) (inr m) (inl n) o p q = inr (inl (m, n))
    by_block (inr l) (inr m) (inr n) (inl o) p q = absurd (not-600 c n o e)
    by_block (inr l) (inr m) (inr n) (inr o) (inl p) q = inr (inr (inl (o, p)))
    by_block (inr l) (inr m) (inr n) (inr o) (inr p) (inl q) = absurd (not-2000 c p q e)
    by_block (inr l) (inr m) (inr n) (inr o) (inr p) (inr q) = inr (inr (inr q))

-- a character whose bytes are drawn as they are is so too
char-as-is : (c : ℕ) → list_all is_drawn_as_is (encode c) ≡ true
    → (glyph c ≡ c) × (glyph_count c ≡ 1)
char-as-is c e = glyph-as-is c (between c e)

glyphs-as-is : (t : Text) → list_all is_drawn_as_is (encode_utf8_all t) ≡ true → glyphs t ≡ t
glyphs-as-is [] e = refl
glyphs-as-is (c ∷ t) e =
    let parts = and_parts _ _
    (sym (list_all-append is_drawn_as_is (encode c) (encode_utf8_all t)) ∙ e) in
    let one = char-as-is c parts.0 in
    rw (one.1, one.0) (ap (λ x. c ∷ x) (glyphs-as-is t parts.1))

-- so is a text of nothing else,
pub whole-as-is : (s : List ℕ) → IsUtf8 s → list_all is_drawn_as_is s ≡ true
    → encode_utf8_all (glyphs (chars s)) ≡ s
whole-as-is s u e =
    let bytes = encodes-chars s u in
    ap encode_utf8_all (glyphs-as-is (chars s) (ap (list_all is_drawn_as_is) bytes ∙ e)) ∙ bytes

-- and a text that begins with them
pub drawn-as-is : (s : List ℕ) (n : ℕ) → IsUtf8 s → IsCharBoundary s n
    → list_all is_drawn_as_is (take n s) ≡ true
    → encode_utf8_all (glyphs (chars s)) ≡ take n s ++ encode_utf8_all (glyphs (chars (drop n s)))
drawn-as-is s n u b e =
    let v = IsUtf8-take s n u b in
    let bytes = encodes-chars (take n s) v in
    let same = glyphs-as-is (chars (take n s)) (ap (list_all is_drawn_as_is) bytes ∙ e) in
    let whole : chars s ≡ chars (take n s) ++ chars (drop n s) =
    ap chars (sym (take-append-drop n s)) ∙ chars-append (take n s) (drop n s) v in
    ap (λ t. encode_utf8_all (glyphs t)) whole
    ∙ (ap encode_utf8_all (flat_map-append (λ c. replicate (glyph_count c) (glyph c))
    (chars (take n s)) (chars (drop n s)))
    ∙ (encodes-append (glyphs (chars (take n s))) (glyphs (chars (drop n s)))
    ∙ ap (λ t. t ++ encode_utf8_all (glyphs (chars (drop n s))))
    (ap encode_utf8_all same ∙ bytes)))
