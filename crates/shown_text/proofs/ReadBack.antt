-- A reader of JSON reads a string of JSON as the text that is shown.
use Rattle.std.proofs.Common.{◌≡◌, ◌⊎◌, inl, inr, ℕ, ◌/◌, ◌%◌, true, false, List, [], ◌∷◌}
use Rattle.std.proofs.Common.{◌++◌, ◌<◌, ◌≤◌, None, Option, Some, IsUtf8, ap, append_assoc, arith}
use Rattle.std.proofs.Common.{chars, encode_utf8_all, refl, subst, sym, ◌∙◌}
use Rattle.std.proofs.Math.Utf8.{encode}
use Rattle.std.proofs.lemmas.Bool.{and_parts, cases_eq, cases_lt, cond_both, eqb-true, le-ltb}
use Rattle.std.proofs.lemmas.Bool.{ne_eqb}
use Rattle.std.proofs.lemmas.Bool.Decides.{nat_tests}
use Rattle.std.proofs.lemmas.List.{append-nil}
use Rattle.std.proofs.lemmas.Str.{encode_ascii, encodes-IsAscii, encodes-append, encodes-chars}
use Rattle.std.specs.Prelude.{◌==◌, flat_map, if◌then◌else◌, nat_lt, not}
use Rattle.std.specs.Char.{digit_char, digit_value, is_digit}
use Rattle.std.specs.List.{list_all}
use Rattle.json.specs.Print.{escape_letter}
use Rattle.json.specs.Text.{code_unit, content, is_high_surrogate, is_low_surrogate, plain, prepend}
use Rattle.json.specs.Text.{short_escape}
use Rattle.rustc_parse_format.specs.Characters.{Text}
use Rattle.drawn_lines.specs.Glyphs.{glyph, is_bidi_control, is_printable}
use Rattle.shown_text.specs.Shown.{IsReadAs, code_text, json_char, line_char, shown}
use Rattle.shown_text.proofs.OneLine.{all-ascii, digit-printable}
use Rattle.shown_text.specs.declared.gate.Kind.{Kind}
use Rattle.shown_text.specs.declared.gate.Kind.TheVariants.{Json}

-- The bytes bs, before any others, are read as the bytes cs.
abbrev Reads : List ℕ → List ℕ → Type 0
Reads bs cs = (r : List ℕ) → content plain (bs ++ r) ≡ prepend cs (content plain r)

prepend-nil : (o : Option (List ℕ)) → o ≡ prepend [] o
prepend-nil None = refl
prepend-nil (Some s) = refl

prepend-cons : (b : ℕ) (bs : List ℕ) (o : Option (List ℕ))
    → prepend (b ∷ []) (prepend bs o) ≡ prepend (b ∷ bs) o
prepend-cons b bs None = refl
prepend-cons b bs (Some s) = refl

-- a byte that stands for itself
byte-read : (b : ℕ) → 32 ≤ b → (b ≡ 34 → ⊥) → (b ≡ 92 → ⊥) → Reads (b ∷ []) (b ∷ [])
unfolding content
byte-read b l q s r = rw (ne_eqb b 34 q, ne_eqb b 92 s, le-ltb b 32 l) refl

-- bytes beyond ASCII, as those of a character
late-read : (bs : List ℕ) → list_all (λ b. not (nat_lt b 128)) bs ≡ true → Reads bs bs
late-read [] e r = prepend-nil (content plain r)
late-read (b ∷ bs) e r =
    let parts = and_parts (not (nat_lt b 128)) (list_all (λ b. not (nat_lt b 128)) bs) e in
    let late : 128 ≤ b = grind (arith, nat_tests) in
    byte-read b (omega (arith, late)) (λ f. omega (arith, late, f))
    (λ f. omega (arith, late, f)) (bs ++ r)
    ∙ (ap (prepend (b ∷ [])) (late-read bs parts.1 r) ∙ prepend-cons b bs (content plain r))

late-bytes : (c : ℕ) → 128 ≤ c → list_all (λ b. not (nat_lt b 128)) (encode c) ≡ true
unfolding encode
late-bytes c l = grind (arith, nat_tests)

-- a character that stands for itself
printable : (c : ℕ) → nat_lt 0 (escape_letter c) ≡ false → line_char c ≡ c → c < 128
    → (32 ≤ c) × (c ≡ 34 → ⊥) × (c ≡ 92 → ⊥)
unfolding line_char glyph is_bidi_control
printable c e f l =
    (grind (arith, nat_tests), λ g. grind (arith, nat_tests), λ g. grind (arith, nat_tests))

itself-read : (c : ℕ) → nat_lt 0 (escape_letter c) ≡ false → line_char c ≡ c
    → Reads (encode c) (encode c)
itself-read c e f = elim (cases_lt c 128) [
  | inl small ↦ let is = printable c e f small in
      subst (λ bs. Reads bs bs) (sym (encode_ascii c small)) (byte-read c is.0 is.1 is.2)
  | inr late ↦ late-read (encode c) (late-bytes c late)
]

-- a short escape
abbrev ReadsShort : ℕ → Type 0
ReadsShort c = Reads (encode_utf8_all (92 ∷ escape_letter c ∷ [])) (encode c)

short-read : (c : ℕ) → nat_lt 0 (escape_letter c) ≡ true → ReadsShort c
unfolding content short_escape encode
short-read c e =
    by_cases (cases_eq c 34) (cases_eq c 92) (cases_eq c 8) (cases_eq c 12) (cases_eq c 10)
    (cases_eq c 13) (cases_eq c 9)
  where
    by_cases : (c ≡ 34) ⊎ (c ≡ 34 → ⊥) → (c ≡ 92) ⊎ (c ≡ 92 → ⊥) → (c ≡ 8) ⊎ (c ≡ 8 → ⊥)
        → (c ≡ 12) ⊎ (c ≡ 12 → ⊥) → (c ≡ 10) ⊎ (c ≡ 10 → ⊥) → (c ≡ 13) ⊎ (c ≡ 13 → ⊥)
        → (c ≡ 9) ⊎ (c ≡ 9 → ⊥) → ReadsShort c
    by_cases (inl e) b d f g h i = subst ReadsShort (sym e) (λ r. refl)
    by_cases (inr a) (inl e) d f g h i = subst ReadsShort (sym e) (λ r. refl)
    by_cases (inr a) (inr b) (inl e) f g h i = subst ReadsShort (sym e) (λ r. refl)
    by_cases (inr a) (inr b) (inr d) (inl e) g h i = subst ReadsShort (sym e) (λ r. refl)
    by_cases (inr a) (inr b) (inr d) (inr f) (inl e) h i = subst ReadsShort (sym e) (λ r. refl)
    by_cases (inr a) (inr b) (inr d) (inr f) (inr g) (inl e) i =
        subst ReadsShort (sym e) (λ r. refl)
    by_cases (inr a) (inr b) (inr d) (inr f) (inr g) (inr h) (inl e) =
        subst ReadsShort (sym e) (λ r. refl)
    by_cases (inr a) (inr b) (inr d) (inr f) (inr g) (inr h) (inr i) =
        absurd (grind (arith, nat_tests))

-- a digit of base 16
digit-value : (d : ℕ) → d < 16 → digit_value (digit_char d) ≡ d
digit-value d l = grind (arith, nat_tests)

digit-is : (d : ℕ) → d < 16 → is_digit (digit_char d) 16 ≡ true
digit-is d l = grind (arith, nat_tests)

-- a long escape
unit-read : (c : ℕ) → c < 65536
    → code_unit (digit_char (c / 4096 % 16)) (digit_char (c / 256 % 16))
    (digit_char (c / 16 % 16)) (digit_char (c % 16)) ≡ Some c
unfolding code_unit
unit-read c l =
    let a : c / 4096 % 16 < 16 = omega arith in
    let b : c / 256 % 16 < 16 = omega arith in
    let d : c / 16 % 16 < 16 = omega arith in
    let e : c % 16 < 16 = omega arith in
    rw (
      digit-is _ a,
      digit-is _ b,
      digit-is _ d,
      digit-is _ e,
      digit-value _ a,
      digit-value _ b,
      digit-value _ d,
      digit-value _ e,
    ) (ap Some (omega arith))

code-ascii : (c : ℕ) → encode_utf8_all (code_text c) ≡ code_text c
code-ascii c =
    let e : list_all is_printable (code_text c) ≡ true =
    rw (
      digit-printable (c / 4096),
      digit-printable (c / 256),
      digit-printable (c / 16),
      digit-printable c,
    ) refl in
    encodes-IsAscii (code_text c) (all-ascii (code_text c) e)

escaped-small : (c : ℕ) → (line_char c == c) ≡ false → c < 0x2070
unfolding line_char glyph is_bidi_control
escaped-small c e = grind (arith, nat_tests)

code-read : (c : ℕ) → c < 0x2070 → Reads (encode_utf8_all (code_text c)) (encode c)
unfolding content
code-read c l r =
    let high : is_high_surrogate c ≡ false = grind (arith, nat_tests) in
    let low : is_low_surrogate c ≡ false = grind (arith, nat_tests) in
    ap (λ bs. content plain (bs ++ r)) (code-ascii c)
    ∙ rw (unit-read c (omega (arith, l)), high, low) refl

-- each character
char-read : (c : ℕ) → Reads (encode_utf8_all (json_char c)) (encode c)
char-read c =
    cond_both (nat_lt 0 (escape_letter c)) (92 ∷ escape_letter c ∷ [])
    (if line_char c == c then c ∷ [] else code_text c)
    (λ t. Reads (encode_utf8_all t) (encode c)) (short-read c)
    (λ none. cond_both (line_char c == c) (c ∷ []) (code_text c)
    (λ t. Reads (encode_utf8_all t) (encode c))
    (λ same. subst (λ bs. Reads bs (encode c)) (sym (append-nil (encode c)))
    (itself-read c none (eqb-true (line_char c) c same)))
    (λ other. code-read c (escaped-small c other)))

text-read : (t : Text) (r : List ℕ)
    → content plain (encode_utf8_all (flat_map json_char t) ++ 34 ∷ r) ≡ Some (encode_utf8_all t)
unfolding content
text-read [] r = refl
text-read (c ∷ t) r =
    let one = encode_utf8_all (json_char c) in
    let rest = encode_utf8_all (flat_map json_char t) in
    ap (λ bs. content plain (bs ++ 34 ∷ r)) (encodes-append (json_char c) (flat_map json_char t))
    ∙ (ap (content plain) (append_assoc one rest (34 ∷ r))
    ∙ (char-read c (rest ++ 34 ∷ r) ∙ ap (prepend (encode c)) (text-read t r)))

-- a text
pub shown-read : (k : Kind) (bs : List ℕ) → IsUtf8 bs → k ≡ Json → IsReadAs (shown k bs) bs
shown-read k bs u e r =
    ap (λ i. content plain (shown i bs ++ 34 ∷ r)) e
    ∙ (text-read (chars bs) r ∙ ap Some (encodes-chars bs u))

pub ruleset read_back = (shown-read)
