-- A terminal obeys no character of a text that is shown, and none ends a line.
use Rattle.std.proofs.Common.{◌≡◌, ℕ, ◌/◌, ◌%◌, Bool, true, false, List, [], ◌∷◌, ◌++◌, ◌<◌}
use Rattle.std.proofs.Common.{ap, append_assoc, arith, chars, cond, refl, subst, suc, sym, zero}
use Rattle.std.proofs.Common.{◌∙◌}
use Rattle.std.proofs.lemmas.Bool.{and_parts, cond_both, eqb-true, or_parts}
use Rattle.std.proofs.lemmas.Bool.Decides.{nat_tests}
use Rattle.std.specs.Prelude.{◌==◌, ◌||◌, ◌&&◌, codes, decimal, flat_map, if◌then◌else◌, nat_lt}
use Rattle.std.proofs.lemmas.Str.{NoCharPasses-append, encodes-IsAscii}
use Rattle.std.proofs.lemmas.Str.Ascii.{IsAscii-nil, IsAscii-cons}
use Rattle.std.specs.Char.{digit_char}
use Rattle.std.specs.Fmt.{digits, digits_onto, digit_glyph}
use Rattle.std.specs.List.{list_all}
use Rattle.std.specs.Str.{IsAscii, NonePass}
use Rattle.json.specs.Print.{escape_letter}
use Rattle.rustc_parse_format.specs.Characters.{Text}
use Rattle.drawn_lines.specs.Glyphs.{IsHarmless, glyph, is_bidi_control, is_obeyed, is_printable}
use Rattle.drawn_lines.proofs.Harmless.{glyph-harmless}
use Rattle.shown_text.specs.Shown.{IsLine, IsOneLine, char_text, code_text, command_char, ends_line}
use Rattle.shown_text.specs.Shown.{json_char, line_char, shown}
use Rattle.shown_text.specs.declared.gate.Kind.{Kind}
use Rattle.shown_text.specs.declared.gate.Kind.TheVariants.{Line, Property, Message, Json}

abbrev is_special : ℕ → Bool
is_special c = ends_line c || is_obeyed c

-- a printable character of ASCII
printable : (c : ℕ) → is_printable c ≡ true → is_special c ≡ false
unfolding is_bidi_control
printable c e = grind (arith, nat_tests)

all-printable : (t : Text) → list_all is_printable t ≡ true → NonePass is_special t
all-printable [] e = tt
all-printable (c ∷ t) e =
    let parts = and_parts (is_printable c) (list_all is_printable t) e in
    (printable c parts.0, all-printable t parts.1)

-- no character is drawn as one that ends a line, but for those themselves
glyph-in_line : (c : ℕ) → ends_line c ≡ false → ends_line (glyph c) ≡ false
unfolding glyph is_bidi_control
glyph-in_line c e = grind (arith, nat_tests)

replacement : is_special 0xFFFD ≡ false
unfolding is_bidi_control
replacement = refl

picture : is_special 0x240A ≡ false
unfolding is_bidi_control
picture = refl

line : (c : ℕ) → is_special (line_char c) ≡ false
unfolding line_char
line c =
    let drawn = if ends_line c then 0xFFFD else glyph c in
    cond_both (c == 10) 0x240A drawn (λ g. is_special g ≡ false) (λ yes. picture)
    (λ no. cond_both (ends_line c) 0xFFFD (glyph c) (λ g. is_special g ≡ false)
    (λ yes. replacement)
    (λ more. rw (glyph-in_line c more) (glyph-harmless c)))

of_line : (c : ℕ) → NonePass is_special (line_char c ∷ [])
of_line c = (line c, tt)

one_of : (b : Bool) (s t : Text) → NonePass is_special s → NonePass is_special t
    → NonePass is_special (cond b s t)
one_of true s t p q = p
one_of false s t p q = q

of_command : (b : Bool) (c : ℕ) → NonePass is_special (command_char b c)
of_command b c =
    one_of (c == 37) _ _ (all-printable (codes "%25") refl)
    (one_of (c == 13) _ _ (all-printable (codes "%0D") refl)
    (one_of (c == 10) _ _ (all-printable (codes "%0A") refl)
    (one_of (b && c == 58) _ _ (all-printable (codes "%3A") refl)
    (one_of (b && c == 44) _ _ (all-printable (codes "%2C") refl) (of_line c)))))

pub digit-printable : (n : ℕ) → is_printable (digit_char (n % 16)) ≡ true
digit-printable n = let l : n % 16 < 16 = omega arith in grind (arith, nat_tests)

of_digit : (n : ℕ) → is_special (digit_char (n % 16)) ≡ false
of_digit n = printable (digit_char (n % 16)) (digit-printable n)

of_code : (c : ℕ) → NonePass is_special (code_text c)
of_code c = (
  printable 92 refl,
  (
    printable 117 refl,
    (
      of_digit (c / 4096),
      (
        of_digit (c / 256),
        (of_digit (c / 16), (of_digit c, tt)),
      ),
    ),
  ),
)

letter-printable : (c : ℕ) → nat_lt 0 (escape_letter c) ≡ true
    → is_printable (escape_letter c) ≡ true
letter-printable c e = grind (arith, nat_tests)

itself : (c : ℕ) → (line_char c == c) ≡ true → is_special c ≡ false
itself c e = subst (λ x. is_special x ≡ false) (eqb-true (line_char c) c e) (line c)

of_json : (c : ℕ) → NonePass is_special (json_char c)
of_json c =
    cond_both (nat_lt 0 (escape_letter c)) (92 ∷ escape_letter c ∷ [])
    (if line_char c == c then c ∷ [] else code_text c) (λ t. NonePass is_special t)
    (λ yes. (printable 92 refl, (printable (escape_letter c) (letter-printable c yes), tt)))
    (λ no. cond_both (line_char c == c) (c ∷ []) (code_text c) (λ t. NonePass is_special t)
    (λ yes. (itself c yes, tt)) (λ other. of_code c))

of_char : (k : Kind) (c : ℕ) → NonePass is_special (char_text k c)
of_char Line c = of_line c
of_char Property c = of_command true c
of_char Message c = of_command false c
of_char Json c = of_json c

append : (s t : Text) → NonePass is_special s → NonePass is_special t
    → NonePass is_special (s ++ t)
append [] t p q = q
append (c ∷ s) t p q = (p.0, append s t p.1 q)

of_text : (k : Kind) (t : Text) → NonePass is_special (flat_map (char_text k) t)
of_text k [] = tt
of_text k (c ∷ t) = append (char_text k c) (flat_map (char_text k) t) (of_char k c) (of_text k t)

pub shown-one_line : (k : Kind) (bs : List ℕ) → IsOneLine (shown k bs)
shown-one_line k bs = (flat_map (char_text k) (chars bs), refl, of_text k (chars bs))

-- two texts after each other
pub join : {a b : List ℕ} → IsOneLine a → IsOneLine b → IsOneLine (a ++ b)
join {a = a} {b = b} p q = NoCharPasses-append is_special a b p q

-- one of two texts
pub either : (k : Bool) {a b : List ℕ} → IsOneLine a → IsOneLine b → IsOneLine (cond k a b)
either true p q = p
either false p q = q

small : (c : ℕ) → is_printable c ≡ true → c < 128
small c e = grind (arith, nat_tests)

pub all-ascii : (bs : List ℕ) → list_all is_printable bs ≡ true → IsAscii bs
all-ascii [] e = IsAscii-nil
all-ascii (c ∷ bs) e =
    let parts = and_parts (is_printable c) (list_all is_printable bs) e in
    IsAscii-cons c bs (small c parts.0) (all-ascii bs parts.1)

-- a text of printable characters of ASCII
pub text : (bs : List ℕ) → list_all is_printable bs ≡ true → IsOneLine bs
text bs e = (bs, encodes-IsAscii bs (all-ascii bs e), all-printable bs e)

decimal-printable : (n : ℕ) → is_printable (digit_glyph false (n % 10)) ≡ true
decimal-printable n = let l : n % 10 < 10 = omega arith in grind (arith, nat_tests)

onto-printable : (k n : ℕ) (ds : List ℕ) → list_all is_printable ds ≡ true
    → list_all is_printable (digits_onto k 10 false n ds) ≡ true
onto-printable zero n ds e = e
onto-printable (suc k) n ds e =
    let more : list_all is_printable (digit_glyph false (n % 10) ∷ ds) ≡ true =
    rw (decimal-printable n) e in
    by_test (n / 10 == 0) _ _ more
    (onto-printable k (n / 10) (digit_glyph false (n % 10) ∷ ds) more)
  where
    by_test : (b : Bool) (xs ys : List ℕ) → list_all is_printable xs ≡ true
        → list_all is_printable ys ≡ true → list_all is_printable (cond b xs ys) ≡ true
    by_test true xs ys p q = p
    by_test false xs ys p q = q

-- the digits of a number
pub decimal-one_line : (n : ℕ) → IsOneLine (decimal n)
unfolding digits
decimal-one_line n = text (digits_onto 64 10 false n []) (onto-printable 64 n [] refl)

-- a text before the end of a line
pub end_of : {a : List ℕ} → IsOneLine a → IsLine (a ++ codes "\n")
end_of {a = a} p = (a, refl, p)

-- a text before others of a line
pub with_end : {a b : List ℕ} → IsOneLine a → IsLine b → IsLine (a ++ b)
with_end {a = a} {b = b} p (front, e, q) = (
  a ++ front,
  ap (λ t. a ++ t) e ∙ sym (append_assoc a front (codes "\n")),
  join p q,
)

-- a line without its end is one of which a terminal obeys nothing
none-obeyed : (t : Text) → NonePass is_special t → NonePass is_obeyed t
none-obeyed [] p = tt
none-obeyed (c ∷ t) p = ((or_parts (ends_line c) (is_obeyed c) p.0).1, none-obeyed t p.1)

pub one_line-harmless : {bs : List ℕ} → IsOneLine bs → IsHarmless bs
one_line-harmless (t, e, p) = (t, e, none-obeyed t p)

pub ruleset one_line = (shown-one_line)
