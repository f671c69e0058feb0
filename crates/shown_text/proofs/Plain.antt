-- Bytes that stand for themselves.
use Rattle.std.proofs.Common.{◌≡◌, ℕ, ◌≤◌, List, [], ◌∷◌, ◌++◌, length, chars, drop, take, true}
use Rattle.std.proofs.Common.{IsUtf8, IsCharBoundary, encode_utf8_all, refl, ap, ◌∙◌, arith, sym}
use Rattle.std.proofs.Common.{append_assoc}
use Rattle.std.proofs.lemmas.Bool.{and_parts}
use Rattle.std.proofs.lemmas.Bool.Decides.{nat_tests}
use Rattle.std.proofs.lemmas.Str.{encode_ascii, encodes-append}
use Rattle.std.specs.List.{list_all}
use Rattle.std.specs.Prelude.{flat_map, ◌<◌}
use Rattle.rustc_parse_format.proofs.Grammar.Fronts.{list_all-weaker}
use Rattle.rustc_parse_format.specs.Characters.{Text}
use Rattle.drawn_lines.specs.Glyphs.{glyph, is_bidi_control, is_printable}
use Rattle.drawn_lines.proofs.PrintableLemmas.{cut-printable, parts-printable}
use Rattle.shown_text.specs.Shown.{char_text, is_plain, line_char, shown}
use Rattle.shown_text.specs.declared.gate.Kind.{Kind}
use Rattle.shown_text.specs.declared.gate.Kind.TheVariants.{Line, Property, Message, Json}

plain-printable : (k : Kind) (b : ℕ) → is_plain k b ≡ true → is_printable b ≡ true
plain-printable Line b e = e
plain-printable Property b e = (and_parts (is_printable b) _ e).0
plain-printable Message b e = (and_parts (is_printable b) _ e).0
plain-printable Json b e = (and_parts (is_printable b) _ e).0

small : (b : ℕ) → is_printable b ≡ true → b < 128
small b e = grind (arith, nat_tests)

line-plain : (b : ℕ) → is_printable b ≡ true → line_char b ≡ b
unfolding line_char glyph is_bidi_control
line-plain b e = grind (arith, nat_tests)

-- such a byte stands for itself,
char-plain : (k : Kind) (b : ℕ) → is_plain k b ≡ true → char_text k b ≡ b ∷ []
char-plain Line b e = ap (λ c. c ∷ []) (line-plain b e)
char-plain Property b e =
    let l = line-plain b (plain-printable Property b e) in grind (arith, nat_tests)
char-plain Message b e =
    let l = line-plain b (plain-printable Message b e) in grind (arith, nat_tests)
char-plain Json b e =
    let l = line-plain b (plain-printable Json b e) in grind (arith, nat_tests)

-- and so do such bytes before another text
front-plain : (k : Kind) (f : List ℕ) (t : Text) → list_all (is_plain k) f ≡ true
    → encode_utf8_all (flat_map (char_text k) (f ++ t))
    ≡ f ++ encode_utf8_all (flat_map (char_text k) t)
front-plain k [] t e = refl
front-plain k (b ∷ f) t e =
    let parts = and_parts (is_plain k b) (list_all (is_plain k) f) e in
    rw (char-plain k b parts.0, encode_ascii b (small b (plain-printable k b parts.0)))
    (ap (λ x. b ∷ x) (front-plain k f t parts.1))

-- a text may be cut after such bytes,
pub cut-plain : (k : Kind) (s : List ℕ) (n : ℕ) → IsUtf8 s → n ≤ length s
    → list_all (is_plain k) (take n s) ≡ true → IsCharBoundary s n
cut-plain k s n u l e = cut-printable s n u l
    (list_all-weaker (is_plain k) is_printable (take n s) (plain-printable k) e)

-- and is shown in two parts
pub parts-plain : (k : Kind) (s : List ℕ) (n : ℕ) → list_all (is_plain k) (take n s) ≡ true
    → shown k s ≡ take n s ++ shown k (drop n s)
parts-plain k s n e =
    ap (λ t. encode_utf8_all (flat_map (char_text k) t)) (parts-printable s n
    (list_all-weaker (is_plain k) is_printable (take n s) (plain-printable k) e))
    ∙ front-plain k (take n s) (chars (drop n s)) e

shown-first : (k : Kind) (rest tail : List ℕ) (c : ℕ) → chars rest ≡ c ∷ chars tail
    → shown k rest ≡ encode_utf8_all (char_text k c) ++ shown k tail
shown-first k rest tail c e =
    ap (λ t. encode_utf8_all (flat_map (char_text k) t)) e
    ∙ encodes-append (char_text k c) (flat_map (char_text k) (chars tail))

-- a character and what stands for itself after it
pub shown-step : {x : List ℕ} (k : Kind) (rest tail front after out a b : List ℕ) (c : ℕ)
    → chars rest ≡ c ∷ chars tail → a ≡ out ++ encode_utf8_all (char_text k c)
    → shown k tail ≡ front ++ shown k after → b ≡ a ++ front → out ++ shown k rest ≡ x
    → b ++ shown k after ≡ x
shown-step k rest tail front after out a b c e f g h p =
    let one = encode_utf8_all (char_text k c) in
    rw (h, f) (append_assoc (out ++ one) front (shown k after)
    ∙ (append_assoc out one (front ++ shown k after)
    ∙ (ap (λ t. out ++ (one ++ t)) (sym g)
    ∙ (ap (λ t. out ++ t) (sym (shown-first k rest tail c e)) ∙ p))))
