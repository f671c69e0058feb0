-- A byte escape, or an escape of one letter, at the start of the rest of a kept snippet: how many
-- bytes it takes, where no continuation comes after it.
use Rattle.std.proofs.Common.{◌≡◌, ◌≢◌, ◌<◌, ◌+◌, ◌++◌, ◌==◌, ◌&&◌, ℕ, Bool, true, false, List, []}
use Rattle.std.proofs.Common.{◌∷◌, length, get_or, chars, drop, IsUtf8, refl, ap, sym, subst, ◌∙◌}
use Rattle.std.proofs.Common.{arith, Option, Some, None}
use Rattle.std.specs.Prelude.{IsTrue, is_some}
use Rattle.std.specs.Char.{digit_value, len_utf8}
use Rattle.std.proofs.lemmas.Bool.{and_parts, eqb-true, false≢true, ltb-true, ne_eqb}
use Rattle.std.proofs.lemmas.Bool.Decides.{nat_tests}
use Rattle.std.proofs.lemmas.List.{drop-drop}
use Rattle.std.proofs.lemmas.Str.{IsUtf8-from_is_utf8, encode_ascii, length-encode}
use Rattle.rustc_parse_format.specs.Characters.{Text, after_first, begins_with, byte_length}
use Rattle.rustc_parse_format.specs.LiteralUnits.{LiteralUnit, Plain, SimpleEscape, ByteEscape}
use Rattle.rustc_parse_format.specs.LiteralUnits.{UnicodeEscape, Continuation}
use Rattle.rustc_parse_format.specs.LiteralUnits.{spelling, value, escaped_character, is_plain}
use Rattle.rustc_parse_format.specs.LiteralUnits.{is_unit, is_hex, is_octal, byte_value}
use Rattle.rustc_parse_format.specs.LiteralUnits.{at_most_one}
use Rattle.rustc_parse_format.specs.Literal.{IsContent}
use Rattle.rustc_parse_format.specs.SourceViews.{IsHere, begins_continuation, closed_by_quote, gap}
use Rattle.rustc_parse_format.specs.World.{World}
use Rattle.rustc_parse_format.proofs.Bytes.ByteFronts.{begins_byte}
use Rattle.rustc_parse_format.proofs.Literals.Plain.{ascii-first, digit-ascii}
use Rattle.rustc_parse_format.proofs.Literals.Widths.{width-cons}
use Rattle.rustc_parse_format.proofs.Sources.Contents.{closed-split, gap-none}
use Rattle.rustc_parse_format.proofs.Sources.Steps.{IsReached, reach_next, settle}
use Rattle.rustc_parse_format.proofs.Sources.Units.{Starts}

-- The characters of bytes that begin with a backslash and a letter of ASCII.
escape-chars : (l : ℕ) (s r : List ℕ) → l < 128 → IsUtf8 s → s ≡ 92 ∷ l ∷ r
    → chars s ≡ 92 ∷ l ∷ chars r
escape-chars l s r small u e =
    let one = ascii-first 92 (l ∷ r) (subst IsUtf8 e u) (omega arith) in
    let two = ascii-first l r one.1 small in
    ap chars e ∙ (one.0 ∙ ap (λ (t : Text). 92 ∷ t) two.0)

and_false : (x y : Bool) → y ≡ false → (x && y) ≡ false
and_false true y e = e
and_false false y e = refl

-- Bytes whose second is no LF begin with no continuation.
no-continuation : (s : List ℕ) (b d : ℕ) (r : List ℕ) → IsUtf8 s → s ≡ b ∷ d ∷ r → d ≢ 10
    → begins_continuation (chars s) ≡ false
no-continuation s b d r u e n = of_first (b == 92) refl
  where
    of_first : (x : Bool) → (b == 92) ≡ x → begins_continuation (chars s) ≡ false
    of_first true f =
        let same : b ≡ 92 = eqb-true b 92 f in
        let one = ascii-first b (d ∷ r) (subst IsUtf8 e u) (omega (arith, same)) in
        let second : begins_with 10 (chars (d ∷ r)) ≡ false =
        begins_byte 10 (d ∷ r) (omega arith) one.1 ∙ ne_eqb d 10 n in
        ap begins_continuation (ap chars e ∙ one.0) ∙ and_false (b == 92) _ second
    of_first false f =
        let first : begins_with 92 (chars s) ≡ false =
        begins_byte 92 s (omega arith) u ∙ (ap (begins_with 92) e ∙ f) in
        ap (λ x. x && begins_with 10 (after_first (chars s))) first

-- A character of ASCII takes one byte.
ascii-width : (c : ℕ) → c < 128 → len_utf8 c ≡ 1
ascii-width c l = sym (length-encode c) ∙ ap length (encode_ascii c l)

-- A unit stands for a character, and takes so many bytes.
abbrev HasWidth : ℕ → LiteralUnit → Type 0
HasWidth n u = ((c : ℕ) × (value u ≡ c ∷ [])) × (byte_length (spelling u) ≡ n)

no_plain : (c : ℕ) → c ≡ 92 → IsTrue (is_plain c) → ⊥
no_plain c e w = let plain : is_plain 92 ≡ true = subst (λ k. is_plain k ≡ true) e w in
    false≢true plain

byte-unit : (u : LiteralUnit) (r t : Text) → IsTrue (is_unit u) → spelling u ++ r ≡ 92 ∷ 120 ∷ t
    → HasWidth 4 u
byte-unit (Plain c) r t w e = absurd (no_plain c (ap (λ (s : Text). get_or s 0 0) e) w)
byte-unit (SimpleEscape l) r t w e =
    let same : l ≡ 120 = ap (λ (s : Text). get_or s 1 0) e in
    let some : is_some (escaped_character 120) ≡ true =
    subst (λ k. is_some (escaped_character k) ≡ true) same w in
    absurd (false≢true some)
byte-unit (ByteEscape h l) r t w e =
    let digits = and_parts (is_octal h) (is_hex l) w in
    let high : digit_value h < 8 = ltb-true _ 8 digits.0 in
    let low : digit_value l < 16 = ltb-true _ 16 digits.1 in (
      (byte_value h l, refl),
      omega (
        arith,
        width-cons 92 (120 ∷ h ∷ l ∷ []),
        width-cons 120 (h ∷ l ∷ []),
        width-cons h (l ∷ []),
        width-cons l [],
        ascii-width h (digit-ascii h (omega arith)),
        ascii-width l (digit-ascii l low),
      ),
    )
byte-unit (UnicodeEscape w) r t g e =
    let same : ◌≡◌ {A = ℕ} 117 120 = ap (λ (s : Text). get_or s 1 0) e in
    absurd (omega (arith, same))
byte-unit (Continuation w) r t g e =
    let same : ◌≡◌ {A = ℕ} 10 120 = ap (λ (s : Text). get_or s 1 0) e in
    absurd (omega (arith, same))

letter-ascii : (l : ℕ) → IsTrue (is_some (escaped_character l)) → l < 128
letter-ascii l h = grind (arith, nat_tests)

letter-unit : (l : ℕ) → IsTrue (is_some (escaped_character l)) → (u : LiteralUnit) (r t : Text)
    → IsTrue (is_unit u) → spelling u ++ r ≡ 92 ∷ l ∷ t → HasWidth 2 u
letter-unit l some (Plain c) r t w e =
    absurd (no_plain c (ap (λ (s : Text). get_or s 0 0) e) w)
letter-unit l some (SimpleEscape k) r t w e = (
  one (escaped_character k) w,
  omega (
    arith,
    width-cons 92 (k ∷ []),
    width-cons k [],
    ascii-width k (letter-ascii k w),
  ),
)
  where
    one : (o : Option ℕ) → is_some o ≡ true → (c : ℕ) × (at_most_one o ≡ c ∷ [])
    one None h = absurd (false≢true h)
    one (Some c) h = (c, refl)
letter-unit l some (ByteEscape h d) r t w e =
    let same : 120 ≡ l = ap (λ (s : Text). get_or s 1 0) e in
    let other : is_some (escaped_character 120) ≡ true =
    subst (λ k. is_some (escaped_character k) ≡ true) (sym same) some in
    absurd (false≢true other)
letter-unit l some (UnicodeEscape v) r t w e =
    let same : 117 ≡ l = ap (λ (s : Text). get_or s 1 0) e in
    let other : is_some (escaped_character 117) ≡ true =
    subst (λ k. is_some (escaped_character k) ≡ true) (sym same) some in
    absurd (false≢true other)
letter-unit l some (Continuation v) r t w e =
    let same : 10 ≡ l = ap (λ (s : Text). get_or s 1 0) e in
    let other : is_some (escaped_character 10) ≡ true =
    subst (λ k. is_some (escaped_character k) ≡ true) (sym same) some in
    absurd (false≢true other)

-- What is left after an escape that takes n bytes.
passed : (s : List ℕ) (w : World) (rest : Text) (at n l b d : ℕ) (r q : List ℕ)
    → IsHere s w rest at → l < 128 → drop at s ≡ 92 ∷ l ∷ r → drop (at + n) s ≡ b ∷ d ∷ q →
    d ≢ 10 → ((u : LiteralUnit) (x t : Text) → IsTrue (is_unit u)
    → spelling u ++ x ≡ 92 ∷ l ∷ t → HasWidth n u) →
    IsHere s w (after_first rest) (at + n)
passed s w rest at n l b d r left here small bytes after no_lf wide =
    of_units here.units here.is_content refl
  where
    text : chars (drop at s) ≡ 92 ∷ l ∷ chars r
    text = escape-chars l (drop at s) r small (IsUtf8-from_is_utf8 (drop at s) here.valid) bytes

    of_units : (us : List LiteralUnit) → IsContent here.content us → here.units ≡ us
        → IsHere s w (after_first rest) (at + n)
    of_units [] none e =
        let quote : ◌≡◌ {A = ℕ} 92 34 = ap (λ (t : Text). get_or t 0 0)
        (sym text ∙ (here.left ∙ ap closed_by_quote none)) in
        absurd (omega (arith, quote))
    of_units (u ∷ us) (q, good, may, split, is) e =
        let spelled = closed-split (chars (drop at s)) here.content u q here.left split in
        let own = wide u (closed_by_quote q) (chars r) good (sym spelled ∙ text) in
        let start : Starts here.units = record {
          unit = u;
          others = us;
          character = own.0.0;
          are = e;
          stands_for = own.0.1;
        } in
        let reached : IsReached s w (after_first rest) (at + n) us =
        subst (λ k. IsReached s w (after_first rest) (at + k) us) own.1
        (reach_next s w rest at here start q split is) in
        let none = no-continuation (drop (at + n) s) b d left reached.is_text after no_lf in
        let no_gap : gap us ≡ 0 = gap-none (chars (drop (at + n) s)) reached.content us
        reached.is_content reached.left none in
        let stays : (at + n) + gap us ≡ at + n = omega (arith, no_gap) in
        subst (IsHere s w (after_first rest)) stays
        (settle s w (after_first rest) (at + n) us reached)

pub byte-passed : (s : List ℕ) (w : World) (rest : Text) (at h l b d : ℕ) (r : List ℕ)
    → IsHere s w rest at → drop at s ≡ 92 ∷ 120 ∷ h ∷ l ∷ b ∷ d ∷ r → d ≢ 10 →
    IsHere s w (after_first rest) (at + 4)
byte-passed s w rest at h l b d r here bytes no_lf =
    passed s w rest at 4 120 b d (h ∷ l ∷ b ∷ d ∷ r) r here (omega arith) bytes
    (sym (drop-drop 4 at s) ∙ ap (drop 4) bytes) no_lf byte-unit

pub letter-passed : (s : List ℕ) (w : World) (rest : Text) (at l b d : ℕ) (r : List ℕ)
    → IsHere s w rest at → drop at s ≡ 92 ∷ l ∷ b ∷ d ∷ r → d ≢ 10
    → IsTrue (is_some (escaped_character l)) →
    IsHere s w (after_first rest) (at + 2)
letter-passed s w rest at l b d r here bytes no_lf some =
    passed s w rest at 2 l b d (b ∷ d ∷ r) r here (letter-ascii l some) bytes
    (sym (drop-drop 2 at s) ∙ ap (drop 2) bytes) no_lf (letter-unit l some)
