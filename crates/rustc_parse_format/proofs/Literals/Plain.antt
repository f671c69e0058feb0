-- The plain characters at the start of a text, and a `\x` escape by its bytes.
use Rattle.std.proofs.Common.{◌≡◌, ◌≤◌, ◌<◌, ◌++◌, List, ℕ, [], ◌∷◌, chars, drop, get_or, length}
use Rattle.std.proofs.Common.{IsUtf8, IsCharBoundary}
use Rattle.std.proofs.Common.{Option, Some, None, Bool, true, false, if◌then◌else◌, ◌*◌, ◌+◌, refl}
use Rattle.std.proofs.Common.{ap, sym, ◌∙◌, arith}
use Rattle.std.proofs.lemmas.Str.{IsUtf8-past_char, chars_past_char, encode_ascii}
use Rattle.std.proofs.lemmas.Bool.{ltb-true}
use Rattle.std.proofs.lemmas.Bool.Decides.{nat_tests}
use Rattle.std.specs.Char.{digit_value}
use Rattle.rustc_parse_format.specs.Bytes.{IsOfAscii, IsSharedFront}
use Rattle.rustc_parse_format.specs.LiteralReading.{SharePlain}
use Rattle.rustc_parse_format.specs.Characters.{Text}
use Rattle.rustc_parse_format.specs.LiteralUnits.{is_hex, is_octal, is_plain, meaning, byte_at}
use Rattle.rustc_parse_format.specs.LiteralUnits.{escape_at, unit_at}
use Rattle.rustc_parse_format.proofs.Bytes.ByteFronts.{shared-rest_after}

-- a character of ASCII is its byte
pub ascii-first : (b : ℕ) (r : List ℕ) → IsUtf8 (b ∷ r) → b < 128
    → (chars (b ∷ r) ≡ b ∷ chars r) × IsUtf8 r
ascii-first b r u l =
    let e = ap (λ t. t ++ r) (sym (encode_ascii b l)) in
    (chars_past_char (b ∷ r) r b u e, IsUtf8-past_char (b ∷ r) r b u e)

-- a text whose first byte is ASCII
pub ascii-front : (s : List ℕ) (b : ℕ) → IsUtf8 s → 1 ≤ length s → get_or s 0 0 ≡ b → b < 128
    → (chars s ≡ b ∷ chars (drop 1 s)) × IsUtf8 (drop 1 s)
ascii-front [] b u long e l = absurd (omega arith)
ascii-front (c ∷ r) b u long e l = rw (sym e) (ascii-first c r u (omega (arith, e)))

-- a literal writes all that is not ASCII as it is
plain-ascii : IsOfAscii is_plain
plain-ascii c h = grind (arith, nat_tests)

pub plain-rest_after : (s t : List ℕ) (m n : ℕ) → IsUtf8 s → IsUtf8 t → IsCharBoundary s m → m ≤ n
    → IsSharedFront is_plain s t n →
    SharePlain (chars s) (chars t) (chars (drop m s)) (chars (drop m t))
plain-rest_after s t m n u v b l f =
    let h = shared-rest_after is_plain plain-ascii s t m n u v b l f in
    record { front = h.0; text = h.1; other = h.2; plain = h.3 }

-- a backslash, an `x` and two more bytes of ASCII
pub byte-escape : (s : List ℕ) → IsUtf8 s → 4 ≤ length s → get_or s 0 0 ≡ 92 → get_or s 1 0 ≡ 120
    → get_or s 2 0 < 128 → get_or s 3 0 < 128 →
    (chars s ≡ 92 ∷ 120 ∷ get_or s 2 0 ∷ get_or s 3 0 ∷ chars (drop 4 s)) × IsUtf8 (drop 4 s)
byte-escape [] u long e f k l = absurd (omega arith)
byte-escape (x ∷ []) u long e f k l = absurd (omega arith)
byte-escape (x ∷ y ∷ []) u long e f k l = absurd (omega arith)
byte-escape (x ∷ y ∷ h ∷ []) u long e f k l = absurd (omega arith)
byte-escape (x ∷ y ∷ h ∷ d ∷ r) u long e f k l =
    let one = ascii-first x (y ∷ h ∷ d ∷ r) u (omega (arith, e)) in
    let two = ascii-first y (h ∷ d ∷ r) one.1 (omega (arith, f)) in
    let three = ascii-first h (d ∷ r) two.1 k in
    let four = ascii-first d r three.1 l in (
      rw (one.0, two.0, three.0, four.0, e, f) refl,
      four.1,
    )

-- Two digits, by their values: they are ASCII, and together they mean one character of ASCII.
pub digit-ascii : (c : ℕ) → digit_value c < 16 → c < 128
digit-ascii c h = grind (arith, nat_tests)

given : (b : Bool) (x v : ℕ) → Some v ≡ (if b then Some x else None) → (b ≡ true) × (x ≡ v)
given true x v e = (refl, cc)
given false x v e = absurd cc

pub octal-digit : (c v : ℕ) → Some v ≡ (if is_octal c then Some (digit_value c) else None)
    → (c < 128) × (v < 8)
octal-digit c v e =
    let at = given (is_octal c) (digit_value c) v e in
    let small : digit_value c < 8 = ltb-true _ 8 at.0 in
    (digit-ascii c (omega arith), omega (arith, at.1))

pub hex-digit : (c v : ℕ) → Some v ≡ (if is_hex c then Some (digit_value c) else None)
    → (c < 128) × (v < 16)
hex-digit c v e =
    let at = given (is_hex c) (digit_value c) v e in
    let small : digit_value c < 16 = ltb-true _ 16 at.0 in
    (digit-ascii c small, omega (arith, at.1))

pub two-digits : (h l v w : ℕ) (r : Text) → Some v
    ≡ (if is_octal h then Some (digit_value h) else None) →
    Some w ≡ (if is_hex l then Some (digit_value l) else None)
    → meaning (byte_at (h ∷ l ∷ r)) ≡ Some ((v * 16 + w) ∷ [], r)
unfolding byte_at
two-digits h l v w r e f =
    let high = given (is_octal h) (digit_value h) v e in
    let low = given (is_hex l) (digit_value l) w f in
    rw (high.0, low.0, high.1, low.1) (ap (λ n. Some (n ∷ [], r)) (omega arith))

-- its meaning is that of its digits
pub unit-byte : (t : Text) (h l : ℕ) (r : Text) (v : Option (Text × Text))
    → t ≡ 92 ∷ 120 ∷ h ∷ l ∷ r → meaning (byte_at (h ∷ l ∷ r)) ≡ v →
    meaning (unit_at t) ≡ v
unfolding unit_at escape_at
unit-byte t h l r v e k = ap (λ s. meaning (unit_at s)) e ∙ k
