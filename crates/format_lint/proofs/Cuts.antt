-- A text is cut after the characters that end within a number of bytes.
use Rattle.std.proofs.Common.{◌≡◌, ℕ, ◌+◌, ◌-◌, ◌<◌, ◌≤◌, ◌++◌, true, false, List, [], ◌∷◌, length}
use Rattle.std.proofs.Common.{chars, drop, take, refl, sym, ap, ◌∙◌, arith, IsUtf8, IsCharBoundary}
use Rattle.std.proofs.Common.{nat_lt}
use Rattle.std.specs.Char.{len_utf8}
use Rattle.std.proofs.Math.Nat.{lt_of_not-le}
use Rattle.std.proofs.Math.Seq.{drop-append_seam}
use Rattle.std.proofs.Math.Utf8.{encodes}
use Rattle.std.proofs.lemmas.List.{length-take-le, take-append-drop}
use Rattle.std.proofs.lemmas.List.Sums.{sum_by-cons}
use Rattle.std.proofs.lemmas.Str.{IsCharBoundary-past_char, IsUtf8-drop, IsUtf8-take, chars-append}
use Rattle.std.proofs.lemmas.Str.{encodes-chars, len_utf8_bounds}
use Rattle.rustc_parse_format.specs.Characters.{Text, byte_length}
use Rattle.rustc_parse_format.proofs.Sources.PlainPlaces.{width_chars}
use Rattle.drawn_lines.specs.Places.{front_within}
use Rattle.format_lint.specs.Colours.{rest_after}

-- If no character of v ends within w bytes after u, the characters of u are those within w bytes.
within-append : (w : ℕ) (u v : Text) → byte_length u ≤ w
    → ((c : ℕ) (t : Text) → v ≡ c ∷ t → w < byte_length u + len_utf8 c)
    → front_within w (u ++ v) ≡ u
within-append w [] [] h k = refl
within-append w [] (c ∷ v) h k =
    let far : w < len_utf8 c = omega (arith, k c v refl) in
    let e : nat_lt w (len_utf8 c) ≡ true = grind (arith, far) in
    rw e refl
within-append w (d ∷ u) v h k =
    let all : byte_length (d ∷ u) ≡ len_utf8 d + byte_length u = sum_by-cons len_utf8 d u in
    let e : nat_lt w (len_utf8 d) ≡ false = grind (arith, h, all) in
    let rest = within-append (w - len_utf8 d) u v (omega (arith, h, all))
    (λ c t f. omega (arith, h, all, k c t f)) in
    rw (e, rest) refl

rest_after-append : (w : ℕ) (u v : Text) → front_within w (u ++ v) ≡ u → rest_after w (u ++ v) ≡ v
rest_after-append w u v e = ap (λ t. drop (length t) (u ++ v)) e ∙ drop-append_seam u v

-- The last place of a text within w bytes that is between two characters.
pub record IsFloor (w : ℕ) (text : List ℕ) (n : ℕ) : Type 0 where
  pub bound : n ≤ w
  pub boundary : IsCharBoundary text n
  pub nearest : (i : ℕ) → n < i → i ≤ w → IsCharBoundary text i → ⊥

-- The character after that place does not end within w bytes.
far : (w : ℕ) (text : List ℕ) (n c : ℕ) (t : Text) → IsUtf8 text → IsFloor w text n
    → chars (drop n text) ≡ c ∷ t → w < n + len_utf8 c
far w text n c t u f e =
    let back = IsUtf8-drop text n u f.boundary in
    let bytes : drop n text ≡ encodes (c ∷ t) = sym (encodes-chars (drop n text) back)
    ∙ ap encodes e in
    let past = IsCharBoundary-past_char text (encodes t) n c f.boundary.0 back bytes in
    lt_of_not-le (λ h. f.nearest (n + len_utf8 c) (omega (arith, len_utf8_bounds c)) h past)

-- The text before that place and the text after it.
pub record AreCut (w : ℕ) (text u v : List ℕ) : Type 0 where
  pub front : chars u ≡ front_within w (chars text)
  pub back : chars v ≡ rest_after w (chars text)

pub cut : (w : ℕ) (text : List ℕ) (n : ℕ) → IsUtf8 text → IsFloor w text n
    → AreCut w text (take n text) (drop n text)
cut w text n u f =
    let a = IsUtf8-take text n u f.boundary in
    let x = chars (take n text) in
    let y = chars (drop n text) in
    let whole : chars text ≡ x ++ y = ap chars (sym (take-append-drop n text))
    ∙ chars-append (take n text) (drop n text) a in
    let width : byte_length x ≡ n = width_chars (take n text) a
    ∙ length-take-le n text f.boundary.0 in
    let front : front_within w (x ++ y) ≡ x = within-append w x y (omega (arith, width, f.bound))
    (λ c t e. omega (arith, width, far w text n c t u f e)) in
    record {
      front = rw whole (sym front);
      back = rw whole (sym (rest_after-append w x y front));
    }
