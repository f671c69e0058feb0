-- Texts by their bytes, as long as these are ASCII.
use Rattle.std.proofs.Common.{◌≡◌, ◌+◌, ◌<◌, List, ℕ, Bool, true, false, [], ◌∷◌}
use Rattle.std.proofs.Common.{inl, inr, length, chars, IsUtf8, IsCharBoundary, drop, get_or}
use Rattle.std.proofs.Common.{ap, sym, ◌∙◌, arith}
use Rattle.std.specs.Prelude.{◌⊎◌, ◌&&◌, ◌++◌, ◌≤◌, ◌==◌, ◌||◌, nat_lt}
use Rattle.std.specs.Char.{is_ascii_alphabetic, is_ascii_alphanumeric}
use Rattle.std.proofs.lemmas.Bool.{and_parts, cases_lt, cond-true, cond-false, false≢true}
use Rattle.std.proofs.lemmas.Bool.Decides.{nat_tests}
use Rattle.std.proofs.lemmas.List.{drop_more, drop_all}
use Rattle.std.proofs.lemmas.Str.{chars-nil, chars_past_char, encode_ascii, IsUtf8-drop}
use Rattle.std.proofs.lemmas.Str.{IsCharBoundary-after_ascii, IsCharBoundary-start}
use Rattle.unicode_ident.proofs.IdentLemmas.{is_xid_continue-ascii}
use Rattle.rust_tokens.specs.Bytes.{is_ascii_in}
use Rattle.rust_tokens.specs.Runs.{rest_after, is_id_continue, is_id_start}
use Rattle.rust_tokens.proofs.Classes.{start_at}

-- The bytes that continue a word.
pub word-byte : (b : ℕ) → (is_ascii_alphanumeric b || (b == 95)) ≡ is_ascii_in is_id_continue b
word-byte b = at (cases_lt b 128)
  where
    at : (b < 128) ⊎ (128 ≤ b)
        → (is_ascii_alphanumeric b || (b == 95)) ≡ is_ascii_in is_id_continue b
    at (inl small) = let e = is_xid_continue-ascii b small in grind (arith, nat_tests)
    at (inr big) = grind (arith, nat_tests)

-- The bytes that begin one.
pub start-byte : (b : ℕ) → ((b == 95) || is_ascii_alphabetic b) ≡ is_ascii_in is_id_start b
start-byte b = at (cases_lt b 128)
  where
    at : (b < 128) ⊎ (128 ≤ b) → ((b == 95) || is_ascii_alphabetic b) ≡ is_ascii_in is_id_start b
    at (inl small) = let e = start_at b small in grind (arith, nat_tests)
    at (inr big) = grind (arith, nat_tests)

-- An ASCII byte between characters is the next character.
pub ascii-next : (s : List ℕ) (i : ℕ) → IsUtf8 s → IsCharBoundary s i → i < length s
    → get_or s i 0 < 128 → chars (drop i s) ≡ get_or s i 0 ∷ chars (drop (i + 1) s)
ascii-next s i u b l small =
    let e : drop i s ≡ get_or s i 0 ∷ drop (i + 1) s = drop_more s i 0 l in
    chars_past_char (drop i s) (drop (i + 1) s) (get_or s i 0) (IsUtf8-drop s i u b)
    (e ∙ ap (λ t. t ++ drop (i + 1) s) (sym (encode_ascii (get_or s i 0) small)))

pub below : (b : ℕ) → nat_lt b 128 ≡ true → b < 128
below b h = grind (arith, nat_tests)

-- A run goes on over it,
pub run-more : (p : ℕ → Bool) (s : List ℕ) (i : ℕ) → IsUtf8 s → IsCharBoundary s i → i < length s
    → is_ascii_in p (get_or s i 0) ≡ true
    → IsCharBoundary s (i + 1)
    × (rest_after p (chars (drop (i + 1) s)) ≡ rest_after p (chars (drop i s)))
run-more p s i u b l y =
    let h = and_parts (nat_lt (get_or s i 0) 128) _ y in
    let small = below (get_or s i 0) h.0 in (
      IsCharBoundary-after_ascii s i u l small,
      sym (ap (λ t. rest_after p t) (ascii-next s i u b l small)
          ∙ cond-true (p (get_or s i 0)) _ _ h.1),
    )

-- or ends there.
pub run-ends : (p : ℕ → Bool) (s : List ℕ) (n : ℕ) → IsUtf8 s → IsCharBoundary s n
    → (n < length s → is_ascii_in p (get_or s n 0) ≡ false)
    → (n < length s → get_or s n 0 < 128) → chars (drop n s) ≡ rest_after p (chars (drop n s))
run-ends p s n u b stops small = at (cases_lt n (length s))
  where
    fails : (c d : Bool) → c ≡ true → (c && d) ≡ false → d ≡ false
    fails true d e h = h
    fails false d e h = absurd (false≢true e)

    at : (n < length s) ⊎ (length s ≤ n) → chars (drop n s) ≡ rest_after p (chars (drop n s))
    at (inl l) =
        let e = ascii-next s n u b l (small l) in
        let f = fails (nat_lt (get_or s n 0) 128) _ (grind (arith, nat_tests, small l)) (stops l) in
        e ∙ sym (ap (λ t. rest_after p t) e ∙ cond-false (p (get_or s n 0)) _ _ f)
    at (inr m) =
        let e : chars (drop n s) ≡ [] = ap chars (drop_all n s m) ∙ chars-nil in
        e ∙ sym (ap (λ t. rest_after p t) e)

pub not_empty : (n : ℕ) → (n == 0) ≡ false → 0 < n
not_empty n h = grind (arith, nat_tests)

-- The text after the first character, where that is ASCII.
pub ascii-first : (s : List ℕ) → IsUtf8 s → 0 < length s → get_or s 0 0 < 128
    → chars s ≡ get_or s 0 0 ∷ chars (drop 1 s)
ascii-first s u l small = ascii-next s 0 u (IsCharBoundary-start s u) l small
