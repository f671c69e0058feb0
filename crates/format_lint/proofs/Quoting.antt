-- A quoted text is drawn as it is where its characters beyond ASCII are.
use Prim.Native.Char.{code}
use Rattle.std.proofs.Common.{◌≡◌, ◌<◌, ◌≤◌, ◌%◌, ◌/◌, ◌++◌, ◌∷◌, ◌∙◌, ◌⊎◌, inl, inr, ℕ, zero, suc}
use Rattle.std.proofs.Common.{Bool, true, false, IsUtf8, List, [], None, Option, Some, ap, arith}
use Rattle.std.proofs.Common.{cond}
use Rattle.std.proofs.Common.{encode_utf8_all, refl, sym}
use Rattle.std.proofs.Math.Utf8.{encode, scalar, scalars}
use Rattle.std.proofs.lemmas.Bool.{and_parts, cases_lt, cond_both}
use Rattle.std.proofs.lemmas.Bool.Decides.{nat_tests}
use Rattle.std.proofs.lemmas.List.Folds.{list_all-append}
use Rattle.std.proofs.lemmas.List.{append-nil}
use Rattle.std.proofs.lemmas.Str.{IsUtf8-append, IsUtf8-from_ascii, IsUtf8-nil, encode_ascii}
use Rattle.std.specs.Fmt.{digits, digits_onto, digit_glyph}
use Rattle.std.specs.List.{list_all}
use Rattle.std.specs.Prelude.{◌==◌, ◌||◌, codes, flat_map, if◌then◌else◌, nat_lt, not}
use Rattle.rustc_parse_format.specs.Characters.{Text}
use Rattle.rustc_parse_format.specs.Escaping.{plainly_written, written_character}
use Rattle.rustc_parse_format.proofs.Grammar.Fronts.{list_all-weaker}
use Rattle.piece_listing.specs.Listing.{quoted_text}
use Rattle.drawn_lines.specs.Glyphs.{glyph_bytes, is_non_ascii_drawn_as_is, is_drawn_as_is}
use Rattle.drawn_lines.specs.Glyphs.{is_printable}
use Rattle.drawn_lines.proofs.PrintableLemmas.{ascii-printable, whole-as-is}

digit-printable : (n : ℕ) → is_printable (digit_glyph false (n % 16)) ≡ true
digit-printable n = let l : n % 16 < 16 = omega arith in grind (arith, nat_tests)

digits-printable : (k n : ℕ) (ds : List ℕ) → list_all is_printable ds ≡ true
    → list_all is_printable (digits_onto k 16 false n ds) ≡ true
digits-printable zero n ds e = e
digits-printable (suc k) n ds e =
    let more : list_all is_printable (digit_glyph false (n % 16) ∷ ds) ≡ true =
    rw (digit-printable n) e in
    by_test (n / 16 == 0) _ _ more
    (digits-printable k (n / 16) (digit_glyph false (n % 16) ∷ ds) more)
  where
    by_test : (b : Bool) (xs ys : List ℕ) → list_all is_printable xs ≡ true
        → list_all is_printable ys ≡ true → list_all is_printable (cond b xs ys) ≡ true
    by_test true xs ys p q = p
    by_test false xs ys p q = q

both : (p : ℕ → Bool) (s t : List ℕ) → list_all p s ≡ true → list_all p t ≡ true
    → list_all p (s ++ t) ≡ true
both p s t e f = list_all-append p s t ∙ rw (e, f) refl

-- This is how a character is written: by printable ones of ASCII, or beyond ASCII as it is.
abbrev IsSpelled : ℕ → List ℕ → Type 0
IsSpelled c bs = (list_all is_printable bs ≡ true) ⊎ ((128 ≤ c) × (bs ≡ encode c))

plain-spelled : (c : ℕ) → IsSpelled c (plainly_written c)
unfolding digits
plain-spelled c =
    let digits = digits_onto 64 16 false c [] in
    cond_both (nat_lt c 32 || c == 127) (codes "\\u{" ++ (digits ++ codes "}")) (encode c)
    (IsSpelled c)
    (λ yes. inl (both is_printable (codes "\\u{") (digits ++ codes "}") refl
    (both is_printable digits (codes "}") (digits-printable 64 c [] refl) refl)))
    (λ other. by_width (cases_lt c 128) other)
  where
    by_width : (c < 128) ⊎ (128 ≤ c) → (nat_lt c 32 || c == 127) ≡ false
        → IsSpelled c (encode c)
    by_width (inl l) other =
        let own : is_printable c ≡ true = grind (arith, nat_tests) in
        inl (rw (encode_ascii c l, own) refl)
    by_width (inr l) other = inr (l, refl)

-- The same of a character with this escape.
abbrev IsEscaped : ℕ → Option (List ℕ) → Type 0
IsEscaped c o = IsSpelled c (elim o [ Some s ↦ s | None ↦ plainly_written c ])

spelled : (c : ℕ) → IsSpelled c (written_character c)
unfolding written_character
spelled c =
    let backslash = if c == code "\\" then Some (codes "\\\\") else None in
    let quote = if c == code "\"" then Some (codes "\\\"") else backslash in
    let apostrophe = if c == code "'" then Some (codes "\\'") else quote in
    let line_feed = if c == code "\n" then Some (codes "\\n") else apostrophe in
    let carriage_return = if c == code "\r" then Some (codes "\\r") else line_feed in
    let tab = if c == code "\t" then Some (codes "\\t") else carriage_return in
    cond_both (c == code "\0") (Some (codes "\\0")) tab (IsEscaped c) (λ yes. inl refl)
    (λ other. cond_both (c == code "\t") (Some (codes "\\t")) carriage_return (IsEscaped c)
    (λ yes. inl refl)
    (λ other. cond_both (c == code "\r") (Some (codes "\\r")) line_feed (IsEscaped c)
    (λ yes. inl refl)
    (λ other. cond_both (c == code "\n") (Some (codes "\\n")) apostrophe (IsEscaped c)
    (λ yes. inl refl)
    (λ other. cond_both (c == code "'") (Some (codes "\\'")) quote (IsEscaped c) (λ yes. inl refl)
    (λ other. cond_both (c == code "\"") (Some (codes "\\\"")) backslash (IsEscaped c)
    (λ yes. inl refl)
    (λ other. cond_both (c == code "\\") (Some (codes "\\\\")) None (IsEscaped c)
    (λ yes. inl refl) (λ other. plain-spelled c)))))))

-- the bytes of a character beyond ASCII are none of ASCII
late-bytes : (c : ℕ) → 128 ≤ c → list_all (λ b. not (nat_lt b 128)) (encode c) ≡ true
unfolding encode
late-bytes c l = grind (arith, nat_tests)

late-drawn : (bs : List ℕ) → list_all (λ b. not (nat_lt b 128)) bs ≡ true
    → list_all is_non_ascii_drawn_as_is bs ≡ true → list_all is_drawn_as_is bs ≡ true
late-drawn [] late e = refl
late-drawn (b ∷ bs) late e =
    let p = and_parts (not (nat_lt b 128)) (list_all (λ b. not (nat_lt b 128)) bs) late in
    let q = and_parts (is_non_ascii_drawn_as_is b) (list_all is_non_ascii_drawn_as_is bs) e in
    rw (one b p.0 q.0) (late-drawn bs p.1 q.1)
  where
    one : (b : ℕ) → not (nat_lt b 128) ≡ true → is_non_ascii_drawn_as_is b ≡ true
        → is_drawn_as_is b ≡ true
    one b p q = grind (arith, nat_tests)

spelled-drawn : (c : ℕ) (bs : List ℕ) → IsSpelled c bs
    → list_all is_non_ascii_drawn_as_is (encode c) ≡ true → list_all is_drawn_as_is bs ≡ true
spelled-drawn c bs (inl p) e =
    list_all-weaker is_printable is_drawn_as_is bs (λ b h. grind (arith, nat_tests)) p
spelled-drawn c bs (inr (l, same)) e =
    ap (list_all is_drawn_as_is) same ∙ late-drawn (encode c) (late-bytes c l) e

spelled-utf8 : (c : ℕ) (bs : List ℕ) → IsSpelled c bs → scalar c ≡ true → IsUtf8 bs
spelled-utf8 c bs (inl p) s = IsUtf8-from_ascii bs (ascii-printable bs p)
spelled-utf8 c bs (inr (l, same)) s =
    (c ∷ [], (rw s refl, append-nil (encode c) ∙ sym same))

text-drawn : (t : Text) → list_all is_non_ascii_drawn_as_is (encode_utf8_all t) ≡ true
    → list_all is_drawn_as_is (flat_map written_character t) ≡ true
text-drawn [] e = refl
text-drawn (c ∷ t) e =
    let parts = and_parts _ _
    (sym (list_all-append is_non_ascii_drawn_as_is (encode c) (encode_utf8_all t)) ∙ e) in
    both is_drawn_as_is (written_character c) (flat_map written_character t)
    (spelled-drawn c (written_character c) (spelled c) parts.0) (text-drawn t parts.1)

text-utf8 : (t : Text) → scalars t ≡ true → IsUtf8 (flat_map written_character t)
text-utf8 [] s = IsUtf8-nil
text-utf8 (c ∷ t) s =
    let parts = and_parts (scalar c) (scalars t) s in
    IsUtf8-append (written_character c) (flat_map written_character t)
    (spelled-utf8 c (written_character c) (spelled c) parts.0) (text-utf8 t parts.1)

-- A quoted text.
pub quoted-as-is : (t : Text) → scalars t ≡ true
    → list_all is_non_ascii_drawn_as_is (encode_utf8_all t) ≡ true
    → glyph_bytes (quoted_text t) ≡ quoted_text t
quoted-as-is t s e =
    let quote : IsUtf8 (codes "\"") =
    IsUtf8-from_ascii (codes "\"") (ascii-printable (codes "\"") refl)
    in
    whole-as-is (quoted_text t)
    (IsUtf8-append (codes "\"") (flat_map written_character t ++ codes "\"") quote
    (IsUtf8-append (flat_map written_character t) (codes "\"") (text-utf8 t s) quote))
    (both is_drawn_as_is (codes "\"") (flat_map written_character t ++ codes "\"") refl
    (both is_drawn_as_is (flat_map written_character t) (codes "\"") (text-drawn t e) refl))
