-- A token keeps its reading where what follows it stays the same up to a barrier, or to the first
-- character of a word right after it.
use Rattle.std.proofs.Common.{◌≡◌, ℕ, Bool, true, false, not, ◌&&◌, ◌||◌, ◌++◌, [], ◌∷◌}
use Rattle.std.proofs.Common.{◌⊎◌, inl, inr, Some, None, refl, ap, sym, ◌∙◌, append_assoc}
use Rattle.std.proofs.Common.{arith, subst}
use Rattle.std.specs.Prelude.{◌==◌, IsTrue, if◌then◌else◌}
use Rattle.std.specs.List.{list_all}
use Rattle.std.proofs.lemmas.Bool.{false≢true, and_parts}
use Rattle.std.proofs.lemmas.Option.{none-some}
use Rattle.rust_tokens.specs.declared.kinds.Kind.{Kind}
use Rattle.rust_tokens.specs.declared.kinds.Kind.TheVariants.{Whitespace, LineComment, OuterLineDoc}
use Rattle.rust_tokens.specs.declared.kinds.Kind.TheVariants.{InnerLineDoc, BlockComment}
use Rattle.rust_tokens.specs.declared.kinds.Kind.TheVariants.{OuterBlockDoc}
use Rattle.rust_tokens.specs.declared.kinds.Kind.TheVariants.{InnerBlockDoc, Ident, RawIdent}
use Rattle.rust_tokens.specs.declared.kinds.Kind.TheVariants.{Lifetime}
use Rattle.rust_tokens.specs.declared.kinds.Kind.TheVariants.{RawLifetime, BinaryInt, OctalInt}
use Rattle.rust_tokens.specs.declared.kinds.Kind.TheVariants.{DecimalInt, HexadecimalInt, Float}
use Rattle.rust_tokens.specs.declared.kinds.Kind.TheVariants.{Char}
use Rattle.rust_tokens.specs.declared.kinds.Kind.TheVariants.{Byte, Str, ByteStr, CStr, RawStr}
use Rattle.rust_tokens.specs.declared.kinds.Kind.TheVariants.{RawByteStr, RawCStr, Punct, Unknown}
use Rattle.rust_tokens.specs.declared.kinds.Kind.TheVariants.{Shebang, ByteOrderMark}
use Rattle.rust_tokens.specs.Texts.{Text, HasNoFront}
use Rattle.rust_tokens.specs.Runs.{first_passes, stops, is_id_start, is_id_continue}
use Rattle.rust_tokens.specs.Runs.{is_space, is_in_line, is_digit, is_digit_part, is_hex_part}
use Rattle.rust_tokens.specs.Runs.{is_apostrophe, is_star_or_slash}
use Rattle.rust_tokens.specs.Comments.{IsLine}
use Rattle.rust_tokens.specs.Characters.{BeginsRawName}
use Rattle.rust_tokens.specs.Numbers.{after_point, is_point_or_start, IsExponent, is_based}
use Rattle.rust_tokens.specs.Numbers.{IsBased, IsDigits, IsFractional, IsPointed}
use Rattle.rust_tokens.specs.Numbers.{IsScientific}
use Rattle.rust_tokens.specs.Openings.{IsOpening}
use Rattle.rust_tokens.specs.Tokens.{IsSuffix, Stands, is_literal}
use Rattle.rust_tokens.specs.Fronts.{is_inner}
use Rattle.rust_tokens.proofs.Basics.{and_no, no_pass, not_false, not_not}
use Rattle.rust_tokens.proofs.Classes.{apart, no_space, start_at, starts-go_on, starts-slash}
use Rattle.rust_tokens.proofs.InnerTexts.{AreInner, exponent-inner, one-inner, opening-inner}
use Rattle.rust_tokens.proofs.InnerTexts.{r-inner}
use Rattle.rust_tokens.proofs.InnerTexts.{words-inner}

abbrev tail : Text → Text
tail [] = []
tail (c ∷ t) = t

abbrev head : Text → ℕ
head [] = 0
head (c ∷ t) = c

-- A front of inner characters ends before a character that is none.
front-before : (p r m : Text) (d : ℕ) (t : Text) → is_inner d ≡ false → AreInner p
    → m ++ d ∷ t ≡ p ++ r → (e : Text) × (m ≡ p ++ e) × (r ≡ e ++ d ∷ t)
front-before [] r m d t n i j = (m, refl, sym j)
front-before (x ∷ p) r [] d t n i j =
    absurd (false≢true (sym n ∙ (ap (λ u. is_inner (head u)) j
    ∙ (and_parts (is_inner x) (list_all is_inner p) i).0)))
front-before (x ∷ p) r (y ∷ m) d t n i j =
    let h = and_parts (is_inner x) (list_all is_inner p) i in
    let f = front-before p r m d t n h.1 (ap (λ u. tail u) j) in
    (f.0, same-cons f.0 (ap (λ u. head u) j) f.1, f.2)
  where
    same-cons : (e : Text) → y ≡ x → m ≡ p ++ e → y ∷ m ≡ x ∷ (p ++ e)
    same-cons e g h = rw (g, h) refl

-- Tests of the first character.
far-first : (p : ℕ → Bool) (m : Text) (d : ℕ) (t u : Text)
    → first_passes p (m ++ d ∷ t) ≡ first_passes p (m ++ d ∷ u)
far-first p [] d t u = refl
far-first p (x ∷ m) d t u = refl

far-stops : (p : ℕ → Bool) (m : Text) (d : ℕ) (t u : Text) → IsTrue (stops p (m ++ d ∷ t))
    → IsTrue (stops p (m ++ d ∷ u))
far-stops p m d t u h = ap (λ b. not b) (far-first p m d u t) ∙ h

-- No front of inner characters begins there.
far-none : (P : Text → Type 0) (m : Text) (d : ℕ) (t u : Text) → is_inner d ≡ false
    → ((p : Text) → P p → AreInner p) → HasNoFront P (m ++ d ∷ t) → HasNoFront P (m ++ d ∷ u)
far-none P m d t u n i f = λ p r j h.
    let e = front-before p r m d u n (i p h) j in
    f p (e.0 ++ d ∷ t) (ap (λ v. v ++ d ∷ t) e.1 ∙ append_assoc p e.0 (d ∷ t)) h

far-opening : (b m : Text) (d : ℕ) (t u : Text) → is_inner d ≡ false
    → HasNoFront IsOpening (b ++ (m ++ d ∷ t)) → HasNoFront IsOpening (b ++ (m ++ d ∷ u))
far-opening b m d t u n f =
    subst (λ v. HasNoFront IsOpening v) (append_assoc b m (d ∷ u))
    (far-none IsOpening (b ++ m) d t u n opening-inner
    (subst (λ v. HasNoFront IsOpening v) (sym (append_assoc b m (d ∷ t))) f))

raw-name : (m : Text) (d : ℕ) (t u : Text) → is_inner d ≡ false → BeginsRawName (m ++ d ∷ u)
    → BeginsRawName (m ++ d ∷ t)
raw-name m d t u n h =
    let y = h.2 in
    let i : AreInner (114 ∷ 35 ∷ y.0) =
    opening-word y.0 (words-inner y.0 y.3) in
    let e = front-before (114 ∷ 35 ∷ y.0) y.1 m d u n i
    (h.1 ∙ ap (λ v. 114 ∷ 35 ∷ v) y.2) in (
      y.0 ++ (e.0 ++ d ∷ t),
      ap (λ v. v ++ d ∷ t) e.1 ∙ ap (λ v. 114 ∷ 35 ∷ v) (append_assoc y.0 e.0 (d ∷ t)),
      (
        y.0,
        e.0 ++ d ∷ t,
        refl,
        y.3,
        far-stops is_id_continue e.0 d u t (subst (λ v. IsTrue (stops is_id_continue v)) e.2 y.4),
        far-stops is_apostrophe e.0 d u t (subst (λ v. IsTrue (stops is_apostrophe v)) e.2 y.5),
      ),
    )
  where
    opening-word : (w : Text) → AreInner w → AreInner (114 ∷ 35 ∷ w)
    opening-word w e = one-inner 114 (35 ∷ w) r-inner (one-inner 35 w refl e)

far-name : (w m : Text) (d : ℕ) (t u : Text) → is_inner d ≡ false
    → (BeginsRawName (w ++ (m ++ d ∷ t)) → ⊥) → BeginsRawName (w ++ (m ++ d ∷ u)) → ⊥
far-name w m d t u n f h =
    f (subst (λ v. BeginsRawName v) (append_assoc w m (d ∷ t))
    (raw-name (w ++ m) d t u n
    (subst (λ v. BeginsRawName v) (sym (append_assoc w m (d ∷ u))) h)))

-- The point of a number.
point-test : (x : ℕ) (t u : Text) → first_passes is_point_or_start t
    ≡ first_passes is_point_or_start u → after_point (x ∷ t) ≡ None → after_point (x ∷ u) ≡ None
point-test x t u e h = by_test (x == 46 && stops is_point_or_start t) refl
  where
    same : (x == 46 && stops is_point_or_start u) ≡ (x == 46 && stops is_point_or_start t)
    same = ap (λ b. x == 46 && not b) (sym e)

    by_test : (b : Bool) → (x == 46 && stops is_point_or_start t) ≡ b → after_point (x ∷ u) ≡ None
    by_test false f = ap (λ b. if b then Some u else None) (same ∙ f)
    by_test true f = absurd (none-some t (sym h ∙ ap (λ b. if b then Some t else None) f))

far-point : (m : Text) (d : ℕ) (t u : Text) → is_inner d ≡ false
    → after_point (m ++ d ∷ t) ≡ None → after_point (m ++ d ∷ u) ≡ None
far-point [] d t u n h =
    let e : (d == 46) ≡ false = apart-false d 46 n refl in
    ap (λ b. if b && stops is_point_or_start u then Some u else None) e
  where
    apart-false : (c x : ℕ) → is_inner c ≡ false → is_inner x ≡ true → (c == x) ≡ false
    apart-false c x n i = apart (λ v. not (is_inner v)) c x (ap (λ b. not b) i)
        (ap (λ b. not b) n)
far-point (x ∷ m) d t u n h =
    point-test x (m ++ d ∷ t) (m ++ d ∷ u) (far-first is_point_or_start m d t u) h

-- The letter of a base.
based-test : (x : ℕ) (m : Text) (d : ℕ) (t u : Text)
    → is_based (x ∷ (m ++ d ∷ t)) ≡ is_based (x ∷ (m ++ d ∷ u))
based-test x [] d t u = refl
based-test x (y ∷ m) d t u = refl

far-based : (b m : Text) (d : ℕ) (t u : Text) → IsDigits b
    → is_based (b ++ (m ++ d ∷ t)) ≡ false → is_based (b ++ (m ++ d ∷ u)) ≡ false
far-based b m d t u x h =
    ap (λ v. is_based (v ++ (m ++ d ∷ u))) x.4
    ∙ (ap (λ v. is_based (x.0 ∷ v)) (sym (append_assoc x.1 m (d ∷ u)))
    ∙ (based-test x.0 (x.1 ++ m) d u t
    ∙ (ap (λ v. is_based (x.0 ∷ v)) (append_assoc x.1 m (d ∷ t))
    ∙ (ap (λ v. is_based (v ++ (m ++ d ∷ t))) (sym x.4) ∙ h))))

far-exponent : (m : Text) (d : ℕ) (t u : Text) → is_inner d ≡ false
    → HasNoFront IsExponent (m ++ d ∷ t) → HasNoFront IsExponent (m ++ d ∷ u)
far-exponent m d t u n f = far-none IsExponent m d t u n exponent-inner f

far-line : (k : Kind) (b m : Text) (d : ℕ) (t u : Text) → IsLine k b (m ++ d ∷ t)
    → IsLine k b (m ++ d ∷ u)
far-line k b m d t u x = (x.0, x.1, x.2, x.3, far-stops is_in_line m d t u x.4)

far-digits : (letter : ℕ) (p : ℕ → Bool) (b m : Text) (d : ℕ) (t u : Text)
    → IsBased letter p b (m ++ d ∷ t) → IsBased letter p b (m ++ d ∷ u)
far-digits letter p b m d t u x = (x.0, x.1, x.2, far-stops p m d t u x.3)

far-float : (b m : Text) (d : ℕ) (t u : Text) → is_inner d ≡ false
    → IsPointed b (m ++ d ∷ t) ⊎ (IsFractional b (m ++ d ∷ t) ⊎ IsScientific b (m ++ d ∷ t))
    → IsPointed b (m ++ d ∷ u) ⊎ (IsFractional b (m ++ d ∷ u) ⊎ IsScientific b (m ++ d ∷ u))
far-float b m d t u n (inl x) = inl (
  x.0,
  x.1,
  x.2,
  far-stops is_point_or_start m d t u x.3,
  far-stops is_digit m d t u x.4,
)
far-float b m d t u n (inr (inl x)) = inr (inl (
  x.0,
  x.1,
  x.2,
  x.3,
  x.4,
  far-stops is_digit_part m d t u x.5,
  far-exponent m d t u n x.6,
))
far-float b m d t u n (inr (inr x)) =
    inr (inr (x.0, x.1, x.2, x.3, x.4, x.5, x.6, far-stops is_digit_part m d t u x.7))

-- A token that has its end, where a barrier follows at some place.
pub far : (k : Kind) (b m : Text) (d : ℕ) (t u : Text) → is_inner d ≡ false
    → Stands k true b (m ++ d ∷ t) → Stands k true b (m ++ d ∷ u)
far Whitespace b m d t u n x = (x.0, x.1, far-stops is_space m d t u x.2)
far LineComment b m d t u n x = (x.0, far-line LineComment b m d t u x.1)
far OuterLineDoc b m d t u n x = (x.0, far-line OuterLineDoc b m d t u x.1)
far InnerLineDoc b m d t u n x = (x.0, far-line InnerLineDoc b m d t u x.1)
far BlockComment b m d t u n x = x
far OuterBlockDoc b m d t u n x = x
far InnerBlockDoc b m d t u n x = x
far Ident b m d t u n x =
    (x.0, x.1, far-stops is_id_continue m d t u x.2, far-opening b m d t u n x.3)
far RawIdent b m d t u n x = (x.0, x.1, x.2, x.3, far-stops is_id_continue m d t u x.4)
far Lifetime b m d t u n x = (
  x.0,
  x.1,
  x.2,
  x.3,
  far-stops is_id_continue m d t u x.4,
  far-stops is_apostrophe m d t u x.5,
  far-name x.1 m d t u n x.6,
)
far RawLifetime b m d t u n x = (
  x.0,
  x.1,
  x.2,
  x.3,
  far-stops is_id_continue m d t u x.4,
  far-stops is_apostrophe m d t u x.5,
)
far BinaryInt b m d t u n x = (x.0, far-digits 98 is_digit_part b m d t u x.1)
far OctalInt b m d t u n x = (x.0, far-digits 111 is_digit_part b m d t u x.1)
far DecimalInt b m d t u n x =
    let y = x.1 in (
      x.0,
      (
        y.0,
        far-stops is_digit_part m d t u y.1,
        far-point m d t u n y.2,
        far-exponent m d t u n y.3,
        far-based b m d t u y.0 y.4,
      ),
    )
far HexadecimalInt b m d t u n x = (x.0, far-digits 120 is_hex_part b m d t u x.1)
far Float b m d t u n x = (x.0, far-float b m d t u n x.1)
far Char b m d t u n x = x
far Byte b m d t u n x = x
far Str b m d t u n x = x
far ByteStr b m d t u n x = x
far CStr b m d t u n x = x
far RawStr b m d t u n x = x
far RawByteStr b m d t u n x = x
far RawCStr b m d t u n x = x
far Punct b m d t u n x = (
  x.0,
  x.1,
  x.2,
  x.3,
  ap (λ q. not (x.1 == 47 && q)) (far-first is_star_or_slash m d u t) ∙ x.4,
)
far Unknown b m d t u n x = x
far Shebang b m d t u n x = absurd x
far ByteOrderMark b m d t u n x = absurd x

pub far-suffix : (q : Bool) (s m : Text) (d : ℕ) (t u : Text) → IsSuffix q s (m ++ d ∷ t)
    → IsSuffix q s (m ++ d ∷ u)
far-suffix false s m d t u x = x
far-suffix true s m d t u (inl x) = inl (x.0, far-stops is_id_start m d t u x.1)
far-suffix true s m d t u (inr x) = inr (x.0, far-stops is_id_continue m d t u x.1)

-- A literal, and a word, goes on with a word right after it.
no-suffix : (s : Text) (c : ℕ) (t : Text) → is_id_start c ≡ true → IsSuffix true s (c ∷ t) → ⊥
no-suffix s c t h (inl x) = false≢true (sym (not_false (is_id_start c) x.1) ∙ h)
no-suffix s c t h (inr x) =
    false≢true (sym (not_false (is_id_continue c) x.1) ∙ starts-go_on c h)

no-word : (s : Text) (c : ℕ) (t : Text) → is_id_start c ≡ true → s ≡ []
    → IsTrue (stops is_id_continue (s ++ c ∷ t)) → ⊥
no-word s c t h e x =
    let y : IsTrue (stops is_id_continue (c ∷ t)) =
    subst (λ v. IsTrue (stops is_id_continue (v ++ c ∷ t))) e x in
    false≢true (sym (not_false (is_id_continue c) y) ∙ starts-go_on c h)

-- No line comment and no white space stands right before a word.
no-line : (k : Kind) (b s : Text) (c : ℕ) (t : Text) → is_id_start c ≡ true → s ≡ []
    → IsLine k b (s ++ c ∷ t) → ⊥
no-line k b s c t h e x =
    let y : IsTrue (stops is_in_line (c ∷ t)) =
    subst (λ v. IsTrue (stops is_in_line (v ++ c ∷ t))) e x.4 in
    false≢true (sym (apart is_id_start c 10 (start_at 10 (omega arith)) h) ∙ not_not (c == 10) y)

no-mark : (q : Bool) (s : Text) (c : ℕ) (t : Text) → is_id_start c ≡ true → s ≡ []
    → IsTrue (not (q && first_passes is_star_or_slash (s ++ c ∷ t)))
no-mark q s c t h e =
    let star : (c == 42) ≡ false = apart is_id_start c 42 (start_at 42 (omega arith)) h in
    let slash : (c == 47) ≡ false = apart is_id_start c 47 starts-slash h in
    let none : first_passes is_star_or_slash (s ++ c ∷ t) ≡ false =
    ap (λ v. first_passes is_star_or_slash (v ++ c ∷ t)) e
    ∙ (ap (λ b. b || (c == 47)) star ∙ slash) in
    no_pass _ (and_no q _ none)

no-space : (s : Text) (c : ℕ) (t : Text) → is_id_start c ≡ true → s ≡ []
    → IsTrue (stops is_space (s ++ c ∷ t))
no-space s c t h e =
    subst (λ v. IsTrue (stops is_space (v ++ c ∷ t))) (sym e) (no_pass _ (no_space c h))

-- A token that has its end, where a word follows right after it.
pub near : (k : Kind) (b s : Text) (c d : ℕ) (t u : Text) → is_id_start c ≡ true
    → is_id_start d ≡ true → IsSuffix (is_literal k && true) s (c ∷ t)
    → Stands k true b (s ++ c ∷ t) → Stands k true b (s ++ d ∷ u)
near Whitespace b s c d t u h g f x = (x.0, x.1, no-space s d u g f)
near LineComment b s c d t u h g f x = absurd (no-line LineComment b s c t h f x.1)
near OuterLineDoc b s c d t u h g f x = absurd (no-line OuterLineDoc b s c t h f x.1)
near InnerLineDoc b s c d t u h g f x = absurd (no-line InnerLineDoc b s c t h f x.1)
near BlockComment b s c d t u h g f x = x
near OuterBlockDoc b s c d t u h g f x = x
near InnerBlockDoc b s c d t u h g f x = x
near Ident b s c d t u h g f x = absurd (no-word s c t h f x.2)
near RawIdent b s c d t u h g f x = absurd (no-word s c t h f x.4)
near Lifetime b s c d t u h g f x = absurd (no-word s c t h f x.4)
near RawLifetime b s c d t u h g f x = absurd (no-word s c t h f x.4)
near BinaryInt b s c d t u h g f x = absurd (no-suffix s c t h f)
near OctalInt b s c d t u h g f x = absurd (no-suffix s c t h f)
near DecimalInt b s c d t u h g f x = absurd (no-suffix s c t h f)
near HexadecimalInt b s c d t u h g f x = absurd (no-suffix s c t h f)
near Float b s c d t u h g f x = absurd (no-suffix s c t h f)
near Char b s c d t u h g f x = absurd (no-suffix s c t h f)
near Byte b s c d t u h g f x = absurd (no-suffix s c t h f)
near Str b s c d t u h g f x = absurd (no-suffix s c t h f)
near ByteStr b s c d t u h g f x = absurd (no-suffix s c t h f)
near CStr b s c d t u h g f x = absurd (no-suffix s c t h f)
near RawStr b s c d t u h g f x = absurd (no-suffix s c t h f)
near RawByteStr b s c d t u h g f x = absurd (no-suffix s c t h f)
near RawCStr b s c d t u h g f x = absurd (no-suffix s c t h f)
near Punct b s c d t u h g f x = (x.0, x.1, x.2, x.3, no-mark (x.1 == 47) s d u g f)
near Unknown b s c d t u h g f x = x
near Shebang b s c d t u h g f x = absurd x
near ByteOrderMark b s c d t u h g f x = absurd x

pub near-suffix : (q : Bool) (s : Text) (c d : ℕ) (t u : Text) → is_id_start c ≡ true
    → IsSuffix q s (c ∷ t) → IsSuffix q s (d ∷ u)
near-suffix false s c d t u h x = x
near-suffix true s c d t u h x = absurd (no-suffix s c t h x)
