-- A front of a text reads as the same tokens whatever follows its last character.
use Rattle.std.proofs.Common.{◌≡◌, ℕ, zero, suc, Bool, true, false, ◌||◌, ◌++◌, []}
use Rattle.std.proofs.Common.{◌∷◌, ◌⊎◌, inl, inr, refl, ap, sym, ◌∙◌}
use Rattle.std.proofs.Common.{subst, arith}
use Rattle.std.specs.Prelude.{◌==◌, IsTrue, replicate}
use Rattle.std.specs.List.{list_all}
use Rattle.std.specs.Char.{is_ascii_alphanumeric}
use Rattle.std.proofs.Common.{◌<◌}
use Rattle.std.proofs.lemmas.Bool.{eqb-true, false≢true, and_parts, and_from}
use Rattle.unicode_ident.proofs.IdentLemmas.{is_xid_continue-ascii}
use Rattle.rust_tokens.specs.Texts.{Text}
use Rattle.rust_tokens.specs.Runs.{IsWord, is_id_start, is_id_continue}
use Rattle.rust_tokens.specs.Runs.{is_digit, is_digit_part, is_underscore}
use Rattle.rust_tokens.specs.Numbers.{IsExponent}
use Rattle.rust_tokens.specs.Numbers.{is_exponent_mark, is_sign}
use Rattle.rust_tokens.specs.Openings.{IsOpening}
use Rattle.rust_tokens.specs.Fronts.{is_inner}
use Rattle.rust_tokens.proofs.Classes.{starts-b, starts-c, starts-r, starts-go_on}

-- All characters are inner ones.
abbrev pub AreInner : Text → Type 0
AreInner t = list_all is_inner t ≡ true

last-of : (a b : Bool) → b ≡ true → (a || b) ≡ true
last-of true b e = refl
last-of false b e = e

first-of : (a b : Bool) → a ≡ true → (a || b) ≡ true
first-of true b e = refl
first-of false b e = absurd (false≢true e)

-- A character that continues a word is an inner one.
word-inner : (c : ℕ) → is_id_continue c ≡ true → is_inner c ≡ true
word-inner c e =
    last-of (c == 35) _ (last-of (c == 34) _ (last-of (c == 39) _ (last-of (c == 46) _
    (last-of (is_sign c) _ e))))

sign-inner : (c : ℕ) → is_sign c ≡ true → is_inner c ≡ true
sign-inner c e =
    last-of (c == 35) _ (last-of (c == 34) _ (last-of (c == 39) _ (last-of (c == 46) _
    (first-of (is_sign c) _ e))))

start-inner : (c : ℕ) → is_id_start c ≡ true → is_inner c ≡ true
start-inner c e = word-inner c (starts-go_on c e)

ascii-inner : (c : ℕ) → c < 128 → (is_ascii_alphanumeric c || (c == 95)) ≡ true
    → is_inner c ≡ true
ascii-inner c h e = word-inner c (is_xid_continue-ascii c h ∙ e)

digit-inner : (c : ℕ) → is_digit c ≡ true → is_inner c ≡ true
digit-inner c e = ascii-inner c (small e) (letter e)
  where
    small : is_digit c ≡ true → c < 128
    small y = grind arith

    letter : is_digit c ≡ true → (is_ascii_alphanumeric c || (c == 95)) ≡ true
    letter y = grind arith

underscore-inner : (c : ℕ) → is_underscore c ≡ true → is_inner c ≡ true
underscore-inner c e =
    ap (λ x. is_inner x) (eqb-true c 95 e) ∙ ascii-inner 95 (omega arith) refl

either-inner : (a b : Bool) (c : ℕ) → (a || b) ≡ true → (a ≡ true → is_inner c ≡ true)
    → (b ≡ true → is_inner c ≡ true) → is_inner c ≡ true
either-inner true b c e f g = f refl
either-inner false b c e f g = g e

part-inner : (c : ℕ) → is_digit_part c ≡ true → is_inner c ≡ true
part-inner c e = either-inner (c == 95) (is_digit c) c e (underscore-inner c) (digit-inner c)

mark-inner : (c : ℕ) → is_exponent_mark c ≡ true → is_inner c ≡ true
mark-inner c e = either-inner (c == 101) (c == 69) c e
    (λ h. ap (λ x. is_inner x) (eqb-true c 101 h) ∙ ascii-inner 101 (omega arith) refl)
    (λ h. ap (λ x. is_inner x) (eqb-true c 69 h) ∙ ascii-inner 69 (omega arith) refl)

-- If each character of a class is inner, so are all of a text of the class.
all-inner : (p : ℕ → Bool) (t : Text) → ((c : ℕ) → p c ≡ true → is_inner c ≡ true)
    → list_all p t ≡ true → AreInner t
all-inner p [] f e = refl
all-inner p (c ∷ t) f e =
    let h = and_parts (p c) (list_all p t) e in
    and_from _ _ (f c h.0) (all-inner p t f h.1)

join-inner : (s t : Text) → AreInner s → AreInner t → AreInner (s ++ t)
join-inner [] t e f = f
join-inner (c ∷ s) t e f =
    let h = and_parts (is_inner c) (list_all is_inner s) e in
    and_from _ _ h.0 (join-inner s t h.1 f)

hashes-inner : (n : ℕ) → AreInner (replicate n 35)
hashes-inner zero = refl
hashes-inner (suc n) = hashes-inner n

pub words-inner : (w : Text) → IsWord w → AreInner w
words-inner w x = subst (λ t. AreInner t) (sym x.4)
    (and_from _ _ (start-inner x.0 x.2) (all-inner is_id_continue x.1 word-inner x.3))

b-inner : is_inner 98 ≡ true
b-inner = start-inner 98 starts-b

c-inner : is_inner 99 ≡ true
c-inner = start-inner 99 starts-c

pub r-inner : is_inner 114 ≡ true
r-inner = start-inner 114 starts-r

pub one-inner : (c : ℕ) (t : Text) → is_inner c ≡ true → AreInner t → AreInner (c ∷ t)
one-inner c t e f = and_from _ _ e f

hash-quote : (n : ℕ) → AreInner (replicate n 35 ++ 34 ∷ [])
hash-quote n = join-inner (replicate n 35) (34 ∷ []) (hashes-inner n) refl

-- An opening and an exponent have inner characters alone.
pub opening-inner : (p : Text) → IsOpening p → AreInner p
opening-inner p (inl (inl e)) = subst (λ t. AreInner t) (sym e) refl
opening-inner p (inl (inr (inl e))) = subst (λ t. AreInner t) (sym e)
    (one-inner 98 (34 ∷ []) b-inner refl)
opening-inner p (inl (inr (inr (inl e)))) = subst (λ t. AreInner t) (sym e)
    (one-inner 99 (34 ∷ []) c-inner refl)
opening-inner p (inl (inr (inr (inr e)))) = subst (λ t. AreInner t) (sym e)
    (one-inner 98 (39 ∷ []) b-inner refl)
opening-inner p (inr (inl (n, inl e))) = subst (λ t. AreInner t) (sym e)
    (one-inner 114 (replicate n 35 ++ 34 ∷ []) r-inner (hash-quote n))
opening-inner p (inr (inl (n, inr (inl e)))) = subst (λ t. AreInner t) (sym e)
    (one-inner 98 (114 ∷ (replicate n 35 ++ 34 ∷ [])) b-inner
    (one-inner 114 (replicate n 35 ++ 34 ∷ []) r-inner (hash-quote n)))
opening-inner p (inr (inl (n, inr (inr e)))) = subst (λ t. AreInner t) (sym e)
    (one-inner 99 (114 ∷ (replicate n 35 ++ 34 ∷ [])) c-inner
    (one-inner 114 (replicate n 35 ++ 34 ∷ []) r-inner (hash-quote n)))
opening-inner p (inr (inr x)) = subst (λ t. AreInner t) (sym x.2)
    (one-inner 114 (35 ∷ x.0 ∷ []) r-inner
    (one-inner 35 (x.0 ∷ []) refl (one-inner x.0 [] (start-inner x.0 x.1) refl)))

pub exponent-inner : (p : Text) → IsExponent p → AreInner p
exponent-inner p x = subst (λ t. AreInner t) (sym x.10)
    (one-inner x.0 (x.1 ++ (x.2 ++ x.3 ∷ x.4)) (mark-inner x.0 x.5)
    (join-inner x.1 (x.2 ++ x.3 ∷ x.4) (signs x.1 x.6)
    (join-inner x.2 (x.3 ∷ x.4) (all-inner is_underscore x.2 underscore-inner x.7)
    (one-inner x.3 x.4 (digit-inner x.3 x.8) (all-inner is_digit_part x.4 part-inner x.9)))))
  where
    signs : (s : Text) → (s ≡ []) ⊎ ((m : ℕ) × IsTrue (is_sign m) × (s ≡ m ∷ [])) → AreInner s
    signs s (inl e) = subst (λ t. AreInner t) (sym e) refl
    signs s (inr y) = subst (λ t. AreInner t) (sym y.2)
        (one-inner y.0 [] (sign-inner y.0 y.1) refl)
