-- Where numbers end.
use Rattle.std.proofs.Common.{◌≡◌, ℕ, Bool, true, false, ◌&&◌, ◌||◌, ◌++◌, cond, [], ◌∷◌, inl, inr}
use Rattle.std.proofs.Common.{◌⊎◌}
use Rattle.std.proofs.Common.{Some, None, refl, ap, sym, ◌∙◌, append_assoc}
use Rattle.std.specs.Prelude.{◌==◌, codes, IsTrue}
use Rattle.std.specs.List.{list_all}
use Rattle.std.proofs.lemmas.Bool.{eqb-true, and_parts, and_from, cond-true, cond-false}
use Rattle.rust_tokens.specs.Texts.{Text}
use Rattle.rust_tokens.specs.Runs.{first_passes, stops, rest_after, is_space, is_id_start, is_digit}
use Rattle.rust_tokens.specs.Runs.{is_digit_part}
use Rattle.rust_tokens.specs.Numbers.{is_exponent_mark, is_point_or_start, IsDigits}
use Rattle.rust_tokens.specs.Numbers.{IsExponent}
use Rattle.rust_tokens.specs.Numbers.{after_exponent, after_point}
use Rattle.rust_tokens.specs.Numbers.{is_based}
use Rattle.rust_tokens.specs.Numbers.{IsDecimal, IsPointed, IsFractional, IsScientific}
use Rattle.rust_tokens.specs.Openings.{first_opening}
use Rattle.rust_tokens.specs.declared.kinds.Kind.TheVariants.{DecimalInt, Float}
use Rattle.rust_tokens.specs.First.{Body, first_of, first_body, by_opening, first_number}
use Rattle.rust_tokens.specs.First.{first_zero}
use Rattle.rust_tokens.specs.First.{first_decimal, fraction_or, after_fraction, exponent_or}
use Rattle.rust_tokens.proofs.Classes.{apart, rest_after-append, digit-starts}
use Rattle.rust_tokens.proofs.Classes.{digit-space, digit-part}
use Rattle.rust_tokens.proofs.Exponents.{exponent-ends, exponent-none}
use Rattle.rust_tokens.proofs.Basics.{not_false, no_pass, neither, and_no}

pub unspaced : (c : ℕ) (t : Text) → is_space c ≡ false
    → first_body c t ≡ by_opening c t (first_opening (c ∷ t))
unspaced c t s = cond-false (is_space c) _ _ s

pub no-opening : (p : ℕ → Bool) (c : ℕ) (t : Text) → p 34 ≡ false → p 98 ≡ false → p 99 ≡ false
    → p 114 ≡ false → p c ≡ true → first_opening (c ∷ t) ≡ None
no-opening p c t q b d r y =
    rw (apart p c 34 q y, apart p c 98 b y, apart p c 99 d y, apart p c 114 r y) refl

pub at-digit : (c : ℕ) (t : Text) → is_digit c ≡ true → first_body c t ≡ first_number c t
at-digit c t y =
    unspaced c t (digit-space c y)
    ∙ (ap (λ o. by_opening c t o) (no-opening is_digit c t refl refl refl refl y)
    ∙ (cond-false (is_id_start c) _ _ (digit-starts c y) ∙ cond-true (is_digit c) _ _ y))

same-both : (b : Bool) (x : Body) → cond b x x ≡ x
same-both true x = refl
same-both false x = refl

unbased : (d : ℕ) (t : Text) → is_based (d ∷ t) ≡ false → first_number d t ≡ first_decimal t
unbased d [] h = same-both (d == 48) (first_decimal [])
unbased d (c ∷ t) h = by_test (d == 48) h
  where
    by_test : (b : Bool) → (b && (c == 98 || (c == 111 || c == 120))) ≡ false
        → cond b (first_zero (c ∷ t)) (first_decimal (c ∷ t)) ≡ first_decimal (c ∷ t)
    by_test false h = refl
    by_test true h =
        let x = neither (c == 98) _ h in
        let y = neither (c == 111) _ x.1 in
        cond-false (c == 98) _ _ x.0 ∙ (cond-false (c == 111) _ _ y.0
        ∙ cond-false (c == 120) _ _ y.1)

-- A number whose digits end where u begins.
at-decimal : (d : ℕ) (w u : Text) → is_digit d ≡ true → list_all is_digit_part w ≡ true
    → first_passes is_digit_part u ≡ false → is_based (d ∷ (w ++ u)) ≡ false
    → first_of (d ∷ (w ++ u)) ≡ Some (fraction_or u (after_point u))
at-decimal d w u y a s b =
    ap (λ x. Some x) (at-digit d (w ++ u) y ∙ (unbased d (w ++ u) b
    ∙ ap (λ t. fraction_or t (after_point t)) (rest_after-append is_digit_part w u a s)))

-- No base's letter follows.
not-based : (d : ℕ) (w u : Text) (c : ℕ) → list_all is_digit_part w ≡ true
    → (c == 98 || (c == 111 || c == 120)) ≡ false → is_based (d ∷ (w ++ c ∷ u)) ≡ false
not-based d [] u c a h = and_no (d == 48) _ h
not-based d (e ∷ w) u c a h =
    let y = (and_parts (is_digit_part e) _ a).0 in
    and_no (d == 48) _ (rw (
      apart is_digit_part e 98 refl y,
      apart is_digit_part e 111 refl y,
      apart is_digit_part e 120 refl y,
    ) refl)

pub decimal-found : (b a : Text) → IsDecimal b a → first_of (b ++ a) ≡ Some (DecimalInt, true, a)
decimal-found b a x =
    let y = x.0 in
    ap (λ t. first_of (t ++ a)) y.4
    ∙ (at-decimal y.0 y.1 a y.2 y.3 (not_false _ x.1) (sym (ap (λ t. is_based (t ++ a)) y.4) ∙ x.4)
    ∙ (ap (λ o. Some (fraction_or a o)) x.2 ∙ ap (λ o. Some (exponent_or DecimalInt a o))
    (exponent-none a x.3)))

-- After a point.
pub at-point : (d : ℕ) (w u : Text) → is_digit d ≡ true → list_all is_digit_part w ≡ true
    → IsTrue (stops is_point_or_start u) → first_of (d ∷ (w ++ 46 ∷ u)) ≡ Some (after_fraction u)
at-point d w u y a s =
    at-decimal d w (46 ∷ u) y a refl (not-based d w u 46 a refl)
    ∙ ap (λ o. Some (fraction_or (46 ∷ u) o)) (cond-true (stops is_point_or_start u) _ _ s)

pub pointed-found : (b a : Text) → IsPointed b a → first_of (b ++ a) ≡ Some (Float, true, a)
pointed-found b a x =
    let y = x.1 in
    ap (λ t. first_of (t ++ a)) (x.2 ∙ ap (λ t. t ++ codes ".") y.4)
    ∙ (ap (λ t. first_of (y.0 ∷ t)) (append_assoc y.1 (codes ".") a)
    ∙ (at-point y.0 y.1 a y.2 y.3 x.3
    ∙ ap (λ z. Some z) (cond-false (first_passes is_digit a) _ _ (not_false _ x.4))))

-- The digits after a point, where u follows them.
at-fraction : (fs u : Text) → IsDigits fs → first_passes is_digit_part u ≡ false
    → after_fraction (fs ++ u) ≡ exponent_or Float u (after_exponent u)
at-fraction fs u x s =
    ap (λ t. after_fraction (t ++ u)) x.4 ∙ (cond-true (is_digit x.0) _ _ x.2
    ∙ ap (λ t. exponent_or Float t (after_exponent t))
    (rest_after-append is_digit_part (x.0 ∷ x.1) u (and_from _ _ (digit-part x.0 x.2) x.3) s))

pub digits-stop : (fs u : Text) → IsDigits fs → IsTrue (stops is_point_or_start (fs ++ u))
digits-stop fs u x =
    rw x.4 (no_pass _ (rw (apart is_digit x.0 46 refl x.2) (digit-starts x.0 x.2)))

-- Digits, a point and digits, where u follows.
at-fractional : (d : ℕ) (w fs u : Text) → is_digit d ≡ true → list_all is_digit_part w ≡ true
    → IsDigits fs → first_passes is_digit_part u ≡ false
    → first_of (d ∷ (w ++ 46 ∷ (fs ++ u))) ≡ Some (exponent_or Float u (after_exponent u))
at-fractional d w fs u y a x s =
    at-point d w (fs ++ u) y a (digits-stop fs u x) ∙ ap (λ z. Some z) (at-fraction fs u x s)

pub fractional-found : (b a : Text) → IsFractional b a → first_of (b ++ a) ≡ Some (Float, true, a)
fractional-found b a x =
    let y = x.2 in
    ap (λ t. first_of (t ++ a)) (x.4 ∙ ap (λ t. t ++ (46 ∷ x.1)) y.4)
    ∙ (ap (λ t. first_of (y.0 ∷ t)) (append_assoc y.1 (46 ∷ x.1) a)
    ∙ (at-fractional y.0 y.1 x.1 a y.2 y.3 x.3 (not_false _ x.5)
    ∙ ap (λ o. Some (exponent_or Float a o)) (exponent-none a x.6)))

-- An exponent's mark is no digit, no point and no base's letter.
mark-facts : (c : ℕ) → is_exponent_mark c ≡ true → (is_digit_part c ≡ false) × ((c == 46) ≡ false)
    × ((c == 98 || (c == 111 || c == 120)) ≡ false)
mark-facts c y = by_test (c == 101) refl y
  where
    by_test : (b : Bool) → (c == 101) ≡ b → (b || c == 69) ≡ true
        → (is_digit_part c ≡ false) × ((c == 46) ≡ false)
        × ((c == 98 || (c == 111 || c == 120)) ≡ false)
    by_test true e h = rw (eqb-true c 101 e) (refl, refl, refl)
    by_test false e h = rw (eqb-true c 69 h) (refl, refl, refl)

no-point : (c : ℕ) (t : Text) → (c == 46) ≡ false → after_point (c ∷ t) ≡ None
no-point c t e = rw e refl

pub scientific-rest_after : (b c a : Text) → IsScientific b c
    → first_of (b ++ a) ≡ Some (Float, true, rest_after is_digit_part a)
scientific-rest_after b c a x =
    ap (λ t. first_of (t ++ a)) (x.6 ∙ ap (λ t. t ++ (x.1 ++ x.2)) y.4)
    ∙ (ap (λ t. first_of (y.0 ∷ t)) (append_assoc y.1 (x.1 ++ x.2) a
    ∙ ap (λ t. y.1 ++ t) (append_assoc x.1 x.2 a)) ∙ by_fraction x.4)
  where
    y : IsDigits x.0
    y = x.3

    z : IsExponent x.2
    z = x.5

    m : (is_digit_part z.0 ≡ false) × ((z.0 == 46) ≡ false)
        × ((z.0 == 98 || (z.0 == 111 || z.0 == 120)) ≡ false)
    m = mark-facts z.0 z.5

    stop : first_passes is_digit_part (x.2 ++ a) ≡ false
    stop = ap (λ t. first_passes is_digit_part (t ++ a)) z.10 ∙ m.0

    found : after_exponent (x.2 ++ a) ≡ Some (rest_after is_digit_part a)
    found = exponent-ends x.2 a z

    no_point : after_point (x.2 ++ a) ≡ None
    no_point = ap (λ t. after_point (t ++ a)) z.10
        ∙ no-point z.0 ((z.1 ++ (z.2 ++ z.3 ∷ z.4)) ++ a) m.1

    by_fraction : (x.1 ≡ []) ⊎ ((fs : Text) × IsDigits fs × (x.1 ≡ codes "." ++ fs))
        → first_of (y.0 ∷ (y.1 ++ (x.1 ++ (x.2 ++ a)))) ≡ Some (
          Float,
          true,
          rest_after
              is_digit_part a,
        )
    by_fraction (inl e) =
        ap (λ t. first_of (y.0 ∷ (y.1 ++ (t ++ (x.2 ++ a))))) e
        ∙ (at-decimal y.0 y.1 (x.2 ++ a) y.2 y.3 stop
        (ap (λ t. is_based (y.0 ∷ (y.1 ++ (t ++ a)))) z.10 ∙ not-based y.0 y.1
        ((z.1 ++ (z.2 ++ z.3 ∷ z.4)) ++ a) z.0 y.3 m.2)
        ∙ (ap (λ o. Some (fraction_or (x.2 ++ a) o)) no_point
        ∙ ap (λ o. Some (exponent_or DecimalInt (x.2 ++ a) o)) found))
    by_fraction (inr f) =
        ap (λ t. first_of (y.0 ∷ (y.1 ++ (t ++ (x.2 ++ a))))) f.2
        ∙ (at-fractional y.0 y.1 f.0 (x.2 ++ a) y.2 y.3 f.1 stop
        ∙ ap (λ o. Some (exponent_or Float (x.2 ++ a) o)) found)

pub scientific-found : (b a : Text) → IsScientific b a → first_of (b ++ a) ≡ Some (Float, true, a)
scientific-found b a x =
    scientific-rest_after b a a x
    ∙ ap (λ t. Some (Float, true, t)) (rest_after-append is_digit_part [] a refl (not_false _ x.7))
