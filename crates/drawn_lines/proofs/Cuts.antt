-- What is drawn of a line is a part of it, and no wider than the window with dots at its ends.
use Rattle.std.proofs.Common.{◌≡◌, ◌⊎◌, inl, inr, ℕ, ◌+◌, ◌-◌, ◌≤◌, Bool, true, false, []}
use Rattle.std.proofs.Common.{◌∷◌, ◌++◌, ◌∙◌, ap, append-nil, append_assoc, arith, cond, max}
use Rattle.std.proofs.Common.{nat_lt, refl, sym}
use Rattle.std.specs.Prelude.{◌==◌}
use Rattle.std.proofs.lemmas.Bool.Decides.{nat_tests}
use Rattle.rustc_parse_format.specs.Characters.{Text}
use Rattle.drawn_lines.specs.Glyphs.{glyphs, width}
use Rattle.drawn_lines.specs.Windows.{IsPartOf, after_dots, between_dots, columns, cut_columns}
use Rattle.drawn_lines.specs.Windows.{in_window, is_wide, left_out_columns, past_columns}
use Rattle.drawn_lines.specs.Windows.{within_columns}
use Rattle.drawn_lines.specs.declared.window.Window.{Window}

-- parts of texts
whole : (t : Text) → IsPartOf t t
whole t = ([], [], sym (append-nil t))

later : (c : ℕ) (s t : Text) → IsPartOf s t → IsPartOf s (c ∷ t)
later c s t (a, b, e) = (c ∷ a, b, ap (λ x. c ∷ x) e)

within-part : (n : ℕ) (t : Text) → (b : Text) × (t ≡ within_columns n t ++ b)
within-part n [] = ([], refl)
within-part n (c ∷ t) = by_test (nat_lt n (width c)) (within-part (n - width c) t)
  where
    by_test : (b : Bool) → (r : Text) × (t ≡ within_columns (n - width c) t ++ r)
        → (r : Text) × (c ∷ t ≡ cond b [] (c ∷ within_columns (n - width c) t) ++ r)
    by_test true x = (c ∷ t, refl)
    by_test false (r, e) = (r, ap (λ x. c ∷ x) e)

past-part : (n : ℕ) (t : Text) → IsPartOf (past_columns n t) t
past-part n [] = whole []
past-part n (c ∷ t) =
    by_test (n == 0) (past_columns (n - width c) t) (past-part (n - width c) t)
  where
    by_test : (b : Bool) (s : Text) → IsPartOf s t → IsPartOf (cond b (c ∷ t) s) (c ∷ t)
    by_test true s p = whole (c ∷ t)
    by_test false s p = later c s t p

-- a part of a part
inner : (s t u : Text) → IsPartOf s t → IsPartOf t u → IsPartOf s u
inner s t u (a, b, e) (c, d, f) = (
  c ++ a,
  b ++ d,
  f ∙ ap (λ x. c ++ (x ++ d)) e
      ∙ ap (λ x. c ++ x) (append_assoc a (s ++ b) d ∙ ap (λ x. a ++ x) (append_assoc s b d))
      ∙ sym (append_assoc c a (s ++ (b ++ d))),
)

within-of : (n : ℕ) (t : Text) → IsPartOf (within_columns n t) t
within-of n t = let (b, e) = within-part n t in ([], b, e)

one_of : (b : Bool) (s t u : Text) → IsPartOf s u → IsPartOf t u → IsPartOf (cond b s t) u
one_of true s t u p q = p
one_of false s t u p q = q

-- Between the dots a part of the line is drawn.
pub drawn-part : (w : Window) (t : Text) → IsPartOf (between_dots w t) (glyphs t)
drawn-part w t =
    let wide = is_wide w t in
    let past = past-part w.start (glyphs t) in
    let window =
    one_of wide _ _ _
    (inner _ _ _ (within-of w.limit (past_columns w.start (glyphs t))) past) past in
    let s = in_window w wide (glyphs t) in
    let rest = inner _ _ _ (one_of (w.start == 0) _ _ _ (whole s) (past-part 3 s)) window in
    let r = after_dots w s in
    one_of wide _ _ _ (inner _ _ _ (within-of (columns r - 3) r) rest) rest

-- columns
within-few : (n : ℕ) (t : Text) → columns (within_columns n t) ≤ n
within-few n [] = omega arith
within-few n (c ∷ t) = by_test (nat_lt n (width c)) refl (within-few (n - width c) t)
  where
    by_test : (b : Bool) → nat_lt n (width c) ≡ b
        → columns (within_columns (n - width c) t) ≤ n - width c
        → columns (cond b [] (c ∷ within_columns (n - width c) t)) ≤ n
    by_test true e l = omega arith
    by_test false e l =
        let m : width c ≤ n = grind (arith, nat_tests) in
        omega (arith, l, m)

past-all : (n : ℕ) (t : Text) → left_out_columns n t + columns (past_columns n t) ≡ columns t
past-all n [] = refl
past-all n (c ∷ t) = by_test (n == 0) (past-all (n - width c) t)
  where
    by_test : (b : Bool)
        → left_out_columns (n - width c) t + columns (past_columns (n - width c) t) ≡ columns t
        → cond b 0 (width c + left_out_columns (n - width c) t)
        + columns (cond b (c ∷ t) (past_columns (n - width c) t)) ≡ width c + columns t
    by_test true e = omega arith
    by_test false e = omega (arith, e)

past-enough : (n : ℕ) (t : Text) → (n ≤ left_out_columns n t) ⊎ (columns (past_columns n t) ≡ 0)
past-enough n [] = inr refl
past-enough n (c ∷ t) = by_test (n == 0) refl (past-enough (n - width c) t)
  where
    by_test : (b : Bool) → (n == 0) ≡ b
        → ((n - width c) ≤ left_out_columns (n - width c) t)
        ⊎ (columns (past_columns (n - width c) t) ≡ 0)
        → (n ≤ cond b 0 (width c + left_out_columns (n - width c) t))
        ⊎ (columns (cond b (c ∷ t) (past_columns (n - width c) t)) ≡ 0)
    by_test true e x = inl (let m : n ≡ 0 = grind (arith, nat_tests) in omega (arith, m))
    by_test false e (inl l) = inl (omega (arith, l))
    by_test false e (inr l) = inr l

-- A line that is cut at its end is no wider than that.
pub cut-narrow : (w : Window) (t : Text) → cut_columns w t ≤ max w.limit 3 + 3
cut-narrow w t = by_test (w.start == 0) (past-enough 3 s)
  where
    s : Text
    s = in_window w true (glyphs t)

    few : columns s ≤ w.limit
    few = within-few w.limit (past_columns w.start (glyphs t))

    by_test : (b : Bool) → (3 ≤ left_out_columns 3 s) ⊎ (columns (past_columns 3 s) ≡ 0)
        → cond b 0 (3 + (left_out_columns 3 s - 3))
        + (columns (within_columns (columns (cond b s (past_columns 3 s)) - 3)
        (cond b s (past_columns 3 s))) + 3) ≤ max w.limit 3 + 3
    by_test true x =
        let l = within-few (columns s - 3) s in
        let m : w.limit ≤ max w.limit 3 = omega arith in
        let k = few in
        omega (arith, l, k, m)
    by_test false (inl l) =
        let r = past_columns 3 s in
        let within = within-few (columns r - 3) r in
        let all = past-all 3 s in
        let k = few in
        omega (arith, l, within, all, k)
    by_test false (inr z) =
        let r = past_columns 3 s in
        let within = within-few (columns r - 3) r in
        let all = past-all 3 s in
        let k = few in
        omega (arith, z, within, all, k)

-- what `put_shown` needs
pub ruleset theorems = (drawn-part, cut-narrow)
