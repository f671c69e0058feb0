-- The part of a text that has signs, and the columns of a row in which these are.
use Rattle.std.proofs.Common.{◌≡◌, ℕ, ◌+◌, ◌-◌, ◌<◌, ◌≤◌, zero, suc, Bool, true, false, List, []}
use Rattle.std.proofs.Common.{◌∷◌, ◌++◌, ◌∙◌, ap, append-nil, arith, get_or, length, nat_lt, refl}
use Rattle.std.proofs.Common.{sym, replicate}
use Rattle.std.specs.Prelude.{◌==◌, if◌then◌else◌}
use Rattle.std.specs.Char.{is_whitespace}
use Rattle.std.specs.List.{list_all}
use Rattle.std.specs.Str.{drop_trailing_whitespace, skip_leading_whitespace}
use Rattle.std.proofs.lemmas.Bool.Decides.{nat_tests}
use Rattle.std.proofs.lemmas.Bool.{cond-false, cond-true}
use Rattle.std.proofs.lemmas.List.{get_or-append-add, get_or-replicate, get_or_append_left}
use Rattle.std.proofs.lemmas.List.{length-replicate}
use Rattle.std.proofs.lemmas.List.Sums.{sum_by-append, sum_by-cons}
use Rattle.std.proofs.lemmas.Str.{encode_ascii}
use Rattle.rustc_parse_format.specs.Characters.{Text}
use Rattle.drawn_lines.specs.Glyphs.{run, width}
use Rattle.drawn_lines.specs.Painting.{has_colours, painted_text}
use Rattle.drawn_lines.specs.declared.paint.Palette.{Palette}
use Rattle.drawn_lines.specs.declared.paint.Style.TheVariants.{Addition}
use Rattle.drawn_lines.proofs.Joining.{painted-plain}
use Rattle.drawn_edits.specs.Helps.{after_pluses, columns_of, pluses}
use Rattle.drawn_edits.specs.PlusSigns.{columns, signed_text}
use Rattle.drawn_edits.proofs.WhiteSpace.{Blank, Found, drop-first, end, skip-front, start}

-- the columns of a text, with those before it
pub columns-of : (n : ℕ) (t : Text) → columns_of n t ≡ n + columns t
columns-of n [] = let none : columns [] ≡ 0 = refl in omega (arith, none)
columns-of n (c ∷ t) = omega (arith, columns-of (n + width c) t, sum_by-cons width c t)

-- The part of a text that has signs, and the columns before and after it.
pub record Spread (t : Text) : Type 0 where
  pub front : Text
  pub back : Text
  pub whole : t ≡ front ++ (signed_text t ++ back)
  pub is_white : list_all is_whitespace front ≡ true
  pub drawn : (p : Palette) (n : ℕ) → has_colours p ≡ false
      → pluses p n t ≡ run (n + columns front) 32 ++ run (columns (signed_text t)) 43
  pub after : columns front + columns (signed_text t) + after_pluses t ≡ columns t
  pub only : (f b : Text) → t ≡ f ++ (signed_text t ++ b) → list_all is_whitespace f ≡ true
      → columns f ≡ columns front

-- the columns after these signs, by the text without the white space at its start
abbrev after-by : Text → ℕ
after-by back =
    if length back == 0 then 0
    else columns_of 0 back - columns_of 0 (drop_trailing_whitespace back)

-- the signs of a text, as `put_pluses` adds them
pub pluses-blank : (p : Palette) (n : ℕ) (t : Text)
    → (length (skip_leading_whitespace t) == 0) ≡ true
    → pluses p n t ≡ run n 32 ++ painted_text p Addition (run (columns_of 0 t) 43)
pluses-blank p n t e = rw e refl

pub pluses-some : (p : Palette) (n : ℕ) (t : Text)
    → (length (skip_leading_whitespace t) == 0) ≡ false
    → pluses p n t ≡ run (n + (columns_of 0 t - columns_of 0 (skip_leading_whitespace t))) 32
    ++ painted_text p Addition
    (run (columns_of 0 (drop_trailing_whitespace (skip_leading_whitespace t))) 43)
pluses-some p n t e = rw e refl

same-signs : (p : Palette) (i j m n : ℕ) → has_colours p ≡ false → i ≡ m → j ≡ n
    → run i 32 ++ painted_text p Addition (run j 43) ≡ run m 32 ++ run n 43
same-signs p i j m n h e g =
    ap (λ k. run k 32 ++ painted_text p Addition (run j 43)) e
    ∙ ap (λ k. run m 32 ++ painted_text p Addition (run k 43)) g
    ∙ ap (λ u. run m 32 ++ u) (painted-plain p Addition (run n 43) h)

-- nothing but white space
spread-blank : (t : Text) → list_all is_whitespace t ≡ true → skip_leading_whitespace t ≡ []
    → Spread t
spread-blank t all none =
    let same : signed_text t ≡ t = cond-true (list_all is_whitespace t) _ _ all in
    let long : columns (signed_text t) ≡ columns t = ap columns same in
    let nil : columns [] ≡ 0 = refl in
    let zero_after : after_pluses t ≡ 0 = ap after-by none in
    record {
      front = [];
      back = [];
      whole = sym (append-nil (signed_text t) ∙ same);
      is_white = refl;
      drawn = λ p n h. signs p n ∙ same-signs p n (columns_of 0 t) (n + columns [])
          (columns (signed_text t)) h (omega (arith, nil)) (omega (arith, columns-of 0 t, long));
      after = omega (arith, nil, long, zero_after);
      only = λ f b e white. omega (
        arith,
        nil,
        long,
        ap columns e,
        sum_by-append width f (signed_text t ++ b),
        sum_by-append width (signed_text t) b,
      );
    }
  where
    signs : (p : Palette) (n : ℕ)
        → pluses p n t ≡ run n 32 ++ painted_text p Addition (run (columns_of 0 t) 43)
    signs p n = pluses-blank p n t (ap (λ u. length u == 0) none)

-- something else
spread-found : (t front : Text) (c : ℕ) (rest : Text) → list_all is_whitespace t ≡ false
    → skip_leading_whitespace t ≡ c ∷ rest → is_whitespace c ≡ false
    → list_all is_whitespace front ≡ true → t ≡ front ++ c ∷ rest → Spread t
spread-found t front c rest all some other white whole =
    let tail = drop_trailing_whitespace (c ∷ rest) in
    let same : signed_text t ≡ tail = cond-false (list_all is_whitespace t) _ _ all
    ∙ ap drop_trailing_whitespace some in
    let ends = end (c ∷ rest) in
    let long : columns (signed_text t) ≡ columns tail = ap columns same in
    let split : columns (c ∷ rest) ≡ columns tail + columns ends.0 =
    ap columns ends.1 ∙ sum_by-append width tail ends.0 in
    let all_of : columns t ≡ columns front + columns (c ∷ rest) =
    ap columns whole ∙ sum_by-append width front (c ∷ rest) in
    let text = columns-of 0 t in
    let back = columns-of 0 (c ∷ rest) in
    let core = columns-of 0 tail in
    record {
      front = front;
      back = ends.0;
      whole = whole ∙ ap (λ u. front ++ u) ends.1
          ∙ ap (λ u. front ++ (u ++ ends.0)) (sym same);
      is_white = white;
      drawn = λ p n h. signs p n ∙ same-signs p
          (n + (columns_of 0 t - columns_of 0 (c ∷ rest))) (columns_of 0 tail)
          (n + columns front) (columns (signed_text t)) h (omega (arith, text, back, all_of))
          (omega (arith, core, long));
      after = omega (arith, ends_after, long, split, all_of, back, core);
      only = λ f b e w.
          let starts : c ∷ rest ≡ signed_text t ++ b = sym some ∙ ap skip_leading_whitespace e
          ∙ skip-front f (signed_text t ++ b) w ∙ skip-signed b in
          omega (
            arith,
            all_of,
            ap columns e,
            sum_by-append width f (signed_text t ++ b),
            ap columns starts,
          );
    }
  where
    filled : (length (c ∷ rest) == 0) ≡ false
    filled = grind (arith, nat_tests)

    signs : (p : Palette) (n : ℕ) → pluses p n t
        ≡ run (n + (columns_of 0 t - columns_of 0 (c ∷ rest))) 32
        ++ painted_text p Addition (run (columns_of 0 (drop_trailing_whitespace (c ∷ rest))) 43)
    signs p n =
        pluses-some p n t (ap (λ u. length u == 0) some ∙ filled)
        ∙ ap (λ u. run (n + (columns_of 0 t - columns_of 0 u)) 32
        ++ painted_text p Addition (run (columns_of 0 (drop_trailing_whitespace u)) 43)) some

    ends_after : after_pluses t
        ≡ columns_of 0 (c ∷ rest) - columns_of 0 (drop_trailing_whitespace (c ∷ rest))
    ends_after = ap after-by some ∙ rw filled refl

    begins : signed_text t ≡ c ∷ drop_trailing_whitespace rest
    begins = cond-false (list_all is_whitespace t) _ _ all ∙ ap drop_trailing_whitespace some
        ∙ drop-first c rest other

    skip-signed : (b : Text) → skip_leading_whitespace (signed_text t ++ b) ≡ signed_text t ++ b
    skip-signed b =
        ap (λ u. skip_leading_whitespace (u ++ b)) begins ∙ cond-false (is_whitespace c) _ _ other
        ∙ ap (λ u. u ++ b) (sym begins)

pub spread : (t : Text) → Spread t
spread t =
    elim (start t) [
      | Blank all none ↦ spread-blank t all none
      | Found front c rest all some other white whole
          ↦ spread-found t front c rest all some other white whole
    ]

-- A column of spaces, of signs after them, or of what comes then.
run-replicate : (n c : ℕ) → c < 128 → run n c ≡ replicate n c
run-replicate zero c l = refl
run-replicate (suc n) c l =
    ap (λ u. u ++ run n c) (encode_ascii c l) ∙ ap (λ u. c ∷ u) (run-replicate n c l)

run-length : (n c : ℕ) → c < 128 → length (run n c) ≡ n
run-length n c l = ap length (run-replicate n c l) ∙ length-replicate n c

in-run : (n c m : ℕ) (rest : List ℕ) → c < 128 → m < n → get_or (run n c ++ rest) m 32 ≡ c
in-run n c m rest l k =
    get_or_append_left (run n c) rest 32 m (omega (arith, k, run-length n c l))
    ∙ ap (λ u. get_or u m 32) (run-replicate n c l) ∙ get_or-replicate n m c 32 k

past-run : (n c m k : ℕ) (rest : List ℕ) → c < 128 → k ≡ n + m
    → get_or (run n c ++ rest) k 32 ≡ get_or rest m 32
past-run n c m k rest l e =
    let same : k ≡ length (run n c) + m = omega (arith, e, run-length n c l) in
    ap (λ i. get_or (run n c ++ rest) i 32) same ∙ get_or-append-add (run n c) rest m 32

pub data Column (a b n : ℕ) (rest : List ℕ) (c : ℕ) : Type 0 where
  Left : n < a → c ≡ 32 → Column a b n rest c
  Here : (m : ℕ) → n ≡ a + m → m < b → c ≡ 43 → Column a b n rest c
  Right : (m : ℕ) → n ≡ a + b + m → c ≡ get_or rest m 32 → Column a b n rest c

pub column : (a b n : ℕ) (rest : List ℕ)
    → Column a b n rest (get_or (run a 32 ++ (run b 43 ++ rest)) n 32)
column a b n rest = by_less (nat_lt n a) refl (nat_lt n (a + b)) refl
  where
    on : (m : ℕ) → n ≡ a + m
        → get_or (run a 32 ++ (run b 43 ++ rest)) n 32 ≡ get_or (run b 43 ++ rest) m 32
    on m e = past-run a 32 m n (run b 43 ++ rest) (omega arith) e

    by_less : (x : Bool) → nat_lt n a ≡ x → (y : Bool) → nat_lt n (a + b) ≡ y
        → Column a b n rest (get_or (run a 32 ++ (run b 43 ++ rest)) n 32)
    by_less true e y g =
        let l : n < a = grind (arith, nat_tests) in
        Left l (in-run a 32 n (run b 43 ++ rest) (omega arith) l)
    by_less false e true g =
        let from : a ≤ n = grind (arith, nat_tests) in
        let to : n < a + b = grind (arith, nat_tests) in
        let l : n - a < b = omega (arith, from, to) in
        let s : n ≡ a + (n - a) = omega (arith, from) in
        Here (n - a) s l (on (n - a) s ∙ in-run b 43 (n - a) rest (omega arith) l)
    by_less false e false g =
        let from : a + b ≤ n = grind (arith, nat_tests) in
        let s : n ≡ a + (n - a) = omega (arith, from) in
        let k : n - a ≡ b + (n - (a + b)) = omega (arith, from) in
        Right (n - (a + b)) (omega (arith, from))
        (on (n - a) s ∙ past-run b 43 (n - (a + b)) (n - a) rest (omega arith) k)
