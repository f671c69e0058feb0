-- A literal without a backslash is not cut.
use Rattle.std.proofs.Common.{◌≡◌, ℕ, suc, zero, ◌++◌, ◌-◌, ◌<◌, ◌==◌, Bool, true, false, List, []}
use Rattle.std.proofs.Common.{◌∷◌, length, chars, drop, refl, sym, ap, ◌∙◌, arith, nat_lt, IsUtf8}
use Rattle.std.specs.Char.{len_utf8}
use Rattle.std.specs.List.{list_all}
use Rattle.std.specs.Prelude.{encode_utf8, not}
use Rattle.std.proofs.lemmas.Bool.{and_parts, eqb-true, false≢true, lt-ltb, false_from_ne_true}
use Rattle.std.proofs.lemmas.List.Folds.{list_all-append}
use Rattle.std.proofs.lemmas.Str.{encode_ascii, encodes-chars}
use Rattle.std.proofs.Math.Utf8.{encodes}
use Rattle.rustc_parse_format.specs.Characters.{Text}
use Rattle.format_tokens.specs.declared.kinds.Kind.{Kind}
use Rattle.format_tokens.specs.Covers.{IsCover, ranges_of}
use Rattle.format_tokens.specs.Escapes.{Placed, cut, front_within, is_other, parts}
use Rattle.format_tokens.specs.Escapes.{parts_within, rest_within, run}

-- The text has no backslash.
abbrev pub IsBare : Text → Type 0
IsBare [] = Unit {0}
IsBare (c ∷ t) = ((c == 92) ≡ false) × IsBare t

bare-encoded : (t : Text) → list_all is_other (encodes t) ≡ true → IsBare t
bare-encoded [] h = tt
bare-encoded (c ∷ t) h =
    let halves = and_parts (list_all is_other (encode_utf8 c)) (list_all is_other (encodes t))
    (sym (list_all-append is_other (encode_utf8 c) (encodes t)) ∙ h) in (
      false_from_ne_true (c == 92) (λ e. backslash c (eqb-true c 92 e) halves.0),
      bare-encoded t halves.1,
    )
  where
    backslash : (c : ℕ) → c ≡ 92 → list_all is_other (encode_utf8 c) ≡ true → ⊥
    backslash c e h =
        let ascii : 92 < 128 = omega arith in
        false≢true (sym (ap (list_all is_other) (ap encode_utf8 e ∙ encode_ascii 92 ascii)) ∙ h)

pub bare-text : (text : List ℕ) → IsUtf8 text → list_all is_other text ≡ true → IsBare (chars text)
bare-text text v h =
    bare-encoded (chars text) (ap (list_all is_other) (encodes-chars text v) ∙ h)

bare-parts : (n : ℕ) (k : Kind) (from e : ℕ) (t : Text) → IsBare t
    → parts_within n k from e t ≡ run k from e
bare-parts zero k from e t h = refl
bare-parts (suc n) k from e [] h = refl
bare-parts (suc n) k from e (c ∷ t) h = rw (h.0, parts_within) (bare-parts n k from e t h.1)

bare-drop : (n : ℕ) (t : Text) → IsBare t → IsBare (drop n t)
bare-drop zero t h = h
bare-drop (suc n) [] h = tt
bare-drop (suc n) (c ∷ t) h = bare-drop n t h.1

bare-front : (n : ℕ) (t : Text) → IsBare t → IsBare (front_within n t)
bare-front n [] h = tt
bare-front n (c ∷ t) h =
    by_room (nat_lt n (len_utf8 c)) refl (bare-front (n - len_utf8 c) t h.1)
  where
    by_room : (b : Bool) → nat_lt n (len_utf8 c) ≡ b
        → IsBare (front_within (n - len_utf8 c) t) → IsBare (front_within n (c ∷ t))
    by_room true e k = rw e tt
    by_room false e k = rw e (h.0, k)

bare-token : (x : Placed) (t : Text) → IsBare t → x.1.0 < x.1.1 → parts x t ≡ x ∷ []
unfolding parts
bare-token x t h some = bare-parts (length t) x.0 x.1.0 x.1.1 t h
    ∙ rw (lt-ltb x.1.0 x.1.1 some) refl

pub bare-cut : (t : Text) (ts : List Placed) (a b : ℕ) → IsBare t → IsCover a b (ranges_of ts)
    → cut t ts ≡ ts
bare-cut t [] a b h c = refl
bare-cut t (x ∷ xs) a b h (e, some, others) =
    let n = x.1.1 - x.1.0 in
    ap (λ l. l ++ cut (rest_within n t) xs)
    (bare-token x (front_within n t) (bare-front n t h) (omega (arith, e, some)))
    ∙ ap (λ l. x ∷ l) (bare-cut (rest_within n t) xs x.1.1 b
    (bare-drop (length (front_within n t)) t h) others)

pub no_backslash : (a b : Bool) → b ≡ not a → b ≡ false → a ≡ true
no_backslash true b e f = refl
no_backslash false b e f = absurd (false≢true (sym f ∙ e))
