-- The characters of a text without the white space around it.
use Rattle.std.proofs.Common.{◌≡◌, ◌∙◌, Bool, true, false, [], ◌∷◌, arith, chars, cond, length}
use Rattle.std.proofs.Common.{refl, ◌++◌, List, ℕ, ap, sym, IsUtf8}
use Rattle.std.proofs.Math.Utf8.{encodes, scalars}
use Rattle.std.specs.Prelude.{◌==◌, ◌&&◌}
use Rattle.std.specs.Char.{is_whitespace}
use Rattle.std.specs.List.{list_all}
use Rattle.std.specs.Str.{drop_trailing_whitespace, skip_leading_whitespace, trim_end, trim_start}
use Rattle.std.proofs.lemmas.Bool.Decides.{nat_tests}
use Rattle.std.proofs.lemmas.Bool.{and_parts, and_from, cond-false, cond-true}
use Rattle.std.proofs.lemmas.Str.{chars-encodes, length-le-encodes, scalars-chars}
use Rattle.rustc_parse_format.specs.Characters.{Text}

skip-scalars : (t : Text) → scalars t ≡ true → scalars (skip_leading_whitespace t) ≡ true
skip-scalars [] e = refl
skip-scalars (c ∷ t) e = by_test (is_whitespace c) (skip-scalars t (and_parts _ _ e).1)
  where
    by_test : (b : Bool) → scalars (skip_leading_whitespace t) ≡ true
        → scalars (cond b (skip_leading_whitespace t) (c ∷ t)) ≡ true
    by_test true on = on
    by_test false on = e

drop-scalars : (t : Text) → scalars t ≡ true → scalars (drop_trailing_whitespace t) ≡ true
drop-scalars [] e = refl
drop-scalars (c ∷ t) e =
    by_test (is_whitespace c && length (drop_trailing_whitespace t) == 0)
    (drop-scalars t (and_parts _ _ e).1)
  where
    by_test : (b : Bool) → scalars (drop_trailing_whitespace t) ≡ true
        → scalars (cond b [] (c ∷ drop_trailing_whitespace t)) ≡ true
    by_test true on = refl
    by_test false on = and_from _ _ (and_parts _ _ e).0 on

pub start-chars : (bs : List ℕ) → IsUtf8 bs
    → chars (trim_start bs) ≡ skip_leading_whitespace (chars bs)
unfolding trim_start
start-chars bs u =
    chars-encodes (skip_leading_whitespace (chars bs))
    (skip-scalars (chars bs) (scalars-chars bs u))

pub end-chars : (bs : List ℕ) → IsUtf8 bs
    → chars (trim_end bs) ≡ drop_trailing_whitespace (chars bs)
unfolding trim_end
end-chars bs u =
    chars-encodes (drop_trailing_whitespace (chars bs))
    (drop-scalars (chars bs) (scalars-chars bs u))

encodes-empty : (t : Text) → (length (encodes t) == 0) ≡ (length t == 0)
encodes-empty [] = refl
encodes-empty (c ∷ t) =
    let l = length-le-encodes (c ∷ t) in
    let a : (length (encodes (c ∷ t)) == 0) ≡ false = grind (arith, nat_tests) in
    let b : (length (c ∷ t) == 0) ≡ false = grind (arith, nat_tests) in
    a ∙ sym b

pub start-empty : (bs : List ℕ)
    → (length (trim_start bs) == 0) ≡ (length (skip_leading_whitespace (chars bs)) == 0)
unfolding trim_start
start-empty bs = encodes-empty (skip_leading_whitespace (chars bs))

-- what `put_pluses` needs
pub ruleset trimmed = (start-chars, end-chars, start-empty)

-- Where the white space at the start of a text ends.
pub data Start (t : Text) : Type 0 where
  Blank : list_all is_whitespace t ≡ true → skip_leading_whitespace t ≡ [] → Start t
  Found : (front : Text) (c : ℕ) (rest : Text) → list_all is_whitespace t ≡ false
      → skip_leading_whitespace t ≡ c ∷ rest → is_whitespace c ≡ false
      → list_all is_whitespace front ≡ true → t ≡ front ++ c ∷ rest → Start t

pub start : (t : Text) → Start t
start [] = Blank refl refl
start (c ∷ t) = by_test (is_whitespace c) refl (start t)
  where
    by_test : (b : Bool) → is_whitespace c ≡ b → Start t → Start (c ∷ t)
    by_test true e (Blank all none) =
        Blank (and_from _ _ e all) (cond-true (is_whitespace c) _ _ e ∙ none)
    by_test true e (Found front d rest all some other white whole) =
        Found (c ∷ front) d rest (ap (λ b. b && list_all is_whitespace t) e ∙ all)
        (cond-true (is_whitespace c) _ _ e ∙ some) other (and_from _ _ e white)
        (ap (λ u. c ∷ u) whole)
    by_test false e s =
        Found [] c t (ap (λ b. b && list_all is_whitespace t) e)
        (cond-false (is_whitespace c) _ _ e) e refl refl

pub skip-front : (front t : Text) → list_all is_whitespace front ≡ true
    → skip_leading_whitespace (front ++ t) ≡ skip_leading_whitespace t
skip-front [] t e = refl
skip-front (c ∷ front) t e =
    cond-true (is_whitespace c) _ _ (and_parts _ _ e).0 ∙ skip-front front t (and_parts _ _ e).1

-- The white space at the end of a text.
pub end : (t : Text) → (back : Text) × (t ≡ drop_trailing_whitespace t ++ back)
end [] = ([], refl)
end (c ∷ t) = by_test (is_whitespace c && length (drop_trailing_whitespace t) == 0) (end t)
  where
    by_test : (b : Bool) → (back : Text) × (t ≡ drop_trailing_whitespace t ++ back)
        → (back : Text) × (c ∷ t ≡ cond b [] (c ∷ drop_trailing_whitespace t) ++ back)
    by_test true h = (c ∷ t, refl)
    by_test false (back, e) = (back, ap (λ u. c ∷ u) e)

pub drop-first : (c : ℕ) (t : Text) → is_whitespace c ≡ false
    → drop_trailing_whitespace (c ∷ t) ≡ c ∷ drop_trailing_whitespace t
drop-first c t e =
    cond-false (is_whitespace c && length (drop_trailing_whitespace t) == 0) _ _
    (ap (λ b. b && length (drop_trailing_whitespace t) == 0) e)
