-- The number at the start of a list of arguments.
use Rattle.std.proofs.Common.{◌≡◌, ℕ, ◌<◌, ◌≤◌, ◌^◌, Bool, true, false, cond, nat_lt, List, [], ◌∷◌}
use Rattle.std.proofs.Common.{length, Option, None, Some, refl, ap, arith}
use Rattle.std.specs.Prelude.{◌==◌, slice_index}
use Rattle.std.specs.Bool.{Decides}
use Rattle.std.specs.Char.{digit_value}
use Rattle.std.specs.List.{list_all}
use Rattle.std.specs.Str.Parse.{AllDigits, IsNumeral, digits_value, without_leading_plus}
use Rattle.std.proofs.lemmas.Bool.{leb-true, le-leb}
use Rattle.std.proofs.lemmas.Bool.Decides.{Decides-and, Decides-ltb}
use Rattle.piece_listing.specs.GivenArguments.{is_number}

digits-Decides : (ds : List ℕ)
    → Decides (list_all (λ b. nat_lt (digit_value b) 10) ds) (AllDigits 10 ds)
digits-Decides [] = (λ _. tt, λ _. refl)
digits-Decides (b ∷ ds) = Decides-and _ _ (Decides-ltb (digit_value b) 10) (digits-Decides ds)

-- the property that `is_number` tests
abbrev IsNumber : List ℕ → Type 0
IsNumber ds = ((0 < length ds) × (length ds ≤ 5)) × (AllDigits 10 ds × (digits_value 10 ds ≤ 65535))

number-Decides : (ds : List ℕ) → Decides (is_number ds) (IsNumber ds)
number-Decides ds =
    Decides-and _ _ (Decides-and _ _ (Decides-ltb 0 (length ds))
    (leb-true (length ds) 5, le-leb (length ds) 5))
    (Decides-and _ _ (digits-Decides ds) (
      leb-true (digits_value 10 ds) 65535,
      le-leb (digits_value 10 ds) 65535,
    ))

-- the property that `parse` tests in a text without a plus
abbrev IsParsed : List ℕ → Type 0
IsParsed ds = IsNumeral 10 ds × (digits_value 10 ds < 2 ^ 16)

unsigned : (ds : List ℕ) → (slice_index ds 0 == 43) ≡ false → without_leading_plus ds ≡ ds
unsigned ds e = rw e refl

pub number-found : (ds : List ℕ) (n : ℕ) → length ds ≤ 5 → (slice_index ds 0 == 43) ≡ false
    → IsParsed (without_leading_plus ds) × (n ≡ digits_value 10 (without_leading_plus ds))
    → ◌≡◌ {A = Option ℕ} (Some n) (cond (is_number ds) (Some (digits_value 10 ds)) None)
number-found ds n short e found =
    let parsed = rw (unsigned ds e) at found in
    by_test (is_number ds)
    ((number-Decides ds).1 ((parsed.0.0.0, short), (parsed.0.0.1, omega (arith, parsed.0.1))))
    parsed.1
  where
    by_test : (t : Bool) → t ≡ true → n ≡ digits_value 10 ds
        → ◌≡◌ {A = Option ℕ} (Some n) (cond t (Some (digits_value 10 ds)) None)
    by_test true h same = ap Some same
    by_test false h same = cc

pub number-refused : (ds : List ℕ) → (slice_index ds 0 == 43) ≡ false
    → (IsParsed (without_leading_plus ds) → ⊥)
    → ◌≡◌ {A = Option ℕ} None (cond (is_number ds) (Some (digits_value 10 ds)) None)
number-refused ds e never = by_test (is_number ds) (number-Decides ds).0
  where
    by_test : (t : Bool) → (t ≡ true → IsNumber ds)
        → ◌≡◌ {A = Option ℕ} None (cond t (Some (digits_value 10 ds)) None)
    by_test true h = let is = h refl in
        absurd (never (rw (unsigned ds e) ((is.0.0, is.1.0), omega (arith, is.1.1))))
    by_test false h = refl
