-- The number of a Unicode escape, read one character at a time.
use Rattle.std.proofs.Common.{◌≡◌, ℕ, suc, ◌+◌, ◌*◌, ◌^◌, ◌<◌, ◌≤◌, ◌==◌, Bool, true, false, []}
use Rattle.std.proofs.Common.{◌∷◌}
use Rattle.std.proofs.Common.{length, refl, sym, ap, ◌∙◌, arith, Some, None}
use Rattle.std.specs.Prelude.{if◌then◌else◌, nat_lt}
use Rattle.std.specs.Char.{digit_value}
use Rattle.std.specs.Str.Parse.{digits_value_after}
use Rattle.std.proofs.lemmas.Bool.{false≢true, ne_eqb, le-ltb, lt-ltb}
use Rattle.std.proofs.lemmas.Bool.{ltb-true}
use Rattle.std.proofs.lemmas.Option.{none-some, same_Some}
use Rattle.rustc_parse_format.specs.Characters.{Text, front}
use Rattle.rustc_parse_format.specs.LiteralUnits.{hex_digits, is_hex, unicode_value}
use Rattle.rustc_parse_format.proofs.Literals.Unicode.{more_digits}
use Rattle.rust_tokens.specs.Texts.{split_first}
use Rattle.literal_faults.specs.Escapes.{is_part, number}

-- The digits at the start of a text.
abbrev digits_of : Text → Text
digits_of t = hex_digits (front is_part t)

pub split-some : (t r : Text) (c : ℕ) → Some (c, r) ≡ split_first t → t ≡ c ∷ r
split-some [] r c e = absurd (none-some _ (sym e))
split-some (d ∷ t) r c e =
    let p : (c, r) ≡ (d, t) = same_Some _ _ e in
    ap (λ x. x.0 ∷ x.1) (sym p)

pub split-none : (t : Text) → None ≡ split_first t → t ≡ []
split-none [] e = refl
split-none (d ∷ t) e = absurd (none-some _ e)

-- A digit that is one.
pub record IsDigit (c d : ℕ) : Type 0 where
  pub is_hex : is_hex c ≡ true
  pub is_value : d ≡ digit_value c
  pub is_below : d < 16

pub is-digit : (c d : ℕ) → Some d ≡ (if is_hex c then Some (digit_value c) else None) → IsDigit c d
is-digit c d = by_test (is_hex c) refl
  where
    by_test : (b : Bool) → is_hex c ≡ b → Some d ≡ (if b then Some (digit_value c) else None)
        → IsDigit c d
    by_test false e f = absurd (none-some _ (sym f))
    by_test true e f =
        let v : d ≡ digit_value c = same_Some _ _ f in
        let l : digit_value c < 16 = ltb-true _ 16 e in
        record { is_hex = e; is_value = v; is_below = omega arith }

pub no-digit : (c : ℕ) → None ≡ (if is_hex c then Some (digit_value c) else None)
    → is_hex c ≡ false
no-digit c = by_test (is_hex c) refl
  where
    by_test : (b : Bool) → is_hex c ≡ b → None ≡ (if b then Some (digit_value c) else None)
        → is_hex c ≡ false
    by_test false e f = e
    by_test true e f = absurd (none-some _ f)

no-underscore : (c : ℕ) → is_hex c ≡ true → (c == 95) ≡ false
no-underscore c h =
    ne_eqb c 95 (λ e. let wrong : is_hex 95 ≡ true = rw e at h in false≢true wrong)

digits-hex : (c : ℕ) (t : Text) → is_hex c ≡ true → digits_of (c ∷ t) ≡ c ∷ digits_of t
digits-hex c t h = rw (h, no-underscore c h) refl

digits-stop : (c : ℕ) (t : Text) → is_hex c ≡ false → (c == 95) ≡ false → digits_of (c ∷ t) ≡ []
digits-stop c t h u = rw (h, u) refl

-- Of the digits of a text so many were read that write v, and t is left.
pub record IsRead (whole t : Text) (n v : ℕ) : Type 0 where
  pub count : length (digits_of whole) ≡ n + length (digits_of t)
  pub value : unicode_value (front is_part whole) ≡ digits_value_after 16 v (digits_of t)
  pub few : n ≤ 6
  pub small : v < 16 ^ n

pub read-start : (t : Text) → IsRead t t 0 0
read-start t = record { count = omega arith; value = refl; few = omega arith; small = omega arith }

pub read-digit : (whole t r : Text) (c d n v : ℕ) → IsRead whole t n v → t ≡ c ∷ r → IsDigit c d
    → n < 6 → IsRead whole r (n + 1) (v * 16 + d)
read-digit whole t r c d n v a e h l =
    let f : digits_of t ≡ c ∷ digits_of r = ap digits_of e ∙ digits-hex c r h.is_hex in
    let m : length (digits_of t) ≡ suc (length (digits_of r)) = ap length f in
    record {
      count = omega (arith, a.count);
      value = a.value ∙ (ap (digits_value_after 16 v) f
          ∙ ap (λ x. digits_value_after 16 (v * 16 + x) (digits_of r)) (sym h.is_value));
      few = omega arith;
      small = more_digits n v d a.small h.is_below;
    }

pub read-underscore : (whole t r : Text) (c n v : ℕ) → IsRead whole t n v → t ≡ c ∷ r → c ≡ 95
    → IsRead whole r n v
read-underscore whole t r c n v a e u =
    let f : digits_of t ≡ digits_of r = ap digits_of (e ∙ ap (λ x. x ∷ r) u) in
    record {
      count = rw f at a.count;
      value = rw f at a.value;
      few = a.few;
      small = a.small;
    }

-- After the last digit.
ended : (whole t : Text) (n v : ℕ) → IsRead whole t n v → digits_of t ≡ []
    → Some v ≡ number (front is_part whole)
unfolding number
ended whole t n v a e =
    let few : nat_lt 6 (length (digits_of whole)) ≡ false =
    le-ltb 6 (length (digits_of whole)) (omega (arith, a.count, ap length e, a.few)) in
    rw few (sym (ap (λ x. Some x) (a.value ∙ ap (digits_value_after 16 v) e)))

pub read-stop : (whole t r : Text) (c n v : ℕ) → IsRead whole t n v → t ≡ c ∷ r
    → is_hex c ≡ false → (c == 95) ≡ false → Some v ≡ number (front is_part whole)
read-stop whole t r c n v a e h u = ended whole t n v a (ap digits_of e ∙ digits-stop c r h u)

pub read-end : (whole t : Text) (n v : ℕ) → IsRead whole t n v → t ≡ []
    → Some v ≡ number (front is_part whole)
read-end whole t n v a e = ended whole t n v a (ap digits_of e)

pub read-over : (whole t r : Text) (c d n v : ℕ) → IsRead whole t n v → t ≡ c ∷ r → IsDigit c d
    → n ≡ 6 → None ≡ number (front is_part whole)
unfolding number
read-over whole t r c d n v a e h l =
    let f : digits_of t ≡ c ∷ digits_of r = ap digits_of e ∙ digits-hex c r h.is_hex in
    let over : nat_lt 6 (length (digits_of whole)) ≡ true =
    lt-ltb 6 (length (digits_of whole)) (omega (arith, a.count, ap length f)) in
    rw over refl
