-- A number that is read digit by digit, up to 65536.
use Rattle.std.proofs.Common.{◌≡◌, ℕ, ◌+◌, ◌*◌, Bool, true, false, List, [], ◌∷◌, nat_lt}
use Rattle.std.proofs.Common.{length}
use Rattle.std.proofs.Common.{chars, refl, sym, ap, ◌∙◌, arith, IsUtf8, ◌++◌}
use Rattle.std.specs.Prelude.{encode_utf8, min}
use Rattle.std.specs.Char.{digit_value, is_ascii_digit}
use Rattle.std.specs.Str.Parse.{digits_value, digits_value_after}
use Rattle.std.proofs.lemmas.Bool.{ltb-true, ltb-false, lt-ltb}
use Rattle.std.proofs.lemmas.List.{nil_from_length}
use Rattle.std.proofs.lemmas.Str.{IsUtf8-past_char, chars-nil, chars_past_char}
use Rattle.rustc_parse_format.specs.Characters.{front, is_over}

-- The digits read so far write the number whole, and those left follow them.
pub record Counted (number : ℕ) (rest text : List ℕ) : Type 0 where
  pub whole : ℕ
  pub low : number ≡ min whole 65536
  pub more : digits_value_after 10 whole (front is_ascii_digit (chars rest))
      ≡ digits_value 10 (front is_ascii_digit (chars text))
  pub valid : IsUtf8 rest

pub counted-next : (number c : ℕ) (s r text : List ℕ) → Counted number s text
    → s ≡ encode_utf8 c ++ r → is_ascii_digit c ≡ true
    → Counted (min (number * 10 + digit_value c) 65536) r text
counted-next number c s r text h e d =
    let first : chars s ≡ c ∷ chars r = chars_past_char s r c h.valid e in
    record {
      whole = h.whole * 10 + digit_value c;
      low = omega (arith, h.low);
      more = rw (first, d) at h.more;
      valid = IsUtf8-past_char s r c h.valid e;
    }

over-same : (number whole : ℕ) → number ≡ min whole 65536 → nat_lt 65535 number ≡ nat_lt 65535 whole
over-same number whole e = at (nat_lt 65535 whole) refl
  where
    at : (b : Bool) → nat_lt 65535 whole ≡ b → nat_lt 65535 number ≡ b
    at true h = lt-ltb 65535 number (omega (arith, e, ltb-true 65535 whole h))
    at false h =
        let small : number ≡ whole = omega (arith, e, ltb-false 65535 whole h) in
        ap (nat_lt 65535) small ∙ h

counted-end : (number : ℕ) (s text : List ℕ) → Counted number s text
    → front is_ascii_digit (chars s) ≡ []
    → nat_lt 65535 number ≡ is_over (front is_ascii_digit (chars text))
counted-end number s text h none =
    over-same number h.whole h.low
    ∙ ap (nat_lt 65535) (ap (digits_value_after 10 h.whole) (sym none) ∙ h.more)

pub counted-other : (number c : ℕ) (s r text : List ℕ) → Counted number s text
    → s ≡ encode_utf8 c ++ r → is_ascii_digit c ≡ false
    → nat_lt 65535 number ≡ is_over (front is_ascii_digit (chars text))
counted-other number c s r text h e d =
    let first : chars s ≡ c ∷ chars r = chars_past_char s r c h.valid e in
    counted-end number s text h (rw (first, d) refl)

pub counted-all : (number : ℕ) (s text : List ℕ) → Counted number s text → length s ≡ 0
    → nat_lt 65535 number ≡ is_over (front is_ascii_digit (chars text))
counted-all number s text h e =
    counted-end number s text h
    (ap (λ t. front is_ascii_digit t) (ap chars (nil_from_length s e) ∙ chars-nil))
