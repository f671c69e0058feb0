-- The first and the last character of a text, by its bytes and by its characters.
use Rattle.std.proofs.Common.{◌≡◌, ◌≢◌, ℕ, zero, suc, ◌++◌, ◌<◌, List, [], ◌∷◌, length, take, sym}
use Rattle.std.proofs.Common.{ap, ◌∙◌, subst, arith, Option, Some, None, MatchOption}
use Rattle.std.proofs.Common.{chars, IsUtf8, Bor}
use Rattle.std.specs.Prelude.{encode_utf8, encode_utf8_all}
use Rattle.std.proofs.Math.Seq.{take-append_seam}
use Rattle.std.proofs.lemmas.Str.{chars-append, chars_past_char, chars-IsAscii, encodes-append}
use Rattle.std.proofs.lemmas.Str.{encodes-chars, encode_ascii, IsUtf8-from_ascii, IsUtf8-take}
use Rattle.std.proofs.lemmas.Str.{IsUtf8-past_char, IsCharBoundary-at_seam}
use Rattle.std.specs.Str.{IsAscii}
use Rattle.rustc_parse_format.specs.Characters.{Text}

one_ascii : (c : ℕ) → c < 128 → IsAscii (c ∷ [])
one_ascii c h zero = h
one_ascii c h (suc i) = omega arith

encodes-one : (c : ℕ) → c < 128 → encode_utf8_all (c ∷ []) ≡ c ∷ []
encodes-one c h = ap (λ s. s ++ []) (encode_ascii c h)

front-IsUtf8 : (c : ℕ) (bs front : List ℕ) → IsUtf8 bs → c < 128 → bs ≡ front ++ c ∷ []
    → IsUtf8 front
front-IsUtf8 c bs front u h e =
    let boundary = IsCharBoundary-at_seam bs front (c ∷ []) e
    (IsUtf8-from_ascii (c ∷ []) (one_ascii c h)) in
    let same : take (length front) bs ≡ front = ap (take (length front)) e
    ∙ take-append_seam front (c ∷ []) in
    subst IsUtf8 same (IsUtf8-take bs (length front) u boundary)

pub chars-last : (c : ℕ) (bs : List ℕ) (r : Option (Bor (List ℕ))) → IsUtf8 bs → c < 128 →
    MatchOption r ((front : List ℕ) → bs ≢ front ++ c ∷ []) (λ x. bs ≡ x.now ++ c ∷ []) →
    MatchOption r ((t : Text) → t ++ c ∷ [] ≡ chars bs → ⊥) (λ x. chars x.now ++ c ∷ [] ≡ chars bs)
chars-last c bs None u h f = λ t e. f (encode_utf8_all t) (sym (encodes-chars bs u)
    ∙ (ap encode_utf8_all (sym e)
    ∙ (encodes-append t (c ∷ []) ∙ ap (λ s. encode_utf8_all t ++ s) (encodes-one c h))))
chars-last c bs (Some x) u h f =
    sym (ap chars f ∙ (chars-append x.now (c ∷ []) (front-IsUtf8 c bs x.now u h f)
    ∙ ap (λ s. chars x.now ++ s) (chars-IsAscii (c ∷ []) (one_ascii c h))))

in_bytes : (c : ℕ) (rest : List ℕ) → c < 128 → c ∷ rest ≡ encode_utf8 c ++ rest
in_bytes c rest h = ap (λ s. s ++ rest) (sym (encode_ascii c h))

pub first-IsUtf8 : (c : ℕ) (bs rest : List ℕ) → IsUtf8 bs → c < 128 → bs ≡ c ∷ rest → IsUtf8 rest
first-IsUtf8 c bs rest u h e = IsUtf8-past_char bs rest c u (e ∙ in_bytes c rest h)

pub chars-first : (c : ℕ) (bs : List ℕ) (r : Option (Bor (List ℕ))) → IsUtf8 bs → c < 128 →
    MatchOption r ((rest : List ℕ) → bs ≢ c ∷ rest) (λ x. bs ≡ c ∷ x.now) →
    MatchOption r ((t : Text) → chars bs ≡ c ∷ t → ⊥) (λ x. chars bs ≡ c ∷ chars x.now)
chars-first c bs None u h f = λ t e. f (encode_utf8_all t) (sym (encodes-chars bs u)
    ∙ (ap encode_utf8_all e ∙ ap (λ s. s ++ encode_utf8_all t) (encode_ascii c h)))
chars-first c bs (Some x) u h f = chars_past_char bs x.now c u (f ∙ in_bytes c x.now h)
