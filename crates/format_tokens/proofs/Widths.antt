-- The byte length of the longest prefix of a class, counted character by character.
use Rattle.std.proofs.Common.{◌≡◌, ℕ, ◌++◌, ◌+◌, ◌≤◌, Bool, true, false, List, [], ◌∷◌, length}
use Rattle.std.proofs.Common.{chars, refl, sym, ap, ◌∙◌, arith, append_assoc, IsUtf8}
use Rattle.std.specs.Prelude.{encode_utf8}
use Rattle.std.specs.Char.{len_utf8}
use Rattle.std.specs.List.{list_all}
use Rattle.std.proofs.lemmas.Bool.{and_from, and_parts}
use Rattle.std.proofs.lemmas.List.{nil_from_length}
use Rattle.std.proofs.lemmas.List.Sums.{sum_by-append, sum_by-cons}
use Rattle.std.proofs.lemmas.Str.{IsUtf8-past_char, chars-nil, chars_past_char}
use Rattle.rustc_parse_format.specs.Characters.{Text, byte_length, first_passes, front}
use Rattle.rustc_parse_format.proofs.Grammar.Fronts.{front-append}
use Rattle.rustc_parse_format.proofs.Sources.PlainPlaces.{width_chars}

-- The characters before `rest` pass, and this is how many bytes they have.
pub record Passed (p : ℕ → Bool) (text rest : List ℕ) (width : ℕ) : Type 0 where
  pub before : Text
  pub whole : chars text ≡ before ++ chars rest
  pub pass : list_all p before ≡ true
  pub bytes : width ≡ byte_length before
  pub valid : IsUtf8 rest

pub start : (p : ℕ → Bool) (text : List ℕ) → IsUtf8 text → Passed p text text 0
start p text v = record { before = []; whole = refl; pass = refl; bytes = refl; valid = v }

list_all-more : (p : ℕ → Bool) (u : Text) (c : ℕ) → list_all p u ≡ true → p c ≡ true
    → list_all p (u ++ c ∷ []) ≡ true
list_all-more p [] c h k = and_from (p c) true k refl
list_all-more p (d ∷ u) c h k =
    let a = and_parts (p d) (list_all p u) h in
    and_from (p d) (list_all p (u ++ c ∷ [])) a.0 (list_all-more p u c a.1 k)

width-more : (u : Text) (c : ℕ) → byte_length (u ++ c ∷ []) ≡ byte_length u + len_utf8 c
width-more u c = sum_by-append len_utf8 u (c ∷ [])
    ∙ ap (λ n. byte_length u + n) (omega (arith, sum_by-cons len_utf8 c []))

pub more : (p : ℕ → Bool) (text s r : List ℕ) (w c : ℕ) → Passed p text s w
    → s ≡ encode_utf8 c ++ r → p c ≡ true → Passed p text r (w + len_utf8 c)
more p text s r w c h e k = record {
  before = h.before ++ c ∷ [];
  whole = h.whole ∙ (ap (λ t. h.before ++ t) (chars_past_char s r c h.valid e)
      ∙ sym (append_assoc h.before (c ∷ []) (chars r)));
  pass = list_all-more p h.before c h.pass k;
  bytes = ap (λ n. n + len_utf8 c) h.bytes ∙ sym (width-more h.before c);
  valid = IsUtf8-past_char s r c h.valid e;
}

pub all : (p : ℕ → Bool) (text s : List ℕ) (w : ℕ) → Passed p text s w
    → first_passes p (chars s) ≡ false → w ≡ byte_length (front p (chars text))
all p text s w h e = h.bytes
    ∙ ap byte_length (sym (ap (front p) h.whole ∙ front-append p h.before (chars s) h.pass e))

pub at_other : (p : ℕ → Bool) (text s r : List ℕ) (w c : ℕ) → Passed p text s w
    → s ≡ encode_utf8 c ++ r → p c ≡ false → w ≡ byte_length (front p (chars text))
at_other p text s r w c h e k =
    all p text s w h (ap (first_passes p) (chars_past_char s r c h.valid e) ∙ k)

pub at_end : (p : ℕ → Bool) (text s : List ℕ) (w : ℕ) → Passed p text s w → length s ≡ 0
    → w ≡ byte_length (front p (chars text))
at_end p text s w h e =
    all p text s w h (ap (first_passes p) (ap chars (nil_from_length s e) ∙ chars-nil))

pub within : (p : ℕ → Bool) (text s r : List ℕ) (w c : ℕ) → IsUtf8 text → Passed p text s w
    → s ≡ encode_utf8 c ++ r → w + len_utf8 c ≤ length text
within p text s r w c v h e =
    let t : byte_length (chars text) ≡ length text = width_chars text v in
    let a : byte_length (chars text) ≡ byte_length h.before + byte_length (chars s) =
    ap byte_length h.whole ∙ sum_by-append len_utf8 h.before (chars s) in
    let b : byte_length (chars s) ≡ len_utf8 c + byte_length (chars r) =
    ap byte_length (chars_past_char s r c h.valid e) ∙ sum_by-cons len_utf8 c (chars r) in
    omega (arith, t, a, b, h.bytes)
