-- A text that is found in another text begins and ends between characters.
use Rattle.std.proofs.Common.{◌≡◌, ◌≢◌, ℕ, ◌+◌, ◌-◌, ◌<◌, ◌≤◌, ◌++◌, Bool, true, false, List, []}
use Rattle.std.proofs.Common.{◌∷◌, length, take, drop, get_or, chars, IsUtf8}
use Rattle.std.proofs.Common.{refl, sym, ap, ◌∙◌, arith, take-append-drop, get_or-take, get_or-drop}
use Rattle.std.proofs.Common.{drop-drop, length-append}
use Rattle.std.specs.Prelude.{slice_range, slice_index, nat_le, nat_lt, ◌==◌, ◌&&◌, ◌||◌}
use Rattle.std.proofs.lemmas.Bool.{eqb-true}
use Rattle.std.specs.Str.{IsCharBoundary}
use Rattle.std.proofs.lemmas.Bool.Decides.{nat_tests}
use Rattle.std.proofs.lemmas.List.{nil_from_length, take-take, take_all, take-append-le, drop_all}
use Rattle.std.proofs.lemmas.List.{drop-append-le, drop-take}
use Rattle.std.proofs.lemmas.Slice.{between_is}
use Rattle.std.proofs.lemmas.Str.{IsUtf8-take, IsUtf8-append, IsCharBoundary-start}
use Rattle.std.proofs.lemmas.Str.{IsCharBoundary-from_take, chars-nil, encodes-chars}
use Rattle.rustc_parse_format.specs.Characters.{Text, byte_length, is_nil}
use Rattle.rustc_parse_format.proofs.Sources.PlainPlaces.{width_chars}
use Rattle.flat_reading.specs.Progress.{HasBytes, StandsAt}
use Rattle.flat_reading.specs.Meaning.{is_boundary, text_at}

pub is_none_of : (n : ℕ) → n == 0 ≡ true → n ≡ 0
is_none_of n e = eqb-true n 0 e

pub is_some_of : (n : ℕ) → n == 0 ≡ false → 0 < n
is_some_of n e = grind (arith, nat_tests)

test : (n l b : ℕ) → n ≤ l → (n < l → 128 ≤ b → 192 ≤ b)
    → (nat_le n l && (nat_le l n || (nat_lt b 128 || nat_le 192 b))) ≡ true
test n l b h k = grind (arith, nat_tests)

not_backwards : (n m : ℕ) → n ≤ m → nat_le n m ≡ true
not_backwards n m h = grind (arith, nat_tests)

passes : (bs : List ℕ) (i : ℕ) → IsCharBoundary bs i → is_boundary bs i ≡ true
passes bs i h = test i (length bs) (slice_index bs i) h.0 h.1

-- where a text that is not empty begins
begins : (bs text : List ℕ) (from to : ℕ) → IsUtf8 text → 0 < length text → from + length text ≡ to
    → to ≤ length bs → slice_range bs from to ≡ text
    → IsCharBoundary bs from
begins bs text from to u some e fit same =
    let first : get_or text 0 0 ≡ get_or bs from 0 =
    ap (λ l. get_or l 0 0) (sym same) ∙ get_or-take (to - from) (drop from bs) 0 0 (omega arith)
    ∙ get_or-drop from bs 0 0
    ∙ ap (λ n. get_or bs n 0) (omega arith) in
    (omega arith, λ inside. rw (sym first) ((IsCharBoundary-start text u).1 some))

ends : (bs text : List ℕ) (from to : ℕ) → IsUtf8 bs → IsUtf8 text → from + length text ≡ to
    → to ≤ length bs → slice_range bs from to ≡ text
    → IsCharBoundary bs from → IsCharBoundary bs to
ends bs text from to v u e fit same start =
    let parts : take to bs ≡ take from bs ++ text =
    sym (take-append-drop from (take to bs))
    ∙ ap (λ l. l ++ drop from (take to bs)) (take-take from to bs (omega arith))
    ∙ ap (λ l. take from bs ++ l) (sym (between_is bs from to) ∙ same) in
    IsCharBoundary-from_take bs to v fit
    (rw parts (IsUtf8-append (take from bs) text (IsUtf8-take bs from v start) u))

-- the text between two places that cut no character
pub uncut_text : (bs : List ℕ) (from to : ℕ) → from ≤ to → IsCharBoundary bs from
    → IsCharBoundary bs to
    → text_at bs (record { start = from; end = to }) ≡ chars (slice_range bs from to)
unfolding text_at
uncut_text bs from to h start stop =
    rw (not_backwards from to h, passes bs from start, passes bs to stop) refl

pub cut_text : (bs text : List ℕ) (from : ℕ) → IsUtf8 bs → IsUtf8 text → 0 < length text
    → HasBytes bs from text →
    text_at bs (record { start = from; end = from + length text }) ≡ chars text
cut_text bs text from v u some h =
    let start = begins bs text from (from + length text) u some refl h.0 h.1 in
    let stop = ends bs text from (from + length text) v u refl h.0 h.1 start in
    uncut_text bs from (from + length text) (omega arith) start stop ∙ ap chars h.1

some_chars : (text : List ℕ) → IsUtf8 text → 0 < length text → chars text ≢ []
some_chars text u some e = let k : length text ≡ 0 = sym (width_chars text u) ∙ ap byte_length e in
    omega arith

-- a text that is not empty stands there
pub has_bytes : (bs text : List ℕ) (from : ℕ) → IsUtf8 text → 0 < length text
    → StandsAt bs from (chars text) → HasBytes bs from text
has_bytes bs text from u some h = rw (encodes-chars text u) at h (some_chars text u some)

-- and so it does for who has its bytes
pub has_text : (bs text : List ℕ) (from : ℕ) → IsUtf8 text → HasBytes bs from text
    → StandsAt bs from (chars text)
has_text bs text from u h = λ some. rw (encodes-chars text u) h

not_nil : (t : Text) → t ≢ [] → false ≡ is_nil t
not_nil [] h = absurd (h refl)
not_nil (c ∷ t) h = refl

pub nil_test : (text : List ℕ) → IsUtf8 text → (length text == 0) ≡ is_nil (chars text)
nil_test text u = by_test (length text == 0) refl
  where
    by_test : (b : Bool) → (length text == 0) ≡ b → b ≡ is_nil (chars text)
    by_test true e =
        sym (ap is_nil (ap chars (nil_from_length text (eqb-true (length text) 0 e)) ∙ chars-nil))
    by_test false e = not_nil (chars text) (some_chars text u (is_some_of (length text) e))

-- Where bytes stand after a prefix, the prefix stands, and they stand after it.
front_of : (xs zs : List ℕ) (from n : ℕ) → slice_range zs from (from + n) ≡ xs
    → take n (drop from zs) ≡ xs
front_of xs zs from n e = ap (λ k. take k (drop from zs)) (omega arith) ∙ e

pub has_prefix : (bs xs ys : List ℕ) (from : ℕ) → HasBytes bs from (xs ++ ys) → HasBytes bs from xs
has_prefix bs xs ys from h =
    let long = length-append xs ys in
    let all = front_of (xs ++ ys) bs from (length (xs ++ ys)) h.1 in (
      omega (arith, h.0),
      ap (λ k. take k (drop from bs)) (omega arith)
          ∙ sym (take-take (length xs) (length (xs ++ ys)) (drop from bs) (omega arith))
          ∙ ap (take (length xs)) all ∙ take-append-le (length xs) xs ys (omega arith)
          ∙ take_all (length xs) xs (omega arith),
    )

pub has_after : (bs xs ys : List ℕ) (from : ℕ) → HasBytes bs from (xs ++ ys)
    → HasBytes bs (from + length xs) ys
has_after bs xs ys from h =
    let long = length-append xs ys in
    let all = front_of (xs ++ ys) bs from (length (xs ++ ys)) h.1 in (
      omega (arith, h.0),
      ap (λ k. take k (drop (from + length xs) bs)) (omega arith)
          ∙ ap (take (length ys)) (sym (drop-drop (length xs) from bs))
          ∙ sym (drop-take (length xs) (length ys) (drop from bs))
          ∙ ap (λ k. drop (length xs) (take k (drop from bs))) (sym long)
          ∙ ap (drop (length xs)) all
          ∙ drop-append-le (length xs) xs ys (omega arith)
          ∙ ap (λ l. l ++ ys) (drop_all (length xs) xs (omega arith)),
    )

pub no_text : (bs text : List ℕ) → IsUtf8 bs → length text ≡ 0
    → text_at bs (record { start = 0; end = 0 }) ≡ chars text
unfolding text_at
no_text bs [] v e = rw (passes bs 0 (IsCharBoundary-start bs v)) refl
no_text bs (c ∷ text) v e = absurd (omega arith)
