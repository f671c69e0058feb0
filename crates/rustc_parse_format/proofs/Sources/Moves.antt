-- The rest of the input, moved forward to a suffix, character by character.
use Rattle.std.proofs.Common.{◌≡◌, ◌≢◌, ◌++◌, ◌+◌, ◌-◌, ◌<◌, ◌≤◌, Bool, true, false, List, ℕ, []}
use Rattle.std.proofs.Common.{◌∷◌, drop, length, chars, IsUtf8, ap, refl, subst}
use Rattle.std.proofs.Common.{sym, ◌∙◌, arith, length-append}
use Rattle.std.specs.Prelude.{IsTrue}
use Rattle.std.specs.Str.{is_utf8}
use Rattle.std.proofs.Math.Seq.{drop-append_seam}
use Rattle.std.proofs.Math.Utf8.{encodes}
use Rattle.std.specs.List.{list_all}
use Rattle.std.proofs.lemmas.Bool.{and_parts}
use Rattle.std.proofs.lemmas.Str.{IsUtf8-from_is_utf8, encodes-append, encodes-chars}
use Rattle.std.proofs.lemmas.Str.{len_utf8_bounds}
use Rattle.rustc_parse_format.specs.Bytes.{IsLeft}
use Rattle.rustc_parse_format.specs.World.{World}
use Rattle.rustc_parse_format.specs.LiteralUnits.{LiteralUnit, Plain, is_plain, meaning}
use Rattle.rustc_parse_format.specs.Literal.{IsContent}
use Rattle.rustc_parse_format.specs.SourceViews.{IsHere, begins_continuation, character_width}
use Rattle.rustc_parse_format.specs.SourceViews.{closed_by_quote, gap}
use Rattle.rustc_parse_format.proofs.Literals.UnitLaws.{unit_at-complete}
use Rattle.rustc_parse_format.proofs.Sources.Contents.{gap-none, plain-no_continuation, width-read}
use Rattle.rustc_parse_format.proofs.Sources.Steps.{after_character, cut_from}
use Rattle.rustc_parse_format.specs.Characters.{Text, after_first, byte_length}
use Rattle.rustc_parse_format.proofs.Literals.Widths.{width-append, width-cons}
use Rattle.rustc_parse_format.proofs.Sources.PlainPlaces.{begun, after_width, width_chars}

pub shorter : (text rest_after rest : List ℕ) → IsUtf8 text → IsUtf8 rest_after
    → chars rest_after ≡ after_first (chars text) → length rest < length text →
    length rest_after < length text
shorter text rest_after rest u v e h =
    let f = begun text u (λ none. omega arith) in
    omega (
      arith,
      after_width text rest_after f.head f.tail u v f.chars_are e,
      (len_utf8_bounds f.head).0,
    )

pub front_left : (text rest_after rest : List ℕ) → IsUtf8 text → IsUtf8 rest
    → chars rest_after ≡ after_first (chars text) → length rest < length text →
    (front : Text) → chars text ≡ front ++ chars rest → (left : Text)
    × (chars rest_after ≡ left ++ chars rest)
front_left text rest_after rest u v e h [] f =
    absurd (omega (arith, width_chars text u, width_chars rest v, ap byte_length f))
front_left text rest_after rest u v e h (c ∷ front) f = (front, e ∙ ap after_first f)

pub front_gone : (text rest : List ℕ) → IsUtf8 text → IsUtf8 rest → length text ≤ length rest
    → (front : Text) → chars text ≡ front ++ chars rest →
    chars text ≡ chars rest
front_gone text rest u v h [] f = f
front_gone text rest u v h (c ∷ front) f =
    absurd (omega (
      arith,
      width_chars text u,
      width_chars rest v,
      ap byte_length f,
      width-cons c (front ++ chars rest),
      width-append front (chars rest),
      (len_utf8_bounds c).0,
    ))

-- a text that ends with the rest has it left
pub left_from : (s rest : List ℕ) (front : Text) → is_utf8 s ≡ true → is_utf8 rest ≡ true
    → chars s ≡ front ++ chars rest → IsLeft s rest
left_from s rest front u v e =
    let bytes : s ≡ encodes front ++ rest = sym (encodes-chars s (IsUtf8-from_is_utf8 s u))
    ∙ (ap encodes e
    ∙ (encodes-append front (chars rest)
    ∙ ap (λ x. encodes front ++ x) (encodes-chars rest (IsUtf8-from_is_utf8 rest v)))) in
    let size : length s - length rest ≡ length (encodes front) =
    omega (arith, ap length bytes, length-append (encodes front) rest) in
    record {
      valid = u;
      valid_rest = v;
      within = omega (arith, ap length bytes, length-append (encodes front) rest);
      tail = ap (λ k. drop k s) size
          ∙ (ap (drop (length (encodes front))) bytes ∙ drop-append_seam (encodes front) rest);
    }

-- A run that stands in the snippet as it is, and has no character that a literal writes in another
-- way.
pub plain_width : (c : ℕ) (t : Text) → IsTrue (is_plain c)
    → character_width (c ∷ t) ≡ byte_length (c ∷ [])
plain_width c t p =
    omega (
      arith,
      width-read (c ∷ t) t c (ap meaning (unit_at-complete (Plain c) t p refl)),
      width-cons c t,
      width-cons c [],
    )

pub false_if : (b : Bool) → (b ≡ true → ⊥) → b ≡ false
false_if true h = absurd (h refl)
false_if false h = refl

abbrev pub Gaps : List ℕ → ℕ → ℕ → Type 0
Gaps s at g = (q : Text) (us : List LiteralUnit) → IsContent q us
    → chars (drop at s) ≡ closed_by_quote q → g ≡ gap us

pub here_plain : (s : List ℕ) (w : World) (u rest t : Text) (at g : ℕ) → IsHere s w (u ++ rest) at
    → u ≢ [] → chars (drop at s) ≡ u ++ t →
    IsTrue (list_all is_plain u) → Gaps s (at + byte_length u) g
    → IsHere s w rest ((at + byte_length u) + g)
here_plain s w [] rest t at g h some e p f = absurd (some refl)
here_plain s w (c ∷ []) rest t at g h some e p f =
    let width : byte_length (c ∷ []) ≡ character_width (chars (drop at s)) =
    sym (ap character_width e ∙ plain_width c t (and_parts _ _ p).0) in
    after_character s w (c ∷ rest) at (byte_length (c ∷ [])) g h width
    (λ none. omega (arith, none, width-cons c [], (len_utf8_bounds c).0)) f
here_plain s w (c ∷ d ∷ u) rest t at g h some e p f =
    let n = byte_length (c ∷ []) in
    let parts = and_parts _ _ p in
    let next = and_parts _ _ parts.1 in
    let width : n ≡ character_width (chars (drop at s)) =
    sym (ap character_width e ∙ plain_width c (d ∷ (u ++ t)) parts.0) in
    let cut = cut_from s at n (c ∷ []) (d ∷ (u ++ t)) h.within
    (IsUtf8-from_is_utf8 (drop at s) h.valid) e refl in
    let no_gap : Gaps s (at + n) 0 = λ q us k m. sym (gap-none (chars (drop (at + n) s)) q us k m
    (ap begins_continuation cut.2 ∙ false_if _ (plain-no_continuation d (u ++ t) next.0))) in
    let one = after_character s w (c ∷ ((d ∷ u) ++ rest)) at n 0 h width
    (λ none. omega (arith, none, width-cons c [], (len_utf8_bounds c).0)) no_gap in
    let here : IsHere s w ((d ∷ u) ++ rest) (at + n) =
    subst (IsHere s w ((d ∷ u) ++ rest)) (omega arith) one in
    let size : at + byte_length (c ∷ d ∷ u) ≡ (at + n)
    + byte_length (d ∷ u) = omega (arith, width-cons c (d ∷ u), width-cons c []) in
    let gaps : Gaps s ((at + n) + byte_length (d ∷ u)) g = subst (λ k. Gaps s k g) size f in
    subst (λ k. IsHere s w rest (k + g)) (sym size)
    (here_plain s w (d ∷ u) rest t (at + n) g here
    (λ none. no_list d u none) cut.2 parts.1 gaps)
  where
    no_list : (x : ℕ) (xs : Text) → x ∷ xs ≡ [] → ⊥
    no_list x xs e = cc e
