-- A content that is as long as its value has no escapes, so its places are those of a
-- plain text.
use Rattle.std.proofs.Common.{◌≡◌, ◌++◌, ◌+◌, ◌≤◌, ◌<◌, ℕ, suc, Bool, true, false, List, [], ◌∷◌}
use Rattle.std.proofs.Common.{refl, sym, ap, ◌∙◌, arith, Option, Some, None, IsTrue}
use Rattle.std.proofs.Common.{inl, inr}
use Rattle.std.specs.Prelude.{◌==◌, ◌||◌, ◌⊎◌}
use Rattle.std.specs.Char.{len_utf8, digit_value}
use Rattle.std.proofs.lemmas.Bool.{cond_both, ltb-true, and_parts}
use Rattle.std.proofs.lemmas.Str.{len_utf8_bounds, len_utf8_ascii}
use Rattle.rustc_parse_format.specs.Characters.{Text, byte_length}
use Rattle.rustc_parse_format.specs.LiteralUnits.{LiteralUnit, Plain, SimpleEscape, ByteEscape}
use Rattle.rustc_parse_format.specs.LiteralUnits.{UnicodeEscape, Continuation, spelling, value}
use Rattle.rustc_parse_format.specs.LiteralUnits.{is_unit}
use Rattle.rustc_parse_format.specs.LiteralUnits.{is_unicode, unicode_value, at_most_one}
use Rattle.rustc_parse_format.specs.LiteralUnits.{escaped_character}
use Rattle.rustc_parse_format.specs.LiteralUnits.{byte_value}
use Rattle.rustc_parse_format.specs.Literal.{IsContent, content_value, newline}
use Rattle.rustc_parse_format.specs.World.{Place, plain_places, content_places, last_stop}
use Rattle.rustc_parse_format.specs.World.{newline_places, ordinary_end, ordinary_world}
use Rattle.rustc_parse_format.specs.World.{plain_world}
use Rattle.rustc_parse_format.proofs.Literals.Widths.{width-append, width-cons}

-- a unit is one character that stands for itself, or longer than its value
abbrev IsPlainOrLonger : LiteralUnit → Type 0
IsPlainOrLonger u = ((c : ℕ) × (u ≡ Plain c)) ⊎ (byte_length (value u) < byte_length (spelling u))

-- at most one character takes at most four bytes
width-one : (c : ℕ) → byte_length (c ∷ []) ≡ len_utf8 c
width-one c = omega (arith, width-cons c [])

-- the character that a letter stands for takes no more bytes than the letter
width-escaped : (l : ℕ) → byte_length (at_most_one (escaped_character l)) ≤ len_utf8 l
width-escaped l =
    cond_both {A = Option ℕ} (l == 110) _ _ (λ o. byte_length (at_most_one o) ≤ len_utf8 l)
    (λ e. omega (arith, (len_utf8_bounds l).0))
    (λ e. cond_both {A = Option ℕ} (l == 114) _ _ (λ o. byte_length (at_most_one o) ≤ len_utf8 l)
    (λ e. omega (arith, (len_utf8_bounds l).0))
    (λ e. cond_both {A = Option ℕ} (l == 116) _ _ (λ o. byte_length (at_most_one o) ≤ len_utf8 l)
    (λ e. omega (arith, (len_utf8_bounds l).0))
    (λ e. cond_both {A = Option ℕ} (l == 48) _ _ (λ o. byte_length (at_most_one o) ≤ len_utf8 l)
    (λ e. omega (arith, (len_utf8_bounds l).0))
    (λ e. cond_both {A = Option ℕ} ((l == 39 || l == 34) || l == 92) (Some l) None
    (λ o. byte_length (at_most_one o) ≤ len_utf8 l)
    (λ e. omega (arith, width-one l)) (λ e. omega arith)))))

byte-small : (h l : ℕ) → digit_value h < 8 → digit_value l < 16 → byte_value h l < 128
byte-small h l a b = omega arith

unicode-longer : (w : Text) → IsTrue (is_unicode w) → byte_length (value (UnicodeEscape w))
    < byte_length (spelling (UnicodeEscape w))
unicode-longer [] h = cc h
unicode-longer (c ∷ w) h = omega (
  arith,
  width-one (unicode_value (c ∷ w)),
  (len_utf8_bounds (unicode_value (c ∷ w))).1,
  (len_utf8_bounds c).0,
  width-cons 92 (117 ∷ 123 ∷ c ∷ (w ++ 125 ∷ [])),
  width-cons 117 (123 ∷ c ∷ (w ++ 125 ∷ [])),
  width-cons 123 (c ∷ (w ++ 125 ∷ [])),
  width-cons c (w ++ 125 ∷ []),
  width-append w (125 ∷ []),
  width-one 125,
)

longer : (u : LiteralUnit) → IsTrue (is_unit u) → IsPlainOrLonger u
longer (Plain c) w = inl (c, refl)
longer (SimpleEscape l) w =
    inr (omega (arith, width-escaped l, width-cons 92 (l ∷ []), width-one l))
longer (ByteEscape h l) w =
    let parts = and_parts _ _ w in
    let small : byte_value h l
    < 128 = byte-small h l (ltb-true _ _ parts.0) (ltb-true _ _ parts.1) in
    inr (omega (
      arith,
      width-one (byte_value h l),
      len_utf8_ascii (byte_value h l) small,
      width-cons 92 (120 ∷ h ∷ l ∷ []),
      width-cons 120 (h ∷ l ∷ []),
    ))
longer (UnicodeEscape w) h = inr (unicode-longer w h)
longer (Continuation w) h = inr (omega (arith, width-cons 92 (10 ∷ w), width-cons 10 w))

-- no unit is shorter than its value
not_shorter : (u : LiteralUnit) → IsPlainOrLonger u → byte_length (value u)
    ≤ byte_length (spelling u)
not_shorter u (inl (c, e)) = rw e (omega arith)
not_shorter u (inr h) = omega arith

-- nor a content
pub content-not_shorter : (t : Text) (us : List LiteralUnit) → IsContent t us
    → byte_length (content_value us) ≤ byte_length t
content-not_shorter t [] e = omega arith
content-not_shorter t (u ∷ us) (r, w, m, e, rest) = omega (
  arith,
  not_shorter u (longer u w),
  content-not_shorter r us rest,
  width-append (value u) (content_value us),
  ap byte_length e,
  width-append (spelling u) r,
)

-- the unit at the front of a content that is as long as its value is a character that
-- stands for itself
front-plain : (u : LiteralUnit) (t r : Text) (us : List LiteralUnit) → IsPlainOrLonger u
    → t ≡ spelling u ++ r → IsContent r us →
    byte_length t ≡ byte_length (content_value (u ∷ us)) → (c : ℕ) × (u ≡ Plain c)
front-plain u t r us (inl p) e rest n = p
front-plain u t r us (inr h) e rest n = absurd (omega (
  arith,
  content-not_shorter r us rest,
  width-append (value u) (content_value us),
  ap byte_length e,
  width-append (spelling u) r,
))

-- the places of a content that is as long as its value
pub content-plain : (at : ℕ) (t : Text) (us : List LiteralUnit) → IsContent t us
    → byte_length t ≡ byte_length (content_value us) →
    content_places at us ≡ plain_places at (content_value us)
content-plain at t [] e n = refl
content-plain at t (u ∷ us) (r, w, m, e, rest) n =
    let p = front-plain u t r us (longer u w) e rest n in
    let k : byte_length r ≡ byte_length (content_value us) = omega (
      arith,
      n,
      ap byte_length e,
      ap (λ v. byte_length (spelling v ++ r)) p.1,
      ap (λ v. byte_length (value v ++ content_value us)) p.1,
      width-cons p.0 r,
      width-cons p.0 (content_value us),
    ) in
    rw (p.1, width-one p.0)
    (ap (λ ps. (at, at + len_utf8 p.0) ∷ ps) (content-plain (at + len_utf8 p.0) r us rest k))

-- where a plain text ends
last_stop-plain : (at : ℕ) (t : Text) → last_stop at (plain_places at t) ≡ at + byte_length t
last_stop-plain at [] = omega arith
last_stop-plain at (c ∷ t) = last_stop-plain (at + len_utf8 c) t ∙ omega (arith, width-cons c t)

plain-append : (at : ℕ) (s t : Text) → plain_places at (s ++ t)
    ≡ plain_places at s ++ plain_places (at + byte_length s) t
plain-append at [] t = let e : at + 0 ≡ at = omega arith in ap (λ k. plain_places k t) (sym e)
plain-append at (c ∷ s) t =
    let e : (at + len_utf8 c) + byte_length s ≡ at + byte_length (c ∷ s) =
    omega (arith, width-cons c s) in
    ap (λ ps. (at, at + len_utf8 c) ∷ ps) (plain-append (at + len_utf8 c) s t
    ∙ ap (λ k. plain_places (at + len_utf8 c) s ++ plain_places k t) e)

newline-plain : (e : ℕ) (appended : Bool) → newline_places e appended
    ≡ plain_places e (newline appended)
newline-plain e true = let n : suc e ≡ e + 1 = omega arith in ap (λ k. (e, k) ∷ []) n
newline-plain e false = refl

-- so the world of such a literal is that of a plain text
pub ordinary-plain : (t : Text) (us : List LiteralUnit) (appended : Bool) → IsContent t us
    → byte_length t ≡ byte_length (content_value us) →
    ordinary_world us appended
    ≡ plain_world true 1 (content_value us ++ newline appended) (ordinary_end us)
ordinary-plain t us appended h n =
    let plain : content_places 1 us ≡ plain_places 1 (content_value us) =
    content-plain 1 t us h n in
    let end : ordinary_end us ≡ 1 + byte_length (content_value us) = ap (last_stop 1) plain
    ∙ last_stop-plain 1 (content_value us) in
    let places : content_places 1 us ++ newline_places (ordinary_end us) appended
    ≡ plain_places 1 (content_value us ++ newline appended) =
    ap (λ ps. ps ++ newline_places (ordinary_end us) appended) plain
    ∙ (ap (λ ps. plain_places 1 (content_value us) ++ ps) (newline-plain (ordinary_end us) appended
    ∙ ap (λ k. plain_places k (newline appended)) end)
    ∙ sym (plain-append 1 (content_value us) (newline appended))) in
    ap (λ (ps : List Place). record { has_source = true; places = ps; end = ordinary_end us })
    places
