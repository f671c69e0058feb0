-- The units that are left of a content: the character at their start, its width, and what comes
-- after the continuations.
use Rattle.std.proofs.Common.{◌≡◌, ◌+◌, ◌++◌, ◌⊎◌, inl, inr, ℕ, true, List, [], ◌∷◌, length, map}
use Rattle.std.proofs.Common.{refl, ap, sym, subst, ◌∙◌, arith}
use Rattle.std.proofs.Common.{append_assoc, Option, Some, None}
use Rattle.std.specs.Prelude.{IsTrue, is_some}
use Rattle.std.proofs.lemmas.Bool.{false≢true}
use Rattle.std.proofs.lemmas.List.{nil_from_length}
use Rattle.rustc_parse_format.specs.Characters.{Text, byte_length}
use Rattle.rustc_parse_format.specs.LiteralUnits.{LiteralUnit, Plain, SimpleEscape, ByteEscape}
use Rattle.rustc_parse_format.specs.LiteralUnits.{UnicodeEscape, Continuation}
use Rattle.rustc_parse_format.specs.LiteralUnits.{spelling, value, meaning, escaped_character}
use Rattle.rustc_parse_format.specs.LiteralUnits.{at_most_one}
use Rattle.rustc_parse_format.specs.LiteralUnits.{unit_at, byte_value, unicode_value}
use Rattle.rustc_parse_format.specs.Literal.{IsContent, content_value, placed_characters}
use Rattle.rustc_parse_format.specs.SourceViews.{IsAhead, after_continuations, character_width}
use Rattle.rustc_parse_format.specs.SourceViews.{closed_by_quote, spelled_units, unit_width}
use Rattle.rustc_parse_format.specs.SourceViews.{width_before}
use Rattle.rustc_parse_format.specs.World.{Place, content_places}
use Rattle.rustc_parse_format.proofs.Literals.Widths.{width-append}
use Rattle.rustc_parse_format.proofs.Literals.UnitLaws.{unit_at-front}
use Rattle.rustc_parse_format.proofs.Spans.PlaceOrder.{length-content_places}
use Rattle.rustc_parse_format.proofs.Sources.Contents.{closed-unit_at}

-- The first unit is that of a character.
pub record Starts (us : List LiteralUnit) : Type 0 where
  pub unit : LiteralUnit
  pub others : List LiteralUnit
  pub character : ℕ
  pub are : us ≡ unit ∷ others
  pub stands_for : value unit ≡ character ∷ []

pub by_ahead : (us : List LiteralUnit) → IsAhead us → (content_value us ≡ []) ⊎ Starts us
by_ahead [] a = inl refl
by_ahead (u ∷ us) (inl (c, e)) =
    inr (record { unit = u; others = us; character = c; are = refl; stands_for = e })
by_ahead (u ∷ us) (inr e) = inl e

pub none_ahead : (us : List LiteralUnit) → content_value us ≡ [] → IsAhead us
none_ahead [] e = tt
none_ahead (u ∷ us) e = inr e

pub starts_ahead : (us : List LiteralUnit) → Starts us → IsAhead us
starts_ahead us k = subst IsAhead (sym k.are) (inl (k.character, k.stands_for))

-- Units that stand for nothing have no places,
pub no_places : (at : ℕ) (us : List LiteralUnit) → content_value us ≡ [] → content_places at us ≡ []
no_places at us e = nil_from_length (content_places at us)
    (length-content_places at us ∙ ap length e)

-- and the first place of others is that of the first unit.
pub first_place : (at : ℕ) (us : List LiteralUnit) (k : Starts us) →
    content_places at us ≡ (at, at + byte_length (spelling k.unit))
    ∷ content_places (at + byte_length (spelling k.unit)) k.others
first_place at us k = ap (content_places at) k.are ∙ of_unit k.unit k.stands_for
  where
    of_unit : (u : LiteralUnit) → value u ≡ k.character ∷ [] →
        content_places at (u ∷ k.others) ≡ (at, at + byte_length (spelling u))
        ∷ content_places (at + byte_length (spelling u)) k.others
    of_unit u e =
        ap (λ v. map (λ (x : Place × ℕ). x.0) (map (λ c. ((at, at + byte_length (spelling u)), c)) v
        ++ placed_characters (at + byte_length (spelling u)) k.others)) e

pub first_value : (us : List LiteralUnit) (k : Starts us) → content_value us
    ≡ k.character ∷ content_value k.others
first_value us k = ap content_value k.are ∙ ap (λ v. v ++ content_value k.others) k.stands_for

-- How wide the unit in front is.
pub no_width : (t q : Text) (us : List LiteralUnit) → IsContent q us → t ≡ closed_by_quote q
    → content_value us ≡ [] → character_width t ≡ 0
unfolding character_width unit_at
no_width t q [] h e n = ap character_width (e ∙ ap closed_by_quote h)
no_width t q (u ∷ us) (r, w, m, f, h) e n =
    ap (λ o. unit_width t (meaning o)) (closed-unit_at t q u r e w m f) ∙ of_value (value u) n
  where
    of_value : (v : Text) → v ++ content_value us ≡ [] → width_before t v (closed_by_quote r) ≡ 0
    of_value [] n = refl
    of_value (c ∷ v) n = absurd cc

pub first_width : (t q : Text) (us : List LiteralUnit) → IsContent q us → t ≡ closed_by_quote q
    → (k : Starts us) →
    character_width t ≡ byte_length (spelling k.unit)
unfolding character_width
first_width t q us h e k = of_units (subst (IsContent q) k.are h)
  where
    of_units : IsContent q (k.unit ∷ k.others) → character_width t ≡ byte_length (spelling k.unit)
    of_units (r, w, m, f, h) =
        let found = closed-unit_at t q k.unit r e w m f in
        ap (λ o. unit_width t (meaning o)) found
        ∙ (ap (λ v. width_before t v (closed_by_quote r)) k.stands_for
        ∙ omega (
          arith,
          ap byte_length (unit_at-front t k.unit (closed_by_quote r) found).split,
          width-append (spelling k.unit) (closed_by_quote r),
        ))

-- Of any text, that many bytes are some of its characters.
pub record IsWide (t : Text) : Type 0 where
  pub front : Text
  pub rest : Text
  pub split : t ≡ front ++ rest
  pub bytes : character_width t ≡ byte_length front

pub is_wide : (t : Text) → IsWide t
unfolding character_width
is_wide t = of_unit (unit_at t) refl
  where
    nothing : character_width t ≡ 0 → IsWide t
    nothing e = record { front = []; rest = t; split = refl; bytes = e }

    of_value : (u : LiteralUnit) (v r : Text) → t ≡ spelling u ++ r
        → character_width t ≡ width_before t v r → IsWide t
    of_value u [] r f e = nothing e
    of_value u (c ∷ v) r f e = record {
      front = spelling u;
      rest = r;
      split = f;
      bytes = omega (arith, e, ap byte_length f, width-append (spelling u) r);
    }

    of_unit : (o : Option (LiteralUnit × Text)) → unit_at t ≡ o → IsWide t
    of_unit None e = nothing (ap (λ o. unit_width t (meaning o)) e)
    of_unit (Some (u, r)) e = of_value u (value u) r (unit_at-front t u r e).split
        (ap (λ o. unit_width t (meaning o)) e)

-- The units after the continuations at the front, which take some text and stand for nothing.
pub record IsAfter (us vs : List LiteralUnit) : Type 0 where
  pub front : Text
  pub split : spelled_units us ≡ front ++ spelled_units vs
  pub same_value : content_value us ≡ content_value vs
  pub same_places : (at : ℕ) → content_places at us ≡ content_places (at + byte_length front) vs

same_after : (us : List LiteralUnit) → IsAfter us us
same_after us = record {
  front = [];
  split = refl;
  same_value = refl;
  same_places = λ at. let e : at ≡ at + 0 = omega arith in ap (λ k. content_places k us) e;
}

pub is_after : (us : List LiteralUnit) → IsAfter us (after_continuations us)
is_after [] = same_after []
is_after (Plain c ∷ us) = same_after (Plain c ∷ us)
is_after (SimpleEscape l ∷ us) = same_after (SimpleEscape l ∷ us)
is_after (ByteEscape h l ∷ us) = same_after (ByteEscape h l ∷ us)
is_after (UnicodeEscape w ∷ us) = same_after (UnicodeEscape w ∷ us)
is_after (Continuation w ∷ us) =
    let k = is_after us in
    let own = spelling (Continuation w) in
    record {
      front = own ++ k.front;
      split = ap (λ s. own ++ s) k.split
          ∙ sym (append_assoc own k.front (spelled_units (after_continuations us)));
      same_value = k.same_value;
      same_places = λ at.
          let e : (at + byte_length own) + byte_length k.front ≡ at
          + byte_length (own ++ k.front) = omega (arith, width-append own k.front) in
          k.same_places (at + byte_length own)
          ∙ ap (λ i. content_places i (after_continuations us)) e;
    }

-- The first unit after them is that of a character, if there is one.
abbrev pub StartsIfSome : List LiteralUnit → Type 0
StartsIfSome [] = Unit {0}
StartsIfSome (v ∷ vs) = Starts (v ∷ vs)

letter-starts : (l : ℕ) (us : List LiteralUnit) → IsTrue (is_some (escaped_character l))
    → Starts (SimpleEscape l ∷ us)
letter-starts l us w = of_letter (escaped_character l) refl w
  where
    of_letter : (o : Option ℕ) → escaped_character l ≡ o → is_some o ≡ true
        → Starts (SimpleEscape l ∷ us)
    of_letter None e w = absurd (false≢true w)
    of_letter (Some c) e w = record {
      unit = SimpleEscape l;
      others = us;
      character = c;
      are = refl;
      stands_for = ap at_most_one e;
    }

pub after_starts : (q : Text) (us : List LiteralUnit) → IsContent q us
    → StartsIfSome (after_continuations us)
after_starts q [] h = tt
after_starts q (Plain c ∷ us) h =
    record { unit = Plain c; others = us; character = c; are = refl; stands_for = refl }
after_starts q (SimpleEscape l ∷ us) (r, w, m, f, h) = letter-starts l us w
after_starts q (ByteEscape a l ∷ us) h =
    record {
      unit = ByteEscape a l;
      others = us;
      character = byte_value a l;
      are = refl;
      stands_for = refl;
    }
after_starts q (UnicodeEscape v ∷ us) h =
    record {
      unit = UnicodeEscape v;
      others = us;
      character = unicode_value v;
      are = refl;
      stands_for = refl;
    }
after_starts q (Continuation v ∷ us) (r, w, m, f, h) = after_starts r us h
