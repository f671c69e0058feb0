-- Where characters start in the source text of an ordinary literal: none of them starts with a
-- continued line.
use Rattle.std.proofs.Common.{◌≡◌, ℕ, suc, zero, ◌++◌, ◌≤◌, ◌<◌, ◌==◌, Bool, true, false}
use Rattle.std.proofs.Common.{List, [], ◌∷◌, length, refl, sym, ap, subst, ◌∙◌, arith}
use Rattle.std.proofs.Common.{append_assoc, inl, inr, Option, Some, None}
use Rattle.std.specs.Prelude.{◌||◌, is_some}
use Rattle.std.specs.Char.{len_utf8}
use Rattle.std.proofs.lemmas.Bool.{false≢true, not-true, or_parts}
use Rattle.std.proofs.lemmas.Str.{len_utf8_bounds}
use Rattle.rustc_parse_format.specs.Characters.{Text, byte_length}
use Rattle.rustc_parse_format.specs.Literal.{IsContent}
use Rattle.rustc_parse_format.specs.LiteralUnits.{ByteEscape, Continuation, LiteralUnit, Plain}
use Rattle.rustc_parse_format.specs.LiteralUnits.{SimpleEscape, UnicodeEscape, at_most_one}
use Rattle.rustc_parse_format.specs.LiteralUnits.{escaped_character}
use Rattle.rustc_parse_format.specs.LiteralUnits.{is_unit, spelling, value}
use Rattle.rustc_parse_format.specs.World.{Place, content_places, last_stop}
use Rattle.rustc_parse_format.proofs.Literals.Meanings.{meaning-some}
use Rattle.rustc_parse_format.proofs.Literals.UnitLaws.{unit_at-front}
use Rattle.rustc_parse_format.proofs.Literals.Widths.{width-append, width-cons}
use Rattle.rustc_parse_format.proofs.Spans.PlaceOrder.{one_or_none}
use Rattle.rustc_parse_format.proofs.Spans.Units.{past, start}
use Rattle.format_tokens.specs.Escapes.{escape_at}

-- The text begins with no continued line.
abbrev pub HasNoLine : Text → Type 0
HasNoLine t = (r : Text) → t ≡ 92 ∷ 10 ∷ r → ⊥

-- A unit that stands for a character is no continued line,
first-of : Text → ℕ
first-of [] = 0
first-of (c ∷ t) = c

second-of : Text → ℕ
second-of [] = 0
second-of (c ∷ t) = first-of t

unit-no_line : (c : ℕ) (u : LiteralUnit) (r : Text) → is_unit u ≡ true → value u ≡ c ∷ []
    → HasNoLine (spelling u ++ r)
unfolding first-of second-of
unit-no_line c (Plain d) r w v s e =
    let slash : d ≡ 92 = ap first-of e in
    let plain : ((d == 34 || d == 92) || d == 13) ≡ false = not-true _ w in
    let other : (d == 92) ≡ false = (or_parts _ _ (or_parts _ _ plain).0).1 in
    let none : (92 == 92) ≡ false = subst (λ k. (k == 92) ≡ false) slash other in
    false≢true (sym none)
unit-no_line c (SimpleEscape l) r w v s e =
    let line : l ≡ 10 = ap second-of e in
    let some : is_some (escaped_character 10) ≡ true =
    subst (λ k. is_some (escaped_character k) ≡ true) line w in
    false≢true some
unit-no_line c (ByteEscape h l) r w v s e =
    let line : ◌≡◌ {A = ℕ} 120 10 = ap second-of e in omega arith
unit-no_line c (UnicodeEscape x) r w v s e =
    let line : ◌≡◌ {A = ℕ} 117 10 = ap second-of e in omega arith
unit-no_line c (Continuation x) r w v s e = absurd (cc v)

-- and one that stands for nothing is one.
some-one : (o : Option ℕ) → is_some o ≡ true → at_most_one o ≡ [] → ⊥
some-one None w v = false≢true w
some-one (Some c) w v = absurd (cc v)

nothing-line : (u : LiteralUnit) (t r : Text) → is_unit u ≡ true → value u ≡ []
    → t ≡ spelling u ++ r → HasNoLine t → ⊥
nothing-line (Plain d) t r w v e none = absurd (cc v)
nothing-line (SimpleEscape l) t r w v e none = some-one (escaped_character l) w v
nothing-line (ByteEscape h l) t r w v e none = absurd (cc v)
nothing-line (UnicodeEscape x) t r w v e none = absurd (cc v)
nothing-line (Continuation x) t r w v e none = none (x ++ r) e

-- So an escape at the start of a text that begins with no continued line stands for a character.
pub escape-some : (t r : Text) → HasNoLine t → escape_at t ≡ Some ([], r) → ⊥
escape-some [] r none e = absurd (cc e)
escape-some (c ∷ t) r none e = by_sign (c == 92) refl
  where
    by_sign : (b : Bool) → (c == 92) ≡ b → ⊥
    by_sign true q =
        let m = meaning-some _ [] r (rw q at e) in
        let f = unit_at-front (c ∷ t) m.unit r m.is_it in
        nothing-line m.unit (c ∷ t) r f.well_formed m.has_value f.split none
    by_sign false q = let no = rw q at e in absurd (cc no)

-- The byte n of a text is between two of its characters.
pub record IsBoundary (source : Text) (n : ℕ) : Type 0 where
  pub before : Text
  pub after : Text
  pub whole : source ≡ before ++ after
  pub width : byte_length before ≡ n

-- And no continued line is there.
pub record IsStart (source : Text) (n : ℕ) : Type 0 where
  pub boundary : IsBoundary source n
  pub no_line : HasNoLine boundary.after

-- The text after a unit.
after-unit : (source x t r z : Text) (u : LiteralUnit) → source ≡ x ++ (t ++ z)
    → t ≡ spelling u ++ r → source ≡ (x ++ spelling u) ++ (r ++ z)
after-unit source x t r z u e f =
    e ∙ (ap (λ s. x ++ (s ++ z)) f
    ∙ (ap (λ s. x ++ s) (append_assoc (spelling u) r z)
    ∙ sym (append_assoc x (spelling u) (r ++ z))))

width-unit : (x : Text) (at : ℕ) (u : LiteralUnit) → byte_length x ≡ at
    → byte_length (x ++ spelling u) ≡ past at u
width-unit x at u h = omega (arith, h, width-append x (spelling u))

-- A character of a content starts there,
first-start : (source x t r z : Text) (at c e a : ℕ) (u : LiteralUnit) (ps : List Place)
    → source ≡ x ++ (t ++ z) → byte_length x ≡ at → t ≡ spelling u ++ r → is_unit u ≡ true
    → value u ≡ c ∷ [] → ((i : ℕ) → i < length ps → IsStart source (start ps e i))
    → a < suc (length ps) → IsStart source (start ((at, past at u) ∷ ps) e a)
first-start source x t r z at c e zero u ps h w f k v others l = record {
  boundary = record { before = x; after = t ++ z; whole = h; width = w };
  no_line = λ s g. unit-no_line c u (r ++ z) k v s
      (sym (append_assoc (spelling u) r z) ∙ (ap (λ y. y ++ z) (sym f) ∙ g));
}
first-start source x t r z at c e (suc i) u ps h w f k v others l = others i (omega arith)

pub content-start : (source x t z : Text) (at a e : ℕ) (us : List LiteralUnit)
    → source ≡ x ++ (t ++ z) → byte_length x ≡ at → IsContent t us
    → a < length (content_places at us) → IsStart source (start (content_places at us) e a)
content-start source x t z at a e [] h w k l = absurd (omega arith)
content-start source x t z at a e (u ∷ us) h w (r, unit, m, f, k) l =
    let others : (i : ℕ) → i < length (content_places (past at u) us)
    → IsStart source (start (content_places (past at u) us) e i) =
    λ i j. content-start source (x ++ spelling u) r z (past at u) i e us
    (after-unit source x t r z u h f) (width-unit x at u w) k j in
    elim (one_or_none u) [
      | inl v ↦ (let j = rw v at l in rw v (others a j))
      | inr (c, v) ↦ (let j = rw v at l in
          rw v (first-start source x t r z at c e a u (content_places (past at u) us) h w f unit v
          others j))
    ]

-- and the last one ends between two characters.
pub content-end : (source x t z : Text) (lo at : ℕ) (us : List LiteralUnit)
    → source ≡ x ++ (t ++ z) → byte_length x ≡ at → IsContent t us → IsBoundary source lo
    → IsBoundary source (last_stop lo (content_places at us))
content-end source x t z lo at [] h w k b = b
content-end source x t z lo at (u ∷ us) h w (r, unit, m, f, k) b =
    let whole = after-unit source x t r z u h f in
    let width = width-unit x at u w in
    let here : IsBoundary source (past at u) =
    record { before = x ++ spelling u; after = r ++ z; whole = whole; width = width } in
    elim (one_or_none u) [
      | inl v ↦ rw v (content-end source (x ++ spelling u) r z lo (past at u) us whole width k b)
      | inr (c, v) ↦ rw v (content-end source (x ++ spelling u) r z (past at u) (past at u) us
          whole width k here)
    ]

-- What is between two boundaries of a text.
pub record Between (x y t s : Text) : Type 0 where
  pub middle : Text
  pub front : y ≡ x ++ middle
  pub back : t ≡ middle ++ s

pub between : (x y t s : Text) → x ++ t ≡ y ++ s → byte_length x ≤ byte_length y → Between x y t s
between [] y t s e h = record { middle = y; front = refl; back = e }
between (c ∷ x) [] t s e h =
    let none : byte_length [] ≡ 0 = refl in
    absurd (omega (arith, h, none, width-cons c x, len_utf8_bounds c))
between (c ∷ x) (d ∷ y) t s e h =
    let heads : c ≡ d = cc in
    let tails : x ++ t ≡ y ++ s = cc in
    let k = between x y t s tails
    (omega (arith, h, width-cons c x, width-cons d y, ap len_utf8 heads)) in
    record {
      middle = k.middle;
      front = ap (λ a. a ∷ y) (sym heads) ∙ ap (λ u. c ∷ u) k.front;
      back = k.back;
    }
