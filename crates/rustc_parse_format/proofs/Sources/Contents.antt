-- The start of a content that a quote closes: a unit, or continuations and then a character or the
-- quote.
use Rattle.std.proofs.Common.{◌≡◌, ◌≢◌, ◌≤◌, ◌<◌, ◌-◌, ◌++◌, ◌==◌, ℕ, Bool, true, false, List, []}
use Rattle.std.proofs.Common.{◌∷◌, length, refl, ap, sym, subst, ◌∙◌, arith}
use Rattle.std.proofs.Common.{get_or, chars, IsUtf8}
use Rattle.std.proofs.Common.{append_assoc, Some}
use Rattle.std.specs.Prelude.{IsTrue, is_some}
use Rattle.std.proofs.lemmas.Bool.{cond_both, and_parts, both_ways, false≢true, true≢false}
use Rattle.std.proofs.lemmas.Bool.{eqb-true, or_parts, not-true}
use Rattle.rustc_parse_format.specs.Characters.{Text, rest_after, after_first, begins_with}
use Rattle.rustc_parse_format.specs.Characters.{byte_length}
use Rattle.rustc_parse_format.specs.LiteralUnits.{LiteralUnit, Plain, SimpleEscape, ByteEscape}
use Rattle.rustc_parse_format.specs.LiteralUnits.{UnicodeEscape, Continuation}
use Rattle.rustc_parse_format.specs.LiteralUnits.{spelling, meaning, escaped_character, is_plain}
use Rattle.rustc_parse_format.specs.LiteralUnits.{is_skipped}
use Rattle.rustc_parse_format.specs.LiteralUnits.{is_unit, may_precede, unit_at}
use Rattle.rustc_parse_format.specs.Literal.{IsContent}
use Rattle.rustc_parse_format.specs.SourceViews.{after_continuations, begins_continuation}
use Rattle.rustc_parse_format.specs.SourceViews.{character_width, unit_width, closed_by_quote, gap}
use Rattle.rustc_parse_format.specs.SourceViews.{gap_to, spelled_units}
use Rattle.rustc_parse_format.proofs.Literals.Widths.{width-cons, width-append}
use Rattle.rustc_parse_format.proofs.Literals.Plain.{ascii-first}
use Rattle.rustc_parse_format.proofs.Literals.UnitLaws.{unit_at-complete}
use Rattle.rustc_parse_format.proofs.Grammar.Fronts.{rest_after-append}

-- The quote is no white space, so a unit may stand in front of it.
quote-may : (u : LiteralUnit) (r : Text) → IsTrue (may_precede u r)
    → IsTrue (may_precede u (closed_by_quote r))
quote-may (Plain c) r m = refl
quote-may (SimpleEscape l) r m = refl
quote-may (ByteEscape h l) r m = refl
quote-may (UnicodeEscape w) r m = refl
quote-may (Continuation w) [] m = refl
quote-may (Continuation w) (c ∷ r) m = m

pub closed-split : (t q : Text) (u : LiteralUnit) (r : Text) → t ≡ closed_by_quote q
    → q ≡ spelling u ++ r → t ≡ spelling u ++ closed_by_quote r
closed-split t q u r e f = e ∙ (ap closed_by_quote f ∙ append_assoc (spelling u) r (34 ∷ []))

pub closed-unit_at : (t q : Text) (u : LiteralUnit) (r : Text) → t ≡ closed_by_quote q
    → IsTrue (is_unit u) → IsTrue (may_precede u r) →
    q ≡ spelling u ++ r → unit_at t ≡ Some (u, closed_by_quote r)
closed-unit_at t q u r e w m f = ap unit_at (closed-split t q u r e f)
    ∙ unit_at-complete u (closed_by_quote r) w (quote-may u r m)

-- the bytes of the unit at the front, where it stands for a character
pub width-read : (t r : Text) (c : ℕ) → meaning (unit_at t) ≡ Some (c ∷ [], r)
    → character_width t ≡ byte_length t - byte_length r
unfolding character_width
width-read t r c e = ap (unit_width t) e

-- The rest after a front takes no more room than the whole.
pub rest_after-narrower : (p : ℕ → Bool) (t : Text) → byte_length (rest_after p t) ≤ byte_length t
rest_after-narrower p [] = omega arith
rest_after-narrower p (c ∷ t) = cond_both (p c) (rest_after p t) (c ∷ t)
    (λ s. byte_length s ≤ byte_length (c ∷ t))
    (λ yes. omega (arith, width-cons c t, rest_after-narrower p t)) (λ no. omega arith)

pub rest_after-shorter : (p : ℕ → Bool) (t : Text) → length (rest_after p t) ≤ length t
rest_after-shorter p [] = omega arith
rest_after-shorter p (c ∷ t) = cond_both (p c) (rest_after p t) (c ∷ t) (λ s. length s ≤ length (c
    ∷ t))
    (λ yes. omega (arith, rest_after-shorter p t)) (λ no. omega arith)

-- the rest of a text after a backslash, an LF and white space
abbrev pub after_continuation : Text → Text
after_continuation t = rest_after is_skipped (after_first (after_first t))

pub continuation-narrower : (t : Text) → byte_length (after_continuation t) ≤ byte_length t
continuation-narrower [] = omega arith
continuation-narrower (c ∷ []) = omega (arith, width-cons c [])
continuation-narrower (c ∷ d ∷ t) =
    omega (arith, width-cons c (d ∷ t), width-cons d t, rest_after-narrower is_skipped t)

pub continuation-shorter : (t : Text) → begins_continuation t ≡ true
    → length (after_continuation t) < length t
continuation-shorter [] h = absurd (false≢true h)
continuation-shorter (c ∷ []) h = omega arith
continuation-shorter (c ∷ d ∷ t) h = omega (arith, rest_after-shorter is_skipped t)

-- A rest of a content with these units, where some of its continuations are taken.
pub record IsRestOf (t : Text) (us : List LiteralUnit) : Type 0 where
  pub content : Text
  pub units : List LiteralUnit
  pub left : t ≡ closed_by_quote content
  pub is_content : IsContent content units
  pub same : after_continuations units ≡ after_continuations us

letter-no_continuation : (l : ℕ) (r : Text) → IsTrue (is_some (escaped_character l))
    → begins_continuation (92 ∷ l ∷ r) ≡ true → ⊥
letter-no_continuation l r w h =
    let e : l ≡ 10 = eqb-true l 10 h in
    let some : is_some (escaped_character 10) ≡ true =
    subst (λ k. is_some (escaped_character k) ≡ true) e w in
    false≢true some

pub plain-no_continuation : (c : ℕ) (r : Text) → IsTrue (is_plain c)
    → begins_continuation (c ∷ r) ≡ true → ⊥
plain-no_continuation c r w h =
    let parts : ((c == 92) ≡ true) × (begins_with 10 r ≡ true) =
    and_parts (c == 92) (begins_with 10 r) h in
    let plain : is_plain 92 ≡ true = subst (λ k. is_plain k ≡ true) (eqb-true c 92 parts.0) w in
    false≢true plain

-- One continuation more is taken.
continuation-taken : (t q : Text) (vs : List LiteralUnit) → IsContent q vs → t ≡ closed_by_quote q
    → begins_continuation t ≡ true →
    IsRestOf (after_continuation t) vs
continuation-taken t q [] h e b =
    let k : begins_continuation (34 ∷ [])
    ≡ true = subst (λ s. begins_continuation s ≡ true) (e ∙ ap closed_by_quote h) b in
    absurd (false≢true k)
continuation-taken t q (Plain c ∷ vs) (r, w, m, f, h) e b =
    absurd (plain-no_continuation c (closed_by_quote r) w
    (subst (λ s. begins_continuation s ≡ true) (closed-split t q (Plain c) r e f) b))
continuation-taken t q (SimpleEscape l ∷ vs) (r, w, m, f, h) e b =
    absurd (letter-no_continuation l (closed_by_quote r) w
    (subst (λ s. begins_continuation s ≡ true) (closed-split t q (SimpleEscape l) r e f) b))
continuation-taken t q (ByteEscape a l ∷ vs) (r, w, m, f, h) e b =
    let k : begins_continuation (spelling (ByteEscape a l) ++ closed_by_quote r) ≡ true =
    subst (λ s. begins_continuation s ≡ true) (closed-split t q (ByteEscape a l) r e f) b in
    absurd (false≢true k)
continuation-taken t q (UnicodeEscape v ∷ vs) (r, w, m, f, h) e b =
    let k : begins_continuation (spelling (UnicodeEscape v) ++ closed_by_quote r) ≡ true =
    subst (λ s. begins_continuation s ≡ true) (closed-split t q (UnicodeEscape v) r e f) b in
    absurd (false≢true k)
continuation-taken t q (Continuation v ∷ vs) (r, w, m, f, h) e b =
    record {
      content = r;
      units = vs;
      left = ap after_continuation (closed-split t q (Continuation v) r e f)
          ∙ rest_after-append is_skipped v (closed_by_quote r) w
          (not-true _ (quote-may (Continuation v) r m));
      is_content = h;
      same = refl;
    }

pub left-taken : (t : Text) (us : List LiteralUnit) → IsRestOf t us → begins_continuation t ≡ true
    → IsRestOf (after_continuation t) us
left-taken t us l b =
    let k = continuation-taken t l.content l.units l.is_content l.left b in
    record {
      content = k.content;
      units = k.units;
      left = k.left;
      is_content = k.is_content;
      same = k.same ∙ l.same;
    }

-- None is left to take.
continuation-none : (t q : Text) (vs : List LiteralUnit) → IsContent q vs → t ≡ closed_by_quote q
    → begins_continuation t ≡ false →
    after_continuations vs ≡ vs
continuation-none t q [] h e b = refl
continuation-none t q (Plain c ∷ vs) h e b = refl
continuation-none t q (SimpleEscape l ∷ vs) h e b = refl
continuation-none t q (ByteEscape a l ∷ vs) h e b = refl
continuation-none t q (UnicodeEscape v ∷ vs) h e b = refl
continuation-none t q (Continuation v ∷ vs) (r, w, m, f, h) e b =
    let k : begins_continuation (spelling (Continuation v) ++ closed_by_quote r) ≡ false =
    subst (λ s. begins_continuation s ≡ false) (closed-split t q (Continuation v) r e f) b in
    absurd (true≢false k)

-- A content is its units as they are written.
pub spelled : (q : Text) (us : List LiteralUnit) → IsContent q us → q ≡ spelled_units us
spelled q [] h = h
spelled q (u ∷ us) (r, w, m, f, h) = f ∙ ap (λ s. spelling u ++ s) (spelled r us h)

pub left-none : (t : Text) (us : List LiteralUnit) → IsRestOf t us → begins_continuation t ≡ false →
    t ≡ closed_by_quote (spelled_units (after_continuations us))
left-none t us l b =
    let same : l.units ≡ after_continuations us =
    sym (continuation-none t l.content l.units l.is_content l.left b) ∙ l.same in
    l.left ∙ ap closed_by_quote (spelled l.content l.units l.is_content ∙ ap spelled_units same)

-- The units after the continuations at the front are a content too.
pub after-content : (q : Text) (us : List LiteralUnit) → IsContent q us
    → IsContent (spelled_units (after_continuations us)) (after_continuations us)
after-content q [] h = refl
after-content q (Plain c ∷ us) h =
    subst (λ s. IsContent s (Plain c ∷ us)) (spelled q (Plain c ∷ us) h) h
after-content q (SimpleEscape l ∷ us) h =
    subst (λ s. IsContent s (SimpleEscape l ∷ us)) (spelled q (SimpleEscape l ∷ us) h) h
after-content q (ByteEscape a l ∷ us) h =
    subst (λ s. IsContent s (ByteEscape a l ∷ us)) (spelled q (ByteEscape a l ∷ us) h) h
after-content q (UnicodeEscape v ∷ us) h =
    subst (λ s. IsContent s (UnicodeEscape v ∷ us)) (spelled q (UnicodeEscape v ∷ us) h) h
after-content q (Continuation v ∷ us) (r, w, m, f, h) = after-content r us h

-- A unit does not begin with a quote.
unit-no_quote : (u : LiteralUnit) (r : Text) → IsTrue (is_unit u)
    → begins_with 34 (spelling u ++ r) ≡ false
unit-no_quote (Plain c) r w = (or_parts _ _ (or_parts _ _ (not-true _ w)).0).0
unit-no_quote (SimpleEscape l) r w = refl
unit-no_quote (ByteEscape a l) r w = refl
unit-no_quote (UnicodeEscape v) r w = refl
unit-no_quote (Continuation v) r w = refl

content-no_quote : (q : Text) (vs : List LiteralUnit) → IsContent q vs
    → begins_with 34 (closed_by_quote q) ≡ true → vs ≡ []
content-no_quote q [] h e = refl
content-no_quote q (v ∷ vs) (r, w, m, f, h) e =
    absurd (both_ways _ (ap (begins_with 34) (closed-split (closed_by_quote q) q v r refl f)
    ∙ unit-no_quote v (closed_by_quote r) w) e)

content-quote : (q : Text) (vs : List LiteralUnit) → IsContent q vs
    → begins_with 34 (closed_by_quote q) ≡ false → vs ≢ []
content-quote q vs h n e =
    let quote : begins_with 34 (closed_by_quote q)
    ≡ true = ap (λ s. begins_with 34 (closed_by_quote s)) (subst (IsContent q) e h) in
    both_ways _ n quote

-- The bytes of the continuations that are taken.
gap_to-some : (us vs : List LiteralUnit) → vs ≢ [] → gap_to us vs
    ≡ byte_length (spelled_units us) - byte_length (spelled_units vs)
gap_to-some us [] n = absurd (n refl)
gap_to-some us (v ∷ vs) n = refl

pub gap-none : (t q : Text) (us : List LiteralUnit) → IsContent q us → t ≡ closed_by_quote q
    → begins_continuation t ≡ false → gap us ≡ 0
gap-none t q us h e b = ap (gap_to us) (continuation-none t q us h e b) ∙ same us
  where
    same : (us : List LiteralUnit) → gap_to us us ≡ 0
    same [] = refl
    same (u ∷ us) = omega arith

pub gap-over : (q r : Text) (us : List LiteralUnit) → IsContent q us
    → r ≡ closed_by_quote (spelled_units (after_continuations us)) →
    begins_with 34 r ≡ true → gap us ≡ 0
gap-over q r us h e f =
    ap (gap_to us) (content-no_quote (spelled_units (after_continuations us))
    (after_continuations us) (after-content q us h)
    (ap (begins_with 34) (sym e) ∙ f))

pub gap-taken : (t q r : Text) (us : List LiteralUnit) → IsContent q us → t ≡ closed_by_quote q →
    r ≡ closed_by_quote (spelled_units (after_continuations us)) → begins_with 34 r ≡ false
    → byte_length t - byte_length r ≡ gap us
gap-taken t q r us h e f n =
    let vs = after_continuations us in
    let some = content-quote (spelled_units vs) vs (after-content q us h)
    (ap (begins_with 34) (sym f) ∙ n) in
    let whole : t ≡ closed_by_quote (spelled_units us) = e ∙ ap closed_by_quote (spelled q us h) in
    omega (
      arith,
      gap_to-some us vs some,
      ap byte_length whole,
      ap byte_length f,
      width-append (spelled_units us) (34 ∷ []),
      width-append (spelled_units vs) (34 ∷ []),
    )

-- two bytes for the escape of a newline
pub newline-width : (t r : Text) → t ≡ 92 ∷ 110 ∷ r → 2 ≡ character_width t
newline-width t r e = omega (
  arith,
  ap character_width e,
  width-read (92 ∷ 110 ∷ r) r 10 (ap meaning (unit_at-complete (SimpleEscape 110) r refl refl)),
  width-cons 92 (110 ∷ r),
  width-cons 110 r,
)

-- which is known by its bytes
pub newline-escape : (s : List ℕ) → IsUtf8 s → 2 ≤ length s → get_or s 0 0 ≡ 92
    → get_or s 1 0 ≡ 110 →
    chars s ≡ 92 ∷ 110 ∷ after_first (after_first (chars s))
newline-escape [] u long e f = absurd (omega arith)
newline-escape (x ∷ []) u long e f = absurd (omega arith)
newline-escape (x ∷ y ∷ r) u long e f =
    let first = ascii-first x (y ∷ r) u (omega (arith, e)) in
    let whole : chars (x ∷ y ∷ r) ≡ 92 ∷ 110 ∷ chars r =
    rw (first.0, (ascii-first y r first.1 (omega (arith, f))).0, e, f) refl in
    whole ∙ ap (λ (t : Text). 92 ∷ 110 ∷ t) (sym (ap (λ t. after_first (after_first t)) whole))
