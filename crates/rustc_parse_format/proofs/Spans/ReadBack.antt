-- A forward span of marks reads back, in an ordinary source literal and in a raw one, and its place
-- is inside the snippet and does not run backwards.
use Rattle.std.proofs.Common.{◌≡◌, ℕ, suc, zero, ◌-◌, ◌≤◌, ◌++◌, ◌⊎◌, inl, inr, Bool, true, false}
use Rattle.std.proofs.Common.{List, [], ◌∷◌, length, take, drop, get_or}
use Rattle.std.proofs.Common.{refl, sym, ap, ◌∙◌, subst, arith, Option, Some, length-append}
use Rattle.std.proofs.Common.{take_all}
use Rattle.rustc_parse_format.specs.Characters.{Text, byte_length}
use Rattle.rustc_parse_format.specs.LiteralUnits.{LiteralUnit}
use Rattle.rustc_parse_format.specs.Literal.{content_value, newline, IsSource}
use Rattle.rustc_parse_format.specs.Marks.{Mark, Start, End, Span}
use Rattle.rustc_parse_format.specs.World.{Place, world, quote_offset, content_places, last_stop}
use Rattle.rustc_parse_format.specs.World.{newline_places, place_at, number_of, place_of}
use Rattle.rustc_parse_format.specs.ReadBack.{text_before, text_inside, count_before, left_at}
use Rattle.rustc_parse_format.specs.ReadBack.{IsStart}
use Rattle.rustc_parse_format.specs.ReadBack.{IsForward, IsInside, ReadsBack, source_units}
use Rattle.rustc_parse_format.proofs.Spans.PlaceOrder.{length-content_places, length-newline}
use Rattle.rustc_parse_format.proofs.Spans.Units.{start, stop, content-ordered, start-stop}
use Rattle.rustc_parse_format.proofs.Spans.Units.{stop-end, start-start, before-all}
use Rattle.rustc_parse_format.proofs.Spans.Units.{before-edge, start-apart, before-inside, IsApart}
use Rattle.rustc_parse_format.proofs.Spans.Worlds.{unit_world, known, Known}

-- There are as many places as characters.
world-length : (q : ℕ) (us : List LiteralUnit) (b : Bool) → length (unit_world q us b).places
    ≡ length (content_value us ++ newline b)
world-length q us b =
    let e = last_stop q (content_places q us) in
    omega (
      arith,
      length-append (content_places q us) (newline_places e b),
      length-append (content_value us) (newline b),
      length-content_places q us,
      length-newline e b,
    )

-- An appended newline starts where the text ends.
newline-start : (ps : List Place) (e a : ℕ) (b : Bool)
    → (get_or (ps ++ newline_places e b) a (e, e)).0 ≡ start ps e a
newline-start [] e zero true = refl
newline-start [] e (suc a) true = refl
newline-start [] e a false = refl
newline-start (p ∷ ps) e zero b = refl
newline-start (p ∷ ps) e (suc a) b = newline-start ps e a b

-- Where the character ends after a others: that of the text, or the newline.
abbrev pub IsStop : List Place → ℕ → ℕ → ℕ → Type 0
IsStop ps e a s = (s ≡ stop ps e a) ⊎ ((length ps ≤ a) × (s ≡ suc e))

newline-stop : (ps : List Place) (e a : ℕ) (b : Bool)
    → IsStop ps e a (get_or (ps ++ newline_places e b) a (e, e)).1
newline-stop [] e zero true = inr (omega arith, refl)
newline-stop [] e (suc a) true = inl refl
newline-stop [] e a false = inl refl
newline-stop (p ∷ ps) e zero b = inl refl
newline-stop (p ∷ ps) e (suc a) b =
    elim (newline-stop ps e a b) [
      | inl h ↦ inl h
      | inr (h, k) ↦ inr (omega (arith, h), k)
    ]

-- The byte of a mark with k characters left of n.
abbrev pub ends : ℕ → List LiteralUnit → ℕ
ends q us = last_stop q (content_places q us)

pub start-number : (q : ℕ) (us : List LiteralUnit) (b : Bool) (n k : ℕ)
    → n ≡ length (content_value us ++ newline b) →
    number_of (unit_world q us b) (Start k) ≡ start (content_places q us) (ends q us) (n - k)
unfolding place_at
start-number q us b n k h =
    let m : length (unit_world q us b).places - k ≡ n
    - k = ap (λ j. j - k) (world-length q us b ∙ sym h) in
    ap (λ j. (get_or (unit_world q us b).places j (ends q us, ends q us)).0) m
    ∙ newline-start (content_places q us) (ends q us) (n - k) b

pub stop-number : (q : ℕ) (us : List LiteralUnit) (b : Bool) (n k : ℕ)
    → n ≡ length (content_value us ++ newline b) →
    IsStop (content_places q us) (ends q us) (n - k) (number_of (unit_world q us b) (End k))
unfolding place_at
stop-number q us b n k h =
    let m : length (unit_world q us b).places - k ≡ n
    - k = ap (λ j. j - k) (world-length q us b ∙ sym h) in
    let e = ends q us in
    subst (λ j. IsStop (content_places q us) e (n - k)
    (get_or (unit_world q us b).places j (e, e)).1) (sym m)
    (newline-stop (content_places q us) e (n - k) b)

-- Before a mark stand the characters in front of it.
before-stopped : (q : ℕ) (us : List LiteralUnit) (a s : ℕ)
    → IsStop (content_places q us) (ends q us) a s
    → text_before s q us ≡ take (suc a) (content_value us)
before-stopped q us a s (inl h) = before-edge true q q us (ends q us) a s
    (content-ordered q q us (omega arith)) h
before-stopped q us a s (inr (h, k)) =
    let long : length (content_value us) ≤ suc a = omega (arith, length-content_places q us) in
    before-all q q us (ends q us) s (content-ordered q q us (omega arith)) (omega (arith, k))
    ∙ sym (take_all (suc a) (content_value us) long)

-- A mark of a text of n characters: none more are left from it on.
before-mark : (q : ℕ) (us : List LiteralUnit) (b : Bool) (n : ℕ) (m : Mark)
    → n ≡ length (content_value us ++ newline b) → left_at m ≤ n →
    text_before (number_of (unit_world q us b) m) q us ≡ take (count_before n m) (content_value us)
before-mark q us b n (Start k) h l =
    before-edge false q q us (ends q us) (n - k) (number_of (unit_world q us b) (Start k))
    (content-ordered q q us (omega arith)) (start-number q us b n k h)
before-mark q us b n (End k) h l =
    let one : suc (n - k) ≡ suc n - k = omega arith in
    before-stopped q us (n - k) (number_of (unit_world q us b) (End k)) (stop-number q us b n k h)
    ∙ ap (λ j. take j (content_value us)) one

-- A mark is not in front of one from which as many characters or more are left.
pub mark-order : (q : ℕ) (us : List LiteralUnit) (b : Bool) (n i : ℕ) (m : Mark)
    → n ≡ length (content_value us ++ newline b) → left_at m ≤ i →
    number_of (unit_world q us b) (Start i) ≤ number_of (unit_world q us b) m
mark-order q us b n i (Start k) h l =
    let o = content-ordered q q us (omega arith) in
    omega (
      arith,
      start-number q us b n i h,
      start-number q us b n k h,
      start-start q (content_places q us) (ends q us) (n - i) (n - k) (omega arith) o,
    )
mark-order q us b n i (End k) h l =
    let o = content-ordered q q us (omega arith) in
    let i_is = start-number q us b n i h in
    let before_k = start-start q (content_places q us) (ends q us) (n - i) (n - k)
    (omega arith) o in
    elim (stop-number q us b n k h) [
      | inl s ↦ omega (
        arith,
        i_is,
        before_k,
        s,
        start-stop q (content_places q us) (ends q us) (n - k) o,
      )
      | inr (j, s) ↦ omega (
        arith,
        i_is,
        s,
        start-stop q (content_places q us) (ends q us) (n - i) o,
        stop-end q (content_places q us) (ends q us) (n - i) o,
      )
    ]

-- No mark stands more than a byte after the end of the text.
pub mark-inside : (q : ℕ) (us : List LiteralUnit) (b : Bool) (n : ℕ) (m : Mark)
    → n ≡ length (content_value us ++ newline b) →
    number_of (unit_world q us b) m ≤ suc (ends q us)
mark-inside q us b n (Start k) h =
    let o = content-ordered q q us (omega arith) in
    omega (
      arith,
      start-number q us b n k h,
      start-stop q (content_places q us) (ends q us) (n - k) o,
      stop-end q (content_places q us) (ends q us) (n - k) o,
    )
mark-inside q us b n (End k) h =
    let o = content-ordered q q us (omega arith) in
    elim (stop-number q us b n k h) [
      | inl s ↦ omega (arith, s, stop-end q (content_places q us) (ends q us) (n - k) o)
      | inr (j, s) ↦ omega (arith, s)
    ]

-- the text that follows a front of t in a longer one
after-take : (a b : ℕ) (t z : Text) → a ≤ b → take a t ++ z ≡ take b t → z ≡ drop a (take b t)
after-take zero b t z h e = e
after-take (suc a) zero t z h e = absurd (omega arith)
after-take (suc a) (suc b) [] z h e = e
after-take (suc a) (suc b) (c ∷ t) z h e = let f : take a t ++ z ≡ take b t = cc in
    after-take a b t z (omega arith) f

-- the characters between the start of one and a later mark
inside-marks : (q : ℕ) (us : List LiteralUnit) (b : Bool) (n i : ℕ) (m : Mark)
    → n ≡ length (content_value us ++ newline b) → left_at m ≤ i → i ≤ n →
    text_inside (number_of (unit_world q us b) (Start i), number_of (unit_world q us b) m) q us
    ≡ drop (count_before n (Start i)) (take (count_before n m) (content_value us))
inside-marks q us b n i m h l k =
    let s = number_of (unit_world q us b) (Start i) in
    let r = number_of (unit_world q us b) m in
    let o = content-ordered q q us (omega arith) in
    let apart : IsApart s (content_places q us)
    = subst (λ x. IsApart x (content_places q us)) (sym (start-number q us b n i h))
    (start-apart q (content_places q us) (ends q us) (n - i) o) in
    let all = before-inside s r q us (mark-order q us b n i m h l) apart in
    let front = before-mark q us b n (Start i) h k in
    let whole = before-mark q us b n m h (omega arith) in
    after-take (n - i) (count_before n m) (content_value us) (text_inside (s, r) q us) (fewer m l)
    (ap (λ t. t ++ text_inside (s, r) q us) (sym front) ∙ (all ∙ whole))
  where
    fewer : (m : Mark) → left_at m ≤ i → n - i ≤ count_before n m
    fewer (Start j) l = omega arith
    fewer (End j) l = omega arith

-- A span that is forward reads back.
marks-read_back : (input : Text) (style : Option ℕ) (snippet : Text) (b : Bool) (m r : Mark)
    → Known input style snippet b → IsStart m →
    left_at r ≤ left_at m → left_at m ≤ length input →
    ReadsBack input style snippet b (record { from = m; to = r })
    (place_of (world input style (Some snippet) b) (record { from = m; to = r }))
marks-read_back input style snippet b (End i) r k st l h = absurd st
marks-read_back input style snippet b (Start i) r k st l h =
    let q = quote_offset style in
    let n = length input in
    let size : n ≡ length (content_value k.units ++ newline b) = ap length k.whole in
    let us = source_units input style snippet b in
    record {
      before =
          ap (λ w. text_before (number_of w (Start i)) q us) k.world_is
          ∙ (ap (λ vs. text_before (number_of (unit_world q k.units b) (Start i)) q vs) k.units_are
          ∙ (before-mark q k.units b n (Start i) size h ∙ ap (take (n - i)) (sym k.text_is)));
      inside =
          ap (λ w. text_inside (number_of w (Start i), number_of w r) q us) k.world_is
          ∙ (ap (λ vs. text_inside (
            number_of (unit_world q k.units b) (Start i),
            number_of (unit_world q k.units b) r,
          ) q vs) k.units_are
          ∙ (inside-marks q k.units b n i r size l h
          ∙ ap (λ t. drop (n - i) (take (count_before n r) t)) (sym k.text_is)));
    }

pub forward-reads_back : (input : Text) (style : Option ℕ) (snippet : Text) (b : Bool) (s : Span)
    → IsSource input style snippet b →
    IsForward (length input) s
    → ReadsBack input style snippet b s (place_of (world input style (Some snippet) b) s)
forward-reads_back input style snippet b s h f =
    marks-read_back input style snippet b s.from s.to
    (known input style snippet b h) f.from_start f.in_order f.within

-- And its place lies in order inside the snippet.
marks-inside : (input : Text) (style : Option ℕ) (snippet : Text) (b : Bool) (m r : Mark)
    → Known input style snippet b → IsStart m →
    left_at r ≤ left_at m
    → IsInside snippet (place_of (world input style (Some snippet) b)
    (record { from = m; to = r }))
marks-inside input style snippet b (End i) r k st l = absurd st
marks-inside input style snippet b (Start i) r k st l =
    let q = quote_offset style in
    let size : length input ≡ length (content_value k.units ++ newline b) = ap length k.whole in
    let ends : number_of (unit_world q k.units b) r ≤ byte_length snippet =
    omega (arith, mark-inside q k.units b (length input) r size, k.inside) in
    subst (λ w. IsInside snippet (place_of w (record { from = Start i; to = r }))) (sym k.world_is)
    (record { in_order = mark-order q k.units b (length input) i r size l; within = ends })

pub forward-inside : (input : Text) (style : Option ℕ) (snippet : Text) (b : Bool) (s : Span)
    → IsSource input style snippet b →
    IsForward (length input) s → IsInside snippet (place_of (world input style (Some snippet) b) s)
forward-inside input style snippet b s h f =
    marks-inside input style snippet b s.from s.to
    (known input style snippet b h) f.from_start f.in_order
