-- The walk over the tokens and the edits of a text finds the tokens that no edit touches.
use Rattle.std.proofs.Common.{◌≡◌, ◌∙◌, ◌+◌, ◌-◌, ◌++◌, ◌∷◌, ◌≤◌, ◌<◌, ◌&&◌, ◌||◌, ℕ, Bool}
use Rattle.std.proofs.Common.{List, [], ap, arith, false, filter, if◌then◌else◌, length, map}
use Rattle.std.proofs.Common.{nat_le, refl, sym, true}
use Rattle.std.specs.List.{list_all}
use Rattle.std.specs.declared.ops.Range.{Range}
use Rattle.std.proofs.lemmas.Bool.{cond_both, le-leb, leb-false, leb-true, lt-leb}
use Rattle.fault_fixes.specs.Edits.{Edit}
use Rattle.rust_tokens.specs.Spans.{end_of, placed_tokens}
use Rattle.rust_tokens.specs.Tokens.{Lexeme}
use Rattle.rust_tokens.specs.declared.kinds.Token.{Token}
use Rattle.source_report.specs.Suggestions.{are_after}
use Rattle.file_fixes.specs.declared.outside.EditedPart.{EditedPart}
use Rattle.file_fixes.specs.Outside.{is_apart, moved_token, new_ranges, old_ranges}
use Rattle.file_fixes.specs.Outside.{untouched_tokens, width_before}
use Rattle.file_fixes.specs.Walk.{FollowingParts, place_after, from_start, is_before, new_parts}
use Rattle.file_fixes.specs.Walk.{old_parts}
use Rattle.file_fixes.specs.Walk.{walk}

-- The ranges of parts, where the last part before them ends at `end`.
abbrev pub ranges_of : ℕ → List EditedPart → List (Range ℕ)
ranges_of end [] = []
ranges_of end (p ∷ ps) = record { start = end + p.gap; end = end + p.gap + p.width }
    ∷ ranges_of (end + p.gap + p.width) ps

-- A token is apart from all parts after its end,
apart-before : (t : Token) (end : ℕ) (ps : List EditedPart) → t.span.end ≤ end
    → list_all (is_apart t) (ranges_of end ps) ≡ true
apart-before t end [] h = refl
apart-before t end (p ∷ ps) h =
    let first : nat_le t.span.end (end + p.gap) ≡ true = le-leb _ _ (omega (arith, h)) in
    rw first (apart-before t (end + p.gap + p.width) ps (omega (arith, h)))

-- and of parts whose end is after an offset none ends by it.
none-before : (at end : ℕ) (ps : List EditedPart) → at < end
    → width_before at (ranges_of end ps) ≡ 0
none-before at end [] h = refl
none-before at end (p ∷ ps) h =
    let first : nat_le (end + p.gap + p.width) at ≡ false = lt-leb _ _ (omega (arith, h)) in
    rw first (none-before at (end + p.gap + p.width) ps (omega (arith, h)))

-- The ranges that are ahead on a walk say of each token that starts at the offset `at` or later
-- what all ranges say.
pub record SaysAll (at : ℕ) (a : FollowingParts) (rs : List (Range ℕ)) : Type 0 where
  pub apart : (t : Token) → at ≤ t.span.start
      → list_all (is_apart t) rs ≡ list_all (is_apart t) (ranges_of a.end a.parts)
  pub width : (n : ℕ) → at ≤ n
      → width_before n rs ≡ a.width + width_before n (ranges_of a.end a.parts)

-- So it is after a part that ends by this offset,
passed : (at end width : ℕ) (p : EditedPart) (ps : List EditedPart) (rs : List (Range ℕ))
    → nat_le (end + p.gap + p.width) at ≡ true
    → SaysAll at (record { end = end; width = width; parts = p ∷ ps }) rs
    → SaysAll at (record { end = end + p.gap + p.width; width = width + p.width; parts = ps }) rs
passed at end width p ps rs e h =
    let ended : (n : ℕ) → at ≤ n → nat_le (end + p.gap + p.width) n ≡ true =
    λ n k. le-leb _ _ (omega (arith, leb-true _ _ e, k)) in
    record {
      apart = λ t k. h.apart t k ∙ either (nat_le t.span.end (end + p.gap)) _ _ (ended _ k);
      width = λ n k. h.width n k
          ∙ sum width (end + p.gap) p.width _ _ (ended n k);
    }
  where
    either : (b c d : Bool) → c ≡ true → ((b || c) && d) ≡ d
    either true c d e = refl
    either false c d e = rw e refl

    sum : (w g v n : ℕ) (b : Bool) → b ≡ true
        → w + (if b then ((g + v) - g) + n else n) ≡ w + v + n
    sum w g v n true e = omega arith
    sum w g v n false e = absurd cc

-- and after all that do.
further : (at end width : ℕ) (ps : List EditedPart) (rs : List (Range ℕ))
    → SaysAll at (record { end = end; width = width; parts = ps }) rs
    → SaysAll at (place_after at end width ps) rs
further at end width [] rs h = h
further at end width (p ∷ ps) rs h =
    cond_both {A = FollowingParts} (nat_le (end + p.gap + p.width) at) _ _ (λ a. SaysAll at a rs)
    (λ yes. further at (end + p.gap + p.width) (width + p.width) ps rs
    (passed at end width p ps rs yes h)) (λ no. h)

-- The first part that is ahead at the start of a token decides whether the token is apart from all
-- that are ahead, and none of these ends by there.
first-decides : (t : Token) (end width : ℕ) (ps : List EditedPart)
    → let b = place_after t.span.start end width ps in
    is_before t.span.end b.end b.parts ≡ list_all (is_apart t) (ranges_of b.end b.parts)
first-decides t end width [] = refl
first-decides t end width (p ∷ ps) =
    cond_both {A = FollowingParts} (nat_le (end + p.gap + p.width) t.span.start) _ _
    (λ b. is_before t.span.end b.end b.parts ≡ list_all (is_apart t) (ranges_of b.end b.parts))
    (λ yes. first-decides t (end + p.gap + p.width) (width + p.width) ps)
    (λ no. first (nat_le t.span.end (end + p.gap)) _ _ no
    (λ h. apart-before t (end + p.gap + p.width) ps (omega (arith, leb-true _ _ h))))
  where
    first : (b c d : Bool) → c ≡ false → (b ≡ true → d ≡ true) → b ≡ ((b || c) && d)
    first true c d e h = sym (h refl)
    first false c d e h = rw e refl

no-width : (at end width : ℕ) (ps : List EditedPart)
    → let b = place_after at end width ps in width_before at (ranges_of b.end b.parts) ≡ 0
no-width at end width [] = refl
no-width at end width (p ∷ ps) =
    cond_both {A = FollowingParts} (nat_le (end + p.gap + p.width) at) _ _
    (λ b. width_before at (ranges_of b.end b.parts) ≡ 0)
    (λ yes. no-width at (end + p.gap + p.width) (width + p.width) ps)
    (λ no. rw no (none-before at (end + p.gap + p.width) ps (leb-false _ _ no)))

-- No token starts before the one in front of it, and the first not before the offset `at`.
abbrev pub StartFrom : ℕ → List Token → Type 0
StartFrom at [] = Unit {0}
StartFrom at (t ∷ ts) = (at ≤ t.span.start) × StartFrom t.span.start ts

one-more : {A B : Type 0} (f : A → B) (p : A → Bool) (x : A) (xs : List A) (y : B) (ys : List B)
    (b : Bool) → b ≡ p x → y ≡ f x → ys ≡ map f (filter p xs)
    → (if b then y ∷ [] else []) ++ ys ≡ map f (filter p (x ∷ xs))
one-more f p x xs y ys true e g h = rw (sym e, g, h) refl
one-more f p x xs y ys false e g h = rw (sym e, h) refl

-- The walk finds the tokens that are apart from each range,
walk-finds : (at : ℕ) (a : FollowingParts) (rs : List (Range ℕ)) (ts : List Token) → StartFrom at ts
    → SaysAll at a rs → walk a ts ≡ untouched_tokens rs ts
walk-finds at a rs [] s h = refl
walk-finds at a rs (t ∷ ts) s h =
    let later : SaysAll t.span.start a rs = record {
      apart = λ u k. h.apart u (omega (arith, s.0, k));
      width = λ n k. h.width n (omega (arith, s.0, k));
    } in
    let k = further t.span.start a.end a.width a.parts rs later in
    let b = place_after t.span.start a.end a.width a.parts in
    let width : b.width ≡ width_before t.span.start rs =
    let none = no-width t.span.start a.end a.width a.parts in
    let all = k.width t.span.start (omega arith) in omega (arith, none, all) in
    one-more (λ u. moved_token (width_before u.span.start rs) u) (λ u. list_all (is_apart u) rs) t
    ts
    (moved_token b.width t) (walk b ts) _
    (first-decides t a.end a.width a.parts ∙ sym (k.apart t (omega arith)))
    (ap (λ n. moved_token n t) width) (walk-finds t.span.start b rs ts s.1 k)

-- of all tokens of a text.
start-placed : (at : ℕ) (xs : List Lexeme) → StartFrom at (placed_tokens at xs)
start-placed at [] = tt
start-placed at (x ∷ xs) = (
  omega arith,
  from at (end_of at x) (placed_tokens (end_of at x) xs)
      (omega arith) (start-placed (end_of at x) xs),
)
  where
    from : (m n : ℕ) (ts : List Token) → m ≤ n → StartFrom n ts → StartFrom m ts
    from m n [] h s = tt
    from m n (t ∷ ts) h s = (omega (arith, h, s.0), s.1)

-- The parts that edits remove are their ranges,
ranges-old : (at : ℕ) (es : List Edit) → are_after at es ≡ true
    → ranges_of at (old_parts at es) ≡ old_ranges es
ranges-old at [] h = refl
ranges-old at (e ∷ es) h =
    let in-order = three (nat_le at e.span.0) _ _ h in
    let start : at + (e.span.0 - at) ≡ e.span.0 = omega (arith, leb-true _ _ in-order.0) in
    let end : at + (e.span.0 - at) + (e.span.1 - e.span.0) ≡ e.span.1 =
    omega (arith, start, leb-true _ _ in-order.1) in
    first _ _ _ _ _ _ start end
    (ap (λ n. ranges_of n (old_parts e.span.1 es)) end ∙ ranges-old e.span.1 es in-order.2)
  where
    three : (b c d : Bool) → (b && c && d) ≡ true → (b ≡ true) × (c ≡ true) × (d ≡ true)
    three true true true h = (refl, refl, refl)
    three true true false h = absurd cc
    three true false d h = absurd cc
    three false c d h = absurd cc

    first : (s e u v : ℕ) (rs qs : List (Range ℕ)) → s ≡ u → e ≡ v → rs ≡ qs
        → ◌≡◌ {A = List (Range ℕ)} (record { start = s; end = e } ∷ rs)
        (record { start = u; end = v } ∷ qs)
    first s e u v rs qs h k l = rw (h, k, l) refl

-- and those that they add are those in the edited text.
ranges-new : (at to : ℕ) (es : List Edit) → ranges_of to (new_parts at es) ≡ new_ranges at to es
ranges-new at to [] = refl
ranges-new at to (e ∷ es) = ap (λ rs. record {
  start = to + (e.span.0 - at);
  end = to + (e.span.0 - at) + length e.text;
} ∷ rs)
    (ranges-new e.span.1 (to + (e.span.0 - at) + length e.text) es)

-- So the walk decides whether the tokens stay that no edit touches.
pub walk-outside : (ps : List EditedPart) (xs : List Lexeme)
    → walk (from_start ps) (placed_tokens 0 xs)
    ≡ untouched_tokens (ranges_of 0 ps) (placed_tokens 0 xs)
walk-outside ps xs = walk-finds 0 (from_start ps) (ranges_of 0 ps) (placed_tokens 0 xs)
    (start-placed 0 xs) (record { apart = λ t k. refl; width = λ n k. omega arith })

pub walk-old : (es : List Edit) (xs : List Lexeme) → are_after 0 es ≡ true
    → walk (from_start (old_parts 0 es)) (placed_tokens 0 xs)
    ≡ untouched_tokens (old_ranges es) (placed_tokens 0 xs)
walk-old es xs h = walk-outside (old_parts 0 es) xs
    ∙ ap (λ rs. untouched_tokens rs (placed_tokens 0 xs)) (ranges-old 0 es h)

pub walk-new : (es : List Edit) (xs : List Lexeme)
    → walk (from_start (new_parts 0 es)) (placed_tokens 0 xs)
    ≡ untouched_tokens (new_ranges 0 0 es) (placed_tokens 0 xs)
walk-new es xs = walk-outside (new_parts 0 es) xs
    ∙ ap (λ rs. untouched_tokens rs (placed_tokens 0 xs)) (ranges-new 0 0 es)
