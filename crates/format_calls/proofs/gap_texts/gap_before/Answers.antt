use Rattle.std.proofs.Common.{◌≡◌, ◌++◌, ◌+◌, ◌-◌, ◌≤◌, ◌∙◌, ◌∷◌, ℕ, [], IsUtf8, List, None, Some}
use Rattle.std.proofs.Common.{ap, arith, drop, length, length-append, map, rules, subst, sym, take}
use Rattle.std.specs.Prelude.{chars, is_some, slice_get}
use Rattle.std.proofs.lemmas.Bool.{and_parts}
use Rattle.std.proofs.lemmas.List.{take-append-drop, take-append-le, take_all}
use Rattle.std.proofs.lemmas.Option.{same_Some}
use Rattle.std.proofs.lemmas.Str.{IsCharBoundary-from_take, IsCharBoundary-start}
use Rattle.rust_tokens.specs.Fronts.{EndsWithBarrier}
use Rattle.rust_trees.specs.Leaves.{AreLeft, Leaf, leaf}
use Rattle.rust_trees.specs.declared.leaves.Token.{Token}
use Rattle.rust_trees.proofs.Lists.{no-cons, same-first}
use Rattle.rust_trees.proofs.Once.{one-break}
use Rattle.format_calls.proofs.ClearGaps.{listed-word}
use Rattle.format_calls.proofs.KnownFronts.{known-text}
use Rattle.format_calls.proofs.gap_texts.gap_before.Goals as goal
use Rattle.format_calls.proofs.gap_texts.gap_before.Goals.{else-is_none-via-else-is_none}
use Rattle.format_calls.proofs.gap_texts.gap_before.Goals.{
  else-is_none-via-then-is_none+else-ends_with_barrier,
}

first-leaf : (ts : List Token) (t : Token) (n : Leaf) (xs : List Leaf)
    → ◌≡◌ (Some t) (slice_get ts 0) → map leaf ts ≡ n ∷ xs → ◌≡◌ {A = Leaf} (leaf t) n
first-leaf [] t n xs e f = no-cons n xs f
first-leaf (y ∷ ys) t n xs e f =
    ap (λ z. leaf z) (same_Some t y e) ∙ same-first (leaf y) n (map leaf ys) xs f

pub returns-then-ends_with_barrier-clause-gap : goal.returns-then-ends_with_barrier-clause-gap
returns-then-ends_with_barrier-clause-gap c es whole gap left o l k b e =
    let g = c.in-Some-get.gap.now in
    let rest = c.args.rest.now in
    let n = c.saturating_sub.result in
    let u : IsUtf8 g = search rules in
    let name : ◌≡◌ {A = Leaf} (leaf c.in-Some.name.now) b.name =
    first-leaf c.tokens.result.now c.in-Some.name.now b.name _ c.in-Some.ensures.value
    (c.tokens.ensures ∙ b.joins) in
    let zero : n - 0 ≡ n = omega arith in
    let front : g ≡ take n rest = c.in-Some-get.ensures.cases.0 ∙ ap (λ i. take i rest) zero in
    let whole-is : rest ≡ g ++ drop n rest =
    sym (take-append-drop n rest) ∙ ap (λ t. t ++ drop n rest) (sym front) in
    let size = c.in-Some-get.ensures.cases.1 in
    let start = ap (λ x. x.start) name in
    let sub = c.saturating_sub.ensures in
    let bytes : length g ≡ b.name.start - c.args.offset = omega (arith, size, start, sub) in
    let p = and_parts _ _ b.opens in
    let q = and_parts _ _ p.1 in
    known-text es whole rest g (drop n rest) gap b.name _ c.args.offset o u whole-is
    (subst (λ t. AreLeft (record { whole = whole; rest = rest }) (gap ++ (t ++ left))) b.joins l)
    bytes (listed-word es b.name q.1)
    (c.ends_with_barrier.ensures.0 c.if-ends_with_barrier.true) e k

-- The number of bytes in front of the part.
front-size : (ts : List Token) (t : Token) (n : Leaf) (ls part : List Leaf) (offset k m : ℕ)
    → ◌≡◌ (Some t) (slice_get ts 0) → map leaf ts ≡ part → part ≡ n ∷ ls → k ≡ t.start - offset
    → n.start ≡ offset + m → k ≡ m
front-size ts t n ls part offset k m v e p d s =
    let start = ap (λ x. x.start) (first-leaf ts t n ls v (e ∙ p)) in omega (arith, start, d, s)

-- The bytes in front of the part.
same-front : (rest g r : List ℕ) (k : ℕ) → rest ≡ g ++ r → k ≡ length g → take k rest ≡ g
same-front rest g r k e s = ap (λ i. take i rest) s ∙ (ap (λ t. take (length g) t) e
    ∙ (take-append-le (length g) g r (omega arith) ∙ take_all (length g) g (omega arith)))

pub returns-in_default-get-clause-known : goal.returns-in_default-get-clause-known
returns-in_default-get-clause-known c n ls g r p q u s =
    let rest = c.args.rest.now in
    let k = c.saturating_sub.result in
    let size = front-size c.tokens.result.now c.in-Some.name.now n ls c.args.part.now
    c.args.offset k (length g) c.in-Some.ensures.value c.tokens.ensures p
    c.saturating_sub.ensures s in
    let fits : k ≤ length rest =
    omega (arith, size, ap (λ x. length x) q, length-append g r) in
    let boundary = IsCharBoundary-from_take rest k c.utf8.rest fits
    (subst (λ x. IsUtf8 x) (sym (same-front rest g r k q size)) u) in (
      λ b. absurd (search (b, rules)),
      λ _. absurd (c.in_default-get.ensures.cases (omega arith)
          (IsCharBoundary-start rest c.utf8.rest) boundary),
    )

pub returns-else-is_none-clause-known : goal.returns-else-is_none-clause-known
returns-else-is_none-clause-known c n ls g r p q u s =
    let rest = c.args.rest.now in
    let k = c.saturating_sub.result in
    let size = front-size c.tokens.result.now c.in-Some.name.now n ls c.args.part.now
    c.args.offset k (length g) c.in-Some.ensures.value c.tokens.ensures p
    c.saturating_sub.ensures s in
    let zero : k - 0 ≡ k = omega arith in
    let same : c.in-Some-get.gap.now ≡ g = c.in-Some-get.ensures.cases.0
    ∙ (ap (λ i. take i rest) zero ∙ same-front rest g r k q size) in (
      λ b. absurd (search (b, rules)),
      λ h. absurd (elim c.else-is_none.branch [
        | else-is_none-via-then-is_none+else-ends_with_barrier w ↦
            let yes = w.ends_with_barrier.ensures.1
            (subst (λ t. EndsWithBarrier (chars t)) (sym same) h.1) in
            let no = w.if-ends_with_barrier.false in search (yes, no, rules)
        | else-is_none-via-else-is_none w ↦
            let one = ap (λ o. is_some o) (one-break c.args.part.now None c.first_break.result h.0
            c.first_break.ensures) in
            let no = w.if-is_none.false in
            let is = c.is_none.ensures in search (one, no, is, rules)
      ]),
    )
