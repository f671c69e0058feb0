-- Tokens that are cut cover what they covered.
use Rattle.std.proofs.Common.{◌≡◌, ℕ, suc, zero, ◌++◌, ◌+◌, ◌-◌, ◌≤◌, ◌<◌, ◌==◌, Bool, true, false}
use Rattle.std.proofs.Common.{List, [], ◌∷◌, length, refl, sym, ap, subst, arith, nat_lt}
use Rattle.std.proofs.Common.{Option, Some, None, length-append}
use Rattle.std.specs.Char.{len_utf8}
use Rattle.std.proofs.lemmas.Bool.{cond-true, ltb-true, ltb-false}
use Rattle.std.proofs.lemmas.List.{map-append}
use Rattle.rustc_parse_format.specs.Characters.{Text, byte_length}
use Rattle.rustc_parse_format.specs.Literal.{IsSource}
use Rattle.rustc_parse_format.specs.LiteralUnits.{meaning, spelling, unit_at}
use Rattle.rustc_parse_format.specs.Types.{Mode}
use Rattle.rustc_parse_format.specs.World.{Place}
use Rattle.rustc_parse_format.proofs.Literals.Meanings.{meaning-shorter, meaning-some}
use Rattle.rustc_parse_format.proofs.Literals.UnitLaws.{unit_at-front}
use Rattle.rustc_parse_format.proofs.Literals.Widths.{width-append, width-cons}
use Rattle.rustc_parse_format.proofs.Sources.Decided.{found-source}
use Rattle.format_tokens.specs.declared.kinds.Kind.{Kind}
use Rattle.format_tokens.specs.Covers.{IsCover, ranges_of}
use Rattle.format_tokens.specs.Escapes.{Placed, cut, escape_at, front_within, is_apart, parts}
use Rattle.format_tokens.specs.Escapes.{parts_within, rest_within, run}
use Rattle.format_tokens.specs.Spans.{cut_in, tokens, whole_tokens}
use Rattle.format_tokens.proofs.Covering.{whole-cover}
use Rattle.format_tokens.proofs.InText.{some-width}

cover-append : (a m b : ℕ) (ps qs : List Place) → IsCover a m ps → IsCover m b qs
    → IsCover a b (ps ++ qs)
cover-append a m b [] qs h k = subst (λ n. IsCover n b qs) (sym h) k
cover-append a m b (p ∷ ps) qs (e, some, h) k = (e, some, cover-append p.1 m b ps qs h k)

cover-both : (a m b : ℕ) (xs ys : List Placed) → IsCover a m (ranges_of xs)
    → IsCover m b (ranges_of ys) → IsCover a b (ranges_of (xs ++ ys))
cover-both a m b xs ys h k = subst (λ ps. IsCover a b ps)
    (sym (map-append (λ (t : Placed). t.1) xs ys))
    (cover-append a m b (ranges_of xs) (ranges_of ys) h k)

run-cover : (k : Kind) (from to : ℕ) → from ≤ to → IsCover from to (ranges_of (run k from to))
run-cover k from to h = by_some (nat_lt from to) refl
  where
    by_some : (b : Bool) → nat_lt from to ≡ b → IsCover from to (ranges_of (run k from to))
    by_some true e = rw e (refl, ltb-true from to e, refl)
    by_some false e = rw e (omega (arith, h, ltb-false from to e))

-- An escape has bytes.
unit-narrower : (t v r : Text) → meaning (unit_at t) ≡ Some (v, r) → byte_length r < byte_length t
unit-narrower t v r e =
    let m = meaning-some (unit_at t) v r e in
    let split = (unit_at-front t m.unit r m.is_it).split in
    let some : 0 < length (spelling m.unit) = omega (
      arith,
      ap length split,
      length-append (spelling m.unit) r,
      meaning-shorter t v r e,
    ) in
    omega (
      arith,
      ap byte_length split,
      width-append (spelling m.unit) r,
      some-width (spelling m.unit) some,
    )

pub escape-narrower : (t v r : Text) → escape_at t ≡ Some (v, r) → byte_length r < byte_length t
escape-narrower [] v r e = absurd (cc e)
escape-narrower (c ∷ t) v r e = by_sign (c == 92) refl
  where
    by_sign : (b : Bool) → (c == 92) ≡ b → byte_length r < byte_length (c ∷ t)
    by_sign true q = unit-narrower (c ∷ t) v r (rw q at e)
    by_sign false q = let none = rw q at e in absurd (cc none)

step-cover : (n : ℕ) (k : Kind) (from e c : ℕ) (t : Text)
    → ((at : ℕ) (r : Text) → at + byte_length r ≤ e
    → IsCover at e (ranges_of (parts_within n k at e r)))
    → from + byte_length (c ∷ t) ≤ e
    → IsCover from e (ranges_of (parts_within (suc n) k from e (c ∷ t)))
step-cover n k from e c t others h = by_escape (escape_at (c ∷ t)) refl
  where
    by_part : (v r : Text) (b : Bool) → escape_at (c ∷ t) ≡ Some (v, r) → is_apart k v ≡ b
        → IsCover from e (ranges_of (parts_within (suc n) k from e (c ∷ t)))
    by_part v r true q a =
        let less = escape-narrower (c ∷ t) v r q in
        let at = e - byte_length (c ∷ t) in
        let to = e - byte_length r in
        rw (q, a, parts_within) (cover-both from at e (run k from at) _
        (run-cover k from at (omega (arith, h)))
        (refl, omega (arith, h, less), others to r (omega (arith, h, less))))
    by_part v r false q a =
        rw (q, a, parts_within)
        (others from r (omega (arith, h, escape-narrower (c ∷ t) v r q)))

    by_escape : (o : Option (Text × Text)) → escape_at (c ∷ t) ≡ o
        → IsCover from e (ranges_of (parts_within (suc n) k from e (c ∷ t)))
    by_escape None q = rw (q, parts_within) (others from t (omega (arith, h, width-cons c t)))
    by_escape (Some (v, r)) q = by_part v r (is_apart k v) q refl

parts-cover : (n : ℕ) (k : Kind) (from e : ℕ) (t : Text) → from + byte_length t ≤ e
    → IsCover from e (ranges_of (parts_within n k from e t))
parts-cover zero k from e t h = run-cover k from e (omega (arith, h))
parts-cover (suc n) k from e [] h = run-cover k from e (omega (arith, h))
parts-cover (suc n) k from e (c ∷ t) h =
    step-cover n k from e c t (λ at r. parts-cover n k at e r) h

front-narrow : (n : ℕ) (t : Text) → byte_length (front_within n t) ≤ n
front-narrow n [] = omega arith
front-narrow n (c ∷ t) =
    by_room (nat_lt n (len_utf8 c)) refl (front-narrow (n - len_utf8 c) t)
  where
    by_room : (b : Bool) → nat_lt n (len_utf8 c) ≡ b
        → byte_length (front_within (n - len_utf8 c) t) ≤ n - len_utf8 c
        → byte_length (front_within n (c ∷ t)) ≤ n
    by_room true e k = rw e (omega arith)
    by_room false e k = rw e (omega (
      arith,
      k,
      ltb-false n (len_utf8 c) e,
      width-cons c (front_within (n - len_utf8 c) t),
    ))

pub token-cover : (x : Placed) (t : Text) → x.1.0 < x.1.1
    → IsCover x.1.0 x.1.1 (ranges_of (parts x (front_within (x.1.1 - x.1.0) t)))
unfolding parts
token-cover x t some =
    parts-cover (length (front_within (x.1.1 - x.1.0) t)) x.0 x.1.0 x.1.1 _
    (omega (arith, some, front-narrow (x.1.1 - x.1.0) t))

cut-cover : (t : Text) (ts : List Placed) (a b : ℕ) → IsCover a b (ranges_of ts)
    → IsCover a b (ranges_of (cut t ts))
cut-cover t [] a b h = h
cut-cover t (x ∷ xs) a b (e, some, others) =
    let n = x.1.1 - x.1.0 in
    cover-both a x.1.1 b (parts x (front_within n t)) (cut (rest_within n t) xs)
    (subst (λ m. IsCover m x.1.1 (ranges_of (parts x (front_within n t)))) e
    (token-cover x t (omega (arith, e, some))))
    (cut-cover (rest_within n t) xs x.1.1 b others)

-- The tokens of a source literal.
pub source-cut : (mode : Mode) (input : Text) (style : Option ℕ) (source : Text) (b : Bool)
    → IsSource input style source b → tokens mode input style (Some source) b
    ≡ cut_in style source (whole_tokens mode input style (Some source) b)
unfolding tokens
source-cut mode input style source b h =
    cond-true _ _ _ (found-source input style source b h)

in-style : (style : Option ℕ) (source : Text) (ts : List Placed) (a b : ℕ)
    → IsCover a b (ranges_of ts) → IsCover a b (ranges_of (cut_in style source ts))
in-style None source ts a b h = cut-cover source ts a b h
in-style (Some n) source ts a b h = h

pub tokens-cover : (mode : Mode) (input : Text) (style : Option ℕ) (source : Text) (b : Bool)
    → IsSource input style source b
    → IsCover 0 (byte_length source) (ranges_of (tokens mode input style (Some source) b))
tokens-cover mode input style source b h =
    rw (source-cut mode input style source b h)
    (in-style style source _ 0 (byte_length source) (whole-cover mode input style source b h))
