-- A text is a content in at most one way, and the computation finds its units.
use Rattle.std.proofs.Common.{◌≡◌, ℕ, suc, zero, ◌++◌, ◌<◌, ◌≤◌, List, [], ◌∷◌, length, refl, sym}
use Rattle.std.proofs.Common.{ap, subst, ◌∙◌, arith, Option, Some, None, length-append}
use Rattle.std.proofs.lemmas.Option.{same_Some, none-some}
use Rattle.rustc_parse_format.specs.Characters.{Text}
use Rattle.rustc_parse_format.specs.LiteralUnits.{LiteralUnit, Plain, SimpleEscape, ByteEscape}
use Rattle.rustc_parse_format.specs.LiteralUnits.{UnicodeEscape, Continuation, spelling, unit_at}
use Rattle.rustc_parse_format.specs.Literal.{IsContent, IsOnlyContent, more_units, first_and_rest}
use Rattle.rustc_parse_format.specs.Literal.{units_within, units}
use Rattle.rustc_parse_format.proofs.Literals.UnitLaws.{IsAtFront, unit_at-nil, unit_at-front}
use Rattle.rustc_parse_format.proofs.Literals.UnitLaws.{unit_at-complete}

pub some_length : (u : LiteralUnit) → 0 < length (spelling u)
some_length (Plain c) = omega arith
some_length (SimpleEscape l) = omega arith
some_length (ByteEscape h l) = omega arith
some_length (UnicodeEscape w) = omega arith
some_length (Continuation w) = omega arith

-- a unit takes at least a character
pub unit_at-shorter : (t : Text) (u : LiteralUnit) (r : Text) → unit_at t ≡ Some (u, r)
    → length r < length t
unit_at-shorter t u r e =
    let s : t ≡ spelling u ++ r = (unit_at-front t u r e).split in
    omega (arith, ap length s, length-append (spelling u) r, some_length u)

-- any number from the length on serves
units_within-enough : (m n : ℕ) (t : Text) → length t ≤ m → length t ≤ n
    → units_within m t ≡ units_within n t
units_within-enough m n [] a b = refl
units_within-enough zero n (c ∷ t) a b = absurd (omega arith)
units_within-enough (suc m) zero (c ∷ t) a b = absurd (omega arith)
units_within-enough (suc m) (suc n) (c ∷ t) a b =
    by_unit (unit_at (c ∷ t)) refl (λ r h k. units_within-enough m n r h k)
  where
    by_unit : (o : Option (LiteralUnit × Text)) → unit_at (c ∷ t) ≡ o →
        ((r : Text) → length r ≤ m → length r ≤ n → units_within m r ≡ units_within n r) →
        first_and_rest (λ r. units_within m r) o ≡ first_and_rest (λ r. units_within n r) o
    by_unit None e ih = refl
    by_unit (Some (u, r)) e ih =
        let shorter : length r < suc (length t) = unit_at-shorter (c ∷ t) u r e in
        ap (more_units u) (ih r (omega arith) (omega arith))

-- The units of a text by the one at its front.
pub units-nil : units [] ≡ Some []
unfolding units
units-nil = refl

pub units-some : (t : Text) (u : LiteralUnit) (r : Text) → unit_at t ≡ Some (u, r)
    → units t ≡ more_units u (units r)
unfolding units
units-some [] u r e = absurd (none-some (u, r) (sym unit_at-nil ∙ e))
units-some (c ∷ t) u r e =
    let shorter : length r < suc (length t) = unit_at-shorter (c ∷ t) u r e in
    ap (first_and_rest (λ s. units_within (length t) s)) e
    ∙ ap (more_units u) (units_within-enough (length t) (length r) r (omega arith) (omega arith))

pub units-none : (c : ℕ) (t : Text) → unit_at (c ∷ t) ≡ None → units (c ∷ t) ≡ None
unfolding units
units-none c t e = ap (first_and_rest (λ s. units_within (length t) s)) e

-- the units that computing gives are those of the text
units_within-content : (n : ℕ) (t : Text) (us : List LiteralUnit) → units_within n t ≡ Some us
    → IsContent t us
units_within-content n [] us e = subst (IsContent []) (same_Some [] us e) refl
units_within-content zero (c ∷ t) us e = absurd (none-some us e)
units_within-content (suc n) (c ∷ t) us e =
    by_unit (unit_at (c ∷ t)) refl e (λ r vs h. units_within-content n r vs h)
  where
    by_rest : (u : LiteralUnit) (r : Text) (o : Option (List LiteralUnit))
        → unit_at (c ∷ t) ≡ Some (u, r) → more_units u o ≡ Some us →
        ((vs : List LiteralUnit) → o ≡ Some vs → IsContent r vs) → IsContent (c ∷ t) us
    by_rest u r None f e ih = absurd (none-some us e)
    by_rest u r (Some vs) f e ih =
        let at_front : IsAtFront (c ∷ t) u r = unit_at-front (c ∷ t) u r f in
        subst (IsContent (c ∷ t)) (same_Some (u ∷ vs) us e)
        (r, at_front.well_formed, at_front.takes_all, at_front.split, ih vs refl)

    by_unit : (o : Option (LiteralUnit × Text)) → unit_at (c ∷ t) ≡ o
        → first_and_rest (λ r. units_within n r) o ≡ Some us →
        ((r : Text) (vs : List LiteralUnit) → units_within n r ≡ Some vs → IsContent r vs)
        → IsContent (c ∷ t) us
    by_unit None f e ih = absurd (none-some us e)
    by_unit (Some (u, r)) f e ih = by_rest u r (units_within n r) f e (λ vs h. ih r vs h)

pub units-content : (t : Text) (us : List LiteralUnit) → units t ≡ Some us → IsContent t us
unfolding units
units-content t us e = units_within-content (length t) t us e

-- and every such row is what computing gives
pub units-complete : (t : Text) (us : List LiteralUnit) → IsContent t us → units t ≡ Some us
units-complete t [] e = ap units e ∙ units-nil
units-complete t (u ∷ us) (r, w, m, e, rest) =
    units-some t u r (ap unit_at e ∙ unit_at-complete u r w m)
    ∙ ap (more_units u) (units-complete r us rest)

pub units-only : (t : Text) (us : List LiteralUnit) → units t ≡ Some us → IsOnlyContent t us
units-only t us e = record {
  is_content = units-content t us e;
  is_only = λ vs h. same_Some vs us (sym (units-complete t vs h) ∙ e);
}

pub units-no_content : (t : Text) (us : List LiteralUnit) → units t ≡ None → IsContent t us → ⊥
units-no_content t us e h = none-some us (sym e ∙ units-complete t us h)
