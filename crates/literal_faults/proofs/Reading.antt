-- Reading a text unit by unit stops at one place.
use Rattle.std.proofs.Common.{◌≡◌, ◌++◌, List, [], ◌∷◌, refl, sym, ap, subst, ◌∙◌, Some, None}
use Rattle.std.proofs.Common.{append_assoc}
use Rattle.std.proofs.lemmas.Option.{none-some, same_Some}
use Rattle.rustc_parse_format.specs.Characters.{Text}
use Rattle.rustc_parse_format.specs.LiteralUnits.{LiteralUnit, meaning, spelling, unit_at}
use Rattle.rustc_parse_format.proofs.Literals.Meanings.{meaning-none, meaning-some}
use Rattle.rustc_parse_format.proofs.Literals.UnitLaws.{unit_at-complete, unit_at-front}
use Rattle.literal_faults.specs.Stops.{BeginsUnit, ReadsTo, StopsAt}

begins : (t : Text) (u : LiteralUnit) (r : Text) → unit_at t ≡ Some (u, r) → BeginsUnit t u r
begins t u r e = let f = unit_at-front t u r e in
    record { is_formed = f.well_formed; takes_all = f.takes_all; joins = f.split }

found : (t : Text) (u : LiteralUnit) (r : Text) → BeginsUnit t u r → unit_at t ≡ Some (u, r)
found t u r b = ap unit_at b.joins ∙ unit_at-complete u r b.is_formed b.takes_all

pub no_unit : (t : Text) → unit_at t ≡ None → (u : LiteralUnit) (s : Text) → BeginsUnit t u s → ⊥
no_unit t e u s b = none-some (u, s) (sym e ∙ found t u s b)

-- A rest that is read from t is also read from the start.
abbrev pub Passed : Text → Text → Type 0
Passed whole t = (us : List LiteralUnit) (r : Text) → ReadsTo t us r
    → (vs : List LiteralUnit) × ReadsTo whole vs r

pub passed-unit : (whole t v r : Text) → Passed whole t → meaning (unit_at t) ≡ Some (v, r)
    → Passed whole r
passed-unit whole t v r p e us q h =
    let m = meaning-some (unit_at t) v r e in
    p (m.unit ∷ us) q (r, begins t m.unit r m.is_it, h)

pub passed-stops : (whole t : Text) → Passed whole t → meaning (unit_at t) ≡ None
    → StopsAt whole t
passed-stops whole t p e =
    let x = p [] t refl in
    record { units = x.0; reads = x.1; stops = no_unit t (meaning-none (unit_at t) e) }

-- Two readings that stop, stop at the same place.
same-rest : (t : Text) (us vs : List LiteralUnit) (r q : Text) → ReadsTo t us r → ReadsTo t vs q
    → ((u : LiteralUnit) (s : Text) → BeginsUnit r u s → ⊥)
    → ((u : LiteralUnit) (s : Text) → BeginsUnit q u s → ⊥) → r ≡ q
same-rest t [] [] r q e f a b = sym e ∙ f
same-rest t [] (v ∷ vs) r q e (s, f, g) a b =
    absurd (a v s (subst (λ x. BeginsUnit x v s) e f))
same-rest t (u ∷ us) [] r q (s, f, g) e a b =
    absurd (b u s (subst (λ x. BeginsUnit x u s) e f))
same-rest t (u ∷ us) (v ∷ vs) r q (s, f, g) (p, h, k) a b =
    let e : s ≡ p = ap (λ x. x.1) (same_Some _ _ (sym (found t u s f) ∙ found t v p h)) in
    same-rest p us vs r q (subst (λ x. ReadsTo x us r) e g) k a b

pub one-stop : (t r q : Text) → StopsAt t r → StopsAt t q → r ≡ q
one-stop t r q a b = same-rest t a.units b.units r q a.reads b.reads a.stops b.stops

-- The rest is an end of the text.
reads-end : (t : Text) (us : List LiteralUnit) (r : Text) → ReadsTo t us r
    → (p : Text) × (t ≡ p ++ r)
reads-end t [] r e = ([], e)
reads-end t (u ∷ us) r (s, b, h) =
    let x = reads-end s us r h in (
      spelling u ++ x.0,
      b.joins ∙ (ap (λ y. spelling u ++ y) x.1
          ∙ sym (append_assoc (spelling u) x.0 r)),
    )

pub stop-end : (t r : Text) → StopsAt t r → (p : Text) × (t ≡ p ++ r)
stop-end t r a = reads-end t a.units r a.reads
