-- A unit that has a meaning is at the start of the text, and less is left after it.
use Rattle.std.proofs.Common.{◌≡◌, ◌<◌, ◌≤◌, length, refl, sym, ap, arith, Option, Some, None}
use Rattle.std.proofs.lemmas.Option.{none-some, some_pair_parts}
use Rattle.rustc_parse_format.specs.Characters.{Text, byte_length}
use Rattle.rustc_parse_format.specs.LiteralUnits.{LiteralUnit, spelling, value, meaning, unit_at}
use Rattle.rustc_parse_format.proofs.Literals.Widths.{width-append}
use Rattle.rustc_parse_format.proofs.Literals.UnitLaws.{unit_at-front}
use Rattle.rustc_parse_format.proofs.Literals.Contents.{unit_at-shorter}

pub meaning-none : (o : Option (LiteralUnit × Text)) → meaning o ≡ None → o ≡ None
meaning-none None e = refl
meaning-none (Some x) e = absurd (none-some (value x.0, x.1) (sym e))

-- The unit that has this meaning.
pub record Means (o : Option (LiteralUnit × Text)) (v r : Text) : Type 0 where
  pub unit : LiteralUnit
  pub is_it : o ≡ Some (unit, r)
  pub has_value : value unit ≡ v

pub meaning-some : (o : Option (LiteralUnit × Text)) (v r : Text) → meaning o ≡ Some (v, r)
    → Means o v r
meaning-some None v r e = absurd (none-some (v, r) e)
meaning-some (Some (u, s)) v r e =
    let parts : (value u ≡ v) × (s ≡ r) = some_pair_parts (value u) v s r e in
    record { unit = u; is_it = ap (λ x. Some (u, x)) parts.1; has_value = parts.0 }

pub meaning-shorter : (t v r : Text) → meaning (unit_at t) ≡ Some (v, r) → length r < length t
meaning-shorter t v r e = let m = meaning-some (unit_at t) v r e in
    unit_at-shorter t m.unit r m.is_it

pub meaning-narrower : (t v r : Text) → meaning (unit_at t) ≡ Some (v, r)
    → byte_length r ≤ byte_length t
meaning-narrower t v r e =
    let m = meaning-some (unit_at t) v r e in
    omega (
      arith,
      width-append (spelling m.unit) r,
      ap byte_length (unit_at-front t m.unit r m.is_it).split,
    )
