use Rattle.std.proofs.Common.{◌<◌, arith, rules}
use Rattle.rustc_parse_format.proofs.Literals.Unicode.{digits_fit}
use Rattle.rustc_parse_format.proofs.literal.unit.read_unicode.Goals as goal

pub overflow_mul-code : goal.overflow_mul-code
overflow_mul-code c = omega (
  arith,
  digits_fit c.loop-c.digits c.loop-c.code 0 c.if-digits-lt6.true c.loop-c.invariant.small
      (omega arith),
)

pub overflow_add-code : goal.overflow_add-code
overflow_add-code c =
    let below : c.in_ok-code-in_default-c.field-0 < 16 = search rules in
    omega (
      arith,
      digits_fit c.loop-c.digits c.loop-c.code c.in_ok-code-in_default-c.field-0
          c.if-digits-lt6.true c.loop-c.invariant.small below,
    )
