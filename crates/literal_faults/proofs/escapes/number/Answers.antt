use Rattle.std.proofs.Common.{rules, arith, ◌<◌}
use Rattle.std.proofs.lemmas.Bool.{ne_eqb}
use Rattle.rustc_parse_format.proofs.Literals.Unicode.{digits_fit}
use Rattle.literal_faults.proofs.Digits.{is-digit, no-digit, read-digit, read-end}
use Rattle.literal_faults.proofs.Digits.{read-over, read-start, read-stop, read-underscore}
use Rattle.literal_faults.proofs.Digits.{split-none, split-some}
use Rattle.literal_faults.proofs.escapes.number.Goals as goal

pub returns-then-count-eq-MOST_DIGITS : goal.returns-then-count-eq-MOST_DIGITS
returns-then-count-eq-MOST_DIGITS c =
    read-over _ _ _ c.in-Some.c c.in-Some-hex_digit.digit _ _ c.loop-c.invariant.read
    (split-some _ _ _ c.in-Some.ensures.value) (is-digit _ _ c.in-Some-hex_digit.ensures)
    c.if-count-eq-MOST_DIGITS.true

pub overflow_mul-value : goal.overflow_mul-value
overflow_mul-value c =
    let few : c.loop-c.count < 6 =
    omega (arith, c.loop-c.invariant.read.few, c.if-count-eq-MOST_DIGITS.false) in
    omega (
      arith,
      digits_fit c.loop-c.count c.loop-c.value 0 few c.loop-c.invariant.read.small (omega arith),
    )

pub overflow_add-value : goal.overflow_add-value
overflow_add-value c =
    let few : c.loop-c.count < 6 =
    omega (arith, c.loop-c.invariant.read.few, c.if-count-eq-MOST_DIGITS.false) in
    let digit = is-digit c.in-Some.c c.in-Some-hex_digit.digit c.in-Some-hex_digit.ensures in
    omega (
      arith,
      digits_fit c.loop-c.count c.loop-c.value c.in-Some-hex_digit.digit few
          c.loop-c.invariant.read.small digit.is_below,
    )

pub returns-then-c-ne95 : goal.returns-then-c-ne95
returns-then-c-ne95 c =
    read-stop _ _ _ c.in-Some.c _ _ c.loop-c.invariant.read
    (split-some _ _ _ c.in-Some.ensures.value) (no-digit c.in-Some.c c.in_default-hex_digit.ensures)
    (ne_eqb c.in-Some.c 95 c.if-c-ne95.true)

pub loop-c-init : goal.loop-c-init
loop-c-init c = record { read = read-start _; utf8 = search rules }

pub loop-c-preserved-else-count-eq-MOST_DIGITS : goal.loop-c-preserved-else-count-eq-MOST_DIGITS
loop-c-preserved-else-count-eq-MOST_DIGITS c =
    let few : c.loop-c.count < 6 =
    omega (arith, c.loop-c.invariant.read.few, c.if-count-eq-MOST_DIGITS.false) in
    record {
      read = read-digit _ _ _ c.in-Some.c c.in-Some-hex_digit.digit _ _ c.loop-c.invariant.read
          (split-some _ _ _ c.in-Some.ensures.value) (is-digit _ _ c.in-Some-hex_digit.ensures)
          few;
      utf8 = search rules;
    }

pub loop-c-preserved : goal.loop-c-preserved
loop-c-preserved c = record {
  read = read-underscore _ _ _ c.in-Some.c _ _ c.loop-c.invariant.read
      (split-some _ _ _ c.in-Some.ensures.value) (search rules);
  utf8 = search rules;
}

pub returns : goal.returns
returns c = read-end _ _ _ _ c.loop-c.invariant.read (split-none _ c.in_default.ensures.value)
