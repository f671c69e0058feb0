use Rattle.std.proofs.Common.{sym, arith}
use Rattle.piece_listing.proofs.ListNumbers.{number-found, number-refused}
use Rattle.piece_listing.proofs.arguments.number.Goals as goal

pub returns-in-Ok : goal.returns-in-Ok
returns-in-Ok c =
    rw c.from.ensures (number-found c.args.text.now c.in-Ok.number
    (omega (arith, c.if-text-gt-MOST_DIGITS.false))
    (sym (c.if-starts_with.ensures.byte (omega arith) (omega arith) (λ w o f. f)))
    c.in-Ok.ensures.value.0)

pub returns-in-Err : goal.returns-in-Err
returns-in-Err c =
    number-refused c.args.text.now
    (sym (c.if-starts_with.ensures.byte (omega arith) (omega arith) (λ w o f. f)))
    c.in-Err.ensures.value.0
