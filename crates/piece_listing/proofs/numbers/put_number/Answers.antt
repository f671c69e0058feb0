use Rattle.std.proofs.Common.{arith}
use Rattle.std.proofs.lemmas.Fmt.{decimal_digit}
use Rattle.std.proofs.lemmas.Grind.{common_steps}
use Rattle.piece_listing.proofs.numbers.put_number.Goals as goal

-- The text of a number of one digit is its digit.
pub returns-in_ok-push : goal.returns-in_ok-push
returns-in_ok-push c =
    rw (decimal_digit c.args.number c.if-number-lt10.true) (grind (arith, common_steps))
