use Rattle.std.proofs.Common.{◌≡◌, ◌∷◌, [], Some, refl}
use Rattle.rustc_parse_format.specs.Characters.{Text}
use Rattle.rustc_parse_format.specs.LiteralUnits.{escape_at, meaning, unit_at}
use Rattle.rustc_parse_format.proofs.literal.unit.read_unit.Goals as goal

newline_unit : (t r : Text) → t ≡ 92 ∷ 110 ∷ r → meaning (unit_at t) ≡ Some (10 ∷ [], r)
unfolding unit_at escape_at
newline_unit t r e = rw e refl

pub returns-then-is_newline_escape : goal.returns-then-is_newline_escape
returns-then-is_newline_escape c =
    let text = c.text-2.ensures in
    let front = c.is_newline_escape.ensures c.if-is_newline_escape.true in
    let at = rw text at front in
    rw (c.next-then-is_newline_escape.ensures.rest, c.next.ensures.rest)
    (newline_unit c.args.rest.now _ at)
