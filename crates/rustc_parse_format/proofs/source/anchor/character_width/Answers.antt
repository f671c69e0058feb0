use Rattle.std.proofs.Common.{◌≡◌, ◌∷◌, Some, [], sym}
use Rattle.rustc_parse_format.specs.LiteralUnits.{meaning, unit_at}
use Rattle.rustc_parse_format.proofs.Literals.Meanings.{meaning-narrower}
use Rattle.rustc_parse_format.proofs.Sources.Contents.{newline-width, width-read}
use Rattle.rustc_parse_format.proofs.source.anchor.character_width.Goals as goal

-- The unit that was read.
read : (c : goal.After-len) → meaning (unit_at c.new-rest.result)
    ≡ Some (c.in-Some-Some.field-0-0 ∷ [], c.read_unit.new.rest)
read c = rw c.in-Some-Some.field-0-is at c.in-Some-Some.ensures

pub overflow_sub-result : goal.overflow_sub-result
overflow_sub-result c = rw (c.len-total.ensures, c.len.ensures) (meaning-narrower _ _ _ (read c))

pub returns-in-Some-Some : goal.returns-in-Some-Some
returns-in-Some-Some c = rw (c.len-total.ensures, c.len.ensures, ← c.new-rest.ensures)
    (sym (width-read _ _ _ (read c)))

pub returns-then-is_newline_escape : goal.returns-then-is_newline_escape
returns-then-is_newline_escape c =
    newline-width _ _ (c.is_newline_escape.ensures c.if-is_newline_escape.true)
