use Rattle.std.proofs.Common.{arith, chars}
use Rattle.std.proofs.lemmas.Grind.{common_steps}
use Rattle.piece_listing.proofs.Texts.{type_entry-absent, type_entry-given, type_entry-chars}
use Rattle.piece_listing.proofs.listing.put_type.Goals.{else-is_none-via-then-is_none+else-is_empty}
use Rattle.piece_listing.proofs.listing.put_type.Goals.{else-is_none-via-else-is_none}
use Rattle.piece_listing.proofs.listing.put_type.Goals as goal

pub returns-then-is_empty : goal.returns-then-is_empty
returns-then-is_empty c = type_entry-absent _ _ _ c.if-is_none.ensures c.if-is_empty.ensures

pub returns : goal.returns
returns c = elim c.else-is_none.branch [
  | else-is_none-via-then-is_none+else-is_empty w ↦
      rw (type_entry-chars c.args.span.now c.args.ty.now c.utf8.ty w.if-is_none.ensures
      w.if-is_empty.ensures) (grind (arith, common_steps))
  | else-is_none-via-else-is_none w ↦
      rw (type_entry-given c.args.span.now (chars c.args.ty.now) w.if-is_none.ensures)
      (grind (arith, common_steps))
]
