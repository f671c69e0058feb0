use Rattle.std.proofs.Common.{◌-◌, drop, arith, take_all, length-drop}
use Rattle.std.proofs.lemmas.Str.{IsUtf8-from_ascii}
use Rattle.piece_listing.proofs.numbers.put_span.Goals as goal

pub from_utf8_unchecked-requires : goal.from_utf8_unchecked-requires
from_utf8_unchecked-requires c =
    let w = c.write_span-first in
    IsUtf8-from_ascii _ (rw (take_all (43 - w.result) (drop w.result w.new.row)
    (omega (arith, length-drop w.result w.new.row))) w.ensures.ascii)
