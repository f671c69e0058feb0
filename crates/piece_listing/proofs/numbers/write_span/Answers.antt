use Rattle.std.proofs.Common.{◌≡◌, [], decimal, drop, append-nil, arith}
use Rattle.std.proofs.lemmas.List.{drop_all}
use Rattle.piece_listing.proofs.Rows.{byte_before, dots_before, length_decimal, span-IsAscii}
use Rattle.piece_listing.proofs.numbers.write_span.Goals as goal

pub returns-clause-written : goal.returns-clause-written
returns-clause-written c =
    let ends = length_decimal c.args.end c.ranges.end.fits in
    let starts = length_decimal c.args.start c.ranges.start.fits in
    let d = c.write_digits-dots in
    let w = c.write_digits-first in
    let none : drop 43 c.args.row.now ≡ [] = drop_all 43 c.args.row.now (omega arith) in
    rw (
      byte_before w.new.buf w.result c.args.mark (omega arith) (omega arith),
      w.ensures.written,
      dots_before d.new.buf d.result (omega arith) (omega arith),
      d.ensures.written,
      none,
      append-nil (decimal c.args.end),
    )

pub returns-clause-ascii : goal.returns-clause-ascii
returns-clause-ascii c =
    let fits = c.ranges in
    rw (returns-clause-written c) (span-IsAscii _ _ _ c.requires fits.start.fits fits.end.fits)
