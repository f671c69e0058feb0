use Rattle.rustc_parse_format.proofs.Literals.Plain.{byte-escape, hex-digit, octal-digit}
use Rattle.rustc_parse_format.proofs.Literals.Plain.{two-digits, unit-byte}
use Rattle.std.proofs.Common.{arith, get_or}
use Rattle.std.proofs.lemmas.Str.{IsCharBoundary-from_drop}
use Rattle.rustc_parse_format.proofs.literal.unit.byte_escape.Goals as goal

pub range_from-requires : goal.range_from-requires
range_from-requires c _ =
    let bytes = c.as_bytes-bytes.ensures.value in
    let long = rw bytes at c.if-bytes-lt4.false in
    let high = octal-digit (get_or c.args.text.now 2 0) c.in_ok-high.high
    (rw bytes at c.in_ok-high.ensures) in
    let low = hex-digit (get_or c.args.text.now 3 0) c.in_ok-low.low
    (rw bytes at c.in_ok-low.ensures) in
    let at = byte-escape c.args.text.now c.utf8.text long (rw bytes at c.if-bytes-ne92.false)
    (rw bytes at c.if-bytes-ne120.false) high.0 low.0 in
    IsCharBoundary-from_drop c.args.text.now 4 long at.1

pub returns-clause-meaning : goal.returns-clause-meaning
returns-clause-meaning c =
    let bytes = c.as_bytes-bytes.ensures.value in
    let h = get_or c.args.text.now 2 0 in
    let l = get_or c.args.text.now 3 0 in
    let e = rw bytes at c.in_ok-high.ensures in
    let f = rw bytes at c.in_ok-low.ensures in
    let at = byte-escape c.args.text.now c.utf8.text (rw bytes at c.if-bytes-lt4.false)
    (rw bytes at c.if-bytes-ne92.false)
    (rw bytes at c.if-bytes-ne120.false) (octal-digit h c.in_ok-high.high e).0
    (hex-digit l c.in_ok-low.low f).0 in
    rw c.range_from.ensures.value
    (unit-byte _ h l _ _ at.0 (two-digits h l c.in_ok-high.high c.in_ok-low.low _ e f))

pub returns-clause-ascii : goal.returns-clause-ascii
returns-clause-ascii c =
    let bytes = c.as_bytes-bytes.ensures.value in
    let high = octal-digit (get_or c.args.text.now 2 0) c.in_ok-high.high
    (rw bytes at c.in_ok-high.ensures) in
    let low = hex-digit (get_or c.args.text.now 3 0) c.in_ok-low.low
    (rw bytes at c.in_ok-low.ensures) in
    omega (arith, high.1, low.1)
