use Rattle.std.proofs.Common.{◌≤◌, length, rules}
use Rattle.std.proofs.lemmas.Str.{IsCharBoundary-from_drop}
use Rattle.rustc_parse_format.proofs.Literals.Plain.{ascii-front}
use Rattle.rustc_parse_format.proofs.literal.rest.after_ascii.Goals as goal

pub range_from-requires : goal.range_from-requires
range_from-requires c _ =
    let long : 1 ≤ length c.args.text.now = search rules in
    let at = ascii-front c.args.text.now c.args.byte c.utf8.text long
    (rw c.as_bytes-bytes.ensures.value at c.if-bytes-byte.false) c.requires in
    IsCharBoundary-from_drop c.args.text.now 1 long at.1

pub returns : goal.returns
returns c =
    let long : 1 ≤ length c.args.text.now = search rules in
    let at = ascii-front c.args.text.now c.args.byte c.utf8.text long
    (rw c.as_bytes-bytes.ensures.value at c.if-bytes-byte.false) c.requires in
    rw c.range_from.ensures.value at.0
