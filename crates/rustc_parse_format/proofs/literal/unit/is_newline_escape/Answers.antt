use Rattle.std.proofs.Common.{◌≤◌, length, rules}
use Rattle.std.proofs.lemmas.Bool.{eqb-true}
use Rattle.rustc_parse_format.proofs.Sources.Contents.{newline-escape}
use Rattle.rustc_parse_format.proofs.literal.unit.is_newline_escape.Goals as goal

pub returns-then-bytes-eq92 : goal.returns-then-bytes-eq92
returns-then-bytes-eq92 c e =
    let long : 2 ≤ length c.args.text.now = search rules in
    newline-escape c.args.text.now c.utf8.text long
    (rw c.as_bytes-bytes.ensures.value at c.if-bytes-eq92.true)
    (eqb-true _ 110 (rw c.as_bytes-bytes.ensures.value at e))
