use Rattle.std.proofs.Common.{◌+◌, ◌≤◌, length, sym, ◌∙◌, arith}
use Rattle.flat_reading.proofs.Cuts.{cut_text, has_bytes, no_text, is_none_of, is_some_of}
use Rattle.flat_reading.proofs.texts.extent_of.Goals as goal

pub returns-then-is_empty : goal.returns-then-is_empty
returns-then-is_empty c =
    no_text c.args.input.now c.args.text.now c.utf8.input
    (is_none_of (length c.args.text.now) (sym c.is_empty.ensures ∙ c.if-is_empty.true))

pub overflow_add-result : goal.overflow_add-result
overflow_add-result c =
    let some = is_some_of (length c.args.text.now) (sym c.is_empty.ensures ∙ c.if-is_empty.false) in
    let h = has_bytes c.args.input.now c.args.text.now c.args.start c.utf8.text some c.requires in
    let within : c.args.start + length c.args.text.now ≤ length c.args.input.now = h.0 in
    omega (arith, c.type_inv.input)

pub returns : goal.returns
returns c =
    let some = is_some_of (length c.args.text.now) (sym c.is_empty.ensures ∙ c.if-is_empty.false) in
    cut_text c.args.input.now c.args.text.now c.args.start c.utf8.input c.utf8.text some
    (has_bytes c.args.input.now c.args.text.now c.args.start c.utf8.text
    some c.requires)
