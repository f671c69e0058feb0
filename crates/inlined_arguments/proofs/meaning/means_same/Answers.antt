use Rattle.std.proofs.Common.{◌∙◌, Some, ap, refl, rules, sym}
use Rattle.std.proofs.lemmas.Option.{slice_get-get_or, slice_get_read}
use Rattle.rustc_parse_format.specs.Views.{seen_piece}
use Rattle.inlined_arguments.specs.Meaning.{part}
use Rattle.inlined_arguments.specs.Views.{seen_slots}
use Rattle.inlined_arguments.proofs.Comparing.{same-at}
use Rattle.inlined_arguments.proofs.Keeping.{never}
use Rattle.inlined_arguments.proofs.meaning.means_same.Goals as goal

pub returns-then-not-are_same_parts : goal.returns-then-not-are_same_parts
returns-then-not-are_same_parts c = λ left right. never (λ same.
    let d = c.in-Some.ensures.lookup in
    let i = c.loop-index.index in
    let here = slice_get-get_or c.args.left.pieces.now i c.piece-item.result c.loop-index-test.true
    ∙ ap Some (sym c.piece-item.is) in
    let there = slice_get_read c.args.right.pieces.now _ i c.in-Some.other.now refl d.3.0 d.1 in
    let t = (c.are_same_parts.ensures left right).1 (same-at seen_piece
    (part (seen_slots c.args.left.values.now)) (part (seen_slots c.args.right.values.now))
    c.args.left.pieces.now c.args.right.pieces.now i c.piece-item.result c.in-Some.other.now same
    here there) in
    search rules)
