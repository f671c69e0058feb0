use Rattle.std.proofs.Common.{◌+◌, ◌++◌, ◌∷◌, ◌∙◌, ap, append_assoc, drop, map, sym}
use Rattle.std.proofs.lemmas.List.{drop_more}
use Rattle.rustc_parse_format.specs.Views.{seen_piece}
use Rattle.inlined_arguments.specs.Edits.{new_edits, piece_edits}
use Rattle.inlined_arguments.specs.Views.{seen_edit, seen_slots}
use Rattle.inlined_arguments.proofs.edits.edits_of.Goals as goal

pub loop-piece-preserved : goal.loop-piece-preserved
loop-piece-preserved c = λ knows.
    let pieces = c.args.call.pieces.now in
    let i = c.loop-piece.piece-index in
    let piece = c.piece-item.result in
    let slots = seen_slots c.args.call.values.now in
    let old = map seen_edit c.loop-piece.edits.items in
    let rest = new_edits slots (map seen_piece (drop (i + 1) pieces)) in
    ap (λ v. v ++ rest) (c.in_ok-push_piece.ensures knows)
    ∙ append_assoc old (piece_edits slots (seen_piece piece)) rest
    ∙ ap (λ v. old ++ new_edits slots (map seen_piece v)) (sym (drop_more pieces i piece
    c.loop-piece-test.true ∙ ap (λ v. v ∷ drop (i + 1) pieces) (sym c.piece-item.is)))
    ∙ c.loop-piece.invariant knows
