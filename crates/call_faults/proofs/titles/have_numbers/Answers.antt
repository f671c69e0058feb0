use Rattle.std.proofs.Common.{◌∙◌, ap, sym}
use Rattle.rustc_parse_format.specs.declared.types.Piece.{Piece}
use Rattle.rustc_parse_format.specs.Views.{seen_piece}
use Rattle.call_faults.specs.Words.{has_number}
use Rattle.text_faults.proofs.Collecting.{list_any-here}
use Rattle.call_faults.proofs.titles.have_numbers.Goals as goal

pub returns-then-has_number : goal.returns-then-has_number
returns-then-has_number c = sym (list_any-here seen_piece has_number c.args.pieces.now
    c.loop-piece.piece-index c.piece-item.result c.loop-piece-test.true
    (ap (λ (p : Piece). has_number (seen_piece p)) (sym c.piece-item.is)
    ∙ sym c.has_number.ensures ∙ c.if-has_number.true))
