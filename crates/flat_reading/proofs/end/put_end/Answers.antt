use Rattle.std.proofs.Common.{refl, ◌∙◌}
use Rattle.flat_reading.specs.Meaning.{spec_at}
use Rattle.flat_reading.proofs.Walking.{no_piece, report_end}
use Rattle.flat_reading.proofs.end.put_end.Goals as goal

pub returns-clause-described : goal.returns-clause-described
returns-clause-described c = λ input specs.
    let step = c.put_no_piece.new.step in
    let kept = c.put_no_piece.ensures.others in
    report_end input specs step c.args.parser.now c.end.new.parser
    c.in_ok-end.ensures c.requires
    (no_piece input (spec_at input specs step.spec) step c.put_no_piece.ensures.kind)
    (rw kept.0 refl)
    (kept.2 ∙ c.put_state.ensures.offset)
    (kept.3 ∙ c.put_state.ensures.next_index)
    (kept.4 ∙ c.put_state.ensures.lines)
