use Rattle.rustc_parse_format.specs.Views.{seen_error, seen_mode}
use Rattle.drawn_lines.specs.Places.{seen_picture}
use Rattle.drawn_faults.proofs.HarmlessDrawings.{drawing-coloured}
use Rattle.drawn_faults.proofs.drawing.put_drawing.Goals as goal

pub returns-in_err-put_error-clause-coloured : goal.returns-in_err-put_error-clause-coloured
returns-in_err-put_error-clause-coloured c =
    drawing-coloured (seen_mode c.args.mode) (seen_picture c.args.picture.now)
    (seen_error c.args.error.now)

pub returns-clause-coloured : goal.returns-clause-coloured
returns-clause-coloured c =
    drawing-coloured (seen_mode c.args.mode) (seen_picture c.args.picture.now)
    (seen_error c.args.error.now)
