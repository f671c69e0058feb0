use Rattle.std.proofs.Common.{take}
use Rattle.drawn_lines.proofs.PrintableLemmas.{cut-printable, front-printable, parts-printable}
use Rattle.drawn_lines.proofs.PrintableLemmas.{pass-printable_bytes}
use Rattle.drawn_lines.proofs.printable.split_printable.Goals as goal

pub split_at-requires : goal.split_at-requires
split_at-requires c =
    let front = c.front_width-width.ensures in
    let bytes = c.as_bytes-bytes.result.now in
    let whole = front-printable bytes c.min.result c.front_width-width.result front.within
    (pass-printable_bytes (take c.front_width-width.result (take c.min.result bytes)) front.pass) in
    let of_text = rw c.as_bytes-bytes.ensures.value at whole in
    cut-printable c.args.text.now c.front_width-width.result c.utf8.text of_text.0 of_text.1

pub returns-clause-parts : goal.returns-clause-parts
returns-clause-parts c =
    let front = c.front_width-width.ensures in
    let bytes = c.as_bytes-bytes.result.now in
    let whole = front-printable bytes c.min.result c.front_width-width.result front.within
    (pass-printable_bytes (take c.front_width-width.result (take c.min.result bytes)) front.pass) in
    let of_text = rw c.as_bytes-bytes.ensures.value at whole in
    rw (c.split_at.ensures.front, c.split_at.ensures.back)
    (parts-printable c.args.text.now c.front_width-width.result of_text.1)
