use Rattle.std.proofs.Common.{◌++◌, ◌∙◌, ap, append_assoc, codes, map, string_bytes}
use Rattle.drawn_lines.specs.Lines.{blank_gutter}
use Rattle.drawn_edits.specs.EditedLines.{seen_part}
use Rattle.drawn_edits.specs.Helps.{plus_signs}
use Rattle.drawn_edits.proofs.PlusLaws.{signs-add}
use Rattle.drawn_edits.proofs.changes.put_plus_row.Goals as goal

pub returns-clause-signs : goal.returns-clause-signs
returns-clause-signs c =
    let g = c.args.gutter in
    let o = string_bytes c.args.out.now in
    let l = map seen_part c.args.parts.now in
    let s = plus_signs g.palette 0 l in
    let z = codes "\n" in
    signs-add g l o (string_bytes c.push_str.new.self)
    (c.in_ok-push_str.ensures.bytes
    ∙ ap (λ t. t ++ z) (c.in_ok-put_plus_signs.ensures
    ∙ ap (λ t. t ++ s) c.in_ok-put_gutter.ensures)
    ∙ append_assoc (o ++ (blank_gutter g ++ codes " ")) s z
    ∙ append_assoc o (blank_gutter g ++ codes " ") (s ++ z)
    ∙ ap (λ t. o ++ t) (append_assoc (blank_gutter g) (codes " ") (s ++ z)))
