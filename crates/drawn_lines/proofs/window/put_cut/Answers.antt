use Rattle.std.proofs.Common.{◌≡◌, ◌++◌, ◌∙◌, ap, chars, encode_utf8_all, string_bytes}
use Rattle.drawn_lines.specs.Windows.{dotted_part, in_window}
use Rattle.drawn_lines.proofs.WindowLemmas.{part-chars}
use Rattle.drawn_lines.proofs.window.put_cut.Goals as goal

pub returns : goal.returns
returns c =
    let text = encode_utf8_all (in_window c.args.window c.args.is_wide (chars c.args.row.now)) in
    let part : c.as_str.result.now ≡ text =
    c.as_str.ensures.value
    ∙ (c.in_ok-put_in_window.ensures ∙ ap (λ x. x ++ text) c.new-part.ensures.bytes) in
    c.in_ok-put_dotted_part.ensures
    ∙ ap (λ t. string_bytes c.args.out.now
    ++ dotted_part c.args.palette c.args.window c.args.is_wide t)
    (part-chars c.args.window c.args.is_wide c.args.row.now c.as_str.result.now c.utf8.row part)
