use Rattle.std.proofs.Common.{◌≡◌, ◌∙◌, ap, map, sym, take}
use Rattle.std.proofs.lemmas.List.{map-append, take-map}
use Rattle.drawn_edits.specs.EditedLines.{all_lines, count_to_text, new_lines, new_page, seen_line}
use Rattle.drawn_edits.specs.EditedLines.{seen_part}
use Rattle.drawn_edits.proofs.edited.new_lines.Goals as goal

pub returns : goal.returns
unfolding new_lines
returns c =
    let page = new_page (map seen_part c.args.parts.now) in
    let lines : map seen_line c.push.new.self.items ≡ all_lines page =
    ap (map seen_line) c.in_ok-push.ensures.items
    ∙ map-append seen_line c.push_new_part.new.lines.items _
    ∙ ap all_lines c.in_ok-push_new_part.ensures in
    ap (map seen_line) c.truncate.ensures.items
    ∙ sym (take-map seen_line c.count_to_text-count.result c.push.new.self.items)
    ∙ ap (λ n. take n (map seen_line c.push.new.self.items)) (c.count_to_text-count.ensures
    ∙ ap (λ ls. count_to_text 0 0 (map seen_line ls)) c.deref.ensures.value)
    ∙ ap (λ ls. take (count_to_text 0 0 ls) ls) lines
